pub mod Modulo
pub mod Theorems
