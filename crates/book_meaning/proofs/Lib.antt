pub mod Soundness
pub mod Working
pub mod Recurrences
pub mod Theorems
