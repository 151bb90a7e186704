pub mod ShortNumbers
pub mod Writing
pub mod Bounded
pub mod Theorems
pub mod Examples
