pub mod Coefficients
pub mod Stored
pub mod Work
pub mod Expansion
pub mod Expand
