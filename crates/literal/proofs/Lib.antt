pub mod Sizes
pub mod Folds
pub mod Theorems
pub mod Examples
