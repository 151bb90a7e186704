pub mod Work
pub mod Chains
pub mod Filling
pub mod Rearranging
pub mod Theorems
pub mod Examples
