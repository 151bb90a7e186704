pub mod Digits
pub mod Forms
pub mod Theorems
pub mod Examples
