pub mod Asking
pub mod Cutting
pub mod Examples
pub mod Numbers
pub mod Splitting
pub mod Theorems
