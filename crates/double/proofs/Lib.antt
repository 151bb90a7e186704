pub mod Nans
pub mod Powers
pub mod Exact
pub mod Examples
