pub mod Model
pub mod Value
pub mod Integers
pub mod Examples
pub mod Duals
