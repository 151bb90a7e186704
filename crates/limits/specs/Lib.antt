pub mod Lent
pub mod Calls
pub mod Digits
pub mod Limits
