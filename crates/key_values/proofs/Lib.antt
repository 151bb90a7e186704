pub mod Examples
pub mod Filling
pub mod HexDigits
pub mod Quotients
pub mod Theorems
