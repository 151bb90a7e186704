pub mod Sides
pub mod Numbering
pub mod Places
pub mod Call
pub mod Examples
