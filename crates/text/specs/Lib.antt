pub mod Text
pub mod Stored
