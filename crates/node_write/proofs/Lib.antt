pub mod Putting
pub mod Written
