pub mod Runs
pub mod Values
