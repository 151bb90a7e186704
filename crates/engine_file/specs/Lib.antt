pub mod Write
pub mod Outcome
