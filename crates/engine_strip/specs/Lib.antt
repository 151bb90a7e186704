pub mod Strips
pub mod Outcome
