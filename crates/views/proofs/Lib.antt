pub mod Missed
pub mod Steps
