pub mod Reached
pub mod Tables
