pub mod Entries
pub mod Makes
pub mod Sides
