pub mod Entries
pub mod Output
