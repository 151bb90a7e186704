pub mod Groups
pub mod Insides
