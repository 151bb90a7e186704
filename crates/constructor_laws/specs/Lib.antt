pub mod Grown
pub mod Keeps
