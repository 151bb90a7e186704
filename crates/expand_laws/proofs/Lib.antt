pub mod Bounds
pub mod Holding
