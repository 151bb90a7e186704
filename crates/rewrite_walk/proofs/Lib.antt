pub mod Steps
pub mod Bounds
pub mod Results
pub mod Turns
