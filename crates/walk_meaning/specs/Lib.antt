pub mod Setting
pub mod Slope
