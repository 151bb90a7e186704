pub mod Powering
pub mod Hornering
