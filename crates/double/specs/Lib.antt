pub mod Double
pub mod Exact
