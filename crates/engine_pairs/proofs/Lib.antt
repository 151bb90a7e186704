pub mod Growing
pub mod Lengths
