pub mod Growing
pub mod Accepting
pub mod Demand3
