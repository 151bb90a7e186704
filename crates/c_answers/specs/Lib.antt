pub mod Interface
pub mod Values
pub mod Expansions
