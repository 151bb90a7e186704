pub mod Nodes
pub mod Operations
pub mod Expanding
pub mod Theorems
