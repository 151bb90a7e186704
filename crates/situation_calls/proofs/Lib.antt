pub mod Laws
pub mod Nodes
pub mod Expansions
pub mod Calls
