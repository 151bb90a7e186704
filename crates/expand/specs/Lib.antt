pub mod Nodes
pub mod Results
