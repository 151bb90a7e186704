pub mod Results
pub mod Parts
pub mod Walks
