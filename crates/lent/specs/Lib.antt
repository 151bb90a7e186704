pub mod Answer
pub mod Lent
pub mod Call
pub mod Writing
