pub mod Strips
pub mod Tables
pub mod Writing
