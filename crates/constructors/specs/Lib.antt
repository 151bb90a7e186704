pub mod Terms
pub mod Patterns
pub mod Tables
pub mod Arms
pub mod Build
