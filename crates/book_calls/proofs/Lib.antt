pub mod Follows
pub mod Answers
pub mod Operations
pub mod Walk
pub mod Expressions
pub mod Values
