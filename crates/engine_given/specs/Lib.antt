pub mod Variable
pub mod Read
