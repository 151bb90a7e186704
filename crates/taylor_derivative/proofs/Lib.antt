pub mod Factorials
pub mod Beyond
