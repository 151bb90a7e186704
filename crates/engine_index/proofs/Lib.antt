pub mod Growing
pub mod Beyond
