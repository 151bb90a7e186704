pub mod Series
pub mod Call
