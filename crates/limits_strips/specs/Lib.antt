pub mod Calls
pub mod Strips
