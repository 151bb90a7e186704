pub mod Keys
pub mod Testing
pub mod Held
pub mod Running
