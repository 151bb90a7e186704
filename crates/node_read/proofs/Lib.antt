pub mod Testing
pub mod Entering
pub mod Places
pub mod OneByOne
