pub mod Overwrite
pub mod Each
pub mod Tested
pub mod Taken
pub mod Finishing
pub mod Calling
pub mod Writing
