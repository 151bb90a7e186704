pub mod Pools
pub mod Called
pub mod LentPools
pub mod Arguments
pub mod Reading
pub mod Working
pub mod Values
