pub mod LowBytes
pub mod Output
