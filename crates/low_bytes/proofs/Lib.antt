pub mod Bytes
pub mod LowFirst
pub mod BytesPut
pub mod Writing
