pub mod Congruence
pub mod Squaring
pub mod Search
pub mod Theorems
pub mod Euclid
pub mod Remainder
pub mod Examples
