pub mod Shape
pub mod Table
pub mod Order
pub mod File
pub mod Demand
pub mod Walked
