pub mod KindTable
mod RowTests
pub mod PartsTold
pub mod WordHalves
pub mod Folds
