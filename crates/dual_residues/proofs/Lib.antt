pub mod Duals
pub mod Inverses
pub mod Model
pub mod Book
