pub mod Formula
pub mod Book
pub mod Order
pub mod Recurrence
