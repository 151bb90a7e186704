pub mod Need
pub mod Kept
pub mod Written
