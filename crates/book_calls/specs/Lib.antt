pub mod Follows
pub mod Calls
pub mod Walk
pub mod Formulas
