pub mod Steps
pub mod Entrywise
pub mod Filling
pub mod Variables
pub mod Folding
pub mod Sides
