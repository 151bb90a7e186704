pub mod Refusals
pub mod Demand
pub mod Numbers
pub mod Shown
