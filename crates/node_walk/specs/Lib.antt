pub mod NewParts
pub mod Visits
