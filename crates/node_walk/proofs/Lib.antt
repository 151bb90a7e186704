pub mod EachPart
pub mod Visiting
pub mod NewParts
