pub mod Strip
pub mod Machine
pub mod Trees
pub mod Reached
