pub mod Growth
pub mod Walking
pub mod Keeping
pub mod Substitution
pub mod Derivation
