pub mod Substitution
pub mod Slopes
pub mod Derivation
