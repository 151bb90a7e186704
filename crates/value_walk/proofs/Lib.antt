pub mod Walking
pub mod Doubles
pub mod Residues
