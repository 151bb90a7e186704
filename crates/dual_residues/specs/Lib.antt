pub mod DualResidues
