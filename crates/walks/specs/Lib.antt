pub mod Walk
pub mod Substitute
pub mod Derive
pub mod Evaluate
pub mod EvaluateResidue
pub mod Print
