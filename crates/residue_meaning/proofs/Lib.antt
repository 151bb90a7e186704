pub mod Signs
pub mod Model
pub mod Evaluation
pub mod Theorems
