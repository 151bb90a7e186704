pub mod Refusal
pub mod Situations
