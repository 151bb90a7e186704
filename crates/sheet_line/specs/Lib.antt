pub mod Cut
pub mod Split
