pub mod Lengths
pub mod HexTexts
