pub mod Longest
pub mod LongTexts
pub mod Outputs
pub mod Printing
pub mod Files
pub mod Sheets
pub mod Numbers
