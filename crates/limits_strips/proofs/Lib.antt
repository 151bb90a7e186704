pub mod Called
pub mod LongStrips
pub mod Making
pub mod Running
pub mod Numbers
