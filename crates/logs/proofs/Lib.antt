pub mod Rules
