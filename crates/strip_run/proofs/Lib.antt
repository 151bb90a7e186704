pub mod Joined
pub mod Codes
pub mod Cut
pub mod Accepting
pub mod KeyTests
pub mod Held
pub mod KeyRuns
