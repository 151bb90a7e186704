pub mod General
pub mod Growing
pub mod Lists
pub mod Walking
