pub mod Filters
pub mod Groups
pub mod Growing
