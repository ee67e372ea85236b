pub mod CheckpointerView
pub mod CleanerView
