pub mod Applied
pub mod Frames
pub mod Grouped
pub mod Numbers
pub mod Records
pub mod Where
