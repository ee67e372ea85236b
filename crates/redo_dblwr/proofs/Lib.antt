pub mod Ranges
pub mod SideBySide
pub mod Slots
