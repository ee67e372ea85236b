pub mod Appends
pub mod Applied
pub mod Basing
pub mod Begins
pub mod Blocking
pub mod Heads
pub mod Restores
pub mod Sealing
