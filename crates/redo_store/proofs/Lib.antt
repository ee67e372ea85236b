pub mod Asked
pub mod Buffered
pub mod Copies
pub mod Entered
pub mod Repaired
pub mod TextWrites
