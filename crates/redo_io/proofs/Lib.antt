pub mod FirstLine
pub mod Progress
