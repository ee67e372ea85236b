mod Empty
pub mod Heard
pub mod Kept
pub mod LinePlaces
pub mod Lines
pub mod Pages
pub mod Parts
pub mod Places
pub mod RecordBytes
pub mod Skipped
pub mod Texts
pub mod UserSteps
pub mod WayToLink
pub mod WholeWords
pub mod WordCells
pub mod WordsSpanned
