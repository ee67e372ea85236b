pub mod Reading
pub mod Skipping
pub use Rattle.redo_record.specs.Skipping.{GivesSpan}
