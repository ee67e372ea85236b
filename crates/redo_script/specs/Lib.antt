pub mod Cut
pub mod Fault
pub mod Judged
pub mod Progress
pub use Rattle.redo_script.specs.Judged.{IsUnfitLine, IsUnfitScript}
