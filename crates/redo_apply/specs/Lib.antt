pub mod Fits
pub mod Frames
pub mod Replay
pub mod Writing
pub use Rattle.redo_apply.specs.Fits.{ArePagesOf}
pub use Rattle.redo_apply.specs.Writing.{WritesWithin}
pub use Rattle.redo_apply.specs.Replay.{AreAfterWhere, AreReplayed, HaveLsns}
