pub mod Fits
pub mod Frames
pub mod Runs
pub use Rattle.redo_papply.specs.Fits.{FitPages}
