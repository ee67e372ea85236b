pub mod ByTurns
pub mod Following
pub mod OpenUsers
pub mod Reading
pub mod Turns
pub use Rattle.redo_machine.specs.ByTurns.{RunsByTurns}
