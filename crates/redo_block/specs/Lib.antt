pub mod Framing
pub use Rattle.redo_block.specs.Framing.{AreFirsts}
