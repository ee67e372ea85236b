pub mod Lending
pub mod Plain
pub use Rattle.redo_words.specs.Lending.{Lends}
pub use Rattle.redo_words.specs.Plain.{HoldsSum, shape_layout}
