pub mod Folded
pub mod Glances
pub mod Reading
pub use Rattle.model_reads.specs.Folded.{IsPageAsOf, IsReadEndOf}
pub use Rattle.model_reads.specs.Glances.{added, begun, dated, freed, read_of}
pub use Rattle.model_reads.specs.Reading.{AreRead, GlanceFits, ReadEndFits, HasWords, IsRead, newest_in, top_in}
