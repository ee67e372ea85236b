pub mod LogFacts
pub mod LogFits
pub mod LogLaws
pub mod Ready
pub mod Start
pub mod TailWord
pub mod Watermarks
pub use Rattle.model_logcore.specs.LogFacts.{Commits, LogGhost, Place, Tiled, count_of, sum_over_actors}
pub use Rattle.model_logcore.specs.LogFits.{AdvanceAt, CheckpointerAt, CheckpointerFits, CleanerTold, FlusherAt, FlusherFits, HoldsWtail, ReaderAt, ReaderFits, UserAt, UserFits, WriterAt, WriterFits, Counted, left_to_reserve, lengths, Hand, HasLinked, LogHalf}
pub use Rattle.model_logcore.specs.LogLaws.{AfterCheckpoint, AfterRead, AfterSync, AfterWrite, CanCheckpoint, CanRead, CanWrite, HasBlock}
pub use Rattle.model_logcore.specs.Ready.{CanLend}
pub use Rattle.model_logcore.specs.Start.{StartActor, StartPart, StartUser, checkpointer_start, cleaner_start, closer_start, reader_start}
pub use Rattle.model_logcore.specs.TailWord.{IsHeldBy, TailWordIs}
pub use Rattle.model_logcore.specs.Watermarks.{HasMetFailure, LogWatermarks}
