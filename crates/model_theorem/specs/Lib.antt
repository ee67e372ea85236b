pub mod Closed
pub mod Examples
pub mod Given
pub mod Kept
pub mod Older
pub mod Run
pub mod Start
pub use Rattle.model_theorem.specs.Closed.{Held, IsClosed, IsHeld, held_of}
pub use Rattle.model_theorem.specs.Given.{AreGiven}
pub use Rattle.model_theorem.specs.Kept.{DataHolds, HasPassed, IsKeptPrefix, copy_of, IsBatchPrefix, IsEither, IsStored}
pub use Rattle.model_theorem.specs.Older.{HeldOlder}
pub use Rattle.model_theorem.specs.Run.{AreFormatted, HasCheckpoint, HasCheckpointFrom, IsOpenedBefore, IsPrefixRead, IsRun, LosesOnlyByFailure, ReadsPrefix, misfit_on, room_of, Opened, Ran, entries_of}
pub use Rattle.model_theorem.specs.Start.{IsStart, opened_as}
