pub mod Ends
pub mod Lines
pub mod Memory
pub mod Plan
pub mod Reads
pub mod Steps
pub mod Wrapped
pub mod Writes
pub use Rattle.redo_io.specs.Plan.{Planned, fails_now, plan_after_call, unused}
pub use Rattle.redo_io.specs.Ends.{next_count_if, saturating_next, SinkSeen, TakesPart, with_taken, SourceSeen, TakesAtMost}
