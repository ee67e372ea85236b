pub mod Calls
pub mod Ranges
pub mod ReadCalls
pub mod Sight
pub use Rattle.redo_disk.specs.Calls.{Answer, Call, EndWith, Reads, Request, Serve, Syncs, ToRead, ToSync, ToWrite, Writes, device_answer, error_of, put_requests, Makes, MakesCall, MakesCalls}
pub use Rattle.redo_disk.specs.ReadCalls.{AreReads, MayEndWith, ReadsEndWith, ReadsMayEndWith, call_changes, changing_calls, failed_calls, failures}
pub use Rattle.redo_disk.specs.Sight.{HasCause, OnTold, ReadStep, StillTells, SyncStep, WhereTold, WriteStep, part, write_at, Seen}
pub use Rattle.redo_disk.specs.Ranges.{CrashStep, HasSize, IsRange}
