pub mod Appending
pub mod Lending
pub mod Rounds
pub use Rattle.redo_archiver.specs.Appending.{finishing_mark, IsToFinish, append_answer, append_code, append_requests, IsAppended, KeepsBlock, marks_after, MayAppendBlock, AppendsNothing, HasArchived, HasRoomTo, HearsFlushed, IsCounted, IsFullBlock, KeepsPace}
pub use Rattle.redo_archiver.specs.Lending.{LendsRoom, with_block}
