pub mod Apply
pub mod Fair
pub mod Found
pub mod Scan
pub mod UpTo
pub use Rattle.model_store.specs.Apply.{folded, page_after, pages_after_from, touches, user_after, user_after_own}
pub use Rattle.model_store.specs.UpTo.{page_folded, upto}
unfoldable pub use Rattle.model_store.specs.Apply.{applied}
pub use Rattle.model_store.specs.Fair.{IsFair, IsFairLog, IsWholeContent, IsWholeSector}
pub use Rattle.model_store.specs.Found.{AreFoundIn, AreInPlace, IsInTail, IsTakenTail, AreReadPages}
pub use Rattle.model_store.specs.Scan.{HasNoRoomToRun, IsUnused, Opens, OpensOrderly, OpensUnused, RefusesToOpen, AreKeptBelow, AreNotAheadBelow, HasDevices, HasHead, HasOldCopies, HasScan, IsKeptAt, IsNoNewerCopy, IsOrderly, IsReadPage, IsReading, Refuses, replayed, IsScanned, Reading, AreBlocks, AreGroups, AreGroupsOf, HasNoStorable, IsBadRecord, IsLastOf, IsScan, IsStorable, Source, Taken, bytes_of, data_from, groups_start, joined, taken_from, view_at, if_full, if_tail, in_place_or, longer, read_full, read_tail, taken, taken_among}
