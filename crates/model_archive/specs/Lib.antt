pub mod Holds
pub mod Marks
pub mod Reads
pub mod Restore
pub mod Texts
pub use Rattle.model_archive.specs.Restore.{IsFairArchive, RestoresUpTo, archived_at, AreBasePages, base_lsn, block_count, block_lsn, BreaksAt, data_of_blocks, ending_by, HasBadRecord, HasExtent, HasLongBlock, HasLongBlocks, IsArchive, IsBasePage, IsFirstShort, IsFirstUnsound, IsMissing, IsOutOf, IsReachedBy, IsRestored, RefusesRestore, archive_length, archive_place, is_mark_lsn, is_run_start, mark_place, newest_mark, pages_end}
pub use Rattle.model_archive.specs.Holds.{ArchiveHolds, AreArchivedBlocks, HoldsUpTo, IsArchivedBlock, IsBesideMark, IsOlderMark, IsSteadyArchive}
unfoldable pub use Rattle.model_archive.specs.Restore.{archive_block, base_bytes, read_archive_head, read_mark, archived_bytes}
pub use Rattle.model_archive.specs.Marks.{after_append, after_asking, begun_marks, HasNextMark, next_mark_number}
pub use Rattle.model_archive.specs.Reads.{ReadsArchive}
pub use Rattle.model_archive.specs.Texts.{archive_creator, AreTexts, base_text, begun_bytes, IsRunStart, other_mark_place}
unfoldable pub use Rattle.model_archive.specs.Texts.{archive_head_text, mark_text}
