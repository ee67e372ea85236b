pub mod Batch
pub mod BatchFits
pub mod Changes
pub mod Cleared
pub mod Enlarging
pub mod Formatted
pub mod FormattedDevices
pub mod Held
pub mod Marks
pub mod Migrating
pub mod NextMarks
pub mod Opened
pub mod Reads
pub mod Ready
pub mod Repair
pub mod Rewritten
pub mod Steps
pub mod Stored
pub use Rattle.model_parts.specs.Batch.{Fresh, batch_text, new_text, place_at, place_write, place_writes, slots_write}
pub use Rattle.model_parts.specs.Stored.{IsNew, HasNothingPending, ImageHolds, IsKnown, IsLater, IsOldOrNew, IsSteady, IsUpTo, Keeps, KeepsPage, copied, after_batch, batch_of, IsBefore, IsOpened, KeepsPages, read_as, IsWrittenOver}
pub use Rattle.model_parts.specs.BatchFits.{IsBatch, IsFreshPage, IsWritable}
pub use Rattle.model_parts.specs.Changes.{IsErased, IsErasing, IsPut, IsPutting, IsUnsealed}
pub use Rattle.model_parts.specs.Cleared.{IsCleared, IsClearing, IsInKeptRange, IsOfTail, IsOutside, IsPastKept, IsStaleTail}
pub use Rattle.model_parts.specs.Formatted.{IsStillBefore, KeepsNoStore, formatted_store, IsUnopened, KeepsHead}
pub use Rattle.model_parts.specs.FormattedDevices.{IsFormatted, IsFormattedData, IsFormattedLog, zero_block}
pub use Rattle.model_parts.specs.Enlarging.{IsEnlarged, IsHeaded, IsHeading, KeepsStretches, run_head}
pub use Rattle.model_parts.specs.Opened.{IsAtRest, IsOpenable, KeepsOpened, found_layout, numbers_taken, start_block, start_of}
pub use Rattle.model_parts.specs.Held.{AreInOrder, IsHeadPlace, IsLive, IsWritten, LogHolds, LogHoldsWith, MayStand, other_place, IsFresh, IsFullBlock}
pub use Rattle.model_parts.specs.Marks.{after_asked, after_checkpoint, after_given, after_synced, after_written, first_marks, first_tails, next_number, tails_synced, tails_written}
pub use Rattle.model_parts.specs.NextMarks.{HasNextNumber, MayBeNext}
pub use Rattle.model_parts.specs.Repair.{AreHeld, AreRepaired, FailsPutBack, IsCopyPut, IsPutBack, IsRepairable, IsRepaired, KeepsAll, KeepsSame, SameSlots, repair_write}
pub use Rattle.model_parts.specs.Migrating.{IsLogSector, IsMigrated, IsMigrating, IsNearlyMigrated}
pub use Rattle.model_parts.specs.Reads.{CrashReads, FitsStore, ScansTo}
pub use Rattle.model_parts.specs.Ready.{IsReady, IsReadyBy}
pub use Rattle.model_parts.specs.Rewritten.{IsRewriting, IsRewritten}
pub use Rattle.model_parts.specs.Steps.{ArePutOrNot, FailsBoth, FailsOne, after_both, written_all}
