-- What is appended to an archive after its run.
use Rattle.std.specs.Prelude.{None, ℕ, ◌≡◌, ◌≤◌}
use Rattle.redo_archive.specs.Part.{Part}
use Rattle.redo_archiver.specs.{IsToFinish}
use Rattle.redo_disk.specs.{Call, Seen}
use Rattle.redo_drive.specs.{FinishesArchive, IsReadBack, AsksUpTo, IsSameArchive}
use Rattle.redo_logdev.specs.Part as log

-- BLOCKS OF THE LOG WERE APPENDED TO AN ARCHIVE, up to FLUSHED at most. The log part was read alone; the archive is the same
-- one, later, where it hadn't failed before, and else as it was; and it archives of the run what it did.
pub record Finishes {L A : Type 0} (log_seen : L → Seen) (gives : L → Call → L → Type 0) (arch_seen : A → Seen)
    (arch_gives : A → Call → A → Type 0) (flushed : ℕ) (old_log new_log : log.Part L) (old new : Part A) : Type 0 where
  pub to_finish : IsToFinish arch_seen flushed new
  pub start : new.start ≡ old.start
  pub up : old.marks.mark ≤ new.marks.mark
  pub asked : AsksUpTo flushed old → AsksUpTo flushed new
  pub log : IsReadBack log_seen gives old_log new_log
  pub same : old.failed ≡ None → IsSameArchive arch_seen arch_gives old new
  pub over : (old.failed ≡ None → ⊥) → new ≡ old
  pub archives : FinishesArchive log_seen arch_seen flushed old_log new_log old new
