-- The log part as the running store sees it.
use Rattle.std.specs.Prelude.{IfSome, List, [], None, OnOk, is_some, ℕ, ◌%◌, ◌+◌, ◌/◌, ◌^◌, ◌<◌, ◌≡◌, ◌≢◌, ◌≤◌}
use Rattle.model_base.specs.declared.limits.TheConstants.{BLOCK_SIZE}
use Rattle.model_core.specs.{Entry, lsn, LogSide}
use Rattle.model_running.specs.{AreWholesOf}
use Rattle.model_parts.specs.{after_asked, after_checkpoint, after_given, after_synced, after_written, next_number, tails_synced, tails_written, IsFullBlock}
use Rattle.model_parts.specs.declared.marks.LogMarks.{LogMarks}
use Rattle.model_log.specs.declared.group.Whole.{Whole}
use Rattle.redo_disk.specs.Sight as device
use Rattle.redo_disk.specs.{Seen, StillTells}
use Rattle.redo_drive.specs.Calls.{HasFailedBy}
use Rattle.redo_drive.specs.Asking.{LogCalled}
use Rattle.redo_drive.specs.declared.device.Device.TheVariants.{Log}
use Rattle.redo_logdev.specs.{block_place, GivesBlock, KeepsHolding, KeepsNumbered, KeepsWriting, PartHolds}
use Rattle.redo_logdev.specs.Part.{Part}
use Rattle.model_log.specs.{IsBoundary, run_layout, spans_of}

-- Its number goes round only after more checkpoints than a log below the limit has room for.
abbrev pub HasFewCheckpoints : LogMarks → Type 0
HasFewCheckpoints marks = marks.number ≤ 2 ^ 63 + marks.ckpt / BLOCK_SIZE

module _ {L : Type 0} (seen : L → Seen) where
  -- The device held nothing but the checkpoint when the run began at this lsn, and the store was in order.
  pub record HasBegun (start : ℕ) (first : Part L) : Type 0 where
    pub holds : PartHolds seen start [] first
    pub few : HasFewCheckpoints first.marks

  -- What holds of the part of a run, of a log of so many blocks, that started at the sn `base` and has these groups. What
  -- the device holds it holds if it did so when the run began, and the checkpoint's number isn't below the one of then.
  pub record HoldsLog (faults number : ℕ) (Begun : Type 0) (blocks base : ℕ) (log : List Entry) (part : Part L) : Type 0 where
    pub blocks_are : (run_layout part.shape).blocks ≡ blocks
    pub later : faults ≤ (seen part.dev).faults
    -- as long as no call has failed
    pub all_given : part.failed ≡ None → part.marks.given ≡ part.marks.written
    pub all_asked : part.failed ≡ None → part.marks.asked ≡ part.marks.ckpt
    pub aligned : part.marks.ckpt % BLOCK_SIZE ≡ 0
    pub ckpt_stable : part.marks.ckpt ≤ part.marks.stable
    pub stable_written : part.marks.stable ≤ part.marks.written
    pub small : part.marks.written < 2 ^ 61
    pub few : Begun → HasFewCheckpoints part.marks
    pub number_kept : Begun → number ≤ part.marks.number
    pub groups : Begun → (wholes : List Whole) → AreWholesOf log wholes → PartHolds seen (lsn base) wholes part

  pub record LogWrote (mark : ℕ) (bytes firsts : List ℕ) (code : ℕ) (old new : Part L) : Type 0 where
    pub called : LogCalled seen code (after_written mark old.marks) (after_given mark old.marks)
        (tails_written mark old.tails) old new
    pub holds : KeepsWriting seen old mark bytes firsts new

  pub record LogSynced (code : ℕ) (old new : Part L) : Type 0 where
    pub called : LogCalled seen code (after_synced old.marks) old.marks (tails_synced old.marks.written old.tails) old new
    pub holds : KeepsHolding seen old new

  pub record LogCheckpointed (lsn code : ℕ) (old new : Part L) : Type 0 where
    pub called : LogCalled seen code (after_checkpoint (next_number old.marks.number) lsn old.marks)
        (after_asked lsn old.marks) (tails_synced old.marks.written old.tails) old new
    pub holds : KeepsNumbered seen old new

  -- A read of the block at an lsn, which gave these bytes. The device tells what it told, or nothing any more.
  pub record LogRead (lsn : ℕ) (bytes : List ℕ) (code : ℕ) (old new : Part L) : Type 0 where
    pub called : LogCalled seen code old.marks old.marks old.tails old new
    pub given : OnOk called.result
        (IfSome (seen new.dev).tells (λ disk. bytes ≡ device.part disk.reads (block_place old lsn) BLOCK_SIZE))
    pub told : StillTells (seen old.dev).tells (seen new.dev).tells
    pub holds : KeepsHolding seen old new
    pub block : GivesBlock seen old lsn called.result bytes new

  -- The bytes are the run's block at an lsn, full: for a boundary at or past the first data byte of the next one.
  abbrev IsBlockOfRun : ℕ → List Entry → ℕ → List ℕ → Type 0
  IsBlockOfRun base log x bytes = (wholes : List Whole) → AreWholesOf log wholes
      → (mark : ℕ) × IsBoundary (lsn base) (spans_of wholes) mark × IsFullBlock (lsn base) wholes mark x bytes

  -- `number` is that of the checkpoint at the run's start
  abbrev pub log_side : (faults number : ℕ) → Type 0 → LogSide
  log_side faults number Begun = record {
    Part = Part L;
    written = λ part. part.marks.written;
    stable = λ part. part.marks.stable;
    given = λ part. part.marks.given;
    ckpt = λ part. part.marks.ckpt;
    asked = λ part. part.marks.asked;
    failed = λ part. is_some part.failed;
    Holds = HoldsLog faults number Begun;
    Cause = λ part. HasFailedBy seen Log faults part.dev part.failed;
    Wrote = LogWrote;
    Synced = LogSynced;
    Checkpointed = LogCheckpointed;
    Read = LogRead;
    IsRunBlock = IsBlockOfRun;
    Tells = λ part. Begun × ((seen part.dev).tells ≢ None);
  }
