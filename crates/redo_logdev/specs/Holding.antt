-- What the device of a log part holds of a run, and what calls keep of that.
use Rattle.std.specs.Prelude.{ℕ, ◌≡◌, List, Option, None, IfSome, ◌≤◌, ◌<◌, ◌+◌, Result, OnOk}
use Rattle.model_base.specs.declared.shape.Shape.{Shape}
use Rattle.model_log.specs.declared.group.Whole.{Whole}
use Rattle.model_device.specs.{Disk}
use Rattle.model_log.specs.{block_of, IsGivenTo, IsBoundaryBlock}
use Rattle.model_parts.specs.{HasNextNumber, IsWritten, LogHoldsWith}
use Rattle.model_parts.specs.declared.marks.LogMarks.{LogMarks}
use Rattle.model_parts.specs.declared.marks.TailMarks.{TailMarks}
use Rattle.redo_disk.specs.{Seen}
use Rattle.redo_disk.specs.declared.error.DevError.{DevError}
use Rattle.redo_logdev.specs.Part.{Part}
use Rattle.model_log.specs.declared.layout.TheConstants.{BLOCK_HEADER}

-- what the device of a part holds of a run: more as long as no call has failed
pub record DiskHolds (shape : Shape) (s : ℕ) (wholes : List Whole) (marks : LogMarks) (tails : TailMarks) (failed : Option DevError) (disk : Disk) : Type 0 where
  pub holds : LogHoldsWith shape s wholes marks tails disk
  pub live : failed ≡ None → IsWritten shape s wholes marks tails disk

-- the same, where the device tells what it means
abbrev pub PartHolds : {L : Type 0} → (L → Seen) → ℕ → List Whole → Part L → Type 0
PartHolds seen s wholes part = IfSome (seen part.dev).tells (DiskHolds part.shape s wholes part.marks part.tails part.failed)

-- What a part's device holds after `write_to`, Ok or not, if what was given is of the run.
abbrev pub KeepsWriting : {L : Type 0} → (L → Seen) → Part L → ℕ → List ℕ → List ℕ → Part L → Type 0
KeepsWriting seen old mark bytes firsts new =
    (s : ℕ) (wholes : List Whole) → PartHolds seen s wholes old
    → IsGivenTo s wholes (block_of old.marks.written) mark bytes firsts → PartHolds seen s wholes new

-- the same after a sync, or a read
abbrev pub KeepsHolding : {L : Type 0} → (L → Seen) → Part L → Part L → Type 0
KeepsHolding seen old new = (s : ℕ) (wholes : List Whole) → PartHolds seen s wholes old → PartHolds seen s wholes new

-- the same after a checkpoint, until the number goes round
abbrev pub KeepsNumbered : {L : Type 0} → (L → Seen) → Part L → Part L → Type 0
KeepsNumbered seen old new = HasNextNumber old.marks → KeepsHolding seen old new

-- The run's block at the lsn stands on the device: it is the newest checkpoint's or a later one, and holds a byte below
-- the stable mark.
pub record HoldsBlock {L : Type 0} (part : Part L) (lsn : ℕ) : Type 0 where
  pub from : part.marks.ckpt ≤ lsn
  pub some : lsn + BLOCK_HEADER < part.marks.stable

-- After a good read these bytes are that block, for the written mark, if the device held the run and still tells.
abbrev pub GivesBlock : {L : Type 0} → (L → Seen) → Part L → ℕ → Result (Unit {0}) DevError → List ℕ → Part L → Type 0
GivesBlock seen old lsn result out new =
    HoldsBlock old lsn → (s : ℕ) (wholes : List Whole) → OnOk result (IfSome (seen new.dev).tells (λ disk.
    DiskHolds old.shape s wholes old.marks old.tails old.failed disk
    → IsBoundaryBlock s wholes old.marks.written lsn out))
