-- What a turn sees of the log part and of the data part, wherever they are: the marks of the one, and predicates that a drive
-- gives with their laws.
use Rattle.std.specs.Prelude.{Bool, List, ℕ}
use Rattle.model_core.specs.States.{Entry, KeptPage, BatchPage}

-- Of a part are seen five marks, as lsns, and whether it has failed. What a call may leave is told by relations between its
-- numbers, its code, which is 0 for Ok, and the part before and after.
pub record LogSide : Type 1 where
  pub Part : Type 0
  -- written, stable, the last mark given to write_to; the newest checkpoint, and the last one asked for, good or failed
  pub written : Part → ℕ
  pub stable : Part → ℕ
  pub given : Part → ℕ
  pub ckpt : Part → ℕ
  pub asked : Part → ℕ
  pub failed : Part → Bool
  -- of a log of so many blocks, a run's start and its groups: in every image the blocks are as they should be
  pub Holds : ℕ → ℕ → List Entry → Part → Type 0
  -- a device call has failed with this code
  pub Cause : Part → ℕ → Type 0
  -- what a write up to a mark, of these bytes and first offsets, may leave; a sync
  pub Wrote : ℕ → List ℕ → List ℕ → ℕ → Part → Part → Type 0
  pub Synced : ℕ → Part → Part → Type 0
  -- a checkpoint at an lsn
  pub Checkpointed : ℕ → ℕ → Part → Part → Type 0
  -- a read of the block at an lsn, that gave these bytes
  pub Read : ℕ → List ℕ → ℕ → Part → Part → Type 0
  -- the bytes are the block at an lsn of the run that starts at an sn and has these groups, full, as an archive has it
  pub IsRunBlock : ℕ → List Entry → ℕ → List ℕ → Type 0
  -- the part's device tells what it means, and held what it should as the run began
  pub Tells : Part → Type 0

-- Of a part is seen whether it has failed, and what it keeps of each page.
pub record DataSide : Type 1 where
  pub Part : Type 0
  pub failed : Part → Bool
  -- a device call has failed with this code
  pub Cause : Part → ℕ → Type 0
  -- in every fair image each page is kept as it was, or as a batch gave it whose writing has failed
  pub Holds : (ℕ → KeptPage) → List BatchPage → Part → Type 0
  -- what writing a batch may leave; the code is 0 for Ok
  pub Batched : List BatchPage → ℕ → Part → Part → Type 0
