-- Calls of what lies in a slot.
use Rattle.std.specs.Prelude.{List, [], Result, ℕ, ◌≡◌}
use Rattle.redo_disk.specs.{Call, EndWith, error_of, MakesCalls}
use Rattle.redo_disk.specs.declared.error.DevError.{DevError}
use Rattle.redo_flushlist.specs.{Listing}
use Rattle.redo_logdev.specs.Part as log
use Rattle.redo_rule.specs.declared.law.Desk.{Desk}
use Rattle.redo_rule.specs.declared.law.Slot.{Slot}
use Rattle.redo_rule.specs.declared.law.Slot.TheVariants as slot
use Rattle.redo_store.specs.Part as store

module _ {L D : Type 0} where
  -- the log part lies in it, and is so; a flush list does
  abbrev pub IsLog : Slot L D → (log.Part L → Type 0) → Type 0
  IsLog s Is = (desk : Desk L) × (s ≡ slot.Log desk) × Is desk.part

  abbrev pub IsPages : Slot L D → (Listing → Type 0) → Type 0
  IsPages s Is = (l : Listing) × (s ≡ slot.Pages l) × Is l

  abbrev pub IsData : Slot L D → (store.Part D → Type 0) → Type 0
  IsData s Is = (d : store.Part D) × (s ≡ slot.Data d) × Is d

  -- the log part was called, which ended so, with this relation between what it was and is
  pub record IsCalled (gives : L → Call → L → Type 0) (old new : Slot L D) (ended : Result (Unit {0}) DevError) (Served : log.Part L → log.Part L → Type 0) : Type 0 where
    pub was : Desk L
    pub now : Desk L
    pub old_is : old ≡ slot.Log was
    pub new_is : new ≡ slot.Log now
    pub served : Served was.part now.part
    pub told : now.part.failed ≡ error_of ended
    -- the log's work stays beside it as it was
    pub work : now.work ≡ was.work
    pub calls : MakesCalls gives was.part.dev now.part.dev (EndWith now.part.failed)

  -- the block that was read last
  abbrev pub block_of : Slot L D → List ℕ
  block_of (slot.Log desk) = desk.block
  block_of _ = []

  -- the same of the data part
  pub record IsBatched (gives : D → Call → D → Type 0) (old new : Slot L D) (ended : Result (Unit {0}) DevError) (Served : store.Part D → store.Part D → Type 0) : Type 0 where
    pub was : store.Part D
    pub now : store.Part D
    pub old_is : old ≡ slot.Data was
    pub new_is : new ≡ slot.Data now
    pub served : Served was now
    pub told : now.failed ≡ error_of ended
    pub calls : MakesCalls gives was.dev now.dev (EndWith now.failed)
