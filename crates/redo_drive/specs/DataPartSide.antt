-- The data part as the running store sees it.
use Rattle.std.specs.Prelude.{List, [], OnOk, Result, is_some, length, ℕ, ◌*◌, ◌≡◌, ◌≤◌}
use Rattle.model_base.specs.{user_length}
use Rattle.model_base.specs.declared.shape.Shape.{Shape}
use Rattle.model_core.specs.{DataSide, BatchPage, KeptPage}
use Rattle.model_parts.specs.{after_batch, batch_of, IsLater}
use Rattle.model_running.specs.{contents_of}
use Rattle.model_page.specs.declared.content.Content.{Content}
use Rattle.redo_disk.specs.{Seen}
use Rattle.redo_disk.specs.declared.error.DevError.{DevError}
pub use Rattle.redo_drive.specs.Asking.{fresh_batch, fresh_page}
use Rattle.redo_drive.specs.Asking.{call_code}
use Rattle.redo_drive.specs.Calls.{HasFailedBy}
use Rattle.redo_drive.specs.declared.device.Device.TheVariants.{Data}
use Rattle.redo_store.specs.{PartKeeps, PartStep, PartStores}
use Rattle.redo_store.specs.Part.{Part}

-- The batch is of these pairs of page and lsn, the user bytes of its pages being joined.
pub record IsBatchOf (shape : Shape) (pairs : List (ℕ × ℕ)) (users : List ℕ) (batch : List BatchPage) : Type 0 where
  pub pages : fresh_batch batch ≡ batch_of shape pairs users
  pub count : length users ≡ length pairs * user_length shape

module _ {D : Type 0} (seen : D → Seen) where
  -- The device held the opened pages when the run began, and no copy was ahead of one.
  abbrev pub HasBegun : (ℕ → KeptPage) → Part D → Type 0
  HasBegun opened first = PartStores seen (contents_of opened) (contents_of opened) [] first

  -- What holds of the part of a run, of a store of this shape: in each fair image each page is kept as it was last written,
  -- or as the batch has it whose writing failed; and no copy is ahead of that. The device holds it if it did so when the run
  -- began.
  pub record HoldsPages (faults : ℕ) (shape : Shape) (Begun : Type 0) (kept_page : ℕ → KeptPage) (unfinished : List BatchPage) (part : Part D) : Type 0 where
    pub shape_is : part.shape ≡ shape
    pub later : faults ≤ (seen part.dev).faults
    pub pages : Begun → PartStores seen (contents_of kept_page) (contents_of kept_page) (fresh_batch unfinished) part

  -- what writing a batch leaves, whatever it answers
  pub record DataWrote (batch : List BatchPage) (code : ℕ) (old new : Part D) : Type 0 where
    pub result : Result (Unit {0}) DevError
    pub code_is : code ≡ call_code Data new.failed
    pub step : PartStep seen old result new
    pub keeps : (top was : ℕ → Content) → PartStores seen top was [] old → IsLater top (fresh_batch batch) → PartKeeps seen top was (fresh_batch batch) new
    pub ok : (top was : ℕ → Content) → PartStores seen top was [] old → IsLater top (fresh_batch batch)
        → OnOk result (PartStores seen (after_batch (fresh_batch batch) top) (after_batch (fresh_batch batch) was) [] new)

  abbrev pub data_side : ℕ → Shape → Type 0 → DataSide
  data_side faults shape Begun = record {
    Part = Part D;
    failed = λ part. is_some part.failed;
    Cause = λ part. HasFailedBy seen Data faults part.dev part.failed;
    Holds = HoldsPages faults shape Begun;
    Batched = DataWrote;
  }
