-- The data device while pages are written as they were read, one after another or several at a time.
use Rattle.std.specs.Prelude.{ℕ, ◌≡◌, ◌<◌, ◌⊎◌, false, List, [], Option, None, Some, Result, OnOk, IfSome, slice_get, ◌≤◌, ◌*◌, length, take, drop}
use Rattle.model_base.specs.declared.shape.Shape.{Shape}
use Rattle.model_parts.specs.{Fresh, IsNew, IsUpTo, Keeps}
use Rattle.model_parts.specs.Stored.{Stored}
use Rattle.model_device.specs.{Disk}
use Rattle.model_page.specs.declared.content.Content.{Content}
use Rattle.redo_disk.specs.{HasCause, Seen}
use Rattle.redo_disk.specs.declared.error.DevError.{DevError}
use Rattle.redo_recover.specs.declared.places.Found.{Found}
use Rattle.redo_store.specs.Part.{Part}
use Rattle.model_base.specs.{user_length}

-- these are the pages, and one that has still the lsn with which it was found is as it was
pub record AreTop (pages : List Content) (found : List Found) (top start : ℕ → Content) : Type 0 where
  pub each : (p : ℕ) (page : Content) → slice_get pages p ≡ Some page → top p ≡ page
  pub same : (p : ℕ) (one : Found) (page : Content) → slice_get found p ≡ Some one → slice_get pages p ≡ Some page → one.lsn ≡ page.lsn → start p ≡ top p

-- The pages below this number are written, each other one is written or as it was, and nothing is pending.
pub record IsWrittenTo (shape : Shape) (top start : ℕ → Content) (count : ℕ) (told : Option Disk) : Type 0 where
  pub was : ℕ → Content
  pub stored : IfSome told (Stored shape (IsUpTo top) was [] false)
  pub before : (p : ℕ) → (was p ≡ start p) ⊎ (was p ≡ top p)
  pub done : (p : ℕ) → p < count → was p ≡ top p

-- the same at an exit in the middle: each fair image has each page as it was or written
pub record KeepsWritten (shape : Shape) (top start : ℕ → Content) (told : Option Disk) : Type 0 where
  pub was : ℕ → Content
  pub batch : List Fresh
  pub keeps : IfSome told (Keeps shape (IsUpTo top) was batch)
  pub before : (p : ℕ) → (was p ≡ start p) ⊎ (was p ≡ top p)
  pub as_top : (p : ℕ) (content : Content) → IsNew batch p content → content ≡ top p

-- A step that writes the pages from `from` to the one before `to`, where it answers Ok.
pub record RewriteStep {D : Type 0} (seen : D → Seen) (shape : Shape) (pages : List Content) (found : List Found) (from to : ℕ) (old : Part D) (result : Result (Unit {0}) DevError) (new : Part D) : Type 0 where
  pub keeps : (top start : ℕ → Content) → AreTop pages found top start → IsWrittenTo shape top start from (seen old.dev).tells
      → KeepsWritten shape top start (seen new.dev).tells
  pub ok : (top start : ℕ → Content) → AreTop pages found top start → IsWrittenTo shape top start from (seen old.dev).tells
      → OnOk result (IsWrittenTo shape top start to (seen new.dev).tells)
  pub live : OnOk result (new.failed ≡ None)
  pub shape_stays : new.shape ≡ old.shape
  pub size : (seen new.dev).size ≡ (seen old.dev).size
  pub cause : HasCause (seen old.dev).faults (seen new.dev).faults result

-- pages of a store that are to be written together, each with its lsn, and their user bytes, joined
pub record Gathered : Type 0 where
  pub shape : Shape
  pub pairs : List (ℕ × ℕ)
  pub users : List ℕ

-- what is made room for is enough for as many as there are slots
pub record HasBatchRoom (shape : Shape) (pairs users : ℕ) : Type 0 where
  pub for_pairs : shape.slots ≤ pairs
  pub for_users : shape.slots * user_length shape ≤ users

-- the page is one of them
pub record IsBatchedPage (batch : Gathered) (p : ℕ) : Type 0 where
  pub i : ℕ
  pub lsn : ℕ
  pub at : slice_get batch.pairs i ≡ Some (p, lsn)

-- Some of the pages below this number, each once and as it was read, and no more of them than there are slots.
pub record AreGathered (shape : Shape) (pages : List Content) (count : ℕ) (batch : Gathered) : Type 0 where
  pub of_store : batch.shape ≡ shape
  pub few : length batch.pairs ≤ shape.slots
  pub joined : length batch.users ≡ length batch.pairs * user_length shape
  pub below : (i : ℕ) (pair : ℕ × ℕ) → slice_get batch.pairs i ≡ Some pair → pair.0 < count
  pub each : (i : ℕ) (pair : ℕ × ℕ) → slice_get batch.pairs i ≡ Some pair
      → slice_get pages pair.0 ≡ Some (record { lsn = pair.1; user = take (user_length shape) (drop (i * user_length shape) batch.users) })
  pub different : (i j : ℕ) (pair other : ℕ × ℕ) → slice_get batch.pairs i ≡ Some pair → slice_get batch.pairs j ≡ Some other
      → pair.0 ≡ other.0 → i ≡ j

-- Each page below this number is written or one of the batch, each other one is written or as it was, and nothing is
-- pending.
pub record IsGatheredTo (shape : Shape) (top start : ℕ → Content) (count : ℕ) (batch : Gathered) (told : Option Disk) : Type 0 where
  pub was : ℕ → Content
  pub stored : IfSome told (Stored shape (IsUpTo top) was [] false)
  pub before : (p : ℕ) → (was p ≡ start p) ⊎ (was p ≡ top p)
  pub done : (p : ℕ) → p < count → (was p ≡ top p) ⊎ IsBatchedPage batch p

-- A step that writes or gathers the pages from `from` to the one before `to`, where it answers Ok.
pub record GatherStep {D : Type 0} (seen : D → Seen) (shape : Shape) (pages : List Content) (found : List Found) (from to : ℕ)
    (old : Part D) (before : Gathered) (result : Result (Unit {0}) DevError) (new : Part D) (after : Gathered) : Type 0 where
  pub keeps : (top start : ℕ → Content) → AreTop pages found top start → IsGatheredTo shape top start from before (seen old.dev).tells
      → KeepsWritten shape top start (seen new.dev).tells
  pub ok : (top start : ℕ → Content) → AreTop pages found top start → IsGatheredTo shape top start from before (seen old.dev).tells
      → OnOk result (IsGatheredTo shape top start to after (seen new.dev).tells)
  pub gathered : OnOk result (AreGathered shape pages to after)
  pub live : OnOk result (new.failed ≡ None)
  pub shape_stays : new.shape ≡ old.shape
  pub size : (seen new.dev).size ≡ (seen old.dev).size
  pub cause : HasCause (seen old.dev).faults (seen new.dev).faults result
