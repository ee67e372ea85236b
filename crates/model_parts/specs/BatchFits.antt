-- What may be written as a batch of pages.
use Rattle.std.specs.Prelude.{ℕ, ◌≡◌, ◌≤◌, ◌<◌, ◌*◌, ◌^◌, List, length, Some, slice_get, slice_index}
use Rattle.model_base.specs.declared.shape.Shape.{Shape}
use Rattle.model_base.specs.{user_length}
use Rattle.model_parts.specs.Batch.{Fresh}

-- the page is one of the store's, and what it is to hold fits it
pub record IsFreshPage (shape : Shape) (new : Fresh) : Type 0 where
  pub below : new.page < shape.pages
  pub small_lsn : new.content.lsn < 2 ^ 64
  pub long : length new.content.user ≡ user_length shape
  pub bytes : (i : ℕ) → slice_index new.content.user i < 256

-- a batch that one call can write
pub record IsBatch (shape : Shape) (batch : List Fresh) : Type 0 where
  pub few : length batch ≤ shape.slots
  pub each : (i : ℕ) (new : Fresh) → slice_get batch i ≡ Some new → IsFreshPage shape new
  pub different : (i j : ℕ) (new other : Fresh) → slice_get batch i ≡ Some new → slice_get batch j ≡ Some other
      → new.page ≡ other.page → i ≡ j

-- What is asked of the pairs of page and lsn and of the user bytes. That an lsn is a number of 64 bits says no more than
-- its type does, which a clause doesn't know of the numbers in a slice of pairs.
pub record IsWritable (shape : Shape) (pairs : List (ℕ × ℕ)) (users : List ℕ) : Type 0 where
  pub few : length pairs ≤ shape.slots
  pub count : length users ≡ length pairs * user_length shape
  pub below : (i : ℕ) (pair : ℕ × ℕ) → slice_get pairs i ≡ Some pair → pair.0 < shape.pages
  pub small_lsn : (i : ℕ) (pair : ℕ × ℕ) → slice_get pairs i ≡ Some pair → pair.1 < 2 ^ 64
  pub different : (i j : ℕ) (pair other : ℕ × ℕ) → slice_get pairs i ≡ Some pair → slice_get pairs j ≡ Some other → pair.0 ≡ other.0 → i ≡ j
