-- Writes of pages lie within the length of the data device.
use Rattle.std.proofs.Common.{◌≡◌, ◌≤◌, ◌<◌, ◌+◌, ◌-◌, ◌*◌, ◌∙◌, ℕ, suc, List, [], ◌∷◌, ◌++◌, length, take, drop, map, Option, Some, refl, sym, length-append, length-drop, length-take, arith}
use Rattle.std.specs.List.{AllByRecursion, slice_get}
use Rattle.std.proofs.Math.Nat.{mul-le-mul_right, zero-mul}
use Rattle.model_base.specs.{IsPageSize, user_length}
use Rattle.model_base.specs.declared.shape.Shape.{Shape}
use Rattle.model_parts.proofs.Batches.{length-new_text}
use Rattle.model_parts.proofs.Joined.{fresh_of}
use Rattle.model_parts.proofs.Rows.{one-more-row, row_ends}
use Rattle.model_parts.specs.{batch_of, batch_text, IsWritable, new_text, place_writes, repair_write, slots_write}
use Rattle.model_device.specs.{IsWithin}
use Rattle.model_page.specs.{data_device_length}
use Rattle.redo_disk.specs.{Call, MakesCalls, Serve, ToSync, ToWrite}
use Rattle.redo_disk.specs.declared.error.DevError.{DevError}
use Rattle.redo_open.proofs.Puts.{IsToPut, served}
use Rattle.redo_open.specs.Puts.{PutsWhere}
use Rattle.redo_store.specs.Part.{batch_requests}

-- a place lies after the slots, among the places
place-inside : (shape : Shape) (page count : ℕ) → page < shape.pages → count ≡ shape.page_size
    → (shape.slots + page) * shape.page_size + count ≤ data_device_length shape
place-inside shape page count below long =
    let ends = row_ends (shape.slots + page) (shape.slots + shape.pages) shape.page_size (omega arith) in omega (arith, long)

-- the slots lie in front of the places
slots-inside : (shape : Shape) (count many : ℕ) → many ≤ shape.slots → count ≡ many * shape.page_size → 0 + count ≤ data_device_length shape
slots-inside shape count many few long =
    let all : many ≤ shape.slots + shape.pages = omega arith in
    let front = mul-le-mul_right shape.page_size all in omega (arith, long)

-- one of the pages that stand side by side
pub copy-long : (size slot : ℕ) (bytes : List ℕ) → slot * size + size ≤ length bytes
    → length (take (slot * size + size - slot * size) (drop (slot * size) bytes)) ≡ size
copy-long size slot bytes room = length-take (slot * size + size - slot * size) (drop (slot * size) bytes) ∙ omega (arith, room, length-drop (slot * size) bytes)

-- a copy is put into its place
pub repair-within : (shape : Shape) (page : ℕ) (bytes : List ℕ) → page < shape.pages → length bytes ≡ shape.page_size
    → IsWithin (data_device_length shape) (repair_write shape page bytes)
repair-within shape page bytes below long = place-inside shape page (length bytes) below long

-- A BATCH.

-- the user bytes of the first page, and those of the others
first-long : (size count : ℕ) (users : List ℕ) → length users ≡ suc count * size → length (take size users) ≡ size
first-long size count users long = length-take size users ∙ omega (arith, long, one-more-row count size)

others-long : (size count : ℕ) (users : List ℕ) → length users ≡ suc count * size → length (drop size users) ≡ count * size
others-long size count users long = length-drop size users ∙ omega (arith, long, one-more-row count size)

text-long : (shape : Shape) (pair : ℕ × ℕ) (count : ℕ) (users : List ℕ) → IsPageSize shape.page_size → length users ≡ suc count * user_length shape
    → length (new_text shape (fresh_of pair (take (user_length shape) users))) ≡ shape.page_size
text-long shape pair count users size long =
    length-new_text shape (fresh_of pair (take (user_length shape) users)) size (first-long (user_length shape) count users long)

batch-long : (shape : Shape) (pairs : List (ℕ × ℕ)) (users : List ℕ) → IsPageSize shape.page_size → length users ≡ length pairs * user_length shape
    → length (batch_text shape (batch_of shape pairs users)) ≡ length pairs * shape.page_size
batch-long shape [] users size long = sym (zero-mul shape.page_size)
batch-long shape (pair ∷ pairs) users size long =
    let n : ℕ = user_length shape in
    length-append (new_text shape (fresh_of pair (take n users))) (batch_text shape (batch_of shape pairs (drop n users)))
    ∙ omega (
      arith,
      text-long shape pair (length pairs) users size long,
      one-more-row (length pairs) shape.page_size,
      batch-long shape pairs (drop n users) size (others-long n (length pairs) users long),
    )

-- the slots are written
slots-within : (shape : Shape) (pairs : List (ℕ × ℕ)) (users : List ℕ) → IsPageSize shape.page_size → IsWritable shape pairs users
    → IsWithin (data_device_length shape) (slots_write shape (batch_of shape pairs users))
slots-within shape pairs users size is =
    slots-inside shape (length (batch_text shape (batch_of shape pairs users))) (length pairs) is.few (batch-long shape pairs users size is.count)

-- and then the places
places-put : (shape : Shape) (pairs : List (ℕ × ℕ)) (users : List ℕ) → IsPageSize shape.page_size → length users ≡ length pairs * user_length shape
    → ((i : ℕ) (pair : ℕ × ℕ) → slice_get pairs i ≡ Some pair → pair.0 < shape.pages)
    → AllByRecursion (IsToPut (IsWithin (data_device_length shape))) (map ToWrite (place_writes shape (batch_of shape pairs users)) ++ ToSync ∷ [])
places-put shape [] users size long below = (tt, tt)
places-put shape (pair ∷ pairs) users size long below =
    let n : ℕ = user_length shape in (
      place-inside shape pair.0 (length (new_text shape (fresh_of pair (take n users)))) (below 0 pair refl) (text-long shape pair (length pairs) users size long),
      places-put shape pairs (drop n users) size (others-long n (length pairs) users long) (λ i other at. below (suc i) other at),
    )

pub batch_served : {D : Type 0} {gives : D → Call → D → Type 0} {old new : D} {error : Option DevError} (shape : Shape) (pairs : List (ℕ × ℕ)) (users : List ℕ)
    → IsPageSize shape.page_size → IsWritable shape pairs users → MakesCalls gives old new (Serve (batch_requests shape (batch_of shape pairs users)) error)
    → MakesCalls gives old new (PutsWhere (IsWithin (data_device_length shape)) error)
batch_served shape pairs users size is =
    served (batch_requests shape (batch_of shape pairs users)) (slots-within shape pairs users size is, (tt, places-put shape pairs users size is.count is.below))
