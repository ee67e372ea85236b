-- What the repair of a page asks of the data device.
use Rattle.std.specs.Prelude.{ℕ, ◌≡◌, ◌*◌, ◌⊎◌, List, [], ◌∷◌, length, Option, OnOk}
use Rattle.model_base.specs.declared.shape.Shape.{Shape}
use Rattle.model_parts.specs.{repair_write}
use Rattle.model_page.specs.{HasNoCopy, IsBestCopy, slot_bytes}
use Rattle.redo_disk.specs.{Answer, Call, EndWith, put_requests, Reads, Serve}
use Rattle.redo_disk.specs.declared.error.DevError.{DevError}

-- the copy that counts by these slots is put into the place of its page
pub record PutsCopy (shape : Shape) (page : ℕ) (slots : List ℕ) (error : Option DevError) (calls : List Call) : Type 0 where
  pub slot : ℕ
  pub lsn : ℕ
  pub best : IsBestCopy shape slots page slot lsn
  pub serve : Serve (put_requests (repair_write shape page (slot_bytes shape slot slots))) error calls

-- A repair: the slots are read by one read, and then the copy that counts by what was read is put into the place of its
-- page; where none passes there is no other call.
pub record RepairCalls (shape : Shape) (page : ℕ) (error : Option DevError) (calls : List Call) : Type 0 where
  pub before : List ℕ
  pub answer : Answer
  pub slots : List ℕ
  pub rest : List Call
  pub all : calls ≡ Reads 0 before answer slots ∷ rest
  pub size : length before ≡ shape.slots * shape.page_size
  pub ends : EndWith error calls
  pub then : OnOk answer (PutsCopy shape page slots error rest ⊎ (HasNoCopy shape slots page × (rest ≡ [])))
