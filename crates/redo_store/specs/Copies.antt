-- A copy of a page that was read off the slots before, and is to be put into its place.
use Rattle.std.specs.Prelude.{ℕ, ◌≡◌, List, None}
use Rattle.model_base.specs.declared.shape.Shape.{Shape}
use Rattle.model_device.specs.{Disk}
use Rattle.model_page.specs.{IsBestCopy, place_lsn, slot_bytes}

-- by what reads give, the page's place doesn't pass, and these are the bytes of the copy that counts
pub record IsCopyToPut (shape : Shape) (page : ℕ) (bytes : List ℕ) (disk : Disk) : Type 0 where
  pub broken : place_lsn shape disk.reads page ≡ None
  pub slot : ℕ
  pub lsn : ℕ
  pub best : IsBestCopy shape disk.reads page slot lsn
  pub copy : bytes ≡ slot_bytes shape slot disk.reads
