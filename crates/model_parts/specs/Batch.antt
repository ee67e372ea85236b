-- The pages of a batch, and how they are written: side by side into the slots, then each into its place.
use Rattle.std.specs.Prelude.{ℕ, ◌+◌, ◌*◌, List, [], ◌∷◌, ◌++◌, map}
use Rattle.model_base.specs.declared.shape.Shape.{Shape}
use Rattle.model_page.specs.{page_text}
use Rattle.model_page.specs.declared.content.Content.{Content}
use Rattle.model_device.specs.declared.write.Write.{Write}

-- a page with what it is to hold
pub record Fresh : Type 0 where
  pub page : ℕ
  pub content : Content

-- the bytes of a page that is to be written
abbrev pub new_text : Shape → Fresh → List ℕ
new_text shape new = page_text new.page shape.space new.content.lsn new.content.user

-- the bytes of all of them, joined
abbrev pub batch_text : Shape → List Fresh → List ℕ
batch_text shape [] = []
batch_text shape (new ∷ batch) = new_text shape new ++ batch_text shape batch

abbrev pub slots_write : Shape → List Fresh → Write
slots_write shape batch = record { at = 0; bytes = batch_text shape batch }

abbrev pub place_at : Shape → ℕ → ℕ
place_at shape page = (shape.slots + page) * shape.page_size

abbrev pub place_write : Shape → Fresh → Write
place_write shape new = record { at = place_at shape new.page; bytes = new_text shape new }

-- the writes of the places, in the batch's order
abbrev pub place_writes : Shape → List Fresh → List Write
place_writes shape batch = map (place_write shape) batch
