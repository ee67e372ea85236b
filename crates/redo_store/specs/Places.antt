-- The writes of a batch's places as the code makes them: from texts that stand side by side.
use Rattle.std.specs.Prelude.{ℕ, List, [], ◌∷◌, take, drop}
use Rattle.model_base.specs.declared.shape.Shape.{Shape}
use Rattle.model_device.specs.declared.write.Write.{Write}
use Rattle.model_parts.specs.{place_at}

-- the writes of these texts, each of page size, into the places of the pages
abbrev pub text_writes : Shape → List (ℕ × ℕ) → List ℕ → List Write
text_writes shape [] texts = []
text_writes shape (pair ∷ pairs) texts =
    (record { at = place_at shape pair.0; bytes = take shape.page_size texts }) ∷ text_writes shape pairs (drop shape.page_size texts)
