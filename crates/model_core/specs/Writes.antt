-- Which user bytes of a page a group writes, and with what.
use Rattle.std.specs.Prelude.{Bool, List, slice_index, ℕ, ◌==◌}
use Rattle.model_base.specs.declared.shape.Shape.{Shape}
use Rattle.model_log.specs.declared.rec.Rec.{Rec}
use Rattle.model_core.specs.Changes.{after_from}

-- The group writes a user byte of page p: what stands there after it doesn't depend on what stood there before.
abbrev pub writes : Shape → ℕ → List Rec → ℕ → Bool
writes shape p group j = slice_index (after_from shape 0 p group) j == slice_index (after_from shape 255 p group) j

abbrev pub value_at : Shape → ℕ → List Rec → ℕ → ℕ
value_at shape p group j = slice_index (after_from shape 0 p group) j
