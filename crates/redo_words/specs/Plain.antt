-- The words of a store in one list, and when an Op may be played on them.
use Rattle.std.specs.Prelude.{List, slice_index, ℕ, ◌+◌, ◌<◌, ◌^◌}
use Rattle.model_base.specs.declared.shape.Shape.{Shape}
use Rattle.model_core.specs.{index}
use Rattle.model_core.specs.declared.ops.Op.{Op}
use Rattle.model_core.specs.declared.ops.Op.TheVariants as op
use Rattle.model_core.specs.declared.words.Layout.{Layout}

-- which words a store of this shape has
abbrev pub shape_layout : Shape → Layout
shape_layout shape = record { pages = shape.pages; page_size = shape.page_size }

-- the words, and which there are
pub record Plain : Type 0 where
  pub layout : Layout
  pub words : List ℕ

-- a word holds its sum
abbrev pub HoldsSum : Layout → Op → List ℕ → Type 0
HoldsSum layout (op.Add w n) words = slice_index words (index layout w) + n < 2 ^ 64
HoldsSum layout _ words = Unit {0}
