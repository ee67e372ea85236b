-- The checkpoint that opening makes by the format that was found.
use Rattle.std.specs.Prelude.{ℕ, List}
use Rattle.model_base.specs.declared.shape.Shape.{Shape}
use Rattle.model_log.specs.{checkpoint_text, layout_of}
use Rattle.model_log.specs.declared.head.Format.{Format}
use Rattle.model_parts.specs.{next_number}

-- the checkpoint after the one of this number, by the layout of the format
abbrev pub next_text : Format → Shape → ℕ → ℕ → List ℕ
next_text format shape number lsn = checkpoint_text (next_number number) lsn (layout_of format shape)
