-- Ops beside the archive.
use Rattle.model_core.specs.declared.ops.Op.{Op}
use Rattle.model_core.specs.declared.ops.Op.TheVariants as op

-- the Op appends nothing
abbrev pub IsNoAppend : Op → Type 0
IsNoAppend (op.Append x) = ⊥
IsNoAppend _ = Unit {0}
