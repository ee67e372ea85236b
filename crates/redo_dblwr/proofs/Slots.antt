-- What a read of all slots leaves.
use Rattle.std.proofs.Common.{◌≡◌, ◌≤◌, ◌+◌, ◌-◌, ◌*◌, ℕ, List, take, drop, sym, ap, ◌∙◌, arith}
use Rattle.std.proofs.lemmas.List.{drop-take, take-take}
use Rattle.model_base.specs.declared.shape.Shape.{Shape}
use Rattle.model_parts.proofs.Rows.{row_ends}
use Rattle.model_parts.proofs.Stretches.{piece, stretch-piece}
use Rattle.model_parts.specs.{SameSlots}

-- of the first bytes a piece within them is the same
piece-front : (size o whole : ℕ) (bytes : List ℕ) → o + size ≤ whole
    → piece size o (take whole bytes) ≡ piece size o bytes
piece-front size o whole bytes inside =
    let rest : whole ≡ o + (whole - o) = omega arith in
    ap (λ k. take size (drop o (take k bytes))) rest
    ∙ ap (take size) (drop-take o (whole - o) bytes)
    ∙ take-take size (whole - o) (drop o bytes) (omega arith)

pub front-slots : (shape : Shape) (bytes out : List ℕ) (count : ℕ) → count ≡ shape.slots * shape.page_size
    → out ≡ take count (drop 0 bytes) → SameSlots shape bytes out
front-slots shape bytes out count count_is out_is slot below =
    let size : ℕ = shape.page_size in
    stretch-piece shape slot out
    ∙ ap (piece size (slot * size)) out_is
    ∙ piece-front size (slot * size) count bytes (omega (arith, row_ends slot shape.slots size below))
    ∙ sym (stretch-piece shape slot bytes)
