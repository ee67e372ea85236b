-- What the groups in the joined data say of the log that was scanned.
use Rattle.std.proofs.Common.{ℕ, List, [], ◌∷◌, Option, Some, None, subst, sym}
use Rattle.std.specs.List.{All, AllByRecursion}
use Rattle.std.proofs.lemmas.List.Elements.{All-nil, All-cons}
use Rattle.model_base.specs.declared.shape.Shape.{Shape}
use Rattle.model_log.specs.declared.group.Whole.{Whole}
use Rattle.model_log.specs.{GroupFits, groups_of}
use Rattle.model_store.specs.{IsStorable}
use Rattle.redo_recover.proofs.Rising.{each-behind}
use Rattle.redo_recover.specs.Groups.{AreParsed, EndBehindStarts}

good-fit : (shape : Shape) (wholes : List Whole) → AllByRecursion (IsStorable shape) (groups_of wholes) → All (λ whole. GroupFits shape whole.group) wholes
good-fit shape [] a = All-nil (λ whole. GroupFits shape whole.group)
good-fit shape (whole ∷ wholes) a = All-cons (λ whole. GroupFits shape whole.group) whole wholes a.0.fits (good-fit shape wholes a.1)

-- the groups fit the store
pub parsed-fit : (ckpt count : ℕ) (shape : Shape) (bytes : List ℕ) (start : Option ℕ) (wholes : List Whole) (end : ℕ)
    → AreParsed ckpt count shape bytes start wholes end → All (λ whole. GroupFits shape whole.group) wholes
parsed-fit ckpt count shape bytes None wholes end (none, at) =
    subst (λ ws. All (λ whole. GroupFits shape whole.group) ws) (sym none) (All-nil (λ whole. GroupFits shape whole.group))
parsed-fit ckpt count shape bytes (Some start) wholes end parsed = good-fit shape wholes parsed.groups.each

-- and each of them ends after its start
pub parsed-behind : (ckpt count : ℕ) (shape : Shape) (bytes : List ℕ) (start : Option ℕ) (wholes : List Whole) (end : ℕ)
    → AreParsed ckpt count shape bytes start wholes end → EndBehindStarts wholes
parsed-behind ckpt count shape bytes None wholes end (none, at) = subst EndBehindStarts (sym none) tt
parsed-behind ckpt count shape bytes (Some start) wholes end parsed = each-behind shape wholes parsed.groups.run.lengths parsed.groups.each
