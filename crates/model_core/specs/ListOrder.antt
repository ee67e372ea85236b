-- The order of a flush list, and the lsn that stands with a page in it.
use Rattle.std.specs.Prelude.{List, [], cond, ℕ, ◌+◌, ◌<◌, ◌==◌, ◌∷◌}
use Rattle.model_core.specs.declared.limits.TheConstants.{CLOSED_LINKS}
use Rattle.model_core.specs.Program.{Listed}

-- the lsn that stands with a page, 0 where it isn't in the list
abbrev pub oldest_of : ℕ → List Listed → ℕ
oldest_of p [] = 0
oldest_of p (x ∷ xs) = cond (x.page == p) x.oldest (oldest_of p xs)

abbrev pub Each : (Listed → Type 0) → List Listed → Type 0
Each P [] = Unit {0}
Each P (x ∷ xs) = P x × Each P xs

-- an earlier lsn is below every later one plus 16,384
abbrev pub Relaxed : List Listed → Type 0
Relaxed [] = Unit {0}
Relaxed (x ∷ xs) = Each (λ y. x.oldest < y.oldest + CLOSED_LINKS) xs × Relaxed xs
