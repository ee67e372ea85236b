-- The zeros at the end of bytes.
use Rattle.std.proofs.Common.{ℕ, ◌≡◌, ◌≢◌, ◌+◌, ◌<◌, List, [], ◌∷◌, ◌++◌, length, take, get_or, refl, ap, sym, ◌∙◌, rules, tests}
use Rattle.std.proofs.lemmas.List.{take_more}
use Rattle.model_report.specs.{onto_trimmed, trimmed}

trimmed-push_zero : (xs : List ℕ) → trimmed (xs ++ 0 ∷ []) ≡ trimmed xs
trimmed-push_zero [] = refl
trimmed-push_zero (x ∷ xs) = ap (onto_trimmed x) (trimmed-push_zero xs)

onto_trimmed-push : (x y : ℕ) (xs : List ℕ) → onto_trimmed x (xs ++ y ∷ []) ≡ x ∷ (xs ++ y ∷ [])
onto_trimmed-push x y [] = refl
onto_trimmed-push x y (z ∷ xs) = refl

trimmed-push : (xs : List ℕ) (y : ℕ) → y ≢ 0 → trimmed (xs ++ y ∷ []) ≡ xs ++ y ∷ []
trimmed-push [] y some = search (rules, tests)
trimmed-push (x ∷ xs) y some = ap (onto_trimmed x) (trimmed-push xs y some) ∙ onto_trimmed-push x y xs

-- a last byte that is 0 adds nothing
pub trimmed_zero : (bytes : List ℕ) (used last : ℕ) → used ≡ last + 1 → last < length bytes → get_or bytes last 0 ≡ 0 → trimmed (take last bytes) ≡ trimmed (take used bytes)
trimmed_zero bytes used last next short zero =
    let more : take (last + 1) bytes ≡ take last bytes ++ get_or bytes last 0 ∷ [] = take_more bytes last 0 short in
    rw (next, more, zero) (sym (trimmed-push_zero (take last bytes)))

-- a last byte that isn't 0 stays
pub trimmed_some : (bytes : List ℕ) (used last : ℕ) → used ≡ last + 1 → last < length bytes → get_or bytes last 0 ≢ 0 → trimmed (take used bytes) ≡ take used bytes
trimmed_some bytes used last next short other =
    let more : take (last + 1) bytes ≡ take last bytes ++ get_or bytes last 0 ∷ [] = take_more bytes last 0 short in
    rw (next, more) (trimmed-push (take last bytes) (get_or bytes last 0) other)
