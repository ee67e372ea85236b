-- The best copy of a page among the lowest slots.
use Rattle.std.proofs.Common.{◌≡◌, ℕ, zero, suc, ◌≤◌, ◌<◌, ◌⊎◌, inl, inr, List, Option, Some, None, refl, sym, subst, ◌∙◌, ⊎_elim, arith}
use Rattle.std.proofs.lemmas.Bool.{cases_lt}
use Rattle.model_base.specs.declared.shape.Shape.{Shape}
use Rattle.model_page.specs.Page.{copy_lsn}
use Rattle.model_page.specs.Fits.{HasBestCopy}

-- of the slots below the bound, this one holds the copy that counts
pub record IsBestBelow (shape : Shape) (image : List ℕ) (page bound slot lsn : ℕ) : Type 0 where
  pub below : slot < bound
  pub passes : copy_lsn shape image page slot ≡ Some lsn
  pub greatest : (other found : ℕ) → other < bound → copy_lsn shape image page other ≡ Some found → found ≤ lsn
  pub lowest : (other found : ℕ) → other < slot → copy_lsn shape image page other ≡ Some found → found < lsn

-- the best of the slots below the bound, if a copy there passes
abbrev pub IsBestSoFar : Shape → List ℕ → ℕ → ℕ → Option (ℕ × ℕ) → Type 0
IsBestSoFar shape image page bound None = (slot : ℕ) → slot < bound → copy_lsn shape image page slot ≡ None
IsBestSoFar shape image page bound (Some best) = IsBestBelow shape image page bound best.0 best.1

-- one of the slots below the bound holds the best copy there
record HasBest (shape : Shape) (image : List ℕ) (p bound : ℕ) : Type 0 where
  slot : ℕ
  lsn : ℕ
  best : IsBestBelow shape image p bound slot lsn

-- none of the slots below the bound holds a copy that passes
abbrev NoneBelow : Shape → List ℕ → ℕ → ℕ → Type 0
NoneBelow shape image p bound = (slot found : ℕ) → slot < bound → copy_lsn shape image p slot ≡ Some found → ⊥

some-same : (x y : ℕ) (o : Option ℕ) → o ≡ Some x → o ≡ Some y → x ≡ y
some-same x y o p q = let both : Some x ≡ Some y = sym p ∙ q in cc

none-some : (y : ℕ) (o : Option ℕ) → o ≡ None → o ≡ Some y → ⊥
none-some y o p q = let both : None ≡ Some y = sym p ∙ q in absurd cc

more-none : (shape : Shape) (image : List ℕ) (p bound : ℕ) (o : Option ℕ) → copy_lsn shape image p bound ≡ o → NoneBelow shape image p bound
    → HasBest shape image p (suc bound) ⊎ NoneBelow shape image p (suc bound)
more-none shape image p bound None is none =
    inr (λ slot found below passes. ⊎_elim (λ less. none slot found less passes)
    (λ not_less. let same : slot ≡ bound = omega arith in none-some found (copy_lsn shape image p bound) is (subst (λ (s : ℕ). copy_lsn shape image p s ≡ Some found) same passes)) (cases_lt slot bound))
more-none shape image p bound (Some lsn) is none =
    inl (record {
      slot = bound;
      lsn = lsn;
      best = record {
        below = omega arith;
        passes = is;
        greatest = λ other found below passes. ⊎_elim (λ less. absurd (none other found less passes))
            (λ not_less. let same : other ≡ bound = omega arith in
            let equal : found ≡ lsn = some-same found lsn (copy_lsn shape image p bound) (subst (λ (s : ℕ). copy_lsn shape image p s ≡ Some found) same passes) is in omega arith) (cases_lt other bound);
        lowest = λ other found less passes. absurd (none other found less passes);
      };
    })

more-best : (shape : Shape) (image : List ℕ) (p bound : ℕ) (o : Option ℕ) → copy_lsn shape image p bound ≡ o → HasBest shape image p bound → HasBest shape image p (suc bound)
more-best shape image p bound None is has = record {
  slot = has.slot;
  lsn = has.lsn;
  best = record {
    below = omega (arith, has.best.below);
    passes = has.best.passes;
    greatest = λ other found below passes. ⊎_elim (λ less. has.best.greatest other found less passes)
        (λ not_less. let same : other ≡ bound = omega arith in absurd (none-some found (copy_lsn shape image p bound) is (subst (λ (s : ℕ). copy_lsn shape image p s ≡ Some found) same passes))) (cases_lt other bound);
    lowest = has.best.lowest;
  };
}
more-best shape image p bound (Some lsn) is has =
    ⊎_elim (λ greater. record {
      slot = bound;
      lsn = lsn;
      best = record {
        below = omega arith;
        passes = is;
        greatest = λ other found below passes. ⊎_elim (λ less. let old : found ≤ has.lsn = has.best.greatest other found less passes in omega arith)
            (λ not_less. let same : other ≡ bound = omega arith in
            let equal : found ≡ lsn = some-same found lsn (copy_lsn shape image p bound) (subst (λ (s : ℕ). copy_lsn shape image p s ≡ Some found) same passes) is in omega arith) (cases_lt other bound);
        lowest = λ other found less passes. let old : found ≤ has.lsn = has.best.greatest other found less passes in omega arith;
      };
    })
    (λ not_greater. record {
      slot = has.slot;
      lsn = has.lsn;
      best = record {
        below = omega (arith, has.best.below);
        passes = has.best.passes;
        greatest = λ other found below passes. ⊎_elim (λ less. has.best.greatest other found less passes)
            (λ not_less. let same : other ≡ bound = omega arith in
            let equal : found ≡ lsn = some-same found lsn (copy_lsn shape image p bound) (subst (λ (s : ℕ). copy_lsn shape image p s ≡ Some found) same passes) is in omega arith) (cases_lt other bound);
        lowest = has.best.lowest;
      };
    }) (cases_lt has.lsn lsn)

best-below : (shape : Shape) (image : List ℕ) (p bound : ℕ) → HasBest shape image p bound ⊎ NoneBelow shape image p bound
best-below shape image p zero = inr (λ slot found below passes. absurd (omega arith))
best-below shape image p (suc bound) =
    ⊎_elim (λ has. inl (more-best shape image p bound (copy_lsn shape image p bound) refl has))
    (λ none. more-none shape image p bound (copy_lsn shape image p bound) refl none) (best-below shape image p bound)

-- where a copy passes there is one that counts
pub best-copy : (shape : Shape) (image : List ℕ) (p slot lsn : ℕ) → slot < shape.slots → copy_lsn shape image p slot ≡ Some lsn → HasBestCopy shape image p
best-copy shape image p slot lsn below passes =
    ⊎_elim (λ has. record { slot = has.slot; lsn = has.lsn; best = record { below = has.best.below; passes = has.best.passes; greatest = has.best.greatest; lowest = has.best.lowest } })
    (λ none. absurd (none slot lsn below passes)) (best-below shape image p shape.slots)
