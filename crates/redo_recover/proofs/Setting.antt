-- A list in which one place is set, and pages that are put one after another.
use Rattle.std.proofs.Common.{◌≡◌, ◌<◌, ◌≤◌, ◌+◌, ℕ, zero, suc, ◌⊎◌, inl, inr, List, [], ◌∷◌, length, set, Some, arith, refl, sym, ap, subst, ◌∙◌}
use Rattle.std.specs.List.{slice_get}
use Rattle.std.proofs.lemmas.Option.{slice_get_within}
use Rattle.model_base.specs.declared.shape.Shape.{Shape}
use Rattle.model_page.specs.declared.content.Content.{Content}
use Rattle.redo_apply.specs.{ArePagesOf}

-- a place that was set holds what was put there, and each other what it held
pub slice_get-set : (xs : List Content) (i : ℕ) (v : Content) (p : ℕ) (x : Content) → slice_get (set xs i v) p ≡ Some x
    → ((p ≡ i) × (x ≡ v)) ⊎ ((p ≡ i → ⊥) × (slice_get xs p ≡ Some x))
slice_get-set [] i v p x e = absurd cc
slice_get-set (y ∷ ys) zero v zero x e = inl (refl, cc)
slice_get-set (y ∷ ys) zero v (suc p) x e = inr (λ same. omega arith, e)
slice_get-set (y ∷ ys) (suc i) v zero x e = inr (λ same. omega arith, e)
slice_get-set (y ∷ ys) (suc i) v (suc p) x e =
    elim (slice_get-set ys i v p x e) [
      | inl (same, is) ↦ inl (ap suc same, is)
      | inr (other, is) ↦ inr (λ same. other (omega arith), is)
    ]

-- the pages of a store, those of which below this number have the property of their numbers
pub record AreFirst (P : ℕ → Content → Type 0) (shape : Shape) (count : ℕ) (pages : List Content) : Type 0 where
  pub its_pages : ArePagesOf shape pages
  pub each : (p : ℕ) (page : Content) → p < count → slice_get pages p ≡ Some page → P p page

pub first-put : (P : ℕ → Content → Type 0) (shape : Shape) (count : ℕ) (pages new : List Content) (put : Content)
    → AreFirst P shape count pages → P count put → new ≡ set pages count put → ArePagesOf shape new
    → AreFirst P shape (count + 1) new
first-put P shape count pages new put a is new_is its = record {
  its_pages = its;
  each = λ p page h at.
      elim (slice_get-set pages count put p page (ap (λ xs. slice_get xs p) (sym new_is) ∙ at)) [
        | inl (same, page_is) ↦ subst (λ q. P q page) (sym same) (subst (λ (c : Content). P count c) (sym page_is) is)
        | inr (other, there) ↦ a.each p page (omega (arith, other)) there
      ];
}

pub all-first : (P : ℕ → Content → Type 0) (shape : Shape) (pages : List Content) (count : ℕ)
    → AreFirst P shape count pages → shape.pages ≤ count
    → (p : ℕ) (page : Content) → slice_get pages p ≡ Some page → P p page
all-first P shape pages count a all p page at =
    let within : p < length pages = slice_get_within pages p page at in
    a.each p page (omega (arith, a.its_pages.count)) at
