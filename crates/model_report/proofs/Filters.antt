-- Where the elements that pass a test stand.
use Rattle.std.proofs.Common.{ℕ, zero, suc, ◌≡◌, Bool, true, false, cond, List, [], ◌∷◌, Some, filter, slice_get, refl, ap, sym, ◌∙◌}

module _ {X : Type 0} (p : X → Bool) where
  place-by : (y : X) (ys : List X) (i : ℕ) (x : X) (b : Bool) → p y ≡ b → slice_get (filter p (y ∷ ys)) i ≡ Some x
      → ((i : ℕ) → slice_get (filter p ys) i ≡ Some x → (j : ℕ) × (slice_get ys j ≡ Some x)) → (j : ℕ) × (slice_get (y ∷ ys) j ≡ Some x)
  place-by y ys zero x true passes found place =
      (0, ap (λ (zs : List X). slice_get zs 0) (sym (ap (λ b. cond b (y ∷ filter p ys) (filter p ys)) passes)) ∙ found)
  place-by y ys (suc i) x true passes found place =
      let others = place i (ap (λ (zs : List X). slice_get zs (suc i)) (sym (ap (λ b. cond b (y ∷ filter p ys) (filter p ys)) passes)) ∙ found) in
      (suc others.0, others.1)
  place-by y ys i x false fails found place =
      let others = place i (ap (λ (zs : List X). slice_get zs i) (sym (ap (λ b. cond b (y ∷ filter p ys) (filter p ys)) fails)) ∙ found) in
      (suc others.0, others.1)

  -- an element that passes stands somewhere in the list
  pub filter-place : (xs : List X) (i : ℕ) (x : X) → slice_get (filter p xs) i ≡ Some x → (j : ℕ) × (slice_get xs j ≡ Some x)
  filter-place [] i x found = absurd (cc)
  filter-place (y ∷ ys) i x found = place-by y ys i x (p y) refl found (λ i found. filter-place ys i x found)
