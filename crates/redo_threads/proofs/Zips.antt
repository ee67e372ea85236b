-- Two lists, element by element: what holds of them holds where an element is taken out, put in or set.
use Rattle.std.proofs.Common.{List, [], arith, get_or, length, refl, set, subst, suc, sym, zero, ℕ, ◌<◌, ◌∷◌, ◌≡◌}
use Rattle.std.specs.List.{AllZip, insert, remove}
use lib.ListN.{get_elem?}
use mathlib.Core.Option as maybe

module _ {A : Type 0} (R : A → A → Type 0) where
  pub zip_trans : ((x y z : A) → R x y → R y z → R x z) → (xs ys zs : List A)
      → AllZip R xs ys → AllZip R ys zs → AllZip R xs zs
  zip_trans join [] [] [] h k = tt
  zip_trans join [] [] (z ∷ zs) h k = absurd k
  zip_trans join [] (y ∷ ys) zs h k = absurd h
  zip_trans join (x ∷ xs) [] zs h k = absurd h
  zip_trans join (x ∷ xs) (y ∷ ys) [] h k = absurd k
  zip_trans join (x ∷ xs) (y ∷ ys) (z ∷ zs) h k = (join x y z h.0 k.0, zip_trans join xs ys zs h.1 k.1)

module _ {A B : Type 0} (R : A → B → Type 0) where
  -- from what holds at each place
  pub zip_of : (xs : List A) (ys : List B) → length xs ≡ length ys
      → ((i : ℕ) (x : A) (y : B) → get_elem? xs i ≡ maybe.some x → get_elem? ys i ≡ maybe.some y → R x y)
      → AllZip R xs ys
  zip_of [] [] e k = tt
  zip_of [] (y ∷ ys) e k = absurd (omega arith)
  zip_of (x ∷ xs) [] e k = absurd (omega arith)
  zip_of (x ∷ xs) (y ∷ ys) e k = (k zero x y refl refl, zip_of xs ys (omega arith) (λ i u v a b. k (suc i) u v a b))

  -- what stands in the first list where something stands in the second
  pub zip_back : (xs : List A) (ys : List B) (i : ℕ) (y : B) → AllZip R xs ys → get_elem? ys i ≡ maybe.some y
      → (x : A) × (get_elem? xs i ≡ maybe.some x) × R x y
  zip_back xs [] i y h b = absurd (maybe.some-ne-none y (sym b))
  zip_back [] (v ∷ ys) i y h b = absurd h
  zip_back (u ∷ xs) (v ∷ ys) zero y h b = (u, refl, subst (λ z. R u z) (maybe.some-injective v y b) h.0)
  zip_back (u ∷ xs) (v ∷ ys) (suc i) y h b = zip_back xs ys i y h.1 b

  pub zip_removed : (xs : List A) (ys : List B) (n : ℕ) → AllZip R xs ys → AllZip R (remove xs n) (remove ys n)
  zip_removed [] [] zero h = tt
  zip_removed [] [] (suc n) h = tt
  zip_removed [] (y ∷ ys) n h = absurd h
  zip_removed (x ∷ xs) [] n h = absurd h
  zip_removed (x ∷ xs) (y ∷ ys) zero h = h.1
  zip_removed (x ∷ xs) (y ∷ ys) (suc n) h = (h.0, zip_removed xs ys n h.1)

  -- the one that was taken out is put back
  pub zip_put_back : (xs : List A) (ys : List B) (n : ℕ) (a : A) (b : B) → AllZip R (remove xs n) ys → n < length xs
      → a ≡ get_or xs n a → R a b → AllZip R xs (insert ys n b)
  zip_put_back [] ys n a b h less e r = absurd (omega arith)
  zip_put_back (x ∷ xs) ys zero a b h less e r = (subst (λ z. R z b) e r, h)
  zip_put_back (x ∷ xs) [] (suc n) a b h less e r = absurd h
  zip_put_back (x ∷ xs) (y ∷ ys) (suc n) a b h less e r = (h.0, zip_put_back xs ys n a b h.1 (omega arith) e r)

  -- one of the second list goes on
  pub zip_goes : (xs : List A) (ys : List B) (n : ℕ) (d b : B) → AllZip R xs ys → n < length ys → d ≡ get_or ys n d
      → ((x : A) → R x d → R x b) → AllZip R xs (set ys n b)
  zip_goes [] [] n d b h less e k = absurd (omega arith)
  zip_goes [] (y ∷ ys) n d b h less e k = absurd h
  zip_goes (x ∷ xs) [] n d b h less e k = absurd h
  zip_goes (x ∷ xs) (y ∷ ys) zero d b h less e k = (k x (subst (λ z. R x z) (sym e) h.0), h.1)
  zip_goes (x ∷ xs) (y ∷ ys) (suc n) d b h less e k = (h.0, zip_goes xs ys n d b h.1 (omega arith) e k)
