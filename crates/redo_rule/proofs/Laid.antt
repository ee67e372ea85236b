-- What comes out of the slots, the last one first.
use Rattle.std.proofs.Common.{List, [], ap, arith, length, length-append, refl, sym, ℕ, ◌++◌, ◌∙◌, ◌∷◌, ◌≡◌}
use Rattle.redo_drive.specs.{listing_at, Listings}
use Rattle.redo_flushlist.specs.{Listing}
use Rattle.redo_rule.specs.Sharing.{laid}
use Rattle.redo_rule.specs.declared.law.Desk.{Desk}
use Rattle.redo_rule.specs.declared.law.Slot.{Slot}
use Rattle.redo_rule.specs.declared.law.Slot.TheVariants as slot
use Rattle.redo_store.specs.Part as store

abbrev last_of : {A : Type 0} → A → List A → A
last_of d [] = d
last_of d (x ∷ xs) = last_of x xs

last_snoc : {A : Type 0} (d : A) (xs : List A) (x : A) → last_of d (xs ++ x ∷ []) ≡ x
last_snoc d [] x = refl
last_snoc d (y ∷ ys) x = last_snoc y ys x

abbrev init_from : {A : Type 0} → A → List A → List A
init_from x [] = []
init_from x (y ∷ ys) = x ∷ init_from y ys

abbrev init_of : {A : Type 0} → List A → List A
init_of [] = []
init_of (x ∷ xs) = init_from x xs

init_from_snoc : {A : Type 0} (x : A) (ys : List A) (y : A) → init_from x (ys ++ y ∷ []) ≡ x ∷ ys
init_from_snoc x [] y = refl
init_from_snoc {A} x (z ∷ zs) y = ap (λ (l : List A). x ∷ l) (init_from_snoc z zs y)

init_snoc : {A : Type 0} (xs : List A) (x : A) → init_of (xs ++ x ∷ []) ≡ xs
init_snoc [] x = refl
init_snoc (y ∷ ys) x = init_from_snoc y ys x

-- the last element of a list that is known, and the others
last_is : {A : Type 0} (l r k : List A) (x d : A) → l ≡ k → l ≡ r ++ x ∷ [] → x ≡ last_of d k
last_is l r k x d known e = sym (last_snoc d r x) ∙ ap (last_of d) (sym e ∙ known)

rest_is : {A : Type 0} (l r k : List A) (x : A) → l ≡ k → l ≡ r ++ x ∷ [] → r ≡ init_of k
rest_is l r k x known e = sym (init_snoc r x) ∙ ap init_of (sym e ∙ known)

-- what six values in a row are, and what four lists are that are taken off their end
pub six : {A : Type 0} (t u v w x y : A) (a b c d e f g : List A) → a ≡ [] → b ≡ a ++ t ∷ [] → c ≡ b ++ u ∷ [] → d ≡ c
    ++ v ∷ []
    → e ≡ d ++ w ∷ [] → f ≡ e ++ x ∷ [] → g ≡ f ++ y ∷ [] → ◌≡◌ {A = List A} g (t ∷ u ∷ v ∷ w ∷ x ∷ y ∷ [])
six {A} t u v w x y a b c d e f g none p q r s h k =
    let after : A → List A → List A = λ z l. l ++ z ∷ [] in
    k ∙ ap (after y) (h ∙ ap (after x) (s ∙ ap (after w) (r ∙ ap (after v) (q ∙ ap (after u) (p ∙ ap (after t) none)))))

pub four : {A : Type 0} (t u v w : A) (a b c d e : List A) → length a ≡ 4 → a ≡ b ++ w ∷ [] → b ≡ c ++ v ∷ [] → c ≡ d
    ++ u ∷ []
    → d ≡ e ++ t ∷ [] → ◌≡◌ {A = List A} a (t ∷ u ∷ v ∷ w ∷ [])
four {A} t u v w a b c d e long p q r s =
    let after : A → List A → List A = λ z l. l ++ z ∷ [] in
    let short : length e ≡ 0 = omega (
      arith,
      long,
      ap length p,
      length-append b (w ∷ []),
      ap length q,
      length-append c (v ∷ []),
      ap length r,
      length-append d (u ∷ []),
      ap length s,
      length-append e (t ∷ []),
    ) in
    p ∙ ap (after w) (q ∙ ap (after v) (r ∙ ap (after u) (s ∙ ap (after t) (nothing e short))))
  where
    nothing : {A : Type 0} (l : List A) → length l ≡ 0 → ◌≡◌ {A = List A} l []
    nothing [] e = refl
    nothing (x ∷ xs) e = absurd (omega arith)

-- the lists in their slots
pub in_slots : {L D : Type 0} (desk : Desk L) (stored : store.Part D) (lists : Listings) (a b c d : Listing)
    → ◌≡◌ {A = List Listing} lists.lists (a ∷ b ∷ c ∷ d ∷ [])
    → ◌≡◌ {A = List (Slot L D)} (slot.Log desk ∷ slot.Pages a ∷ slot.Pages b ∷ slot.Pages c ∷ slot.Pages d ∷ slot.Data
    stored ∷ [])
    (laid desk lists stored)
in_slots {L} {D} desk stored lists a b c d are = sym (ap {B = List (Slot L D)} (λ (l : List Listing). slot.Log desk
    ∷ slot.Pages (listing_at l 0) ∷ slot.Pages (listing_at l 1) ∷ slot.Pages (listing_at l 2) ∷ slot.Pages (listing_at
    l 3)
    ∷ slot.Data stored ∷ []) are)

module _ {L D : Type 0} (desk : Desk L) (lists : Listings) (stored : store.Part D) (a b c d e f g : List (Slot L D))
    (t u v w x y : Slot L D) (is : a ≡ laid desk lists stored)
    (p : a ≡ b ++ t ∷ []) (q : b ≡ c ++ u ∷ []) (r : c ≡ d ++ v ∷ []) (s : d ≡ e ++ w ∷ []) (h : e ≡ f ++ x ∷ []) (k : f ≡ g ++ y ∷ []) where
  abbrev at : ℕ → Slot L D
  at i = slot.Pages (listing_at lists.lists i)

  abbrev first : Slot L D
  first = slot.Log desk

  b_is : b ≡ first ∷ at 0 ∷ at 1 ∷ at 2 ∷ at 3 ∷ []
  b_is = rest_is a b (laid desk lists stored) t is p

  c_is : c ≡ first ∷ at 0 ∷ at 1 ∷ at 2 ∷ []
  c_is = rest_is b c (first ∷ at 0 ∷ at 1 ∷ at 2 ∷ at 3 ∷ []) u b_is q

  d_is : d ≡ first ∷ at 0 ∷ at 1 ∷ []
  d_is = rest_is c d (first ∷ at 0 ∷ at 1 ∷ at 2 ∷ []) v c_is r

  e_is : e ≡ first ∷ at 0 ∷ []
  e_is = rest_is d e (first ∷ at 0 ∷ at 1 ∷ []) w d_is s

  f_is : f ≡ first ∷ []
  f_is = rest_is e f (first ∷ at 0 ∷ []) x e_is h

  pub data_last : ◌≡◌ {A = Slot L D} t (slot.Data stored)
  data_last = last_is a b (laid desk lists stored) t first is p

  pub list_last : ◌≡◌ {A = Slot L D} u (at 3)
  list_last = last_is b c (first ∷ at 0 ∷ at 1 ∷ at 2 ∷ at 3 ∷ []) u first b_is q

  pub third_list : ◌≡◌ {A = Slot L D} v (at 2)
  third_list = last_is c d (first ∷ at 0 ∷ at 1 ∷ at 2 ∷ []) v first c_is r

  pub second_list : ◌≡◌ {A = Slot L D} w (at 1)
  second_list = last_is d e (first ∷ at 0 ∷ at 1 ∷ []) w first d_is s

  pub first_list : ◌≡◌ {A = Slot L D} x (at 0)
  first_list = last_is e f (first ∷ at 0 ∷ []) x first e_is h

  pub log_last : ◌≡◌ {A = Slot L D} y first
  log_last = last_is f g (first ∷ []) y first f_is k
