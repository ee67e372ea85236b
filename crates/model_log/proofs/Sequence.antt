-- Two texts one after another: what makes them one text of their own.
use Rattle.std.proofs.Common.{◌≡◌, ℕ, List, ◌++◌, sym, ap, subst, ◌∙◌, append_assoc}

-- no text begins another, and none is the text of two values
abbrev pub OneText : {A : Type 0} → (List ℕ → A → Type 0) → Type 0
OneText {A} IsText = (s t x y : List ℕ) (a b : A) → IsText s a → IsText t b → s ++ x ≡ t ++ y → (a ≡ b) × (x ≡ y)

-- a text of two parts
pub record Parted {A B C : Type 0} (IsFirst : List ℕ → A → Type 0) (IsSecond : A → List ℕ → B → Type 0) (join : A → B → C) (text : List ℕ) (whole : C) : Type 0 where
  pub front : List ℕ
  pub back : List ℕ
  pub first : A
  pub second : B
  pub is_first : IsFirst front first
  pub is_second : IsSecond first back second
  pub spelled : text ≡ front ++ back
  pub made : whole ≡ join first second

-- the texts of one kind are those of two others, one after another
pub record IsThen {A B C : Type 0} (IsFirst : List ℕ → A → Type 0) (IsSecond : A → List ℕ → B → Type 0) (IsWhole : List ℕ → C → Type 0) (join : A → B → C) : Type 0 where
  pub joined : (front back : List ℕ) (a : A) (b : B) → IsFirst front a → IsSecond a back b → IsWhole (front ++ back) (join a b)
  pub parted : (text : List ℕ) (c : C) → IsWhole text c → Parted IsFirst IsSecond join text c
  pub goes_on : (front : List ℕ) (a : A) → IsFirst front a → (back : List ℕ) × (b : B) × IsSecond a back b

module _ {A B C : Type 0} {IsFirst : List ℕ → A → Type 0} {IsSecond : A → List ℕ → B → Type 0} {IsWhole : List ℕ → C → Type 0} {join : A → B → C} (then : IsThen IsFirst IsSecond IsWhole join) where
  pub both_one : OneText IsFirst → ((a : A) → OneText (IsSecond a)) → OneText IsWhole
  both_one one others s t x y c d is_s is_t e =
      let v = then.parted s c is_s in
      let w = then.parted t d is_t in
      let parts : v.front ++ (v.back ++ x) ≡ w.front ++ (w.back ++ y) =
      sym (append_assoc v.front v.back x) ∙ ap (λ (z : List ℕ). z ++ x) (sym v.spelled) ∙ e ∙ ap (λ (z : List ℕ). z ++ y) w.spelled ∙ append_assoc w.front w.back y in
      let first = one v.front w.front (v.back ++ x) (w.back ++ y) v.first w.first v.is_first w.is_first parts in
      let second = others w.first v.back w.back x y v.second w.second (subst (λ (z : A). IsSecond z v.back v.second) first.0 v.is_second) w.is_second first.1 in
      (v.made ∙ ap (λ (z : A). join z v.second) first.0 ∙ ap (join w.first) second.0 ∙ sym w.made, second.1)
