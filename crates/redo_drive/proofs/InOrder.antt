-- A list of entries that ascends by its starts is known by its sums: two such lists are one if each number of an entry has the
-- same sum over both, and the starts of one are apart.
use Rattle.std.proofs.Common.{Bool, List, [], ap, arith, cond, eq-eqb, eqb, get_or, length, ne_eqb, refl, suc, sym, ℕ, ◌+◌, ◌<◌, ◌∙◌, ◌∷◌, ◌≡◌, ◌≢◌, ◌≤◌}
use Rattle.std.proofs.lemmas.List.Sorted.{sum_by-IsPermutation}
use Rattle.std.proofs.lemmas.List.Sums.{sum_by-cons}
use Rattle.std.specs.List.{sum_by}
use Rattle.std.specs.List.Sorted.{IsNonDecreasingBy, IsPermutation}
use native.Mathlib.Decide.{dec_le, ℕ_discrete}
use Rattle.model_report.specs.declared.entry.Entry.{Entry}
use Rattle.model_report.specs.declared.entry.State.{State}
use Rattle.model_report.specs.declared.entry.State.TheVariants.{Copied, Flushed, Lost, Written}

-- a number of each entry, added up
abbrev pub total : (Entry → ℕ) → List Entry → ℕ
total f [] = 0
total f (x ∷ xs) = f x + total f xs

total_is : (f : Entry → ℕ) (xs : List Entry) → sum_by f xs ≡ total f xs
total_is f [] = refl
total_is f (x ∷ xs) = sum_by-cons f x xs ∙ ap (λ (n : ℕ). f x + n) (total_is f xs)

pub total_moved : (f : Entry → ℕ) (xs ys : List Entry) → IsPermutation xs ys → total f ys ≡ total f xs
total_moved f xs ys moved = sym (total_is f ys) ∙ sum_by-IsPermutation f xs ys moved ∙ total_is f xs

-- none starts below n, and each starts no earlier than the one before it, or later
abbrev Ascends : ℕ → List Entry → Type 0
Ascends n [] = Unit {0}
Ascends n (x ∷ xs) = (n ≤ x.start) × Ascends x.start xs

abbrev pub Rises : ℕ → List Entry → Type 0
Rises n [] = Unit {0}
Rises n (x ∷ xs) = (n ≤ x.start) × Rises (x.start + 1) xs

ascending : (n : ℕ) (xs : List Entry) → ((d : Entry) → 0 < length xs → n ≤ (get_or xs 0 d).start) → IsNonDecreasingBy (λ (e : Entry). e.start) xs → Ascends n xs
ascending n [] low up = tt
ascending n (x ∷ xs) low up = (low x (omega arith), ascending x.start xs (λ d l. up 0 1 d (omega arith) (omega arith)) (λ i j d l m. up (suc i) (suc j) d (omega arith) (omega arith)))

-- a number of the entries that start there
abbrev at : ℕ → (Entry → ℕ) → Entry → ℕ
at s f e = cond (eqb e.start s) (f e) 0

abbrev one : Entry → ℕ
one e = 1

here : (s : ℕ) (f : Entry → ℕ) (e : Entry) → e.start ≡ s → at s f e ≡ f e
here s f e is = ap (λ (b : Bool). let k : ℕ = cond b (f e) 0 in k) (eq-eqb e.start s is)

elsewhere : (s : ℕ) (f : Entry → ℕ) (e : Entry) → e.start ≢ s → at s f e ≡ 0
elsewhere s f e other = ap (λ (b : Bool). let k : ℕ = cond b (f e) 0 in k) (ne_eqb e.start s other)

none_before : (s n : ℕ) (xs : List Entry) → s < n → Ascends n xs → total (at s one) xs ≡ 0
none_before s n [] l up = refl
none_before s n (x ∷ xs) l up =
    let low = up.0 in
    let a = elsewhere s one x (λ e. absurd (omega arith)) in
    let r = none_before s x.start xs (omega arith) up.1 in
    omega arith

rises_ascends : (n m : ℕ) (xs : List Entry) → n ≤ m → Rises m xs → Ascends n xs
rises_ascends n m [] l up = tt
rises_ascends n m (x ∷ xs) l up = let low = up.0 in (omega arith, rises_ascends x.start (x.start + 1) xs (omega arith) up.1)

-- where none starts there, no number of those that do is more than 0
nothing_there : (s : ℕ) (f : Entry → ℕ) (xs : List Entry) → total (at s one) xs ≡ 0 → total (at s f) xs ≡ 0
nothing_there s f [] none = refl
nothing_there s f (x ∷ xs) none = elim (ℕ_discrete x.start s) [
  | yes e ↦ (let a = here s one x e in absurd (omega arith))
  | no n ↦ (let a = elsewhere s f x n in let r = nothing_there s f xs (omega arith) in omega arith)
]

abbrev code : State → ℕ
code Lost = 0
code Flushed = 1
code Written = 2
code Copied = 3

same_state : (a b : State) → code a ≡ code b → a ≡ b
same_state Lost Lost e = refl
same_state Flushed Flushed e = refl
same_state Written Written e = refl
same_state Copied Copied e = refl
same_state Lost Flushed e = absurd (omega arith)
same_state Lost Written e = absurd (omega arith)
same_state Lost Copied e = absurd (omega arith)
same_state Flushed Lost e = absurd (omega arith)
same_state Flushed Written e = absurd (omega arith)
same_state Flushed Copied e = absurd (omega arith)
same_state Written Lost e = absurd (omega arith)
same_state Written Flushed e = absurd (omega arith)
same_state Written Copied e = absurd (omega arith)
same_state Copied Lost e = absurd (omega arith)
same_state Copied Flushed e = absurd (omega arith)
same_state Copied Written e = absurd (omega arith)

entry_same : (user k start end user_y k_y start_y end_y : ℕ) (state state_y : State) → user ≡ user_y → k ≡ k_y → start ≡ start_y → end ≡ end_y → state ≡ state_y
    → ◌≡◌ {A = Entry} (record { user = user; k = k; start = start; end = end; state = state }) (record { user = user_y; k = k_y; start = start_y; end = end_y; state = state_y })
entry_same user k start end user_y k_y start_y end_y state state_y same_user same_k same_start same_end same_state = cc

module _ (x y : Entry) (xs ys : List Entry) (up : Ascends x.start xs) (rises : Rises (y.start + 1) ys) (sums : (f : Entry → ℕ) → total f (x ∷ xs) ≡ total f (y ∷ ys)) where
  -- the first entry of each starts first
  same_start : x.start ≡ y.start
  same_start =
      let s : at x.start one x + total (at x.start one) xs ≡ at x.start one y + total (at x.start one) ys = sums (at x.start one) in
      let t : at y.start one x + total (at y.start one) xs ≡ at y.start one y + total (at y.start one) ys = sums (at y.start one) in
      let a = here x.start one x refl in
      let b = here y.start one y refl in
      elim (dec_le x.start y.start) [
        | yes d ↦ elim (dec_le y.start x.start) [
          | yes e ↦ omega arith
          | no e ↦ (let o = elsewhere x.start one y (λ same. absurd (omega arith)) in let n = none_before x.start (y.start + 1) ys (omega arith) (rises_ascends (y.start + 1) (y.start + 1) ys (omega arith) rises) in absurd (omega arith))
        ]
        | no d ↦ (let o = elsewhere y.start one x (λ same. absurd (omega arith)) in let n = none_before y.start x.start xs (omega arith) up in absurd (omega arith))
      ]

  -- so each number of it is the same, since no other starts there
  same_number : (f : Entry → ℕ) → f x ≡ f y
  same_number f =
      let e = same_start in
      let s : at y.start one x + total (at y.start one) xs ≡ at y.start one y + total (at y.start one) ys = sums (at y.start one) in
      let t : at y.start f x + total (at y.start f) xs ≡ at y.start f y + total (at y.start f) ys = sums (at y.start f) in
      let a = here y.start one x e in
      let b = here y.start one y refl in
      let none_y = none_before y.start (y.start + 1) ys (omega arith) (rises_ascends (y.start + 1) (y.start + 1) ys (omega arith) rises) in
      let p = nothing_there y.start f xs (omega arith) in
      let q = nothing_there y.start f ys none_y in
      let v = here y.start f x e in
      let w = here y.start f y refl in
      omega arith

  same_first : ◌≡◌ {A = Entry} x y
  same_first =
      entry_same x.user x.k x.start x.end y.user y.k y.start y.end x.state y.state (same_number (λ e. e.user)) (same_number (λ e. e.k)) same_start (same_number (λ e. e.end))
      (same_state x.state y.state (same_number (λ e. code e.state)))

  same_sums : (f : Entry → ℕ) → total f xs ≡ total f ys
  same_sums f = let s : f x + total f xs ≡ f y + total f ys = sums f in let n = same_number f in omega arith

same_list : (n m : ℕ) (xs ys : List Entry) → Ascends n xs → Rises m ys → ((f : Entry → ℕ) → total f xs ≡ total f ys) → ◌≡◌ {A = List Entry} xs ys
same_list n m [] [] up rises sums = refl
same_list n m [] (y ∷ ys) up rises sums = absurd (let s = sums one in omega arith)
same_list n m (x ∷ xs) [] up rises sums = absurd (let s = sums one in omega arith)
same_list n m (x ∷ xs) (y ∷ ys) up rises sums =
    ap (λ (e : Entry). e ∷ xs) (same_first x y xs ys up.1 rises.1 sums) ∙ ap (λ (es : List Entry). y ∷ es) (same_list x.start (y.start + 1) xs ys up.1 rises.1 (same_sums x y xs ys up.1 rises.1 sums))

pub same_in_order : (m : ℕ) (xs ys : List Entry) → IsNonDecreasingBy (λ (e : Entry). e.start) xs → Rises m ys → ((f : Entry → ℕ) → total f xs ≡ total f ys) → ◌≡◌ {A = List Entry} xs ys
same_in_order m xs ys up rises sums = same_list 0 m xs ys (ascending 0 xs (λ d l. omega arith) up) rises sums
