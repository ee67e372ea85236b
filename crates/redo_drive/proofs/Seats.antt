-- The users that have lines, in their seats.
use Rattle.std.proofs.Common.{Bool, List, [], ap, append-nil, arith, cond, eqb, false, inl, inr, length, length-append, map, refl, subst, suc, sym, true, zero, ℕ, ⊎_elim, ◌++◌, ◌+◌, ◌<◌, ◌∙◌, ◌∷◌, ◌≡◌, ◌≤◌, ◌⊎◌}
use Rattle.std.proofs.lemmas.Bool.{eq-eqb, eqb-false, ne_eqb}
use Rattle.std.proofs.lemmas.List.{map-append}
use lib.ListN.{get_elem?}
use mathlib.Core.Option.{some, some-injective, some-ne-none}
use native.Mathlib.Decide.{dec_le, ℕ_discrete}
use Rattle.model_core.proofs.Collected.{collected_next, collected_none}
use Rattle.model_core.specs.{Actor, collected, Line, new_user, UserState}
use Rattle.model_core.proofs.Lists.{at_last, at_longer}
use Rattle.model_core.specs.States as actor
use Rattle.redo_drive.specs.Setups.{user_of, users_below}

-- one element more: what stands there stood there before, or is the new one
pub at_more : {A : Type 0} (l : List A) (a b : A) (j : ℕ) → get_elem? (l ++ a ∷ []) j ≡ some b → (get_elem? l j ≡ some b) ⊎ ((j ≡ length l) × (a ≡ b))
at_more [] a b zero e = inr (refl, some-injective a b e)
at_more [] a b (suc j) e = absurd (some-ne-none b (sym e))
at_more (x ∷ xs) a b zero e = inl e
at_more (x ∷ xs) a b (suc j) e = ⊎_elim (λ z. inl z) (λ z. inr (ap suc z.0, z.1)) (at_more xs a b j e)

-- what stands in two lists joined stands in the one or in the other
pub at_either : {A : Type 0} (l m : List A) (b : A) (j : ℕ) → get_elem? (l ++ m) j ≡ some b → (get_elem? l j ≡ some b) ⊎ ((i : ℕ) × (j ≡ length l + i) × (get_elem? m i ≡ some b))
at_either [] m b j e = inr (j, omega arith, e)
at_either (x ∷ xs) m b zero e = inl e
at_either (x ∷ xs) m b (suc j) e = ⊎_elim (λ z. inl z) (λ z. inr (z.0, (let k = z.1 in omega arith), z.2)) (at_either xs m b j e)

-- an actor among the users is one of them
pub user_at : (users : List UserState) (j : ℕ) (a : Actor) → get_elem? (map actor.User users) j ≡ some a → (u : UserState) × (actor.User u ≡ a) × (get_elem? users j ≡ some u)
user_at [] j a e = absurd (some-ne-none a (sym e))
user_at (u ∷ users) zero a e = (u, some-injective (actor.User u) a e, refl)
user_at (u ∷ users) (suc j) a e = user_at users j a e

module _ (blocks : ℕ) (programs : ℕ → List Line) where
  abbrev below : ℕ → List UserState
  below n = users_below blocks programs n

  abbrev user : ℕ → UserState
  user n = new_user n blocks (programs n)

  one_more : (n : ℕ) → 0 < length (programs n) → below (n + 1) ≡ below n ++ user n ∷ []
  one_more n some_lines = collected_next (user_of blocks programs) n
      ∙ ap (λ (b : Bool). let l : List UserState = below n ++ cond b [] (user n ∷ []) in l) (ne_eqb (length (programs n)) 0 (λ none. omega arith))

  none_more : (n : ℕ) → length (programs n) ≡ 0 → below (n + 1) ≡ below n
  none_more n none = collected_next (user_of blocks programs) n
      ∙ ap (λ (b : Bool). let l : List UserState = below n ++ cond b [] (user n ∷ []) in l) (eq-eqb (length (programs n)) 0 none) ∙ append-nil (below n)

  -- the first number that may be a user's
  pub none_first : length (programs 0) ≡ 0 → map actor.User (below 1) ≡ []
  none_first none = ap (map actor.User) (none_more 0 none ∙ collected_none (user_of blocks programs))

  -- one seat more
  pub one_seated : (n : ℕ) (actors : List Actor) → 0 < length (programs n) → actors ≡ map actor.User (below n) → actors ++ actor.User (user n) ∷ [] ≡ map actor.User (below (n + 1))
  one_seated n actors some_lines are =
      ap (λ (l : List Actor). l ++ actor.User (user n) ∷ []) are ∙ sym (ap (map actor.User) (one_more n some_lines) ∙ map-append actor.User (below n) (user n ∷ []))

  pub none_seated : (n : ℕ) (actors : List Actor) → length (programs n) ≡ 0 → actors ≡ map actor.User (below n) → actors ≡ map actor.User (below (n + 1))
  none_seated n actors none are = are ∙ sym (ap (map actor.User) (none_more n none))

  -- a user in a seat: it is a new one that has lines, and before it are as many as have lesser numbers
  pub record HasSeat (n seat : ℕ) (u : UserState) : Type 0 where
    pub low : u.user < n
    pub is : u ≡ user u.user
    pub some_lines : 0 < length (programs u.user)
    pub before : length (below u.user) ≡ seat

  pub seated : (n seat : ℕ) (u : UserState) → get_elem? (below n) seat ≡ some u → HasSeat n seat u
  unfolding collected
  seated zero seat u at = absurd (some-ne-none u (sym at))
  seated (suc n) seat u at = by (eqb (length (programs n)) 0) (λ is. eqb-false (length (programs n)) 0 is) (λ it. seated n seat u it) at
    where
      by : (b : Bool) → (b ≡ false → length (programs n) ≡ 0 → ⊥) → (get_elem? (below n) seat ≡ some u → HasSeat n seat u)
          → get_elem? (below n ++ cond b [] (user n ∷ [])) seat ≡ some u → HasSeat (suc n) seat u
      by true some_lines lesser it = let old = lesser (subst (λ (l : List UserState). get_elem? l seat ≡ some u) (append-nil (below n)) it) in
          record { low = (let k = old.low in omega arith); is = old.is; some_lines = old.some_lines; before = old.before }
      by false some_lines lesser it = ⊎_elim
          (λ z. let old = lesser z in record { low = (let k = old.low in omega arith); is = old.is; some_lines = old.some_lines; before = old.before })
          (λ z. subst (HasSeat (suc n) seat) z.1 (record { low = omega arith; is = refl; some_lines = (let k = some_lines refl in omega arith); before = sym z.0 }))
          (at_more (below n) (user n) u seat it)

  -- each user that has lines has a seat
  pub has_seat : (n number : ℕ) → number < n → 0 < length (programs number) → get_elem? (below n) (length (below number)) ≡ some (user number)
  has_seat zero number low some_lines = absurd (omega arith)
  has_seat (suc n) number low some_lines = elim (ℕ_discrete number n) [
    | yes same ↦ subst (λ (l : List UserState). get_elem? l (length (below number)) ≡ some (user number)) (sym (ap below next ∙ one_more n (subst (λ (k : ℕ). 0 < length (programs k)) same some_lines)))
        (subst (λ (k : ℕ). get_elem? (below n ++ user k ∷ []) (length (below number)) ≡ some (user number)) same (at_last (below n) (user number) (length (below number)) (ap (λ (k : ℕ). length (below k)) (sym same))))
    | no other ↦ subst (λ (l : List UserState). get_elem? l (length (below number)) ≡ some (user number)) (sym (ap below next ∙ collected_next (user_of blocks programs) n))
        (at_longer (below n) (user_of blocks programs n) (length (below number)) (user number) (has_seat n number (omega arith) some_lines))
  ]
    where
      next : suc n ≡ n + 1
      next = omega arith

  -- the seats rise with the numbers
  rises : (m n : ℕ) → m ≤ n → length (below m) ≤ length (below n)
  rises m zero le = let none : m ≡ 0 = omega arith in let same = ap (λ (k : ℕ). length (below k)) none in omega arith
  rises m (suc n) le = elim (ℕ_discrete m (suc n)) [
    | yes same ↦ (let z = ap (λ (k : ℕ). length (below k)) same in omega arith)
    | no other ↦ (let z = rises m n (omega arith) in
        let next : suc n ≡ n + 1 = omega arith in
        let long = ap length (ap below next ∙ collected_next (user_of blocks programs) n) in omega (arith, length-append (below n) (user_of blocks programs n)))
  ]

  pub ascend : (n seat : ℕ) (u v : UserState) → get_elem? (below n) seat ≡ some u → get_elem? (below n) (suc seat) ≡ some v → u.user < v.user
  ascend n seat u v at next =
      let first = (seated n seat u at).before in
      let second = (seated n (suc seat) v next).before in
      elim (dec_le v.user u.user) [
        | yes back ↦ (let z = rises v.user u.user back in absurd (omega arith))
        | no on ↦ omega arith
      ]
