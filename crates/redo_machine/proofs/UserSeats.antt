-- The users have their seats in the order of their numbers.
use Rattle.std.proofs.Common.{Bool, List, [], ap, arith, refl, suc, sym, zero, ℕ, ◌<◌, ◌∙◌, ◌∷◌, ◌≡◌, ◌≤◌}
use native.Mathlib.Decide.{dec_le}
use lib.ListN.{get_elem?}
use Rattle.model_core.specs.{Actor, UserState, Setup}
use Rattle.model_running.proofs.Seated.{user_seat}
use Rattle.model_running.specs.{AreSeated, HasEnded}
use Rattle.redo_machine.specs.OpenUsers.{IsFirstOpen}
use Rattle.model_core.specs.States as actor
use mathlib.Core.Option as maybe

-- each user has a lower number than the next
abbrev Ascend : List UserState → Type 0
Ascend users = (i : ℕ) (u v : UserState) → get_elem? users i ≡ maybe.some u → get_elem? users (suc i) ≡ maybe.some v → u.user < v.user

-- so the first has the lowest
first_lowest : (x : UserState) (users : List UserState) → Ascend (x ∷ users) → (i : ℕ) (v : UserState) → get_elem? users i ≡ maybe.some v → x.user < v.user
first_lowest x [] ascend i v at = absurd (maybe.some-ne-none v (sym at))
first_lowest x (y ∷ ys) ascend zero v at = ascend 0 x v refl at
first_lowest x (y ∷ ys) ascend (suc i) v at =
    let less : x.user < y.user = ascend 0 x y refl refl in
    let rest = first_lowest y ys (λ j a b here next. ascend (suc j) a b here next) i v at in
    omega arith

-- and a user in a higher seat has no lower number
higher_seat : (users : List UserState) → Ascend users → (i j : ℕ) (u v : UserState) → i ≤ j → get_elem? users i ≡ maybe.some u → get_elem? users j ≡ maybe.some v → u.user ≤ v.user
higher_seat [] ascend i j u v l at also = absurd (maybe.some-ne-none u (sym at))
higher_seat (x ∷ xs) ascend zero zero u v l at also =
    let same : u.user ≡ v.user = ap (λ (z : UserState). z.user) (maybe.some-injective u v (sym at ∙ also)) in
    omega arith
higher_seat (x ∷ xs) ascend (suc i) zero u v l at also = absurd (omega arith)
higher_seat (x ∷ xs) ascend zero (suc j) u v l at also =
    let same : x.user ≡ u.user = ap (λ (z : UserState). z.user) (maybe.some-injective x u at) in
    let less = first_lowest x xs ascend j v also in
    omega arith
higher_seat (x ∷ xs) ascend (suc i) (suc j) u v l at also = higher_seat xs (λ k a b here next. ascend (suc k) a b here next) i j u v (omega arith) at also

module _ {live : Bool} (c : Setup) (actors : List Actor) (seated : AreSeated live c actors) where
  -- the first user that hasn't ended has the least number of all that haven't
  pub first_is_least : (user : ℕ) → IsFirstOpen actors user → (j : ℕ) (u : UserState) → get_elem? actors j ≡ maybe.some (actor.User u) → u.user < user → HasEnded u
  first_is_least user first j u at less = elim (dec_le first.seat j) [
    | yes above ↦ (let number = first.open_user.number in let l = higher_seat seated.users seated.ascending first.seat j first.state u above (user_seat c actors seated first.seat first.state first.is) (user_seat c actors seated j u at) in absurd (omega arith))
    | no below ↦ first.before j u (omega arith) at
  ]
