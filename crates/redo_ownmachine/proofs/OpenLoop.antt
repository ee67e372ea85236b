-- Which users have ended, in the order of the seats.
use Rattle.std.proofs.Common.{List, ap, arith, get_or, length, subst, sym, ℕ, ◌+◌, ◌<◌, ◌∙◌, ◌≡◌, ◌≤◌}
use native.Mathlib.Decide.{ℕ_discrete}
use lib.ListN.{get_elem?}
use mathlib.Core.Option.{some, some-injective}
use Rattle.model_own.specs.{OwnUser}
use Rattle.model_running.specs.{HasEnded}
use Rattle.redo_machine.specs.OpenUsers.{IsOpenUser}
use Rattle.redo_ownmachine.proofs.Places.{sits, sits_below}
use Rattle.redo_ownmachine.specs.OpenOwn.{EndedBefore, IsFirstOpenUser, UsersHaveEnded}

module _ (users : List OwnUser) (seat : ℕ) (o : OwnUser) (is : o ≡ get_or users seat o) where
  here : seat < length users → get_elem? users seat ≡ some o
  here l = sits users seat o l ∙ ap some (sym is)

  pub is_first : (user : ℕ) → seat < length users → EndedBefore seat users → IsOpenUser o.user user
      → IsFirstOpenUser users user
  is_first user l before open_user = record {
    seat = seat;
    who = o;
    is = here l;
    open_user = open_user;
    before = before;
  }

  pub before_more : seat < length users → EndedBefore seat users → HasEnded o.user → EndedBefore (seat + 1) users
  before_more l before ended j x below at = elim (ℕ_discrete j seat) [
    | yes e ↦ subst (λ (z : OwnUser). HasEnded z.user)
        (some-injective o x (sym (here l) ∙ ap (get_elem? users) (sym e) ∙ at)) ended
    | no n ↦ before j x (omega arith) at
  ]

  pub not_all : (user : ℕ) → seat < length users → IsOpenUser o.user user → UsersHaveEnded users → ⊥
  not_all user l open_user ended = open_user.not_ended (ended seat o (here l))

pub all_before : (users : List OwnUser) (seat : ℕ) → length users ≤ seat → EndedBefore seat users
    → UsersHaveEnded users
all_before users seat all before j o at = before j o (let low = sits_below users j o at in omega arith) at

pub not_all_first : (users : List OwnUser) (user : ℕ) → IsFirstOpenUser users user → UsersHaveEnded users → ⊥
not_all_first users user first ended = first.open_user.not_ended (ended first.seat first.who first.is)
