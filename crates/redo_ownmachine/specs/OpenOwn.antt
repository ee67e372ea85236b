-- Which users of a run haven't ended, where users write for themselves.
use Rattle.std.specs.Prelude.{List, ℕ, ◌<◌, ◌≡◌}
use lib.ListN.{get_elem?}
use mathlib.Core.Option.{some}
use Rattle.model_own.specs.{OwnUser}
use Rattle.model_running.specs.{HasEnded}
use Rattle.redo_machine.specs.OpenUsers.{IsOpenUser}

-- each user below a seat has ended
abbrev pub EndedBefore : ℕ → List OwnUser → Type 0
EndedBefore seat users = (j : ℕ) (o : OwnUser) → j < seat → get_elem? users j ≡ some o → HasEnded o.user

-- each of them has
abbrev pub UsersHaveEnded : List OwnUser → Type 0
UsersHaveEnded users = (j : ℕ) (o : OwnUser) → get_elem? users j ≡ some o → HasEnded o.user

-- the first that hasn't has this number
pub record IsFirstOpenUser (users : List OwnUser) (user : ℕ) : Type 0 where
  pub seat : ℕ
  pub who : OwnUser
  pub is : get_elem? users seat ≡ some who
  pub open_user : IsOpenUser who.user user
  pub before : EndedBefore seat users
