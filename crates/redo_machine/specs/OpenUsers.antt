-- Which users of a run haven't ended.
use Rattle.std.specs.Prelude.{List, ℕ, ◌<◌, ◌≡◌}
use lib.ListN.{get_elem?}
use mathlib.Core.Option.{some}
use Rattle.model_core.specs.States as model
use Rattle.model_core.specs.{UserState}
use Rattle.model_running.specs.{HasEnded}

-- an actor that is no user, or a user that has ended
abbrev pub IsOver : model.Actor → Type 0
IsOver (model.User u) = HasEnded u
IsOver _ = Unit {0}

-- a user of this number that hasn't
pub record IsOpenUser (u : UserState) (user : ℕ) : Type 0 where
  pub number : u.user ≡ user
  pub not_ended : HasEnded u → ⊥

abbrev pub IsOpen : model.Actor → ℕ → Type 0
IsOpen (model.User u) user = IsOpenUser u user
IsOpen _ user = ⊥

-- it is the first of them
pub record IsFirstOpen (actors : List model.Actor) (user : ℕ) : Type 0 where
  pub seat : ℕ
  pub state : UserState
  pub is : get_elem? actors seat ≡ some (model.User state)
  pub open_user : IsOpenUser state user
  pub before : (j : ℕ) (u : UserState) → j < seat → get_elem? actors j ≡ some (model.User u) → HasEnded u
