-- Who plays at a table, and the actors that they leave.
use Rattle.std.specs.Prelude.{Bool, List, None, Option, Some, [], false, map, true, suc, zero, ℕ, ◌++◌, ◌+◌, ◌∷◌, ◌≡◌}
use Rattle.model_core.specs.States as model
use Rattle.model_core.specs.{HoldsNothing, IsFreeToCheck, IsSameActor}
use Rattle.model_own.specs.{LogWork, has_work}
use Rattle.model_own.specs.ErrandFits.{ErrandFits}
use Rattle.redo_drive.specs.{view_of}
use Rattle.redo_drive.specs.declared.actor.Actor.{Actor}
use Rattle.redo_drive.specs.declared.actor.Actor.TheVariants as actor
use Rattle.redo_ownrule.specs.OwnPlays.{errand_of}
use Rattle.redo_ownrule.specs.declared.player.Player.{Player}
use Rattle.redo_ownrule.specs.declared.player.Player.TheVariants as player
use Rattle.redo_rule.specs.declared.law.Heard.{Heard}
use Rattle.redo_rule.specs.declared.law.Numbered.{Numbered}

-- how many actors have no seat
abbrev pub workers : Bool → ℕ
workers true = 2
workers false = 0

module _ {R : Type 0} where
  -- the actor that it is, without its errand
  abbrev pub actor_of : Player R → Actor R
  actor_of (player.Plain a) = a
  actor_of (player.Own o) = actor.User o.user

  -- the same one later
  abbrev pub IsSamePlayer : Player R → Player R → Type 0
  IsSamePlayer (player.Plain a) (player.Plain b) = IsSameActor (view_of a) (view_of b)
  IsSamePlayer (player.Own o) (player.Own x) = IsSameActor (model.User o.user) (model.User x.user)
  IsSamePlayer _ _ = ⊥

  -- it holds no turn and no tail, and hasn't the log's work in hand
  abbrev pub IsAtRest : Player R → Type 0
  IsAtRest (player.Plain a) = HoldsNothing (view_of a)
  IsAtRest (player.Own o) = HoldsNothing (model.User o.user) × (has_work o.errand ≡ false)

  -- who has a seat may rest so: it holds nothing where it checks for a failure, and is on no errand once it has ended
  abbrev pub MayRest : Player R → Type 0
  MayRest (player.Plain a) = IsFreeToCheck (view_of a)
  MayRest (player.Own o) = ErrandFits o.user o.errand

  -- users that write for themselves come first, where there are any; else nobody is one
  abbrev pub ArePlain : List (Player R) → Type 0
  ArePlain [] = Unit {0}
  ArePlain (player.Plain a ∷ ps) = ArePlain ps
  ArePlain (player.Own o ∷ ps) = ⊥

  abbrev pub UsersFirst : List (Player R) → Type 0
  UsersFirst (player.Own o ∷ ps) = UsersFirst ps
  UsersFirst ps = ArePlain ps

  abbrev pub AreInOrder : Bool → List (Player R) → Type 0
  AreInOrder true ps = UsersFirst ps
  AreInOrder false ps = ArePlain ps

  -- THE ACTORS THAT A RUN LEAVES: where users wrote for themselves, the writer and the flusher stand behind them, as far as
  -- the log's work has come.
  abbrev pub workers_of : Option LogWork → List (Actor R)
  workers_of None = []
  workers_of (Some k) = actor.Writer k.writer ∷ actor.Flusher k.flusher ∷ []

  abbrev pub crew : Option LogWork → List (Player R) → List (Actor R)
  crew work [] = workers_of work
  crew work (player.Own o ∷ ps) = actor.User o.user ∷ crew work ps
  crew work (player.Plain a ∷ ps) = workers_of work ++ a ∷ map actor_of ps

  -- the number that the actor of the player at this place has among them
  abbrev pub place_behind : List (Player R) → ℕ → ℕ
  place_behind (player.Own o ∷ ps) zero = zero
  place_behind (player.Own o ∷ ps) (suc i) = suc (place_behind ps i)
  place_behind ps i = suc (suc i)

  abbrev pub place : Bool → List (Player R) → ℕ → ℕ
  place true ps i = place_behind ps i
  place false ps i = i

  -- the players as a seat knows them, each with its number and with what it has handed on
  abbrev pub numbered_as : ℕ → Heard → Player R → Numbered
  numbered_as n heard (player.Plain a) = record { number = n; actor = view_of a; heard = heard; errand = None }
  numbered_as n heard (player.Own o) =
      record { number = n; actor = model.User o.user; heard = heard; errand = Some (errand_of o) }

  abbrev pub seated : (ℕ → ℕ) → (ℕ → Heard) → ℕ → List (Player R) → List Numbered
  seated number heard i [] = []
  seated number heard i (p ∷ ps) = numbered_as (number i) (heard i) p ∷ seated number heard (i + 1) ps
