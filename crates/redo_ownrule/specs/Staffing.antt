-- The players of a run, made of its actors.
use Rattle.std.specs.Prelude.{Bool, List, [], false, is_some, length, true, vec_capacity, ◌∷◌, ◌≡◌, ◌≤◌}
use Rattle.model_own.specs.declared.errand.ErrandStep.TheVariants as errand_step
use Rattle.redo_drive.specs.declared.actor.Actor.{Actor}
use Rattle.redo_ownmachine.specs.OwnCrew.{HaveWorkers, IsOther}
use Rattle.redo_ownrule.specs.Players.{AreInOrder, crew}
use Rattle.redo_ownrule.specs.declared.player.Player.{Player}
use Rattle.redo_ownrule.specs.declared.player.Player.TheVariants as player
use Rattle.redo_ownrule.specs.declared.staffing.Staff.{Staff}

-- users, one writer and one flusher behind them, and then others
abbrev pub HaveKinds : {R : Type 0} → List (Actor R) → Type 0
HaveKinds {R} actors = HaveWorkers actors

-- no user is on an errand, nor has been on one
abbrev pub StandAtHome : {R : Type 0} → List (Player R) → Type 0
StandAtHome [] = Unit {0}
StandAtHome (player.Own o ∷ ps) = (o.errand ≡ errand_step.Done) × (o.helped ≡ false) × StandAtHome ps
StandAtHome (player.Plain a ∷ ps) = StandAtHome ps

-- who plays by its own program beside users that write for themselves is no user, writer or flusher
abbrev pub HaveOthers : {R : Type 0} → List (Player R) → Type 0
HaveOthers [] = Unit {0}
HaveOthers (player.Own o ∷ ps) = HaveOthers ps
HaveOthers (player.Plain a ∷ ps) = IsOther a × HaveOthers ps

-- These players, with the log's work where users write for themselves, are these actors. There is room for all of them.
pub record AreStaffOf {R : Type 0} (own : Bool) (actors : List (Actor R)) (staff : Staff R) : Type 0 where
  pub works : is_some staff.work ≡ own
  pub order : AreInOrder own staff.players.items
  pub are : ◌≡◌ {A = List (Actor R)} (crew staff.work staff.players.items) actors
  pub at_home : StandAtHome staff.players.items
  pub others : own ≡ true → HaveOthers staff.players.items
  pub empty : staff.room.items ≡ []
  pub room : length actors ≤ vec_capacity staff.room
