-- A run whose users write for themselves: its writer and flusher have no seat, and their states lie beside the log part.
use Rattle.std.specs.Prelude.{List, None, Option, Some, false, length, ℕ, ◌+◌, ◌≡◌, ◌≤◌}
use lib.ListN.{get_elem?}
use mathlib.Core.Option.{some}
use Rattle.model_core.specs.{UserState, LogSide}
use Rattle.model_core.specs.States as model
use Rattle.model_own.specs.{all_actors, LogWork, OwnUser, has_work}
use Rattle.model_ownrun.specs.OwnRunning.{Errands}
use Rattle.redo_logdev.specs.Part as log
use Rattle.redo_rule.specs.declared.law.Desk.{Desk}
use Rattle.redo_rule.specs.declared.law.Errand.{Errand}

-- the users that write for themselves, and the log's work
pub record OwnSide : Type 0 where
  pub users : List OwnUser
  pub work : LogWork

-- what lies beside the log part: the block that was read last, and the log's work where users write for themselves
pub record Beside : Type 0 where
  pub block : List ℕ
  pub own : Option OwnSide

abbrev pub work_of : Option OwnSide → Option LogWork
work_of None = None
work_of (Some side) = Some side.work

abbrev pub desk_with : {L : Type 0} → log.Part L → Beside → Desk L
desk_with part beside = record { part = part; block = beside.block; work = work_of beside.own }

module _ (D : LogSide) (part : D.Part) where
  -- The actors of the run are its users, the log's work as a writer and a flusher, and the others; one user at most has
  -- the work in hand.
  pub record IsWorked (side : OwnSide) (actors : List model.Actor) : Type 0 where
    pub others : List model.Actor
    pub are : ◌≡◌ {A = List model.Actor} actors (all_actors side.users side.work others)
    pub errands : Errands D part side.users side.work

  abbrev pub HasItsWork : Option OwnSide → List model.Actor → Type 0
  HasItsWork None actors = Unit {0}
  HasItsWork (Some side) actors = IsWorked side actors

-- Who sits as the actor of a number, with its errand: a user that writes for itself, or, behind the users, the writer and the
-- flusher, whoever plays by its own program. Nobody sits as the writer or the flusher then.
abbrev pub SitsAs : Option OwnSide → Option Errand → ℕ → Type 0
SitsAs None None number = Unit {0}
SitsAs None (Some e) number = ⊥
SitsAs (Some side) None number = length side.users + 2 ≤ number
SitsAs (Some side) (Some e) number =
    (u : UserState) × (get_elem? side.users number ≡ some (record { user = u; errand = e.step; helped = e.helped }))

-- it has no work of the log in hand
abbrev pub HasNoWork : Option Errand → Type 0
HasNoWork None = Unit {0}
HasNoWork (Some e) = has_work e.step ≡ false
