-- A run with the log alone: who takes part in it, where it starts, and the states that it can reach.
use Rattle.std.specs.Prelude.{List, [], false, suc, true, zero, ℕ, ◌+◌, ◌*◌, ◌<◌, ◌≡◌, ◌≤◌}
use lib.ListN.{get_elem?}
use mathlib.Core.Option.{some}
use Rattle.model_base.specs.declared.limits.TheConstants.{BLOCK_SIZE, LSN_LIMIT}
use Rattle.model_core.specs.{Actor, Core, flat, FlusherState, layout_of, Listed, SharedWords, WriterState, DataSide, LogSide, Setup, start_checkpoint}
use Rattle.model_core.specs.Program.{Turn}
use Rattle.model_core.specs.declared.limits.TheConstants.{FREE_MARGIN}
use Rattle.model_core.specs.declared.ops.Answer.{Answer}
use Rattle.model_core.specs.declared.ops.Step.{Step}
use Rattle.model_running.specs.StartStore.{StartStore}
use Rattle.model_ends.specs.Bound.{last_lsn}
use Rattle.model_core.specs.States as actor

-- users, the writer and the flusher
abbrev pub IsLogActor : Actor → Type 0
IsLogActor (actor.User u) = Unit {0}
IsLogActor (actor.Writer s) = Unit {0}
IsLogActor (actor.Flusher t) = Unit {0}
IsLogActor _ = ⊥

pub record AreLogActors (actors : List Actor) : Type 0 where
  pub each : (seat : ℕ) (a : Actor) → get_elem? actors seat ≡ some a → IsLogActor a
  pub writer : (seat : ℕ) × (s : WriterState) × (get_elem? actors seat ≡ some (actor.Writer s))
  pub flusher : (seat : ℕ) × (t : FlusherState) × (get_elem? actors seat ≡ some (actor.Flusher t))

-- As the run starts nothing is done, the log part has not failed, and the log has room for the whole script, with the space
-- beyond it that stays free for groups which have begun.
pub record StartsAlone (D : LogSide) (E : DataSide) (c : Setup) (first : Core D E) : Type 0 where
  pub log_only : c.log_only ≡ true
  pub words : SharedWords
  pub layout_is : first.layout ≡ layout_of c
  pub flat_is : first.words ≡ flat words
  pub seat_of : ℕ → ℕ
  pub writer : ℕ
  pub store : StartStore D E c words first.log_part first.data_part seat_of writer first.actors
  pub lists : ◌≡◌ {A = ℕ → List Listed} first.lists (λ _. [])
  pub actors : AreLogActors first.actors
  pub sound : D.failed first.log_part ≡ false
  pub short : last_lsn c first.actors < LSN_LIMIT
  pub room : last_lsn c first.actors + FREE_MARGIN ≤ start_checkpoint c + BLOCK_SIZE * c.blocks

-- turns in whatever order, with whatever the device calls answer
module _ (D : LogSide) (E : DataSide) where
  pub record AnyTurn (Earlier : Core D E → Type 0) (last : Core D E) : Type 0 where
    pub before : Core D E
    pub earlier : Earlier before
    pub seat : ℕ
    pub answer : Answer
    pub step : Step
    pub turn : Turn D E before seat answer step last

  -- so many of them lead from the first state to the last
  abbrev pub CanReach : ℕ → Core D E → Core D E → Type 0
  CanReach zero first last = ◌≡◌ {A = Core D E} last first
  CanReach (suc n) first last = AnyTurn (CanReach n first) last
