-- A run by turns: whose turn each is, as a seed tells, and when the run ends; one turn, and the store that has an actor at each
-- seat, the actors of the pages and the readers of the log behind the others.
use Rattle.std.specs.Prelude.{List, cond, nat_lt, suc, zero, ℕ, ◌%◌, ◌+◌, ◌/◌, ◌<◌, ◌^◌, ◌≡◌, ◌≤◌, ◌⊎◌, length, Bool, false, map, true, ◌∷◌}
use lib.ListN.{get_elem?}
use mathlib.Core.Option.{some}
use Rattle.model_core.specs.{Actor, Core, UserState, lent, next, CheckpointerState, CleanerState, CloserState, ReaderState, DataSide, LogSide, Lent}
use Rattle.model_core.specs.declared.ops.Step.{Step}
use Rattle.model_script.specs.{draw}
use Rattle.model_core.specs.States as actor
use Rattle.model_core.specs.declared.steps.UserStep.TheVariants as user_step
use Rattle.model_core.specs.Program.{Turn}
use Rattle.model_core.specs.declared.ops.Answer.{Answer}
use Rattle.model_core.specs.declared.ops.Op.{Op}

-- The seat whose turn the i-th is, counted from 0, of so many: as the seed draws in the first half of the turns, then one
-- after another.
abbrev pub seat_of_turn : ℕ → ℕ → ℕ → ℕ → ℕ
seat_of_turn seed max count i = cond (nat_lt i (max / 2)) (draw (i + 1) (seed % 2 ^ 31) % count) (i % count)

-- a user has ended: its last commit is answered, or it ended by a failure
abbrev pub HasEnded : UserState → Type 0
HasEnded u = (u.step ≡ user_step.Done) ⊎ (u.step ≡ user_step.Failed)

abbrev pub HaveEnded : List Actor → Type 0
HaveEnded actors = (seat : ℕ) (u : UserState) → get_elem? actors seat ≡ some (actor.User u) → HasEnded u

-- A store whose actors take turns: its states, each as a store of actors; what else holds where no turn is taken yet;
-- how many seats there are; and one turn of the one at a seat, with how its step ends.
pub record TurnStore (D : LogSide) (E : DataSide) : Type 1 where
  pub State : Type 0
  pub core : State → Core D E
  pub IsNew : State → Type 0
  pub seats : State → ℕ
  pub Takes : State → ℕ → Step → State → Type 0

module _ {D : LogSide} {E : DataSide} (S : TurnStore D E) (seed max : ℕ) where
  -- the run's n-th turn, counted from 0, which is taken only while a user hasn't ended
  pub record LastTurn (Earlier : S.State → Type 0) (n : ℕ) (last : S.State) : Type 0 where
    pub before : S.State
    pub earlier : Earlier before
    pub open_user : HaveEnded (S.core before).actors → ⊥
    pub step : Step
    pub turn : S.Takes before (seat_of_turn seed max (S.seats before) n) step last

  -- so many turns lead from the first state to the last
  abbrev pub TakesTurns : ℕ → S.State → S.State → Type 0
  TakesTurns zero first last = ◌≡◌ {A = S.State} last first
  TakesTurns (suc n) first last = LastTurn (TakesTurns n first) n last

  -- the run has ended: each user has
  pub record IsDone (first last : S.State) : Type 0 where
    pub count : ℕ
    pub within : count ≤ max
    pub turns : TakesTurns count first last
    pub ended : HaveEnded (S.core last).actors

  -- the turns are spent, and this is the least user that hasn't ended
  pub record IsSpent (user : ℕ) (first last : S.State) : Type 0 where
    pub turns : TakesTurns max first last
    pub seat : ℕ
    pub state : UserState
    pub is : get_elem? (S.core last).actors seat ≡ some (actor.User state)
    pub number : state.user ≡ user
    pub not_ended : HasEnded state → ⊥
    pub least : (j : ℕ) (u : UserState) → get_elem? (S.core last).actors j ≡ some (actor.User u) → u.user < user
        → HasEnded u

-- a turn, with some answer, and what else is told of it
pub record TurnTaken {S : Type 0} (Turned : S → ℕ → Answer → Step → S → Type 0) (Tells : S → ℕ → Step → S → Type 0)
    (old : S) (seat : ℕ) (step : Step) (new : S) : Type 0 where
  pub answer : Answer
  pub turn : Turned old seat answer step new
  pub told : Tells old seat step new

-- the store that has an actor at each seat
abbrev pub actor_store : (D : LogSide) (E : DataSide) → (Core D E → ℕ → Step → Core D E → Type 0) → TurnStore D E
actor_store D E Tells = record {
  State = Core D E;
  core = λ s. s;
  IsNew = λ s. Unit {0};
  seats = λ s. length s.actors;
  Takes = TurnTaken (Turn D E) Tells;
}

-- what an Op asks of both parts, with what is lent for it, by how each part was before and is after
abbrev pub Asks : LogSide → DataSide → Type 1
Asks D E = Lent → Op → (old new : D.Part) (old_data new_data : E.Part) → Type 0

-- both were asked so for the Op of the actor at a seat
abbrev pub AskAt : (D : LogSide) (E : DataSide) → Asks D E → Core D E → ℕ → Step → Core D E → Type 0
AskAt D E Ask old seat step new = (who : Actor) → get_elem? old.actors seat ≡ some who
    → Ask (lent who) (next who) old.log_part new.log_part old.data_part new.data_part

pub record PageActors : Type 0 where
  pub closer : CloserState
  pub cleaner : CleanerState
  pub checkpointer : CheckpointerState

abbrev pub ArePageActors : Bool → List Actor → Type 0
ArePageActors true actors = (readers : List ReaderState) × ◌≡◌ {A = List Actor} actors (map actor.Reader readers)
ArePageActors false actors = (p : PageActors) × (readers : List ReaderState) × ◌≡◌ {A = List Actor} actors (actor.Closer p.closer ∷ actor.Cleaner p.cleaner ∷ actor.Checkpointer p.checkpointer ∷ map actor.Reader readers)
