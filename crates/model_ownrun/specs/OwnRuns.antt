-- Runs by turns of a store whose users write for themselves: the seats are those of the users and then of the others,
-- and no writer or flusher has one.
use Rattle.std.specs.Prelude.{List, [], false, length, ℕ, ◌+◌, ◌∷◌, ◌≡◌, ◌≤◌}
use lib.ListN.{get_elem?}
use mathlib.Core.Option.{some}
use Rattle.model_core.specs.{lent, next, Actor, DataSide, LogSide}
use Rattle.model_core.specs.declared.ops.Step.{Step}
use Rattle.model_core.specs.declared.ops.Step.TheVariants as step
use Rattle.model_own.specs.{OwnCore, OwnTurn, with_writer, OwnUser, own_lends, own_next}
use Rattle.model_own.specs.declared.errand.ErrandStep.TheVariants as errand_step
use Rattle.model_running.specs.{Asks, TurnStore, TurnTaken}

-- no user is on an errand, nor has been on one
abbrev pub AreAtHome : List OwnUser → Type 0
AreAtHome users = (seat : ℕ) (o : OwnUser) → get_elem? users seat ≡ some o
    → (o.errand ≡ errand_step.Done) × (o.helped ≡ false)

-- the store of such users
abbrev pub own_store : (D : LogSide) (E : DataSide) → (OwnCore D E → ℕ → Step → OwnCore D E → Type 0) → TurnStore D E
own_store D E Tells = record {
  State = OwnCore D E;
  core = with_writer;
  IsNew = λ s. AreAtHome s.users;
  seats = λ s. length s.users + length s.others;
  Takes = TurnTaken (OwnTurn D E) Tells;
}

module _ (D : LogSide) (E : DataSide) (Ask : Asks D E) where
  -- Both parts were asked for the Op of the one at the seat: a user's own or that of its errand, or that of another
  -- actor.
  pub record AskAtSeat (old : OwnCore D E) (seat : ℕ) (how : Step) (new : OwnCore D E) : Type 0 where
    pub user : (who : OwnUser) → get_elem? old.users seat ≡ some who
        → Ask (own_lends who old.work) (own_next who old.work) old.log_part new.log_part old.data_part new.data_part
    pub other : (who : Actor) → length old.users ≤ seat → get_elem? (with_writer old).actors (seat + 2) ≡ some who
        → Ask (lent who) (next who) old.log_part new.log_part old.data_part new.data_part

  -- the same; and a user that is alone in its store isn't idle
  pub record AskOrGo (old : OwnCore D E) (seat : ℕ) (how : Step) (new : OwnCore D E) : Type 0 where
    pub asked : AskAtSeat old seat how new
    pub alone : (user : OwnUser) → old.users ≡ user ∷ [] → ◌≡◌ {A = List Actor} old.others []
        → how ≡ step.Idle → ⊥
