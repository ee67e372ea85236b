-- Turns of one store are turns of another that tells less of them, or more where something holds all along.
use Rattle.std.proofs.Common.{List, add-one, ap, refl, subst, suc, sym, zero, ℕ, ◌+◌, ◌∙◌, ◌≡◌}
use lib.ListN.{get_elem?}
use Rattle.model_core.specs.{Actor, Core, DataSide, LogSide}
use Rattle.model_core.specs.declared.ops.Step.{Step}
use Rattle.model_running.specs.Schedule.{actor_store, HaveEnded, IsDone, IsSpent, LastTurn, TakesTurns, TurnStore, seat_of_turn}
use Rattle.model_running.specs.PlainStore.{plain_store}

module _ {D F : LogSide} {E G : DataSide} (S : TurnStore D E) (T : TurnStore F G) (of : S.State → T.State)
    (Holds : S.State → Type 0) (seats : (s : S.State) → T.seats (of s) ≡ S.seats s)
    (actors : (s : S.State) → ◌≡◌ {A = List Actor} (T.core (of s)).actors (S.core s).actors)
    (takes : (old new : S.State) (seat : ℕ) (step : Step) → Holds old → S.Takes old seat step new
    → T.Takes (of old) seat step (of new) × Holds new)
    (seed max : ℕ) (first : S.State) (at_first : Holds first) where
  pub turns_as : (n : ℕ) (last : S.State) → TakesTurns S seed max n first last
      → TakesTurns T seed max n (of first) (of last) × Holds last
  turns_as zero last is = (ap of is, subst Holds (sym is) at_first)
  turns_as (suc n) last r =
      let before = turns_as n r.before r.earlier in
      let now = takes r.before last (seat_of_turn seed max (S.seats r.before) n) r.step before.1 r.turn in (
        record {
          before = of r.before;
          earlier = before.0;
          open_user = λ ended. r.open_user (subst HaveEnded (actors r.before) ended);
          step = r.step;
          turn = subst (λ (count : ℕ). T.Takes (of r.before) (seat_of_turn seed max count n) r.step (of last))
              (sym (seats r.before)) now.0;
        },
        now.1,
      )

  pub done_as : (last : S.State) → IsDone S seed max first last → IsDone T seed max (of first) (of last)
  done_as last done = record {
    count = done.count;
    within = done.within;
    turns = (turns_as done.count last done.turns).0;
    ended = subst HaveEnded (sym (actors last)) done.ended;
  }

  pub spent_as : (user : ℕ) (last : S.State) → IsSpent S seed max user first last
      → IsSpent T seed max user (of first) (of last)
  spent_as user last spent = record {
    turns = (turns_as max last spent.turns).0;
    seat = spent.seat;
    state = spent.state;
    is = ap (λ (l : List Actor). get_elem? l spent.seat) (actors last) ∙ spent.is;
    number = spent.number;
    not_ended = spent.not_ended;
    least = λ j u at. spent.least j u (ap (λ (l : List Actor). get_elem? l j) (sym (actors last)) ∙ at);
  }

-- so many turns, and one more
pub one_more : {D : LogSide} {E : DataSide} (S : TurnStore D E) (seed max n : ℕ) (first last : S.State)
    → LastTurn S seed max (TakesTurns S seed max n first) n last → TakesTurns S seed max (n + 1) first last
one_more S seed max n first last turn =
    subst (λ (k : ℕ). TakesTurns S seed max k first last) (sym (add-one n)) turn

-- spent turns of a store with an actor at each seat are so whatever else is told of them
pub plain_spent : (D : LogSide) (E : DataSide) (Tells : Core D E → ℕ → Step → Core D E → Type 0) (seed max user : ℕ)
    (first last : Core D E) → IsSpent (actor_store D E Tells) seed max user first last
    → IsSpent (plain_store D E) seed max user first last
plain_spent D E Tells seed max user first last =
    spent_as (actor_store D E Tells) (plain_store D E) (λ (s : Core D E). s) (λ s. Unit {0}) (λ s. refl) (λ s. refl)
    (λ old new seat step none t. (record { answer = t.answer; turn = t.turn; told = tt }, tt)) seed max first tt user
    last
