-- A run by turns that ended so: turns led there, and it is a run of another store that ended so.
use Rattle.std.proofs.Common.{List, ℕ, ◌≡◌}
use Rattle.model_core.specs.{Actor, DataSide, LogSide}
use Rattle.model_core.specs.declared.ops.Step.{Step}
use Rattle.model_running.proofs.TurnsAs.{done_as, spent_as}
use Rattle.model_running.specs.{TakesTurns, TurnStore}
use Rattle.redo_drive.specs.declared.drive.RunEnd.{RunEnd}
use Rattle.redo_drive.specs.declared.drive.RunEnd.TheVariants as ran
use Rattle.redo_machine.specs.ByTurns.{EndsAs}

-- However a run ended, turns led there.
pub turns_taken : {D : LogSide} {E : DataSide} (store : TurnStore D E) (seed max : ℕ) (first : store.State)
    (how : RunEnd) (last : store.State) → EndsAs store seed max first how last
    → (count : ℕ) × TakesTurns store seed max count first last
turns_taken store seed max first ran.Done last ends = (ends.count, ends.turns)
turns_taken store seed max first (ran.Spent turns user) last ends = (max, ends.1.turns)

module _ {D F : LogSide} {E G : DataSide} (S : TurnStore D E) (T : TurnStore F G) (of : S.State → T.State)
    (Holds : S.State → Type 0) (seats : (s : S.State) → T.seats (of s) ≡ S.seats s)
    (actors : (s : S.State) → ◌≡◌ {A = List Actor} (T.core (of s)).actors (S.core s).actors)
    (takes : (old new : S.State) (seat : ℕ) (how : Step) → Holds old → S.Takes old seat how new
    → T.Takes (of old) seat how (of new) × Holds new)
    (seed max : ℕ) (first : S.State) (at_first : Holds first) where
  pub ends_as : (how : RunEnd) (last : S.State) → EndsAs S seed max first how last
      → EndsAs T seed max (of first) how (of last)
  ends_as ran.Done last ends = done_as S T of Holds seats actors takes seed max first at_first last ends
  ends_as (ran.Spent turns user) last ends =
      (ends.0, spent_as S T of Holds seats actors takes seed max first at_first user last ends.1)
