-- A turn of whoever plays by its own program leaves the log's work of users that write for themselves as it was, and where
-- it was.
use Rattle.std.proofs.Common.{Bool, List, None, Option, Some, [], ap, arith, length, refl, set, subst, suc, sym, true, zero, ℕ, ⊎_elim, inl, inr, ◌+◌, ◌<◌, ◌∙◌, ◌∷◌, ◌≡◌, ◌≤◌, ◌⊎◌}
use lib.ListN.{get_elem?}
use mathlib.Core.Option as maybe
use Rattle.model_core.specs.{LogServed, Lent, next, DataSide, LogSide, hand, flusher_hand, writer_hand}
use Rattle.model_core.specs.States as model
use Rattle.model_core.specs.declared.steps.FlusherStep.{FlusherStep}
use Rattle.model_core.specs.declared.steps.FlusherStep.TheVariants as flusher_step
use Rattle.model_core.specs.declared.steps.WriterStep.{WriterStep}
use Rattle.model_core.specs.declared.steps.WriterStep.TheVariants as writer_step
use Rattle.model_logcore.specs.LogLaws.{LogLaws}
use Rattle.model_own.specs.{all_actors, LogWork, OwnUser, has_work}
use Rattle.model_own.specs.declared.errand.ErrandStep.{ErrandStep}
use Rattle.model_own.specs.declared.errand.ErrandStep.TheVariants as errand_step
use Rattle.model_ownrun.proofs.Errands.{in_hand, other_keeps}
use Rattle.model_ownrun.proofs.Moves.{Runs}
use Rattle.model_ownrun.proofs.Seats.{flusher_seat, flusher_seat_is, flusher_there, writer_seat, writer_seat_is, writer_there}
use Rattle.model_ownrun.specs.OwnRunning.{FlushesAt, WorkAt, WritesAt}
use Rattle.model_pagecore.specs.DataLaws.{DataLaws}
use Rattle.redo_disk.specs.{Seen}
use Rattle.redo_drive.specs.{lists_of, run_data_side, run_log_side, RunOf, RunsWith}
use Rattle.redo_drive.specs.declared.parts.Parts.{Parts}
use Rattle.redo_logdev.specs.Part as log
use Rattle.redo_rule.specs.OwnSide.{HasItsWork, IsWorked, OwnSide, SitsAs}

-- the actors once one behind the users, the writer and the flusher has changed
abbrev PutBehind : List OwnUser → LogWork → List model.Actor → ℕ → model.Actor → Type 0
PutBehind users k os n a =
    (after : List model.Actor) × ◌≡◌ {A = List model.Actor} (set (all_actors users k os) n a) (all_actors users k after)

put_behind : (users : List OwnUser) (k : LogWork) (os : List model.Actor) (n : ℕ) (a : model.Actor)
    → length users + 2 ≤ n → PutBehind users k os n a
put_behind [] k os zero a far = absurd (omega arith)
put_behind [] k os (suc zero) a far = absurd (omega arith)
put_behind [] k os (suc (suc j)) a far = (set os j a, refl)
put_behind (x ∷ xs) k os zero a far = absurd (omega arith)
put_behind (x ∷ xs) k os (suc n) a far =
    let r = put_behind xs k os n a (omega arith) in
    (r.0, ap (λ (l : List model.Actor). model.User x.user ∷ l) r.1)

-- the work is as it was once such an actor has changed, and the log part hasn't
pub work_beside : (D : LogSide) (p : D.Part) (own : Option OwnSide) (actors : List model.Actor) (n : ℕ)
    (b : model.Actor) → SitsAs own None n → HasItsWork D p own actors → HasItsWork D p own (set actors n b)
work_beside D p None actors n b sits W = tt
work_beside D p (Some side) actors n b far W =
    let put = put_behind side.users side.work W.others n b far in
    record { others = put.0; are = ap (λ (x : List model.Actor). set x n b) W.are ∙ put.1; errands = W.errands }

module _ (D : LogSide) where
  writes_hold : (p : D.Part) (w : WriterStep) (f : FlusherStep) → WritesAt D p w f
      → (flusher_hand f ≡ Some 0) ⊎ (writer_hand w ≡ Some 0)
  writes_hold p (writer_step.Advance v) f z = inl (ap flusher_hand z.0)
  writes_hold p writer_step.LoadCheckpoint f z = inl (ap flusher_hand z.0)
  writes_hold p writer_step.LoadFirst f z = inl (ap flusher_hand z.0)
  writes_hold p writer_step.ClearFirst f z = inl (ap flusher_hand z.0)
  writes_hold p writer_step.LoadCell f z = inl (ap flusher_hand z.0)
  writes_hold p writer_step.ClearCell f z = inl (ap flusher_hand z.0)
  writes_hold p writer_step.WriteTo f z = inr refl
  writes_hold p writer_step.StoreWrite f z = inr refl
  writes_hold p writer_step.StoreFailed f z = inr refl
  writes_hold p writer_step.GiveFailed f z = inr refl
  writes_hold p _ f z = absurd z

  flushes_hold : (p : D.Part) (f : FlusherStep) → FlushesAt D p f → flusher_hand f ≡ Some 0
  flushes_hold p flusher_step.Sync z = refl
  flushes_hold p flusher_step.StoreFlushed z = refl
  flushes_hold p flusher_step.GiveDevice z = refl
  flushes_hold p flusher_step.StoreFailed z = refl
  flushes_hold p flusher_step.GiveFailed z = refl
  flushes_hold p _ z = absurd z

  -- with the log's work in hand, the flusher or the writer has the log part
  work_hold : (p : D.Part) (x : ErrandStep) (w : WriterStep) (f : FlusherStep) → has_work x ≡ true → WorkAt D p x w f
      → (flusher_hand f ≡ Some 0) ⊎ (writer_hand w ≡ Some 0)
  work_hold p errand_step.GiveBroken w f has z = inl (ap flusher_hand z.1)
  work_hold p errand_step.Write w f has z = writes_hold p w f z
  work_hold p errand_step.Flush w f has z = inl (flushes_hold p f z.1)
  work_hold p _ w f has z = absurd (cc)

  -- so, for the other actors, one of these two holds it
  pub record WorkerHolds (side : OwnSide) (actors : List model.Actor) : Type 0 where
    pub seat : ℕ
    pub who : model.Actor
    pub worker : seat < length side.users + 2
    pub there : get_elem? actors seat ≡ maybe.some who
    pub holds : hand who ≡ Some 0

  module _ (p : D.Part) (side : OwnSide) (actors : List model.Actor) (W : IsWorked D p side actors) where
    seat_in : (n : ℕ) (a : model.Actor) → get_elem? (all_actors side.users side.work W.others) n ≡ maybe.some a
        → get_elem? actors n ≡ maybe.some a
    seat_in n a at = ap (λ (l : List model.Actor). get_elem? l n) W.are ∙ at

    pub worker_holds : (n : ℕ) (o : OwnUser) → get_elem? side.users n ≡ maybe.some o → has_work o.errand ≡ true
        → WorkerHolds side actors
    worker_holds n o at has =
        let work = in_hand D p side.users side.work W.errands n o at has in
        ⊎_elim
        (λ f. record {
          seat = flusher_seat side.users;
          who = model.Flusher side.work.flusher;
          worker = (let e = flusher_seat_is side.users in omega arith);
          there = seat_in (flusher_seat side.users) (model.Flusher side.work.flusher)
              (flusher_there side.users side.work W.others);
          holds = f;
        })
        (λ w. record {
          seat = writer_seat side.users;
          who = model.Writer side.work.writer;
          worker = (let e = writer_seat_is side.users in omega arith);
          there = seat_in (writer_seat side.users) (model.Writer side.work.writer)
              (writer_there side.users side.work W.others);
          holds = w;
        })
        (work_hold p o.errand side.work.writer.step side.work.flusher.step has work.step)

-- THE WORK after a turn of whoever sits behind the users, the writer and the flusher
module _ {L D : Type 0} {archive : Bool} (log_seen : L → Seen) (data_seen : D → Seen) (run : RunOf L D) (parts : Parts L D)
    (actors : List model.Actor) (runs : RunsWith log_seen data_seen run archive parts actors)
    (log_laws : LogLaws (run_log_side log_seen data_seen run))
    (data_laws : DataLaws (run_data_side log_seen data_seen run)) where
  abbrev A : LogSide
  A = run_log_side log_seen data_seen run

  abbrev B : DataSide
  B = run_data_side log_seen data_seen run

  module _ (n : ℕ) (a b : model.Actor) (at : get_elem? actors n ≡ maybe.some a) (l : Lent) (code : ℕ)
      (q : log.Part L) (served : LogServed A parts.log l (next a) code q) where
    stays_worked : (side : OwnSide) → length side.users + 2 ≤ n → IsWorked A parts.log side actors
        → IsWorked A q side (set actors n b)
    stays_worked side far W =
        let put = put_behind side.users side.work W.others n b far in
        record {
          others = put.0;
          are = ap (λ (x : List model.Actor). set x n b) W.are ∙ put.1;
          errands = other_keeps A log_laws B data_laws run.setup runs.running.shared (lists_of parts.lists) parts.log
              parts.store side.users side.work W.others
              (subst (Runs A B run.setup runs.running.shared (lists_of parts.lists) parts.log parts.store) W.are
              (runs.running.log_ghost, runs.running.page_ghost, runs.running.both))
              W.errands n a (ap (λ (x : List model.Actor). get_elem? x n) (sym W.are) ∙ at) far l code q served;
        }

    pub work_stays : (own : Option OwnSide) → SitsAs own None n → HasItsWork A parts.log own actors
        → HasItsWork A q own (set actors n b)
    work_stays None sits W = tt
    work_stays (Some side) far W = stays_worked side far W
