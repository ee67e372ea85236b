-- The code of a failed call in the hand of a user that writes for itself is one that the log part has.
use Rattle.std.proofs.Common.{Bool, false, refl, subst, sym, true, ℕ, ⊎_elim, ◌≡◌}
use lib.ListN.{get_elem?}
use mathlib.Core.Option.{some}
use Rattle.model_core.specs.{LogServed, GivesFailed, LogSide}
use Rattle.model_core.specs.States as model
use Rattle.model_core.specs.declared.ops.Answer.{Answer}
use Rattle.model_core.specs.declared.ops.Op.{Op}
use Rattle.model_logcore.proofs.Failures.{stored_cause}
use Rattle.model_own.specs.{own_goes_on, own_lends, own_next, OwnUser, has_work}
use Rattle.model_ownrun.proofs.Errands.{in_hand}
use Rattle.model_ownrun.proofs.Seats.{flusher_seat, flusher_there, writer_seat, writer_there}
use Rattle.redo_disk.specs.{Seen}
use Rattle.redo_drive.specs.{run_log_side, RunOf}
use Rattle.redo_drive.specs.declared.parts.Parts.{Parts}
use Rattle.redo_logdev.specs.Part as log
use Rattle.redo_ownmachine.specs.OwnSeats.{actors_of, OwnSeats}
use Rattle.redo_ownmachine.specs.OwnStore.{OwnRunsWith}
use Rattle.redo_ownrule.proofs.OwnFailing.{aside_gives, busy_stores, WorkGives, WorkStores}
use Rattle.redo_ownrule.proofs.OwnMay.{its_hand}
use Rattle.redo_ownrule.proofs.OwnOps.{no_check}

module _ {L D : Type 0} {archive : Bool} (log_seen : L → Seen) (data_seen : D → Seen) (run : RunOf L D)
    (parts : Parts L D) (seats : OwnSeats) (runs : OwnRunsWith log_seen data_seen run archive parts seats)
    (told : (n : ℕ) (a : model.Actor) (code : ℕ) → get_elem? (actors_of seats) n ≡ some a → GivesFailed a code
    → (run_log_side log_seen data_seen run).Cause parts.log code) where
  abbrev A : LogSide
  A = run_log_side log_seen data_seen run

  -- who gives the log part back after a failed call, and who is about to store its code
  pub work_told : (code : ℕ) → WorkGives seats.work code → A.Cause parts.log code
  work_told code gives = ⊎_elim
      (told (writer_seat seats.users) (model.Writer seats.work.writer) code
      (writer_there seats.users seats.work seats.others))
      (told (flusher_seat seats.users) (model.Flusher seats.work.flusher) code
      (flusher_there seats.users seats.work seats.others))
      gives

  stored_told : (code : ℕ) → WorkStores seats.work code → A.Cause parts.log code
  stored_told code stores =
      let W = runs.runs.running in
      ⊎_elim
      (λ h. stored_cause A run.setup W.shared W.log_ghost parts.log (writer_seat seats.users)
      (model.Writer seats.work.writer) code h
      (W.both.logged.each (writer_seat seats.users) (model.Writer seats.work.writer)
      (writer_there seats.users seats.work seats.others)))
      (λ h. stored_cause A run.setup W.shared W.log_ghost parts.log (flusher_seat seats.users)
      (model.Flusher seats.work.flusher) code h
      (W.both.logged.each (flusher_seat seats.users) (model.Flusher seats.work.flusher)
      (flusher_there seats.users seats.work seats.others)))
      stores

  -- After a user's turn: with the log's work in hand it has stored the code now, and else work and part are as they were.
  pub left_told : (n : ℕ) (o : OwnUser) → get_elem? seats.users n ≡ some o → (r : Answer) (call : ℕ) (new : log.Part L)
      → LogServed A parts.log (own_lends o seats.work) (own_next o seats.work) call new
      → (has_work o.errand ≡ false → ◌≡◌ {A = log.Part L} new parts.log)
      → (code : ℕ) → WorkGives (own_goes_on o seats.work r).1 code → A.Cause new code
  left_told n o at r call new served aside code gives = by (has_work o.errand) refl
    where
      same : ◌≡◌ {A = log.Part L} new parts.log → A.Cause parts.log code → A.Cause new code
      same is cause = subst (λ (p : log.Part L). A.Cause p code) (sym is) cause

      by : (b : Bool) → has_work o.errand ≡ b → A.Cause new code
      by true has =
          let asks = no_check o seats.work (its_hand log_seen data_seen run parts seats runs n o at) has
          (runs.errands.fits n o at) in
          let t = busy_stores A parts.log o seats.work r code asks has
          (in_hand A parts.log seats.users seats.work runs.errands n o at has) gives in
          same (subst (λ (a : Op). LogServed A parts.log (own_lends o seats.work) a call new) t.1 served)
          (stored_told code t.0)
      by false none = same (aside none) (work_told code (aside_gives seats.work code o r none gives))
