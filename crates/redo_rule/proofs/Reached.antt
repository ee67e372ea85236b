-- The marks and the code that a run leaves, by the watermarks that hold at its end.
use Rattle.std.proofs.Common.{Bool, List, cond, false, refl, true, ap, arith, inl, inr, subst, sym, ℕ, ⊎_elim, ◌<◌, ◌∙◌, ◌≡◌, ◌⊎◌}
use Rattle.std.specs.Prelude.{slice_index}
use lib.ListN.{get_elem?}
use mathlib.Core.Option as maybe
use Rattle.model_core.specs.{Given, HasLost, SharedWords, failed_at}
use Rattle.model_core.specs.States as model
use Rattle.model_running.proofs.Archiving.{none_loses}
use Rattle.model_running.proofs.Finished.{marks_same}
use Rattle.model_running.specs.{marks_in}
use Rattle.model_report.specs.declared.entry.Marks.{Marks}
use Rattle.model_logcore.specs.{HasMetFailure}
use Rattle.model_running.proofs.Watermarks.{has_watermarks}
use Rattle.model_running.proofs.MarksReach.{within_words}
use Rattle.model_running.specs.Watermarks.{HasMarksWithin, HasWatermarks}
use Rattle.redo_archiver.specs.{append_code}
use Rattle.redo_disk.specs.{Call, Seen}
use Rattle.redo_drive.specs.{HasFailedBy, RunOf, run_data_side, run_log_side, RunsWith, core_of, views_of}
use Rattle.redo_logdev.specs.Part as log
use Rattle.redo_drive.specs.Leaving.{LeavesAs}
use Rattle.redo_drive.specs.declared.actor.Actor.{Actor}
use Rattle.redo_drive.specs.declared.device.Device.TheVariants.{Data, Log}
use Rattle.redo_drive.specs.declared.parts.Parts.{Parts}
use Rattle.redo_drive.specs.declared.closed.Closed.{Closed}
use Rattle.redo_drive.specs.declared.plan.Plan.{Plan}
use Rattle.redo_store.specs.declared.opened.Opened.{Opened}
use Rattle.redo_rule.proofs.Kept.{laws_of_data, laws_of_log}
use Rattle.redo_rule.proofs.Failing.{caused}
use Rattle.redo_rule.specs.Failing.{CodeHasCause}
use Rattle.redo_rule.specs.Reached.{ReachesAll}
use Rattle.redo_store.specs.Part as store
use Rattle.model_script.specs.declared.script.ScriptLine.{ScriptLine}

module _ {L D : Type 0} {archive : Bool} (log_seen : L → Seen) (data_seen : D → Seen) (run : RunOf L D) (parts : Parts L D) (actors :
    List model.Actor) (runs : RunsWith log_seen data_seen run archive parts actors) where
  has_marks : HasWatermarks (run_log_side log_seen data_seen run) (run_data_side log_seen data_seen run) run.setup (core_of log_seen data_seen run parts actors)
  has_marks = has_watermarks (run_log_side log_seen data_seen run) (laws_of_log log_seen data_seen run) (run_data_side log_seen data_seen run) (laws_of_data log_seen data_seen run) run.setup (core_of log_seen data_seen run parts actors) runs.running

  abbrev m : SharedWords
  m = has_marks.0

  pub within : (i : ℕ) (a : model.Actor) → get_elem? actors i ≡ maybe.some a → HasMarksWithin (marks_in
      parts.words.words) a
  within i a at = subst (λ (k : Marks). HasMarksWithin k a) (sym (marks_same parts.words.words m has_marks.1)) (within_words (run_log_side log_seen data_seen run) (run_data_side log_seen data_seen run) run.setup (core_of log_seen data_seen run parts actors) has_marks i a at)

  its_code : slice_index parts.words.words failed_at ≡ m.failed
  its_code = ap (λ (ws : List ℕ). slice_index ws failed_at) has_marks.1

  pub code_shows : (i : ℕ) (a : model.Actor) → get_elem? actors i ≡ maybe.some a → HasMetFailure a → 0 < slice_index
      parts.words.words failed_at
  code_shows i a at met = let less = has_marks.2.of_log.failures_show i a at met in let is = its_code in omega arith

  -- who has lost an append archives the run
  pub is_archived : (code : ℕ) → HasLost actors code → archive ≡ true
  is_archived code lost = by archive refl
    where
      by : (b : Bool) → archive ≡ b → archive ≡ true
      by true is = is
      by false is = absurd (none_loses run.setup actors runs.running.both.in_run
          (subst (λ (b : Bool). cond {A = Type 0} b (Unit {0}) (0 < run.setup.first_reader)) is runs.followers) code lost)

  -- FAILED's code is one that a call of a part has, or, where the run is archived, one that an append has
  pub has_cause : (code : ℕ) → code ≡ slice_index parts.words.words failed_at → 0 < code → HasFailedBy log_seen Log (log_seen run.first_log.dev).faults parts.log.dev parts.log.failed code ⊎ HasFailedBy data_seen Data (data_seen run.first_data.dev).faults parts.store.dev parts.store.failed code
      ⊎ ((archive ≡ true) × HasLost actors code)
  has_cause code is some =
      let same : code ≡ m.failed = is ∙ its_code in
      subst (λ (n : ℕ). HasFailedBy log_seen Log (log_seen run.first_log.dev).faults parts.log.dev parts.log.failed n ⊎ HasFailedBy data_seen Data (data_seen run.first_data.dev).faults parts.store.dev parts.store.failed n
      ⊎ ((archive ≡ true) × HasLost actors n)) (sym same)
      (⊎_elim (λ h. inl h) (⊎_elim (λ h. inr (inl h)) (λ lost. inr (inr (is_archived m.failed lost, lost))))
      (has_marks.2.failure_has_cause.cause (subst (λ (n : ℕ). 0 < n) same some)))

module _ {L D R : Type 0} {live : Bool} (log_seen : L → Seen) (log_gives : L → Call → L → Type 0) (data_seen : D → Seen)
    (data_gives
    : D → Call → D → Type 0) (stands : R → List Given → Type 0) (opened : Opened L D) (script : List ScriptLine)
    (plan : Plan) (starts actors : List (Actor R)) (closed : Closed L D) (by : LeavesAs
    log_seen log_gives data_seen data_gives stands opened script live plan starts actors closed) where
  pub reaches_all : ReachesAll (views_of actors) closed
  reaches_all = record {
    marks = λ i a at. subst (λ (k : Marks). HasMarksWithin k a) (sym by.marks) (within log_seen data_seen by.run
        by.last (views_of actors) by.from.runs i a at);
    code = λ i a at met. let shows = code_shows log_seen data_seen by.run by.last (views_of actors) by.from.runs i a
        at met in let is = by.code in omega arith;
  }

  lost_by : plan.archive ≡ true → (code : ℕ) → HasLost (views_of actors) code → code ≡ append_code closed.lost
  lost_by is = subst (λ (b : Bool). cond {A = Type 0} b
      ((code : ℕ) → HasLost (views_of actors) code → code ≡ append_code closed.lost) (Unit {0})) is by.lost

  cause : 0 < closed.code → HasFailedBy log_seen Log (log_seen opened.log.dev).faults closed.log.dev closed.log.failed closed.code ⊎ HasFailedBy data_seen Data (data_seen opened.store.dev).faults closed.store.dev closed.store.failed closed.code
      ⊎ (closed.code ≡ append_code closed.lost)
  cause some = ⊎_elim
      (λ h. inl (subst (λ (p : log.Part L). HasFailedBy log_seen Log (log_seen opened.log.dev).faults p.dev p.failed closed.code) (sym by.log) (subst (λ (p : log.Part L). HasFailedBy log_seen Log (log_seen p.dev).faults by.last.log.dev by.last.log.failed closed.code) by.is_run.first_log h)))
      (⊎_elim
      (λ h. inr (inl (subst (λ (d : store.Part D). HasFailedBy data_seen Data (data_seen opened.store.dev).faults d.dev d.failed closed.code) (sym by.data_part) (subst (λ (d : store.Part D). HasFailedBy data_seen Data (data_seen d.dev).faults by.last.store.dev by.last.store.failed closed.code) by.is_run.first_data h))))
      (λ h. inr (inr (lost_by h.0 closed.code h.1))))
      (has_cause log_seen data_seen by.run by.last (views_of actors) by.from.runs closed.code by.code some)

  pub code_has_cause : CodeHasCause log_seen data_seen closed.code opened.log closed.log opened.store closed.store closed.lost
  code_has_cause = caused log_seen data_seen closed.code opened.log closed.log opened.store closed.store closed.lost cause
