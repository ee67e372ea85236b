-- Why an answer of `play` came.
use Rattle.std.specs.Prelude.{List, Option, Some, false, length, true, ℕ, ◌↔◌, ◌≡◌, ◌⊎◌}
use Rattle.model_core.specs.{HasLost, is_checking, next, GivesFailed, StoresFailed}
use Rattle.model_core.specs.States as model
use Rattle.model_core.specs.Program.{ending, waits}
use Rattle.model_core.specs.declared.ops.Answer.{Answer}
use Rattle.model_core.specs.declared.ops.Op.TheVariants as op
use Rattle.model_core.specs.declared.ops.Step.{Step}
use Rattle.model_core.specs.declared.ops.Step.TheVariants as step
use Rattle.model_core.specs.declared.steps.UserStep.TheVariants as user_step
use Rattle.model_core.specs.declared.words.Word.TheVariants as word
use Rattle.redo_archiver.specs.{append_code}
use Rattle.redo_disk.specs.{Seen}
use Rattle.redo_disk.specs.declared.error.DevError.{DevError}
use Rattle.redo_drive.specs.{code_in}
use Rattle.redo_rule.specs.Failing.{CodeHasCause}
use Rattle.redo_rule.specs.Mine.{heard_of, number_of}
use Rattle.redo_rule.specs.Plays.{Shown}
use Rattle.redo_rule.specs.declared.law.About.{About}
use Rattle.redo_rule.specs.declared.law.View.{View}

-- it is a user that has ended: the commit of its last line is answered
abbrev pub IsFinishedUser : model.Actor → Type 0
IsFinishedUser (model.User u) = (u.step ≡ user_step.Done) × (u.k ≡ length u.lines)
IsFinishedUser _ = ⊥

-- it rests, since it had ended by a failure of this code
abbrev pub HasEndedBy : model.Actor → ℕ → Type 0
HasEndedBy a code = (next a ≡ op.Rest) × (ending a ≡ step.Failed code)

-- this is what an append of the archiver among these actors has met, if one has failed
abbrev pub HasMet : {L D : Type 0} → About L D → List model.Actor → Option DevError → Type 0
HasMet about actors lost =
    (fault : DevError) → lost ≡ Some fault → (about.plan.archive ≡ true) × HasLost actors (append_code lost)

module _ {L D : Type 0} (log_seen : L → Seen) (data_seen : D → Seen) (v : View L D) where
  -- at that moment the condition of its step didn't hold yet
  pub record HasWaited (a : model.Actor) : Type 0 where
    pub answer : Answer
    pub shown : Shown log_seen data_seen v.about (number_of v) (heard_of v) a answer
    pub goes_on : is_checking a ≡ false
    pub waits : waits a answer ≡ true

  -- THE CODE BY WHICH ITS STEP ENDED, at that moment: the actor found it in FAILED; or its own device call had failed with it,
  -- and it had stored it and gave the log part back, or, having none, stored it. The code has its cause in what the devices
  -- had met since the run began, the archive's among them.
  pub record HasFailureCode (a : model.Actor) (code : ℕ) : Type 0 where
    pub answer : Answer
    pub shown : Shown log_seen data_seen v.about (number_of v) (heard_of v) a answer
    pub way : ((next a ≡ op.Load word.Failed) × (code ≡ code_in shown.old)) ⊎ (GivesFailed a code ⊎ StoresFailed a code)
    pub lost : Option DevError
    pub has_met : HasMet shown.about shown.actors lost
    pub cause : CodeHasCause log_seen data_seen code shown.run.first_log shown.old.log shown.run.first_data shown.old.store lost

  -- WHY A STEP ENDED SO: idle where its condition didn't hold yet, ended just where it ends a user, failed with a code
  -- that tells how. The actor was the one and is the other.
  pub record EndsSo (a : model.Actor) (ends : Step) (b : model.Actor) : Type 0 where
    pub idle : ends ≡ step.Idle → HasWaited a
    pub ended : (ends ≡ step.Ended) ↔ IsFinishedUser b
    pub failed : (code : ℕ) → ends ≡ step.Failed code → HasEndedBy a code ⊎ HasFailureCode a code
