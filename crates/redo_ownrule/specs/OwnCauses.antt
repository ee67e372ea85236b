-- Why an answer of `play` came, of a user that writes for itself.
use Rattle.std.specs.Prelude.{Option, false, true, ℕ, ◌↔◌, ◌≡◌, ◌⊎◌}
use Rattle.model_core.specs.States as model
use Rattle.model_core.specs.declared.ops.Answer.{Answer}
use Rattle.model_core.specs.declared.ops.Op.TheVariants as op
use Rattle.model_core.specs.declared.ops.Step.{Step}
use Rattle.model_core.specs.declared.ops.Step.TheVariants as step
use Rattle.model_core.specs.declared.words.Word.TheVariants as word
use Rattle.model_own.specs.{errand_waits, LogWork, own_next, OwnUser}
use Rattle.redo_disk.specs.{Seen}
use Rattle.redo_disk.specs.declared.error.DevError.{DevError}
use Rattle.redo_drive.specs.{code_in, view_of}
use Rattle.redo_ownmachine.specs.OwnSeats.{actors_of}
use Rattle.redo_ownrule.specs.OwnPlays.{ErrandGivesFailed, OwnShown}
use Rattle.redo_ownrule.specs.declared.player.Player.{Player}
use Rattle.redo_ownrule.specs.declared.player.Player.TheVariants as player
use Rattle.redo_rule.specs.Causes.{EndsSo, HasEndedBy, HasMet, IsFinishedUser}
use Rattle.redo_rule.specs.Failing.{CodeHasCause}
use Rattle.redo_rule.specs.Mine.{number_of}
use Rattle.redo_rule.specs.declared.law.View.{View}

module _ {L D : Type 0} (log_seen : L → Seen) (data_seen : D → Seen) (v : View L D) where
  -- At that moment the condition of its step didn't hold yet, and it set out on no errand for that; or it was to take the
  -- log part for its errand, and somebody held it.
  pub record OwnHasWaited (o : OwnUser) : Type 0 where
    pub work : LogWork
    pub answer : Answer
    pub shown : OwnShown log_seen data_seen v.about (number_of v) o work answer
    pub goes_on : o.user.checks ≡ false
    pub waits : errand_waits o answer o.errand ≡ true

  -- THE CODE BY WHICH ITS STEP ENDED, at that moment: the user found it in FAILED; or a device call of its errand had
  -- failed with it, and the user had stored it and gave the log part back. The code has its cause in what the devices had
  -- met since the run began, the archive's among them.
  pub record OwnHasFailureCode (o : OwnUser) (code : ℕ) : Type 0 where
    pub work : LogWork
    pub answer : Answer
    pub shown : OwnShown log_seen data_seen v.about (number_of v) o work answer
    pub way : ((own_next o work ≡ op.Load word.Failed) × (code ≡ code_in shown.old))
        ⊎ ErrandGivesFailed o.errand work code
    pub lost : Option DevError
    pub has_met : HasMet shown.about (actors_of shown.seats) lost
    pub cause : CodeHasCause log_seen data_seen code shown.run.first_log shown.old.log shown.run.first_data
        shown.old.store lost

  -- WHY A STEP ENDED SO, as for one that plays by its own program. The user was the one and is the other.
  pub record OwnEndsSo (o : OwnUser) (ends : Step) (x : OwnUser) : Type 0 where
    pub idle : ends ≡ step.Idle → OwnHasWaited o
    pub ended : (ends ≡ step.Ended) ↔ IsFinishedUser (model.User x.user)
    pub failed : (code : ℕ) → ends ≡ step.Failed code → HasEndedBy (model.User o.user) code ⊎ OwnHasFailureCode o code

-- why a player's step ended so
abbrev pub PlayerEndsSo : {L D R : Type 0} → (L → Seen) → (D → Seen) → View L D → Player R → Step → Player R → Type 0
PlayerEndsSo log_seen data_seen v (player.Plain a) ends (player.Plain b) =
    EndsSo log_seen data_seen v (view_of a) ends (view_of b)
PlayerEndsSo log_seen data_seen v (player.Own o) ends (player.Own x) = OwnEndsSo log_seen data_seen v o ends x
PlayerEndsSo log_seen data_seen v p ends q = ⊥
