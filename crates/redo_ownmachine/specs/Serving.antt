-- A turn of a user that writes for itself, as it is played.
use Rattle.std.specs.Prelude.{ℕ, ◌≡◌, ◌≢◌, is_some}
use Rattle.model_core.specs.{answer_of}
use Rattle.model_core.specs.declared.ops.Answer.{Answer}
use Rattle.model_core.specs.declared.ops.Op.TheVariants as op
use Rattle.model_core.specs.declared.ops.Step.{Step}
use Rattle.model_own.specs.{LogWork, OwnUser, own_goes_on, own_lends, own_next, own_step_of}
use Rattle.model_own.specs.ErrandFits.{ErrandFits}
use Rattle.redo_disk.specs.{Seen}
use Rattle.redo_drive.specs.{lists_of, HasWholePages, IsPlayable, IsPlayed, RunOf}
use Rattle.redo_drive.specs.declared.parts.Parts.{Parts}
use Rattle.redo_ownuser.specs.OwnFits.{OwnAnswerFits, WorkGoesOn}
use Rattle.redo_words.specs.{Lends}
use Rattle.redo_words.specs.declared.lent.Lent.{Lent}

-- A user may have its turn, with the log's work so far: what it asks for may be played, and any answer to it is one that
-- it may take.
pub record MayServeUser {L D : Type 0} (parts : Parts L D) (who : OwnUser) (work : LogWork) : Type 0 where
  pub goes_on : WorkGoesOn who.errand work
  pub stands : ErrandFits who.user who.errand
  pub playable : (l : Lent) → Lends l (own_lends who work) → IsPlayable parts (own_next who work) l
  pub whole : HasWholePages parts.store.shape (own_next who work) (own_lends who work)
  pub no_read : (lsn : ℕ) → own_next who work ≢ op.ReadBlock lsn
  pub fits : (code mark : ℕ) → OwnAnswerFits who work (answer_of parts.words.layout (lists_of parts.lists)
      (is_some parts.log.failed) code mark parts.words.words (own_next who work))

-- It has had its turn, with this answer.
pub record IsUserServed {L D : Type 0} (log_seen : L → Seen) (data_seen : D → Seen) (run : RunOf L D)
    (old : Parts L D) (who : OwnUser) (work : LogWork) (step : Step) (new : Parts L D) (after : OwnUser)
    (left : LogWork) : Type 0 where
  pub answer : Answer
  pub played : IsPlayed log_seen data_seen run (own_next who work) (own_lends who work) old answer new
  pub user : after ≡ (own_goes_on who work answer).0
  pub its_work : left ≡ (own_goes_on who work answer).1
  pub ends : step ≡ own_step_of who work answer
