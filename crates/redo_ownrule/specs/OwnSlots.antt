-- The log's work, where it lies beside the log part in a slot.
use Rattle.std.specs.Prelude.{None, Result, Some, ℕ, ◌≡◌}
use Rattle.model_core.specs.{LogServed}
use Rattle.model_core.specs.declared.ops.Op.TheVariants as op
use Rattle.redo_disk.specs.{Call, EndWith, error_of, MakesCalls, Seen}
use Rattle.redo_disk.specs.declared.error.DevError.{DevError}
use Rattle.redo_drive.specs.{call_code, MayWriteLent}
use Rattle.redo_drive.specs.LogPartSide as log_part
use Rattle.redo_drive.specs.declared.device.Device.TheVariants.{Log}
use Rattle.redo_logdev.specs.Part as log
use Rattle.model_core.specs.declared.ops.Answer.{Answer}
use Rattle.model_core.specs.declared.ops.Step.{Step}
use Rattle.model_own.specs.{LogWork, own_goes_on, own_lends, own_step_of, OwnUser}
use Rattle.model_own.specs.ErrandFits.{ErrandFits}
use Rattle.redo_ownrule.specs.OwnPlays.{with_work}
use Rattle.redo_ownuser.specs.OwnFits.{OwnAnswerFits, WorkGoesOn}
use Rattle.redo_rule.specs.declared.law.Desk.{Desk}
use Rattle.redo_rule.specs.declared.law.Slot.{Slot}
use Rattle.redo_rule.specs.declared.law.Slot.TheVariants as slot
use Rattle.redo_words.specs.{Lends}
use Rattle.redo_words.specs.declared.lent.Lent.{Lent}

-- it may be written up to this mark, with what the work beside it lends
pub record MayWriteOf {L : Type 0} (desk : Desk L) (o : OwnUser) (mark : ℕ) : Type 0 where
  pub work : LogWork
  pub its : desk.work ≡ Some work
  pub may : (l : Lent) → Lends l (own_lends o work) → MayWriteLent desk.part mark l

pub record IsWritten {L : Type 0} (log_seen : L → Seen) (log_gives : L → Call → L → Type 0) (old new : Desk L) (o : OwnUser)
    (mark : ℕ) (work : LogWork) (ended : Result (Unit {0}) DevError) : Type 0 where
  pub live : old.part.failed ≡ None
  pub served : (faults start : ℕ) (first : log.Part L)
      → LogServed (log_part.log_side log_seen faults first.marks.number (log_part.HasBegun log_seen start first)) old.part
      (own_lends o work) (op.WriteTo mark) (call_code Log new.part.failed) new.part
  pub told : new.part.failed ≡ error_of ended
  -- the log's work stays beside it as it was
  pub work_stays : new.work ≡ old.work
  pub calls : MakesCalls log_gives old.part.dev new.part.dev (EndWith new.part.failed)

module _ {L D : Type 0} where
  -- the log part lies in it, with this work beside it
  pub record LiesIn (s : Slot L D) (work : LogWork) : Type 0 where
    pub desk : Desk L
    pub is : s ≡ slot.Log desk
    pub its : desk.work ≡ Some work

  pub record GoesOnIn (s : Slot L D) (o : OwnUser) : Type 0 where
    pub work : LogWork
    pub lies : LiesIn s work
    pub goes_on : WorkGoesOn o.errand work

  pub record MayTakeIn (s : Slot L D) (o : OwnUser) (r : Answer) : Type 0 where
    pub work : LogWork
    pub lies : LiesIn s work
    pub fits : OwnAnswerFits o work r
    pub stands : ErrandFits o.user o.errand

  pub record MayWriteIn (s : Slot L D) (o : OwnUser) (mark : ℕ) : Type 0 where
    pub desk : Desk L
    pub is : s ≡ slot.Log desk
    pub may : MayWriteOf desk o mark

  -- the log was written up to a mark, with what the work lends
  pub record WroteIn (log_seen : L → Seen) (log_gives : L → Call → L → Type 0) (old new : Slot L D) (o : OwnUser) (mark : ℕ)
      (ended : Result (Unit {0}) DevError) : Type 0 where
    pub was : Desk L
    pub now : Desk L
    pub old_is : old ≡ slot.Log was
    pub new_is : new ≡ slot.Log now
    pub written : (work : LogWork) → was.work ≡ Some work → IsWritten log_seen log_gives was now o mark work ended

  -- the user took an answer, and the work with it
  pub record TookIn (old new : Slot L D) (o then : OwnUser) (r : Answer) (step : Step) : Type 0 where
    pub work : LogWork
    pub lies : LiesIn old work
    pub now : new ≡ slot.Log (with_work lies.desk (own_goes_on o work r).1)
    pub user : then ≡ (own_goes_on o work r).0
    pub ends : step ≡ own_step_of o work r
