-- What each step of the table tells the seat of a user that writes for itself: its state and the log's work took an answer,
-- and what it may do next.
use Rattle.std.specs.Prelude.{List, None, Option, Some, [], cond, length, true, ℕ, ◌∷◌, ◌≡◌, ◌≢◌, is_some}
use lib.ListN.{get_elem?}
use mathlib.Core.Option.{some}
use Rattle.atomic_table.specs.Table.{Me, rest}
use Rattle.model_core.specs.{OpWords, user_op, AnswerFits, GivesFailed}
use Rattle.model_core.specs.States as model
use Rattle.model_core.specs.declared.words.Layout.{Layout}
use Rattle.model_core.specs.declared.ops.Op.TheVariants as op
use Rattle.model_core.specs.declared.steps.FlusherStep.{FlusherStep}
use Rattle.model_core.specs.declared.steps.FlusherStep.TheVariants as flusher_step
use Rattle.model_core.specs.declared.steps.UserStep.TheVariants as user_step
use Rattle.model_core.specs.declared.steps.WriterStep.{WriterStep}
use Rattle.model_core.specs.declared.steps.WriterStep.TheVariants as writer_step
use Rattle.model_own.specs.declared.errand.ErrandStep.{ErrandStep}
use Rattle.model_own.specs.declared.errand.ErrandStep.TheVariants as errand_step
use Rattle.model_core.specs.declared.ops.Answer.{Answer}
use Rattle.model_core.specs.declared.ops.Answer.TheVariants as answer
use Rattle.model_core.specs.declared.ops.Step.{Step}
use Rattle.model_own.specs.{UserTurn, LogWork, own_goes_on, own_lends, own_next, OwnUser, has_work}
use Rattle.model_own.specs.ErrandFits.{ErrandFits}
use Rattle.redo_disk.specs.{Seen}
use Rattle.redo_drive.specs.{call_answer, LogReady, run_data_side, run_log_side, RunOf, told_by}
use Rattle.redo_drive.specs.declared.device.Device.TheVariants.{Log}
use Rattle.redo_drive.specs.declared.parts.Parts.{Parts}
use Rattle.redo_ownmachine.specs.OwnSeats.{OwnSeats}
use Rattle.redo_ownmachine.specs.OwnStore.{own_core_of, OwnRunsWith}
use Rattle.redo_ownuser.specs.OwnFits.{OwnAnswerFits, WorkGoesOn}
use Rattle.redo_flushlist.specs.{Listing}
use Rattle.redo_rule.specs.Plays.{list_behind, ListFits, TakesList, taking}
use Rattle.redo_rule.specs.Ruled.{IsRunAbout}
use Rattle.redo_rule.specs.declared.law.About.{About}
use Rattle.redo_rule.specs.declared.law.Desk.{Desk}
use Rattle.redo_rule.specs.declared.law.Errand.{Errand}
use Rattle.redo_rule.specs.declared.law.Numbered.{Numbered}
use Rattle.redo_rule.specs.declared.law.Slot.{Slot}
use Rattle.redo_rule.specs.declared.law.Slot.TheVariants as slot
use Rattle.redo_rule.specs.declared.law.TheConstants.{LOG_SLOT}
use Rattle.redo_rule.specs.declared.law.View.{View}
use Rattle.redo_words.specs.{Lends}
use Rattle.redo_words.specs.declared.lent.Lent.{Lent}

abbrev pub errand_of : OwnUser → Errand
errand_of o = record { step = o.errand; helped = o.helped }

-- the seat is this user's
pub record IsOwn (x : Numbered) (o : OwnUser) : Type 0 where
  pub state : x.actor ≡ model.User o.user
  pub errand : ◌≡◌ {A = Option Errand} x.errand (Some (errand_of o))

-- a seat's user, as it is then
abbrev pub own_behind : Numbered → OwnUser → Numbered
own_behind x o = record {
  number = x.number;
  actor = model.User o.user;
  heard = x.heard;
  errand = Some (errand_of o);
}

-- where the writer and the flusher stand in a user's hand: that has DEVICE, and gives it when all is done
abbrev pub WriterInHand : WriterStep → Type 0
WriterInHand writer_step.TakeDevice = ⊥
WriterInHand writer_step.GiveBroken = ⊥
WriterInHand writer_step.GiveDevice = ⊥
WriterInHand writer_step.Failed = ⊥
WriterInHand _ = Unit {0}

abbrev pub FlusherInHand : FlusherStep → Type 0
FlusherInHand flusher_step.Sync = Unit {0}
FlusherInHand flusher_step.StoreFlushed = Unit {0}
FlusherInHand flusher_step.GiveDevice = Unit {0}
FlusherInHand flusher_step.StoreFailed = Unit {0}
FlusherInHand flusher_step.GiveFailed = Unit {0}
FlusherInHand _ = ⊥

abbrev pub WorkInHand : ErrandStep → LogWork → Type 0
WorkInHand errand_step.Write k = WriterInHand k.writer.step
WorkInHand errand_step.Flush k = FlusherInHand k.flusher.step
WorkInHand _ k = Unit {0}

-- a call of the errand has failed with this code: the writer or the flusher in the user's hand has stored it in FAILED,
-- and gives the log part back
abbrev pub ErrandGivesFailed : ErrandStep → LogWork → ℕ → Type 0
ErrandGivesFailed errand_step.Write k code = GivesFailed (model.Writer k.writer) code
ErrandGivesFailed errand_step.Flush k code = GivesFailed (model.Flusher k.flusher) code
ErrandGivesFailed _ k code = ⊥

-- what lies in the log part's slot, with the log's work so far
abbrev pub with_work : {L : Type 0} → Desk L → LogWork → Desk L
with_work desk k = record { part = desk.part; block = desk.block; work = Some k }

module _ {L D : Type 0} where
  -- what a seat knows once its user took an answer
  abbrev pub own_view : View L D → Numbered → OwnUser → Option (Slot L D) → View L D
  own_view v x o held = record {
    about = v.about;
    layout = v.layout;
    seats = own_behind x o ∷ [];
    held = held;
    data_part = v.data_part;
  }

  -- What a user may do next, with the log's work so far: it may ask, and its call may be made of the part that it has.
  pub record OwnMayGo (layout : Layout) (held : Option (Slot L D)) (o : OwnUser) (k : LogWork) : Type 0 where
    pub stands : ErrandFits o.user o.errand
    pub goes_on : WorkGoesOn o.errand k
    pub in_hand : WorkInHand o.errand k
    pub done : o.user.step ≡ user_step.Done → o.user.k ≡ length o.user.lines
    pub rest : own_next o k ≡ op.Rest → AnswerFits (model.User o.user) answer.Rested
    pub give : own_next o k ≡ op.GiveDevice → OwnAnswerFits o k (answer.Taken None)
    pub there : OpWords layout (own_next o k)
    pub log : (desk : Desk L) → held ≡ Some (slot.Log desk) → has_work o.errand ≡ true → (l : Lent)
        → Lends l (own_lends o k) → LogReady desk.part l (own_next o k)

  -- The log's work in its hand lies beside the log part; with no work in hand it is any.
  abbrev pub HasWork : Option (Slot L D) → OwnUser → LogWork → Type 0
  HasWork held o k = has_work o.errand ≡ true → (desk : Desk L) × (held ≡ Some (slot.Log desk)) × (desk.work ≡ Some k)

  -- what it holds after an Op on a word: the log part, if it had that, with the log's work as it is then
  abbrev pub held_behind : Option (Slot L D) → OwnUser → LogWork → Option (Slot L D)
  held_behind (Some (slot.Log desk)) o k = cond (has_work o.errand) (Some (slot.Log (with_work desk k))) (Some (slot.Log desk))
  held_behind held o k = held

module _ {L D : Type 0} (log_seen : L → Seen) (data_seen : D → Seen) where
  -- THERE WAS A MOMENT in the run that the table is about, as its seat was told, at which the invariant of users that write
  -- for themselves held, and one turn of the definition was this user's, with this answer.
  pub record OwnShown (told : Option (About L D)) (number : ℕ) (o : OwnUser) (k : LogWork) (r : Answer) : Type 0 where
    pub about : About L D
    pub about_is : told ≡ Some about
    pub run : RunOf L D
    pub is_about : IsRunAbout log_seen data_seen about run
    pub old : Parts L D
    pub seats : OwnSeats
    pub runs : OwnRunsWith log_seen data_seen run about.plan.archive old seats
    pub new : Parts L D
    pub after : OwnSeats
    pub runs_on : OwnRunsWith log_seen data_seen run about.plan.archive new after
    pub at : get_elem? seats.users number ≡ some o
    pub work : seats.work ≡ k
    -- where its errand gives the log part back after a failed call, its code is one that the part has
    pub has_cause : (code : ℕ) → ErrandGivesFailed o.errand k code
        → (run_log_side log_seen data_seen run).Cause old.log code
    pub ends : Step
    pub turn : UserTurn (run_log_side log_seen data_seen run) (run_data_side log_seen data_seen run)
        (own_core_of log_seen data_seen run old seats) number r ends (own_core_of log_seen data_seen run new after)

  -- the seat's user took an answer, with the log's work so far, and holds this then
  pub record OwnStepped (x : Numbered) (o : OwnUser) (k : LogWork) (r : Answer) (held : Option (Slot L D))
      (carried : List (ℕ × Slot L D)) (v : View L D) (m' : Me (Slot L D) (View L D)) : Type 0 where
    pub fits : OwnAnswerFits o k r
    pub shown : OwnShown v.about x.number o k r
    pub is : m' ≡ (own_view v x (own_goes_on o k r).0 held, carried)
    pub may : OwnMayGo v.layout held (own_goes_on o k r).0 (own_goes_on o k r).1

  -- A step on a word: the number found is the answer. The change of the log's work in its hand is to follow.
  abbrev pub own_saw : Me (Slot L D) (View L D) → ℕ → Me (Slot L D) (View L D) → Type 0
  own_saw m n m' = (x : Numbered) (o : OwnUser) → m.0.seats ≡ x ∷ [] → IsOwn x o
      → (k : LogWork) × HasWork m.0.held o k
      × OwnStepped x o k (answer.Old n) (held_behind m.0.held o (own_goes_on o k (answer.Old n)).1) m.1 m.0 m'

  -- The taking of the log part with the log's work, in which a change is to follow.
  abbrev pub own_seized : Me (Slot L D) (View L D) → ℕ → Me (Slot L D) (View L D) → Type 0
  own_seized m n m' = (x : Numbered) (o : OwnUser) → m.0.seats ≡ x ∷ [] → IsOwn x o
      → (n ≡ 0 → (desk : Desk L) × (k : LogWork) × (desk.work ≡ Some k)
      × OwnStepped x o k (taking (is_some desk.part.failed))
      (Some (slot.Log (with_work desk (own_goes_on o k (taking (is_some desk.part.failed))).1)))
      ((LOG_SLOT, slot.Log desk) ∷ m.1) m.0 m')
      × (n ≢ 0 → (k : LogWork) × OwnStepped x o k answer.Held m.0.held m.1 m.0 m')

  -- Whatever it has taken is given back with its slot, the log part with the log's work as the answer has left it.
  abbrev pub own_gave : Me (Slot L D) (View L D) → ℕ → Me (Slot L D) (View L D) → Type 0
  own_gave m n m' = (x : Numbered) (o : OwnUser) → m.0.seats ≡ x ∷ [] → IsOwn x o
      → (k : LogWork) × HasWork m.0.held o k × OwnStepped x o k (answer.Taken None) None (rest m.1) m.0 m'

  -- after a call of the log part
  abbrev pub own_called : Me (Slot L D) (View L D) → ℕ → Me (Slot L D) (View L D) → Type 0
  own_called m n m' = (x : Numbered) (o : OwnUser) (desk : Desk L) → m.0.seats ≡ x ∷ [] → IsOwn x o
      → m.1 ≡ (LOG_SLOT, slot.Log desk) ∷ []
      → (k : LogWork) × HasWork m.0.held o k
      × OwnStepped x o k (call_answer Log desk.part.failed (told_by (own_next o k) desk.part.marks.stable))
      (Some (slot.Log (with_work desk
      (own_goes_on o k (call_answer Log desk.part.failed (told_by (own_next o k) desk.part.marks.stable))).1))) m.1 m.0 m'

  -- the taking of a flush list, whose call is to follow
  abbrev pub own_seized_list : Me (Slot L D) (View L D) → ℕ → Me (Slot L D) (View L D) → Type 0
  own_seized_list m n m' = (x : Numbered) (o : OwnUser) (i : ℕ) → m.0.seats ≡ x ∷ [] → IsOwn x o → TakesList (user_op o.user o.user.step) i
      → (n ≡ 0 → (l : Listing) × (k : LogWork) × ListFits (user_op o.user o.user.step) l
      × OwnStepped x o k (answer.Taken None) (Some (slot.Pages (list_behind (user_op o.user o.user.step) l)))
      ((i, slot.Pages l) ∷ m.1) m.0 m')
      × (n ≢ 0 → (k : LogWork) × OwnStepped x o k answer.Held m.0.held m.1 m.0 m')

  -- a look that changes nothing: what the user may do
  abbrev pub own_looked : Me (Slot L D) (View L D) → ℕ → Me (Slot L D) (View L D) → Type 0
  own_looked m n m' = (m' ≡ m) × ((x : Numbered) (o : OwnUser) → m.0.seats ≡ x ∷ [] → IsOwn x o
      → ErrandFits o.user o.errand
      × ((k : LogWork) → HasWork m.0.held o k → OwnMayGo m.0.layout m.0.held o k))
