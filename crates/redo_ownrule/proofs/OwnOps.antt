-- Which Op a user that writes for itself asks for where.
use Rattle.std.proofs.Common.{Bool, List, None, Option, ap, cond, false, refl, subst, sym, true, ℕ, ◌∙◌, ◌≡◌}
use Rattle.model_core.proofs.TurnWords.{advance_asks, IsWordOp}
use Rattle.model_core.specs.{FlusherState, flusher_op, flusher_took, next, old_of, user_op, UserState, writer_op, writer_took, WriterState, OpWords, AnswerFits}
use Rattle.model_core.specs.States as model
use Rattle.model_core.specs.LogPrograms.{advance_op}
use Rattle.model_core.specs.declared.words.Layout.{Layout}
use Rattle.model_core.specs.declared.ops.Answer.{Answer}
use Rattle.model_core.specs.declared.ops.Answer.TheVariants as answer
use Rattle.model_core.specs.declared.ops.Op.{Op}
use Rattle.model_core.specs.declared.ops.Op.TheVariants as op
use Rattle.model_core.specs.declared.steps.FlusherStep.{FlusherStep}
use Rattle.model_core.specs.declared.steps.FlusherStep.TheVariants as flusher_step
use Rattle.model_core.specs.declared.steps.UserStep.{UserStep}
use Rattle.model_core.specs.declared.steps.UserStep.TheVariants as user_step
use Rattle.model_core.specs.declared.steps.WriterStep.{WriterStep}
use Rattle.model_core.specs.declared.steps.WriterStep.TheVariants as writer_step
use Rattle.model_core.specs.declared.words.LinkBuffer.TheVariants as link_buffer
use Rattle.model_core.specs.declared.words.Word.TheVariants as word
use Rattle.model_own.specs.{after_flusher, after_writer, errand_op, errand_took, LogWork, own_checked, own_goes_on, own_next, OwnUser, has_work}
use Rattle.model_own.specs.ErrandFits.{ErrandFits}
use Rattle.model_own.specs.declared.errand.ErrandStep.{ErrandStep}
use Rattle.model_own.specs.declared.errand.ErrandStep.TheVariants as errand_step
use Rattle.redo_ownrule.specs.OwnPlays.{FlusherInHand, OwnMayGo, WorkInHand, WriterInHand}
use Rattle.redo_ownuser.specs.OwnFits.{ErrandAnswerFits, WorkGoesOn}
use Rattle.redo_rule.specs.declared.law.Slot.{Slot}
use Rattle.redo_words.specs.{HoldsSum}

-- the Ops of a user's own program, and those of the log's work in its hand
abbrev IsUserOp : Op → Type 0
IsUserOp (op.Load w) = Unit {0}
IsUserOp (op.Store w x) = Unit {0}
IsUserOp (op.Add w x) = Unit {0}
IsUserOp (op.Swap w x y) = Unit {0}
IsUserOp (op.TakeAdd p x) = Unit {0}
IsUserOp (op.GiveList i) = Unit {0}
IsUserOp op.Rest = Unit {0}
IsUserOp _ = ⊥

abbrev IsWriterOp : Op → Type 0
IsWriterOp (op.Load w) = Unit {0}
IsWriterOp (op.Store w x) = Unit {0}
IsWriterOp (op.Swap w x y) = Unit {0}
IsWriterOp (op.WriteTo t) = Unit {0}
IsWriterOp op.GiveDevice = Unit {0}
IsWriterOp _ = ⊥

abbrev IsFlusherOp : Op → Type 0
IsFlusherOp (op.Store w x) = Unit {0}
IsFlusherOp op.Sync = Unit {0}
IsFlusherOp op.GiveDevice = Unit {0}
IsFlusherOp _ = ⊥

user_word : (o : Op) → IsWordOp o → IsUserOp o
user_word (op.Load w) is = tt
user_word (op.Store w x) is = tt
user_word (op.Swap w x y) is = tt
user_word _ is = absurd is

writer_word : (o : Op) → IsWordOp o → IsWriterOp o
writer_word (op.Load w) is = tt
writer_word (op.Store w x) is = tt
writer_word (op.Swap w x y) is = tt
writer_word _ is = absurd is

user_ops : (u : UserState) (s : UserStep) → IsUserOp (user_op u s)
user_ops u (user_step.AdvanceWritten v) =
    user_word (advance_op link_buffer.Written u.advance v) (advance_asks link_buffer.Written u.advance v _ refl)
user_ops u (user_step.AdvanceClosed v) =
    user_word (advance_op link_buffer.Closed u.advance v) (advance_asks link_buffer.Closed u.advance v _ refl)
user_ops u _ = tt

writer_ops : (s : WriterState) (w : WriterStep) → WriterInHand w → IsWriterOp (writer_op s w)
writer_ops s (writer_step.Advance v) on =
    writer_word (advance_op link_buffer.Written s.advance v) (advance_asks link_buffer.Written s.advance v _ refl)
writer_ops s writer_step.TakeDevice on = absurd on
writer_ops s writer_step.Failed on = absurd on
writer_ops s _ on = tt

flusher_ops : (t : FlusherState) (f : FlusherStep) → FlusherInHand f → IsFlusherOp (flusher_op t f)
flusher_ops t flusher_step.LoadWrite on = absurd on
flusher_ops t flusher_step.TakeDevice on = absurd on
flusher_ops t flusher_step.Failed on = absurd on
flusher_ops t _ on = tt

module _ (o : OwnUser) (k : LogWork) (hold : WorkInHand o.errand k) where
  abbrev asked : Bool → ErrandStep → Op
  asked b x = cond b (op.Load word.Failed) (errand_op o k x)

  -- IT ASKS FOR DEVICE on its way to an errand alone
  pub takes_it : own_next o k ≡ op.TakeDevice → (o.errand ≡ errand_step.TakeDevice) × (o.user.checks ≡ false)
  takes_it e = by o.user.checks o.errand refl refl hold e
    where
      by : (b : Bool) (x : ErrandStep) → o.user.checks ≡ b → o.errand ≡ x → WorkInHand x k → asked b x ≡ op.TakeDevice
          → (o.errand ≡ errand_step.TakeDevice) × (o.user.checks ≡ false)
      by true x c is on e = absurd (cc)
      by false errand_step.Done c is on e = absurd (subst IsUserOp e (user_ops o.user o.user.step))
      by false errand_step.TakeDevice c is on e = (is, c)
      by false errand_step.GiveBroken c is on e = absurd (cc)
      by false errand_step.Write c is on e = absurd (subst IsWriterOp e (writer_ops k.writer k.writer.step on))
      by false errand_step.Flush c is on e = absurd (subst IsFlusherOp e (flusher_ops k.flusher k.flusher.step on))

  -- it gives DEVICE, and calls the log part, with the log's work in hand alone
  abbrev IsPartOp : Op → Type 0
  IsPartOp op.GiveDevice = Unit {0}
  IsPartOp (op.WriteTo t) = Unit {0}
  IsPartOp op.Sync = Unit {0}
  IsPartOp _ = ⊥

  no_part : (a : Op) → IsUserOp a → IsPartOp a → ⊥
  no_part op.GiveDevice u p = u
  no_part (op.WriteTo t) u p = u
  no_part op.Sync u p = u
  no_part _ u p = absurd p

  pub part_work : (a : Op) → IsPartOp a → own_next o k ≡ a → (has_work o.errand ≡ true) × (o.user.checks ≡ false)
  part_work a part e = by o.user.checks o.errand refl refl hold e
    where
      by : (b : Bool) (x : ErrandStep) → o.user.checks ≡ b → o.errand ≡ x → WorkInHand x k → asked b x ≡ a
          → (has_work o.errand ≡ true) × (o.user.checks ≡ false)
      by true x c is on e = absurd (subst IsPartOp (sym e) part)
      by false errand_step.Done c is on e = absurd (no_part a (subst IsUserOp e (user_ops o.user o.user.step)) part)
      by false errand_step.TakeDevice c is on e = absurd (subst IsPartOp (sym e) part)
      by false errand_step.GiveBroken c is on e = (ap has_work is, c)
      by false errand_step.Write c is on e = (ap has_work is, c)
      by false errand_step.Flush c is on e = (ap has_work is, c)

  -- it takes and gives a list by its own program
  abbrev IsListOp : Op → Type 0
  IsListOp (op.TakeAdd p x) = Unit {0}
  IsListOp (op.GiveList i) = Unit {0}
  IsListOp _ = ⊥

  no_writer : (a : Op) → IsWriterOp a → IsListOp a → ⊥
  no_writer (op.TakeAdd p x) w l = w
  no_writer (op.GiveList i) w l = w
  no_writer _ w l = absurd l

  no_flusher : (a : Op) → IsFlusherOp a → IsListOp a → ⊥
  no_flusher (op.TakeAdd p x) w l = w
  no_flusher (op.GiveList i) w l = w
  no_flusher _ w l = absurd l

  pub record AtHome (a : Op) : Type 0 where
    pub errand : o.errand ≡ errand_step.Done
    pub asks : o.user.checks ≡ false
    pub its_op : user_op o.user o.user.step ≡ a
    pub user_next : next (model.User o.user) ≡ a

  pub list_home : (a : Op) → IsListOp a → own_next o k ≡ a → AtHome a
  list_home a list e = by o.user.checks o.errand refl refl hold e
    where
      by : (b : Bool) (x : ErrandStep) → o.user.checks ≡ b → o.errand ≡ x → WorkInHand x k → asked b x ≡ a → AtHome a
      by true x c is on e = absurd (subst IsListOp (sym e) list)
      by false errand_step.Done c is on e = record {
        errand = is;
        asks = c;
        its_op = e;
        user_next = ap (λ (b : Bool). cond b (op.Load word.Failed) (user_op o.user o.user.step)) c ∙ e;
      }
      by false errand_step.TakeDevice c is on e = absurd (subst IsListOp (sym e) list)
      by false errand_step.GiveBroken c is on e = absurd (subst IsListOp (sym e) list)
      by false errand_step.Write c is on e =
          absurd (no_writer a (subst IsWriterOp e (writer_ops k.writer k.writer.step on)) list)
      by false errand_step.Flush c is on e =
          absurd (no_flusher a (subst IsFlusherOp e (flusher_ops k.flusher k.flusher.step on)) list)

  -- the Ops for which it never asks
  pub never : (a : Op) → own_next o k ≡ a → (IsUserOp a → ⊥) → (IsWriterOp a → ⊥) → (IsFlusherOp a → ⊥)
      → (a ≡ op.TakeDevice → ⊥) → (a ≡ op.GiveDevice → ⊥) → (a ≡ op.Load word.Failed → ⊥) → ⊥
  never a e u w f t g l = by o.user.checks o.errand hold e
    where
      by : (b : Bool) (x : ErrandStep) → WorkInHand x k → asked b x ≡ a → ⊥
      by true x on e = l (sym e)
      by false errand_step.Done on e = u (subst IsUserOp e (user_ops o.user o.user.step))
      by false errand_step.TakeDevice on e = t (sym e)
      by false errand_step.GiveBroken on e = g (sym e)
      by false errand_step.Write on e = w (subst IsWriterOp e (writer_ops k.writer k.writer.step on))
      by false errand_step.Flush on e = f (subst IsFlusherOp e (flusher_ops k.flusher k.flusher.step on))

  -- AFTER DEVICE IS GIVEN it hasn't the log's work in hand
  gives_writer : (s : WriterState) (w : WriterStep) → WriterInHand w → writer_op s w ≡ op.GiveDevice
      → has_work (after_writer o k (writer_took s (answer.Taken None) w) (writer_took s (answer.Taken None) w).step).0.errand
      ≡ false
  gives_writer s (writer_step.Advance v) on e = absurd (advance_asks link_buffer.Written s.advance v op.GiveDevice e)
  gives_writer s writer_step.GiveFailed on e = refl
  gives_writer s writer_step.GiveBroken on e = absurd on
  gives_writer s writer_step.GiveDevice on e = absurd on
  gives_writer s _ on e = absurd (cc)

  gives_flusher : (t : FlusherState) (f : FlusherStep) → FlusherInHand f → flusher_op t f ≡ op.GiveDevice
      → has_work (after_flusher o k (flusher_took t (answer.Taken None) f) (flusher_took t (answer.Taken None) f).step).0.errand
      ≡ false
  gives_flusher t flusher_step.GiveDevice on e = refl
  gives_flusher t flusher_step.GiveFailed on e = refl
  gives_flusher t flusher_step.GiveBroken on e = absurd on
  gives_flusher t _ on e = absurd (cc)

  pub gives_up : own_next o k ≡ op.GiveDevice → has_work (own_goes_on o k (answer.Taken None)).0.errand ≡ false
  gives_up e = by o.user.checks o.errand hold e
    where
      by : (b : Bool) (x : ErrandStep) → WorkInHand x k → asked b x ≡ op.GiveDevice
          → has_work (cond b (own_checked o 0, k) (errand_took o k (answer.Taken None) x)).0.errand ≡ false
      by true x on e = absurd (cc)
      by false errand_step.Done on e = absurd (subst IsUserOp e (user_ops o.user o.user.step))
      by false errand_step.TakeDevice on e = absurd (cc)
      by false errand_step.GiveBroken on e = refl
      by false errand_step.Write on e = gives_writer k.writer k.writer.step on e
      by false errand_step.Flush on e = gives_flusher k.flusher k.flusher.step on e

  -- after a call it has
  calls_writer : (s : WriterState) (w : WriterStep) (t : ℕ) (r : Answer) → has_work o.errand ≡ true
      → writer_op s w ≡ op.WriteTo t
      → has_work (after_writer o k (writer_took s r w) (writer_took s r w).step).0.errand ≡ true
  calls_writer s (writer_step.Advance v) t r has e = absurd (advance_asks link_buffer.Written s.advance v (op.WriteTo t) e)
  calls_writer s writer_step.WriteTo t (answer.Failed c) has e = has
  calls_writer s writer_step.WriteTo t (answer.Old n) has e = has
  calls_writer s writer_step.WriteTo t _ has e = has
  calls_writer s _ t r has e = absurd (cc)

  calls_flusher : (t : FlusherState) (f : FlusherStep) (r : Answer) → has_work o.errand ≡ true
      → flusher_op t f ≡ op.Sync
      → has_work (after_flusher o k (flusher_took t r f) (flusher_took t r f).step).0.errand ≡ true
  calls_flusher t flusher_step.Sync (answer.Failed c) has e = has
  calls_flusher t flusher_step.Sync (answer.Old n) has e = has
  calls_flusher t flusher_step.Sync _ has e = has
  calls_flusher t _ r has e = absurd (cc)

  pub write_keeps : (t : ℕ) (r : Answer) → own_next o k ≡ op.WriteTo t → has_work (own_goes_on o k r).0.errand ≡ true
  write_keeps t r e = by o.user.checks o.errand refl hold e
    where
      by : (b : Bool) (x : ErrandStep) → o.errand ≡ x → WorkInHand x k → asked b x ≡ op.WriteTo t
          → has_work (cond b (own_checked o (old_of r), k) (errand_took o k r x)).0.errand ≡ true
      by true x is on e = absurd (cc)
      by false errand_step.Done is on e = absurd (subst IsUserOp e (user_ops o.user o.user.step))
      by false errand_step.TakeDevice is on e = absurd (cc)
      by false errand_step.GiveBroken is on e = absurd (cc)
      by false errand_step.Write is on e = calls_writer k.writer k.writer.step t r (ap has_work is) e
      by false errand_step.Flush is on e = absurd (subst IsFlusherOp e (flusher_ops k.flusher k.flusher.step on))

  pub sync_keeps : (r : Answer) → own_next o k ≡ op.Sync → has_work (own_goes_on o k r).0.errand ≡ true
  sync_keeps r e = by o.user.checks o.errand refl hold e
    where
      by : (b : Bool) (x : ErrandStep) → o.errand ≡ x → WorkInHand x k → asked b x ≡ op.Sync
          → has_work (cond b (own_checked o (old_of r), k) (errand_took o k r x)).0.errand ≡ true
      by true x is on e = absurd (cc)
      by false errand_step.Done is on e = absurd (subst IsUserOp e (user_ops o.user o.user.step))
      by false errand_step.TakeDevice is on e = absurd (cc)
      by false errand_step.GiveBroken is on e = absurd (cc)
      by false errand_step.Write is on e = absurd (subst IsWriterOp e (writer_ops k.writer k.writer.step on))
      by false errand_step.Flush is on e = calls_flusher k.flusher k.flusher.step r (ap has_work is) e

  -- it syncs as the flusher
  pub sync_errand : own_next o k ≡ op.Sync → o.errand ≡ errand_step.Flush
  sync_errand e = by o.user.checks o.errand refl hold e
    where
      by : (b : Bool) (x : ErrandStep) → o.errand ≡ x → WorkInHand x k → asked b x ≡ op.Sync
          → o.errand ≡ errand_step.Flush
      by true x is on e = absurd (cc)
      by false errand_step.Done is on e = absurd (subst IsUserOp e (user_ops o.user o.user.step))
      by false errand_step.TakeDevice is on e = absurd (cc)
      by false errand_step.GiveBroken is on e = absurd (cc)
      by false errand_step.Write is on e = absurd (subst IsWriterOp e (writer_ops k.writer k.writer.step on))
      by false errand_step.Flush is on e = is

  -- the sum of an Add stays within a word
  plain_sum : (layout : Layout) (a : Op) (words : List ℕ) → IsWriterOp a → HoldsSum layout a words
  plain_sum layout (op.Add w x) words is = absurd is
  plain_sum layout _ words is = tt

  flush_sum : (layout : Layout) (a : Op) (words : List ℕ) → IsFlusherOp a → HoldsSum layout a words
  flush_sum layout (op.Add w x) words is = absurd is
  flush_sum layout _ words is = tt

  pub own_sum : (layout : Layout) (words : List ℕ) → HoldsSum layout (next (model.User o.user)) words → HoldsSum layout (own_next o k) words
  own_sum layout words sum = by o.user.checks o.errand refl hold
    where
      by : (b : Bool) (x : ErrandStep) → o.user.checks ≡ b → WorkInHand x k → HoldsSum layout (asked b x) words
      by true x c on = tt
      by false errand_step.Done c on = subst (λ (b : Bool). HoldsSum layout (cond b (op.Load word.Failed)
          (user_op o.user o.user.step)) words) c sum
      by false errand_step.TakeDevice c on = tt
      by false errand_step.GiveBroken c on = tt
      by false errand_step.Write c on =
          plain_sum layout (writer_op k.writer k.writer.step) words (writer_ops k.writer k.writer.step on)
      by false errand_step.Flush c on =
          flush_sum layout (flusher_op k.flusher k.flusher.step) words (flusher_ops k.flusher k.flusher.step on)

  -- with the log's work in hand it doesn't check, and the flusher doesn't look whether there is work
  pub no_check : has_work o.errand ≡ true → ErrandFits o.user o.errand → o.user.checks ≡ false
  no_check has fit = by o.errand has fit
    where
      by : (x : ErrandStep) → has_work x ≡ true → ErrandFits o.user x → o.user.checks ≡ false
      by errand_step.GiveBroken has fit = fit.1
      by errand_step.Write has fit = fit.1
      by errand_step.Flush has fit = fit.1
      by _ has fit = absurd (cc)

  pub no_look : k.flusher.step ≡ flusher_step.LoadWrite → o.errand ≡ errand_step.Flush → ⊥
  no_look looks is = subst FlusherInHand looks (subst (λ (x : ErrandStep). WorkInHand x k) is hold)

-- with no work in hand it may do the same whatever the work is
module _ {L D : Type 0} (o : OwnUser) (k j : LogWork) (layout : Layout) (held : Option (Slot L D)) where
  any_next : has_work o.errand ≡ false → own_next o k ≡ own_next o j
  any_next none = by o.user.checks o.errand none
    where
      by : (b : Bool) (x : ErrandStep) → has_work x ≡ false
          → cond b (op.Load word.Failed) (errand_op o k x) ≡ cond b (op.Load word.Failed) (errand_op o j x)
      by true x none = refl
      by false errand_step.Done none = refl
      by false errand_step.TakeDevice none = refl
      by false _ none = absurd (cc)

  aside : has_work o.errand ≡ false → OwnMayGo layout held o k → OwnMayGo layout held o j
  aside none go =
      let same = any_next none in record {
        stands = go.stands;
        goes_on = goes o.errand none;
        in_hand = stands o.errand none;
        done = go.done;
        rest = λ e. go.rest (same ∙ e);
        give = λ e. fits o.user.checks o.errand none (go.give (same ∙ e));
        there = subst (OpWords layout) same go.there;
        log = λ desk is has. let z : true ≡ false = sym has ∙ none in absurd (cc);
      }
    where
      goes : (x : ErrandStep) → has_work x ≡ false → WorkGoesOn x j
      goes errand_step.Done none = tt
      goes errand_step.TakeDevice none = tt
      goes _ none = absurd (cc)

      stands : (x : ErrandStep) → has_work x ≡ false → WorkInHand x j
      stands errand_step.Done none = tt
      stands errand_step.TakeDevice none = tt
      stands _ none = absurd (cc)

      fits : (b : Bool) (x : ErrandStep) → has_work x ≡ false
          → cond b (AnswerFits (model.User o.user) (answer.Taken None)) (ErrandAnswerFits o k (answer.Taken None) x)
          → cond b (AnswerFits (model.User o.user) (answer.Taken None)) (ErrandAnswerFits o j (answer.Taken None) x)
      fits true x none fit = fit
      fits false errand_step.Done none fit = fit
      fits false errand_step.TakeDevice none fit = fit
      fits false _ none fit = absurd (cc)

  pub any_work : OwnMayGo layout held o k → (has_work o.errand ≡ true → j ≡ k) → OwnMayGo layout held o j
  any_work go same = by (has_work o.errand) refl
    where
      by : (b : Bool) → has_work o.errand ≡ b → OwnMayGo layout held o j
      by true has = subst (λ (z : LogWork). OwnMayGo layout held o z) (sym (same has)) go
      by false none = aside none go
