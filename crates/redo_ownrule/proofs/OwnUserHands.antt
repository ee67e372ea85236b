-- Which list a user that writes for itself holds after an answer.
use Rattle.std.proofs.Common.{Bool, None, Option, ap, cond, false, refl, subst, sym, true, ℕ, ◌∙◌, ◌≡◌}
use Rattle.model_core.proofs.TurnWords.{advance_asks}
use Rattle.model_core.specs.{checked_of, FlusherState, flusher_took, heard, next, old_of, OnWord, took, user_op, user_program, user_took, user_waits, UserState, writer_took, WriterState, hand, IsFreeToCheck, user_hand}
use Rattle.model_core.specs.States as model
use Rattle.model_core.specs.ActorProgram.{opposite}
use Rattle.model_core.specs.declared.ops.Answer.{Answer}
use Rattle.model_core.specs.declared.ops.Answer.TheVariants as answer
use Rattle.model_core.specs.declared.ops.Op.{Op}
use Rattle.model_core.specs.declared.ops.Op.TheVariants as op
use Rattle.model_core.specs.declared.steps.FlusherStep.{FlusherStep}
use Rattle.model_core.specs.declared.steps.FlusherStep.TheVariants as flusher_step
use Rattle.model_core.specs.declared.steps.UserStep.{UserStep}
use Rattle.model_core.specs.declared.steps.UserStep.TheVariants as user_step
use Rattle.model_core.specs.declared.steps.WriterStep.{WriterStep}
use Rattle.model_core.specs.declared.steps.WriterStep.TheVariants as writer_step
use Rattle.model_core.specs.declared.words.LinkBuffer.TheVariants as link_buffer
use Rattle.model_core.specs.declared.words.Word.TheVariants as word
use Rattle.model_own.proofs.SetsOut.{out_at}
use Rattle.model_own.specs.{after_flusher, after_writer, begins_again, errand_op, errand_took, helps_at, keeps_helped, loads_again, LogWork, own_checked, own_goes_on, own_next, own_stepped, OwnUser, sets_out, written, has_work, MayHelpAt}
use Rattle.model_own.specs.ErrandFits.{ErrandFits}
use Rattle.model_own.specs.declared.errand.ErrandStep.{ErrandStep}
use Rattle.model_own.specs.declared.errand.ErrandStep.TheVariants as errand_step
use Rattle.redo_ownrule.proofs.OwnFree.{begins, no_slot}
use Rattle.redo_rule.proofs.Allowed.{word_hand}
use Rattle.redo_rule.proofs.Filled.{handles_filled}
use Rattle.redo_rule.specs.Plays.{no_filling}

abbrev Hand : UserState → Option ℕ
Hand u = hand (model.User u)

-- at the steps at which it sets out it holds nothing
help_slot : (u : UserState) (s : UserStep) → helps_at s ≡ true → user_hand u s ≡ None
help_slot u user_step.LoadSn e = refl
help_slot u user_step.LoadWrite e = refl
help_slot u (user_step.AdvanceWritten v) e = refl
help_slot u user_step.ReloadWtail e = refl
help_slot u user_step.AwaitMark e = refl
help_slot u _ e = absurd (cc)

out_helps : (w h x : Bool) → cond w (cond h x false) false ≡ true → h ≡ true
out_helps true true x e = refl
out_helps true false x e = absurd (cc)
out_helps false h x e = absurd (cc)

no_help : (w x : Bool) (h : Bool) → h ≡ false → cond w (cond h x false) false ≡ false
no_help true x true e = absurd (cc)
no_help true x false e = refl
no_help false x h e = refl

loads_there : (s : UserStep) → MayHelpAt s → MayHelpAt (loads_again s)
loads_there user_step.LoadCheckpoint may = tt
loads_there user_step.LoadWrite may = tt
loads_there user_step.LoadWtail may = tt
loads_there user_step.ReloadWtail may = tt
loads_there user_step.AwaitMark may = tt
loads_there _ may = absurd may

-- only its own step takes or gives a list, and there it doesn't set out
pub add_helps : (u : UserState) (s : UserStep) (p x : ℕ) → user_op u s ≡ op.TakeAdd p x → helps_at s ≡ false
add_helps u (user_step.AdvanceWritten v) p x e =
    absurd (advance_asks link_buffer.Written u.advance v (op.TakeAdd p x) e)
add_helps u user_step.LoadSn p x e = absurd (cc)
add_helps u user_step.LoadWrite p x e = absurd (cc)
add_helps u user_step.ReloadWtail p x e = absurd (cc)
add_helps u user_step.AwaitMark p x e = absurd (cc)
add_helps u _ p x e = refl

pub give_helps : (u : UserState) (s : UserStep) (i : ℕ) → user_op u s ≡ op.GiveList i → helps_at s ≡ false
give_helps u (user_step.AdvanceWritten v) i e =
    absurd (advance_asks link_buffer.Written u.advance v (op.GiveList i) e)
give_helps u user_step.LoadSn i e = absurd (cc)
give_helps u user_step.LoadWrite i e = absurd (cc)
give_helps u user_step.ReloadWtail i e = absurd (cc)
give_helps u user_step.AwaitMark i e = absurd (cc)
give_helps u _ i e = refl

module _ (o : OwnUser) (k : LogWork) where
  abbrev Then : Answer → UserState
  Then r = (own_goes_on o k r).0.user

  abbrev gone_on : ℕ → OwnUser
  gone_on n = record o {
    user = user_took o.user n o.user.step;
    helped = cond (keeps_helped o.user.step) o.helped false;
  }

  abbrev set_out : ℕ → OwnUser
  set_out n = record o {
    user = record (user_took o.user n o.user.step) {
      checks = false;
      step = loads_again (user_took o.user n o.user.step).step;
    };
    errand = errand_step.TakeDevice;
  }

  -- what it takes as any user does
  abbrev asked : Bool → UserStep → Op
  asked b s = cond b (op.Load word.Failed) (user_op o.user s)

  as_user : (r : Answer) → o.user.checks ≡ false → took (model.User o.user) r
      ≡ model.User (user_took o.user (heard r) o.user.step)
  as_user r asks = ap (λ (b : Bool). cond b (model.User (checked_of user_program o.user (old_of r)))
      (model.User (user_took o.user (heard r) o.user.step))) asks

  checked_user : (r : Answer) → o.user.checks ≡ true → took (model.User o.user) r
      ≡ model.User (checked_of user_program o.user (old_of r))
  checked_user r checks = ap (λ (b : Bool). cond b (model.User (checked_of user_program o.user (old_of r)))
      (model.User (user_took o.user (heard r) o.user.step))) checks

  -- AN OP ON A WORD leaves it what it holds, where it hasn't the log's work in hand
  pub word_holds : (n : ℕ) → IsFreeToCheck (model.User o.user) → has_work o.errand ≡ false → OnWord (own_next o k)
      → Hand (Then (answer.Old n)) ≡ Hand o.user
  word_holds n free none on = by o.user.checks o.errand refl none on
    where
      landed : OnWord (next (model.User o.user)) → hand (took (model.User o.user) (answer.Old n)) ≡ Hand o.user
      landed on = word_hand (next (model.User o.user)) on (Hand o.user) (λ r. hand (took (model.User o.user) r))
          (handles_filled (model.User o.user) no_filling free) n

      stepped : o.user.checks ≡ false → OnWord (user_op o.user o.user.step)
          → Hand (own_stepped o n).user ≡ Hand o.user
      stepped asks on = pick (sets_out o n) refl
        where
          pick : (b : Bool) → sets_out o n ≡ b → Hand (cond b (set_out n) (gone_on n)).user ≡ Hand o.user
          pick true is =
              let s = (user_took o.user n o.user.step).step in
              no_slot (set_out n).user (loads_again s) (loads_there s (out_at o n is))
              ∙ sym (help_slot o.user o.user.step
              (out_helps (user_waits o.user n o.user.step) (helps_at o.user.step) (opposite o.helped) is))
          pick false is = sym (ap hand (as_user (answer.Old n) asks))
              ∙ landed (subst (λ (b : Bool). OnWord (asked b o.user.step)) (sym asks) on)

      by : (b : Bool) (x : ErrandStep) → o.user.checks ≡ b → has_work x ≡ false
          → OnWord (cond b (op.Load word.Failed) (errand_op o k x))
          → Hand (cond b (own_checked o n, k) (errand_took o k (answer.Old n) x)).0.user ≡ Hand o.user
      by true x checks none on = sym (ap hand (checked_user (answer.Old n) checks))
          ∙ landed (subst (λ (b : Bool). OnWord (asked b o.user.step)) (sym checks) tt)
      by false errand_step.Done asks none on = stepped asks on
      by false errand_step.TakeDevice asks none on = absurd on
      by false _ asks none on = absurd (cc)

  -- with the log's work in hand it holds no list, and none after any answer
  pub work_holds : has_work o.errand ≡ true → ErrandFits o.user o.errand → Hand o.user ≡ None
  work_holds has fit = by o.errand has fit
    where
      by : (x : ErrandStep) → has_work x ≡ true → ErrandFits o.user x → Hand o.user ≡ None
      by errand_step.GiveBroken has fit = no_slot o.user o.user.step fit.0
      by errand_step.Write has fit = no_slot o.user o.user.step fit.0
      by errand_step.Flush has fit = no_slot o.user o.user.step fit.0
      by _ has fit = absurd (cc)

  pub work_leaves : (r : Answer) → has_work o.errand ≡ true → ErrandFits o.user o.errand → Hand (Then r) ≡ None
  work_leaves r has fit = by o.user.checks o.errand refl has fit
    where
      idle : MayHelpAt o.user.step → Hand o.user ≡ None
      idle may = no_slot o.user o.user.step may

      two : (b : Bool) (x y : OwnUser × LogWork) → Hand x.0.user ≡ None → Hand y.0.user ≡ None
          → Hand (cond b x y).0.user ≡ None
      two true x y p q = p
      two false x y p q = q

      writes : (s : WriterState) (st : WriterStep) → Hand o.user ≡ None → Hand (after_writer o k s st).0.user ≡ None
      writes s (writer_step.Advance v) e = two s.checks (written o k s) (o, record k { writer = s }) e e
      writes s writer_step.LoadCheckpoint e = two s.checks (written o k s) (o, record k { writer = s }) e e
      writes s writer_step.Failed e = refl
      writes s _ e = e

      flushes : (f : FlusherState) (st : FlusherStep) → Hand o.user ≡ None → Hand (after_flusher o k f st).0.user ≡ None
      flushes f flusher_step.Failed e = refl
      flushes f _ e = e

      by : (b : Bool) (x : ErrandStep) → o.user.checks ≡ b → has_work x ≡ true → ErrandFits o.user x
          → Hand (cond b (own_checked o (old_of r), k) (errand_took o k r x)).0.user ≡ None
      by true errand_step.GiveBroken checks has fit = let n : true ≡ false = sym checks ∙ fit.1 in absurd (cc)
      by true errand_step.Write checks has fit = let n : true ≡ false = sym checks ∙ fit.1 in absurd (cc)
      by true errand_step.Flush checks has fit = let n : true ≡ false = sym checks ∙ fit.1 in absurd (cc)
      by true _ checks has fit = absurd (cc)
      by false errand_step.GiveBroken asks has fit = no_slot (record o.user { checks = true }) o.user.step fit.0
      by false errand_step.Write asks has fit =
          let t = writer_took k.writer r k.writer.step in writes t t.step (idle fit.0)
      by false errand_step.Flush asks has fit =
          let f = flusher_took k.flusher r k.flusher.step in flushes f f.step (idle fit.0)
      by false _ asks has fit = absurd (cc)

  -- who asks for DEVICE holds nothing, whatever it gets
  pub device_holds : o.errand ≡ errand_step.TakeDevice → ErrandFits o.user o.errand → Hand o.user ≡ None
  device_holds is fit = no_slot o.user o.user.step (subst (λ (x : ErrandStep). ErrandFits o.user x) is fit)

  pub device_leaves : (r : Answer) → o.user.checks ≡ false → o.errand ≡ errand_step.TakeDevice
      → ErrandFits o.user o.errand → Hand (Then r) ≡ None
  device_leaves r asks is fit =
      let may : MayHelpAt o.user.step = subst (λ (x : ErrandStep). ErrandFits o.user x) is fit in
      ap (λ (b : Bool). Hand (cond b (own_checked o (old_of r), k) (errand_took o k r o.errand)).0.user) asks
      ∙ ap (λ (x : ErrandStep). Hand (errand_took o k r x).0.user) is ∙ takes r may
    where
      takes : (r : Answer) → MayHelpAt o.user.step → Hand (errand_took o k r errand_step.TakeDevice).0.user ≡ None
      takes (answer.Taken n) may = no_slot o.user o.user.step may
      takes answer.Broken may = no_slot o.user o.user.step may
      takes _ may = no_slot (record o.user { checks = true; step = begins_again o.user.step })
          (begins_again o.user.step) (begins o.user.step may)

  -- where it takes or gives a list it goes on as any user
  pub list_goes : (r : Answer) → o.user.checks ≡ false → o.errand ≡ errand_step.Done → helps_at o.user.step ≡ false
      → own_goes_on o k r ≡ (gone_on (heard r), k)
  list_goes r asks is helps =
      ap (λ (b : Bool). cond b (own_checked o (old_of r), k) (errand_took o k r o.errand)) asks
      ∙ ap (λ (x : ErrandStep). errand_took o k r x) is
      ∙ ap (λ (b : Bool). (cond b (set_out (heard r)) (gone_on (heard r)), k))
      (no_help (user_waits o.user (heard r) o.user.step) (opposite o.helped) (helps_at o.user.step) helps)

  pub list_user : (r : Answer) → o.user.checks ≡ false → o.errand ≡ errand_step.Done → helps_at o.user.step ≡ false
      → ◌≡◌ {A = model.Actor} (model.User (Then r)) (took (model.User o.user) r)
  list_user r asks is helps = ap (λ (z : OwnUser × LogWork). model.User z.0.user) (list_goes r asks is helps)
      ∙ sym (as_user r asks)
