-- How a step of a user that writes for itself ends, by its program.
use Rattle.std.proofs.Common.{Bool, ap, cond, false, inl, inr, refl, subst, sym, true, ℕ, ⊎_elim, ◌==◌, ◌∙◌, ◌≡◌, ◌⊎◌}
use Rattle.model_core.proofs.Endings.{user_failed}
use Rattle.model_core.proofs.FailedSteps.{flusher_near_or, flusher_on, flusher_quiet, turn_fails, writer_near_or, writer_on, writer_quiet}
use Rattle.model_core.proofs.Waiting.{wait_checks}
use Rattle.model_core.specs.{flusher_took, FlusherState, heard, old_of, user_ending, user_op, user_took, user_waits, UserState, writer_took, WriterState, GivesFailed}
use Rattle.model_core.specs.States as model
use Rattle.model_core.specs.ActorProgram.{on_take}
use Rattle.model_core.specs.declared.ops.Answer.{Answer}
use Rattle.model_core.specs.declared.ops.Answer.TheVariants as answer
use Rattle.model_core.specs.declared.ops.Op.TheVariants as op
use Rattle.model_core.specs.declared.ops.Step.{Step}
use Rattle.model_core.specs.declared.ops.Step.TheVariants as step
use Rattle.model_core.specs.declared.steps.FlusherStep.{FlusherStep}
use Rattle.model_core.specs.declared.steps.FlusherStep.TheVariants as flusher_step
use Rattle.model_core.specs.declared.steps.UserStep.{UserStep}
use Rattle.model_core.specs.declared.steps.UserStep.TheVariants as user_step
use Rattle.model_core.specs.declared.steps.WriterStep.{WriterStep}
use Rattle.model_core.specs.declared.steps.WriterStep.TheVariants as writer_step
use Rattle.model_core.specs.declared.words.Word.TheVariants as word
use Rattle.model_own.proofs.SetsOut.{out_at}
use Rattle.model_own.specs.{after_flusher, after_writer, begins_again, errand_took, errand_waits, keeps_helped, loads_again, LogWork, own_checked, own_goes_on, own_step_of, OwnUser, sets_out, written, MayHelpAt}
use Rattle.model_own.specs.ErrandFits.{ErrandFits}
use Rattle.model_own.specs.declared.errand.ErrandStep.{ErrandStep}
use Rattle.model_own.specs.declared.errand.ErrandStep.TheVariants as errand_step
use Rattle.redo_ownrule.proofs.OwnFree.{begins}
use Rattle.redo_ownrule.specs.OwnPlays.{ErrandGivesFailed, FlusherInHand, WorkInHand, WriterInHand}
use Rattle.redo_rule.specs.Causes.{HasEndedBy}

-- no end is a wait
no_wait : (code : ℕ) (f : UserStep) → user_ending code f ≡ step.Idle → ⊥
no_wait code user_step.Done e = absurd (cc)
no_wait code user_step.Failed e = absurd (cc)
no_wait code _ e = absurd (cc)

pub good_end : (code : ℕ) (f : UserStep) → user_ending code f ≡ step.Ended → f ≡ user_step.Done
good_end code user_step.Done e = refl
good_end code _ e = absurd (cc)

-- a step ends by its flags: whether the user checks, whether it found no code, whether it waits
abbrev by_flags : Bool → Bool → Bool → ℕ → Step → Step
by_flags checks none waiting n ends = cond checks (cond none step.Moved (step.Failed n)) (cond waiting step.Idle ends)

flags_idle : (checks none waiting : Bool) (n code : ℕ) (f : UserStep)
    → by_flags checks none waiting n (user_ending code f) ≡ step.Idle → (checks ≡ false) × (waiting ≡ true)
flags_idle true true waiting n code f e = absurd (cc)
flags_idle true false waiting n code f e = absurd (cc)
flags_idle false none true n code f e = (refl, refl)
flags_idle false none false n code f e = absurd (no_wait code f e)

flags_ended : (checks none waiting : Bool) (n code : ℕ) (f : UserStep)
    → by_flags checks none waiting n (user_ending code f) ≡ step.Ended → f ≡ user_step.Done
flags_ended true true waiting n code f e = absurd (cc)
flags_ended true false waiting n code f e = absurd (cc)
flags_ended false none true n code f e = absurd (cc)
flags_ended false none false n code f e = good_end code f e

abbrev code_or : Step → ℕ
code_or (step.Failed n) = n
code_or _ = 0

flags_failed : (checks none waiting : Bool) (n code : ℕ) (ends : Step)
    → by_flags checks none waiting n ends ≡ step.Failed code
    → ((checks ≡ true) × (n ≡ code)) ⊎ ((checks ≡ false) × (waiting ≡ false) × (ends ≡ step.Failed code))
flags_failed true true waiting n code ends e = absurd (cc)
flags_failed true false waiting n code ends e = inl (refl, ap code_or e)
flags_failed false none true n code ends e = absurd (cc)
flags_failed false none false n code ends e = inr (refl, refl, e)

-- and ends well where the user then has ended, and neither checked nor waited
flags_end : (checks none waiting : Bool) (n code : ℕ) (f : UserStep) → checks ≡ false → waiting ≡ false
    → f ≡ user_step.Done → by_flags checks none waiting n (user_ending code f) ≡ step.Ended
flags_end checks none waiting n code f free goes at =
    ap (λ (b : Bool). by_flags b none waiting n (user_ending code f)) free
    ∙ ap (λ (b : Bool). cond b step.Idle (user_ending code f)) goes ∙ ap (user_ending code) at

module _ (o : OwnUser) (k : LogWork) (r : Answer) where
  abbrev then : OwnUser
  then = (own_goes_on o k r).0

  -- its state, by whether it checks
  abbrev left : Bool → OwnUser
  left b = (cond {A = OwnUser × LogWork} b (own_checked o (old_of r), k) (errand_took o k r o.errand)).0

  pub own_idle : own_step_of o k r ≡ step.Idle → (o.user.checks ≡ false) × (errand_waits o r o.errand ≡ true)
  own_idle e = flags_idle o.user.checks (old_of r == 0) (errand_waits o r o.errand) (old_of r) then.user.code
      then.user.step e

  pub own_ended : own_step_of o k r ≡ step.Ended → then.user.step ≡ user_step.Done
  own_ended e = flags_ended o.user.checks (old_of r == 0) (errand_waits o r o.errand) (old_of r) then.user.code
      then.user.step e

  -- whoever waits checks then
  waits_check : (x : ErrandStep) → errand_waits o r x ≡ true → (errand_took o k r x).0.user.checks ≡ true
  waits_check errand_step.Done w =
      by (sets_out o (heard r)) _ _ (user_waits o.user (heard r) o.user.step) w (wait_checks (model.User o.user) r)
    where
      by : (b : Bool) (x y : OwnUser) (waits : Bool) → cond b false waits ≡ true
          → (waits ≡ true → y.user.checks ≡ true) → (cond b x y).user.checks ≡ true
      by true x y waits w checks = absurd (cc)
      by false x y waits w checks = checks w
  waits_check errand_step.TakeDevice w = by r w
    where
      by : (a : Answer) → on_take a false false true ≡ true
          → (errand_took o k a errand_step.TakeDevice).0.user.checks ≡ true
      by (answer.Taken n) w = absurd (cc)
      by answer.Broken w = absurd (cc)
      by _ w = refl
  waits_check _ w = absurd (cc)

  -- after a check it has ended only if it had
  still_done : (b : Bool) → (cond b (record o.user { checks = false })
      (record o.user { checks = false; code = old_of r; step = user_step.Failed })).step ≡ user_step.Done
      → o.user.step ≡ user_step.Done
  still_done true e = e
  still_done false e = absurd (cc)

  -- A step after which it has ended ends so: whoever has ended checks no more.
  pub own_ends : (o.user.step ≡ user_step.Done → o.user.checks ≡ false)
      → (then.user.step ≡ user_step.Done → then.user.checks ≡ false) → then.user.step ≡ user_step.Done
      → own_step_of o k r ≡ step.Ended
  own_ends free_before free_then at = flags_end o.user.checks (old_of r == 0) (errand_waits o r o.errand) (old_of r)
      then.user.code then.user.step free (goes (errand_waits o r o.errand) refl) at
    where
      checked : (b : Bool) → o.user.checks ≡ b → (left b).user.step ≡ user_step.Done → o.user.checks ≡ false
      checked true is at = free_before (still_done (old_of r == 0) at)
      checked false is at = is

      free : o.user.checks ≡ false
      free = checked o.user.checks refl at

      goes : (b : Bool) → errand_waits o r o.errand ≡ b → errand_waits o r o.errand ≡ false
      goes true w =
          let checks : then.user.checks ≡ true =
          ap (λ (b : Bool). (left b).user.checks) free ∙ waits_check o.errand w in
          let z : true ≡ false = sym checks ∙ free_then at in absurd (cc)
      goes false w = w

-- whoever may be on an errand hasn't failed
loads : (f : UserStep) → MayHelpAt f → MayHelpAt (loads_again f)
loads user_step.LoadCheckpoint may = tt
loads user_step.LoadWrite may = tt
loads user_step.LoadWtail may = tt
loads user_step.ReloadWtail may = tt
loads user_step.AwaitMark may = tt
loads _ may = absurd may

helps_not : (n code : ℕ) (f : UserStep) → MayHelpAt f → user_ending n f ≡ step.Failed code → ⊥
helps_not n code f may e = subst MayHelpAt (user_failed n code f e) may

-- who has failed in a user's hand gave the log part back after its failed call
writer_loud : (f : WriterStep) → writer_quiet f → f ≡ writer_step.Failed → ⊥
writer_loud writer_step.Failed quiet e = absurd quiet
writer_loud _ quiet e = absurd (cc)

flusher_loud : (f : FlusherStep) → flusher_quiet f → f ≡ flusher_step.Failed → ⊥
flusher_loud flusher_step.Failed quiet e = absurd quiet
flusher_loud _ quiet e = absurd (cc)

writer_apart : writer_step.GiveFailed ≡ writer_step.Failed → ⊥
writer_apart e = absurd (cc)

flusher_apart : flusher_step.GiveFailed ≡ flusher_step.Failed → ⊥
flusher_apart e = absurd (cc)

writer_gave : (s : WriterState) (r : Answer) → WriterInHand s.step → (writer_took s r s.step).step ≡ writer_step.Failed
    → GivesFailed (model.Writer s) (writer_took s r s.step).code
writer_gave s r hand e = ⊎_elim
    (λ near. absurd (writer_loud (writer_took s r s.step).step (writer_on s r s.step near) e))
    (λ t. ⊎_elim
    (λ q. absurd (writer_apart (sym (ap (λ (f : WriterStep). (writer_took s r f).step) q) ∙ e)))
    (λ u. ⊎_elim
    (λ q. (q, sym (ap (λ (f : WriterStep). (writer_took s r f).code) q)))
    (λ q. absurd (subst WriterInHand q hand)) u) t)
    (writer_near_or s.step)

flusher_gave : (t : FlusherState) (r : Answer) → FlusherInHand t.step
    → (flusher_took t r t.step).step ≡ flusher_step.Failed
    → GivesFailed (model.Flusher t) (flusher_took t r t.step).code
flusher_gave t r hand e = ⊎_elim
    (λ near. absurd (flusher_loud (flusher_took t r t.step).step (flusher_on t r t.step near) e))
    (λ t'. ⊎_elim
    (λ q. absurd (flusher_apart (sym (ap (λ (f : FlusherStep). (flusher_took t r f).step) q) ∙ e)))
    (λ u. ⊎_elim
    (λ q. (q, sym (ap (λ (f : FlusherStep). (flusher_took t r f).code) q)))
    (λ q. absurd (subst FlusherInHand q hand)) u) t')
    (flusher_near_or t.step)

module _ (o : OwnUser) (k : LogWork) (r : Answer) (code : ℕ) where
  -- the user after its errand's Op ends by this code
  abbrev FailsBy : OwnUser → Type 0
  FailsBy x = user_ending x.user.code x.user.step ≡ step.Failed code

  writes : (b : Bool) (x y : OwnUser × LogWork) → (FailsBy x.0 → ⊥) → (FailsBy y.0 → ⊥) → FailsBy (cond b x y).0 → ⊥
  writes true x y p q e = p e
  writes false x y p q e = q e

  module _ (may : MayHelpAt o.user.step) where
    goes_on : FailsBy o → ⊥
    goes_on e = helps_not o.user.code code o.user.step may e

    wrote : (s : WriterState) (f : WriterStep) → FailsBy (after_writer o k s f).0
        → (f ≡ writer_step.Failed) × (s.code ≡ code)
    wrote s (writer_step.Advance v) e =
        absurd (writes s.checks (written o k s) (o, record k { writer = s }) goes_on goes_on e)
    wrote s writer_step.LoadCheckpoint e =
        absurd (writes s.checks (written o k s) (o, record k { writer = s }) goes_on goes_on e)
    wrote s writer_step.Failed e = (refl, ap code_or e)
    wrote s _ e = absurd (goes_on e)

    flushed : (t : FlusherState) (f : FlusherStep) → FailsBy (after_flusher o k t f).0
        → (f ≡ flusher_step.Failed) × (t.code ≡ code)
    flushed t flusher_step.Failed e = (refl, ap code_or e)
    flushed t _ e = absurd (goes_on e)

    took_up : (a : Answer) → FailsBy (errand_took o k a errand_step.TakeDevice).0 → ⊥
    took_up (answer.Taken n) e = goes_on e
    took_up answer.Broken e = goes_on e
    took_up _ e = helps_not o.user.code code (begins_again o.user.step) (begins o.user.step may) e

  -- its own step, as any user's
  own_step : (b : Bool) → sets_out o (heard r) ≡ b → o.user.checks ≡ false
      → cond b false (user_waits o.user (heard r) o.user.step) ≡ false
      → FailsBy (cond b (record o {
        user = record (user_took o.user (heard r) o.user.step) {
          checks = false;
          step = loads_again (user_took o.user (heard r) o.user.step).step;
        };
        errand = errand_step.TakeDevice;
      })
      (record o {
        user = user_took o.user (heard r) o.user.step;
        helped = cond (keeps_helped o.user.step) o.helped false;
      }))
      → HasEndedBy (model.User o.user) code
  own_step true out asks goes e = absurd (helps_not _ code _ (loads _ (out_at o (heard r) out)) e)
  own_step false out asks goes e =
      let then : UserState = user_took o.user (heard r) o.user.step in
      ⊎_elim
      (λ t. let z : true ≡ false = sym t.0 ∙ asks in absurd (cc))
      (λ t. ⊎_elim (λ g. absurd g)
      (⊎_elim (λ s. absurd s)
      (λ h. (ap (λ (b : Bool). cond b (op.Load word.Failed) (user_op o.user o.user.step)) asks ∙ h.0, h.1))) t.1)
      (turn_fails (model.User o.user) r code
      (ap (λ (b : Bool). by_flags b (old_of r == 0) (user_waits o.user (heard r) o.user.step) (old_of r)
      (user_ending then.code then.step)) asks
      ∙ ap (λ (b : Bool). cond b step.Idle (user_ending then.code then.step)) goes ∙ e))

  -- A step ends by this code where the user finds it in FAILED, where its errand gives the log part back after a failed
  -- call, or where it had ended so.
  pub own_fails : ErrandFits o.user o.errand → WorkInHand o.errand k → own_step_of o k r ≡ step.Failed code
      → ((o.user.checks ≡ true) × (old_of r ≡ code))
      ⊎ (ErrandGivesFailed o.errand k code ⊎ HasEndedBy (model.User o.user) code)
  own_fails fits hand e = ⊎_elim (λ t. inl t)
      (λ t. inr (by_errand o.errand fits hand t.0 t.1
      (subst (λ (b : Bool). FailsBy (cond {A = OwnUser × LogWork} b (own_checked o (old_of r), k)
      (errand_took o k r o.errand)).0) t.0 t.2)))
      (flags_failed o.user.checks (old_of r == 0) (errand_waits o r o.errand) (old_of r) code
      (user_ending (own_goes_on o k r).0.user.code (own_goes_on o k r).0.user.step) e)
    where
      by_errand : (x : ErrandStep) → ErrandFits o.user x → WorkInHand x k → o.user.checks ≡ false
          → errand_waits o r x ≡ false → FailsBy (errand_took o k r x).0
          → ErrandGivesFailed x k code ⊎ HasEndedBy (model.User o.user) code
      by_errand errand_step.Done fits hand asks goes e = inr (own_step (sets_out o (heard r)) refl asks goes e)
      by_errand errand_step.TakeDevice fits hand asks goes e = absurd (took_up fits r e)
      by_errand errand_step.GiveBroken fits hand asks goes e = absurd (goes_on fits.0 e)
      by_errand errand_step.Write fits hand asks goes e =
          let s : WriterState = writer_took k.writer r k.writer.step in
          let w = wrote fits.0 s s.step e in
          inl (subst (GivesFailed (model.Writer k.writer)) w.1 (writer_gave k.writer r hand w.0))
      by_errand errand_step.Flush fits hand asks goes e =
          let t : FlusherState = flusher_took k.flusher r k.flusher.step in
          let w = flushed fits.0 t t.step e in
          inl (subst (GivesFailed (model.Flusher k.flusher)) w.1 (flusher_gave k.flusher r hand w.0))
