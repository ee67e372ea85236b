-- A user that writes for itself holds nothing while it checks for a failure, after each answer.
use Rattle.std.proofs.Common.{Bool, cond, false, refl, subst, sym, true, ◌∙◌, ◌≡◌, None}
use Rattle.model_core.proofs.Hands.{stays_free}
use Rattle.model_core.specs.{checked_of, FlusherState, flusher_took, heard, old_of, user_program, user_took, UserState, writer_took, WriterState, IsFreeToCheck, user_hand, user_holds_tail}
use Rattle.model_core.specs.States as model
use Rattle.model_core.specs.declared.words.LinkBuffer.{LinkBuffer}
use Rattle.model_core.specs.declared.words.LinkBuffer.TheVariants as link_buffer
use Rattle.model_core.specs.declared.ops.Answer.{Answer}
use Rattle.model_core.specs.declared.ops.Answer.TheVariants as answer
use Rattle.model_core.specs.declared.steps.FlusherStep.{FlusherStep}
use Rattle.model_core.specs.declared.steps.FlusherStep.TheVariants as flusher_step
use Rattle.model_core.specs.declared.steps.UserStep.{UserStep}
use Rattle.model_core.specs.declared.steps.UserStep.TheVariants as user_step
use Rattle.model_core.specs.declared.steps.WriterStep.{WriterStep}
use Rattle.model_core.specs.declared.steps.WriterStep.TheVariants as writer_step
use Rattle.model_own.specs.{after_flusher, after_writer, begins_again, errand_took, keeps_helped, loads_again, LogWork, own_checked, own_goes_on, own_stepped, OwnUser, sets_out, written, MayHelpAt}
use Rattle.model_own.specs.ErrandFits.{ErrandFits}
use Rattle.model_own.specs.declared.errand.ErrandStep.{ErrandStep}
use Rattle.model_own.specs.declared.errand.ErrandStep.TheVariants as errand_step

abbrev Free : UserState → Type 0
Free u = IsFreeToCheck (model.User u)

-- who doesn't check may hold whatever it does
not_checking : (u : UserState) → u.checks ≡ false → Free u
not_checking u asks checks = let n : true ≡ false = sym checks ∙ asks in absurd (cc)

-- at the steps at which it may be on an errand it holds nothing
no_tail : (s : UserStep) → MayHelpAt s → (b : LinkBuffer) → user_holds_tail b s ≡ false
no_tail user_step.LoadCheckpoint may link_buffer.Written = refl
no_tail user_step.LoadCheckpoint may link_buffer.Closed = refl
no_tail user_step.LoadWrite may link_buffer.Written = refl
no_tail user_step.LoadWrite may link_buffer.Closed = refl
no_tail user_step.LoadWtail may link_buffer.Written = refl
no_tail user_step.LoadWtail may link_buffer.Closed = refl
no_tail user_step.ReloadWtail may link_buffer.Written = refl
no_tail user_step.ReloadWtail may link_buffer.Closed = refl
no_tail user_step.AwaitMark may link_buffer.Written = refl
no_tail user_step.AwaitMark may link_buffer.Closed = refl
no_tail _ may b = absurd may

pub no_slot : (u : UserState) (s : UserStep) → MayHelpAt s → user_hand u s ≡ None
no_slot u user_step.LoadCheckpoint may = refl
no_slot u user_step.LoadWrite may = refl
no_slot u user_step.LoadWtail may = refl
no_slot u user_step.ReloadWtail may = refl
no_slot u user_step.AwaitMark may = refl
no_slot u _ may = absurd may

rests : (u : UserState) (s : UserStep) → MayHelpAt s → Free (record u { checks = true; step = s })
rests u s may checks = record { no_slot = no_slot (record u { checks = true; step = s }) s may; no_tail = no_tail s may }

pub begins : (s : UserStep) → MayHelpAt s → MayHelpAt (begins_again s)
begins user_step.LoadCheckpoint may = tt
begins user_step.LoadWrite may = tt
begins user_step.LoadWtail may = tt
begins user_step.ReloadWtail may = tt
begins user_step.AwaitMark may = tt
begins _ may = absurd may

module _ (o : OwnUser) (k : LogWork) (a : Answer) where
  either : (b : Bool) (x y : OwnUser × LogWork) → Free x.0.user → Free y.0.user → Free (cond b x y).0.user
  either true x y p q = p
  either false x y p q = q

  one_of : (b : Bool) (x y : OwnUser) → Free x.user → Free y.user → Free (cond b x y).user
  one_of true x y p q = p
  one_of false x y p q = q

  -- a step of its own program, as any user's
  stepped_free : o.user.checks ≡ false → Free (user_took o.user (heard a) o.user.step)
  stepped_free asks = subst (λ (b : Bool). IsFreeToCheck (cond b
      (model.User (checked_of user_program o.user (old_of a))) (model.User (user_took o.user (heard a) o.user.step))))
      asks (stays_free (model.User o.user) a)

  own_step_free : o.user.checks ≡ false → Free (own_stepped o (heard a)).user
  own_step_free asks =
      let then : UserState = user_took o.user (heard a) o.user.step in
      let out : OwnUser = record o {
        user = record then { checks = false; step = loads_again then.step };
        errand = errand_step.TakeDevice;
      } in
      one_of (sets_out o (heard a)) out
      (record o { user = then; helped = cond (keeps_helped o.user.step) o.helped false })
      (not_checking out.user refl) (stepped_free asks)

  writer_free : (s : WriterState) (st : WriterStep) → Free o.user → Free (after_writer o k s st).0.user
  writer_free s (writer_step.Advance v) free =
      either s.checks (written o k s) (o, record k { writer = s }) free free
  writer_free s writer_step.LoadCheckpoint free =
      either s.checks (written o k s) (o, record k { writer = s }) free free
  writer_free s writer_step.Failed free =
      not_checking (record o.user { code = s.code; checks = false; step = user_step.Failed }) refl
  writer_free s _ free = free

  flusher_free : (f : FlusherState) (st : FlusherStep) → Free o.user → Free (after_flusher o k f st).0.user
  flusher_free f flusher_step.Failed free =
      not_checking (record o.user { code = f.code; checks = false; step = user_step.Failed }) refl
  flusher_free f _ free = free

  take_free : (r : Answer) → MayHelpAt o.user.step → o.user.checks ≡ false
      → Free (errand_took o k r errand_step.TakeDevice).0.user
  take_free (answer.Taken n) may asks = not_checking o.user asks
  take_free answer.Broken may asks = not_checking o.user asks
  take_free _ may asks = rests o.user (begins_again o.user.step) (begins o.user.step may)

  errand_free : (x : ErrandStep) → ErrandFits o.user x → o.user.checks ≡ false → Free (errand_took o k a x).0.user
  errand_free errand_step.Done fit asks = own_step_free asks
  errand_free errand_step.TakeDevice fit asks = take_free a fit asks
  errand_free errand_step.GiveBroken fit asks = rests o.user o.user.step fit.0
  errand_free errand_step.Write fit asks =
      let s = writer_took k.writer a k.writer.step in writer_free s s.step (not_checking o.user asks)
  errand_free errand_step.Flush fit asks =
      let f = flusher_took k.flusher a k.flusher.step in flusher_free f f.step (not_checking o.user asks)

  pub own_free : ErrandFits o.user o.errand → Free (own_goes_on o k a).0.user
  own_free stands = by o.user.checks refl
    where
      by : (b : Bool) → o.user.checks ≡ b
          → Free (cond b (own_checked o (old_of a), k) (errand_took o k a o.errand)).0.user
      by true is = subst (λ (b : Bool). IsFreeToCheck (cond b
          (model.User (checked_of user_program o.user (old_of a)))
          (model.User (user_took o.user (heard a) o.user.step)))) is (stays_free (model.User o.user) a)
      by false is = errand_free o.errand stands is
