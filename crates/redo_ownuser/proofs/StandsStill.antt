-- On an errand a user that writes for itself comes no nearer to its link.
use Rattle.std.proofs.Common.{Bool, ap, cond, eqb, false, length, refl, subst, sym, true, ℕ, ◌==◌, ◌∙◌, ◌≡◌, ◌≢◌}
use Rattle.model_core.specs.{advance_next, answered, can_link, changes, flusher_took, FlusherState, frees, has_passed, has_room, has_space, heard, old_of, stays_put, tail_of, user_ending, user_program, user_took, user_waits, UserState, with_link_room, with_mark, without_link_room, writer_took, WriterState}
use Rattle.model_core.specs.ActorProgram.{opposite}
use Rattle.model_core.specs.declared.ops.Answer.{Answer}
use Rattle.model_core.specs.declared.ops.Answer.TheVariants as answer
use Rattle.model_core.specs.declared.ops.Step.{Step}
use Rattle.model_core.specs.declared.ops.Step.TheVariants as step
use Rattle.model_core.specs.declared.steps.FlusherStep.{FlusherStep}
use Rattle.model_core.specs.declared.steps.FlusherStep.TheVariants as flusher_step
use Rattle.model_core.specs.declared.steps.UserStep.{UserStep}
use Rattle.model_core.specs.declared.steps.UserStep.TheVariants as user_step
use Rattle.model_core.specs.declared.steps.WriterStep.{WriterStep}
use Rattle.model_core.specs.declared.steps.WriterStep.TheVariants as writer_step
use Rattle.model_own.specs.{after_flusher, after_writer, begins_again, errand_took, errand_waits, helps_at, keeps_helped, loads_again, LogWork, own_checked, own_goes_on, own_step_of, own_stepped, OwnUser, sets_out, written}
use Rattle.model_own.specs.declared.errand.ErrandStep.{ErrandStep}
use Rattle.model_own.specs.declared.errand.ErrandStep.TheVariants as errand_step
use Rattle.redo_ownuser.specs.OwnFits.{ends_as}
use Rattle.redo_ownuser.specs.OwnLink.{ComesNearer, ComesNearerAlone}
use Rattle.redo_useractor.specs.ToLink.{to_link, to_link_at}

-- where it would wait, and sets out in place of that
abbrev out : UserState → UserState
out v = record v { checks = false; step = loads_again v.step }

else_of : (b : Bool) (n : ℕ) (x y : UserState) → opposite b ≡ true → to_link (out y) ≡ n → to_link (out (cond b x y)) ≡ n
else_of true n x y z e = absurd (cc)
else_of false n x y z e = e

waits_still : (u : UserState) (n : ℕ) (s : UserStep) → user_waits u n s ≡ true → helps_at s ≡ true
    → to_link (out (user_took u n s)) ≡ to_link_at u s
waits_still u n user_step.LoadSn z h = else_of (has_space u n) 0
    (record u { page = 0; cell = 0; step = cond (eqb (length (changes u)) 0) user_step.Reserve user_step.TakeLatch })
    (record u { checks = true; step = user_step.LoadCheckpoint }) z refl
waits_still u n user_step.LoadWrite z h = else_of (has_room u n) (to_link_at u user_step.LoadWrite)
    (record u { loaded = record u.loaded { write = n }; step = user_step.AddCell })
    (record u { loaded = record u.loaded { write = n }; checks = true; step = user_step.LoadWrite }) z refl
waits_still u n (user_step.AdvanceWritten s) z h = by (stays_put u.advance n s) (frees s) z
  where
    advances : UserStep
    advances = user_step.AdvanceWritten (advance_next u.advance n s)

    by : (b d : Bool) → b ≡ true
        → to_link_at (out (user_took u n (user_step.AdvanceWritten s)))
        (loads_again (cond b user_step.LoadWtail (cond d user_step.ReloadWtail advances))) ≡ 2
    by true d e = refl
    by false d e = absurd (cc)
waits_still u n user_step.ReloadWtail z h = else_of (can_link u (tail_of n)) 2 (with_link_room u n)
    (without_link_room u n true user_step.LoadWtail) z refl
waits_still u n user_step.AwaitMark z h = else_of (has_passed u n) 0 (answered (record u { loaded = with_mark u n }))
    (record u { loaded = with_mark u n; checks = true; step = user_step.AwaitMark }) z refl
waits_still u n _ z h = absurd (cc)

out_of : (w h x : Bool) → cond w (cond h x false) false ≡ true → (w ≡ true) × (h ≡ true)
out_of true true x e = (refl, refl)
out_of true false x e = absurd (cc)
out_of false h x e = absurd (cc)

-- it begins anew after a wait
anew_still : (u : UserState) (s : UserStep)
    → to_link_at (record u { checks = true; step = begins_again s }) (begins_again s) ≡ to_link_at u s
anew_still u user_step.ReloadWtail = refl
anew_still u _ = refl

module _ (o : OwnUser) (k : LogWork) (a : Answer) where
  abbrev Still : OwnUser → Type 0
  Still x = to_link x.user ≡ to_link o.user

  abbrev NotFailed : OwnUser → Type 0
  NotFailed x = (code : ℕ) → user_ending x.user.code x.user.step ≢ step.Failed code

  abbrev gone_on : OwnUser
  gone_on = record o {
    user = user_took o.user (heard a) o.user.step;
    helped = cond (keeps_helped o.user.step) o.helped false;
  }

  abbrev set_out : OwnUser
  set_out = record o { user = out (user_took o.user (heard a) o.user.step); errand = errand_step.TakeDevice }

  sets_out_still : o.errand ≡ errand_step.Done
      → (o.errand ≡ errand_step.Done → (own_stepped o (heard a)).errand ≡ errand_step.Done → ⊥)
      → Still (own_stepped o (heard a))
  sets_out_still off away = by (sets_out o (heard a)) refl
    where
      by : (b : Bool) → sets_out o (heard a) ≡ b → Still (cond b set_out gone_on)
      by true is =
          let both = out_of (user_waits o.user (heard a) o.user.step) (helps_at o.user.step) (opposite o.helped) is in
          waits_still o.user (heard a) o.user.step both.0 both.1
      by false is = absurd (away off (ap (λ (b : Bool). (cond b set_out gone_on).errand) is ∙ off))

  takes_still : (r : Answer) → Still (errand_took o k r errand_step.TakeDevice).0
  takes_still (answer.Taken n) = refl
  takes_still answer.Broken = refl
  takes_still _ = anew_still o.user o.user.step

  over_still : (s : WriterState) (b : Bool)
      → Still (cond {A = OwnUser × LogWork} b (written o k s) (o, record k { writer = s })).0
  over_still s true = refl
  over_still s false = refl

  writer_still : (s : WriterState) (w : WriterStep) → NotFailed (after_writer o k s w).0 → Still (after_writer o k s w).0
  writer_still s (writer_step.Advance v) goes = over_still s s.checks
  writer_still s writer_step.LoadCheckpoint goes = over_still s s.checks
  writer_still s writer_step.Failed goes = absurd (goes s.code refl)
  writer_still s _ goes = refl

  flusher_still : (f : FlusherState) (w : FlusherStep) → NotFailed (after_flusher o k f w).0
      → Still (after_flusher o k f w).0
  flusher_still f flusher_step.Failed goes = absurd (goes f.code refl)
  flusher_still f _ goes = refl

  errand_still : (x : ErrandStep) → o.errand ≡ x
      → (o.errand ≡ errand_step.Done → (errand_took o k a x).0.errand ≡ errand_step.Done → ⊥)
      → (errand_waits o a x ≡ false → NotFailed (errand_took o k a x).0) → Still (errand_took o k a x).0
  errand_still errand_step.Done is away goes = sets_out_still is away
  errand_still errand_step.TakeDevice is away goes = takes_still a
  errand_still errand_step.GiveBroken is away goes = refl
  errand_still errand_step.Write is away goes =
      let s : WriterState = writer_took k.writer a k.writer.step in writer_still s s.step (goes refl)
  errand_still errand_step.Flush is away goes =
      let f : FlusherState = flusher_took k.flusher a k.flusher.step in flusher_still f f.step (goes refl)

  abbrev checked_ends : ℕ → Step
  checked_ends n = cond (n == 0) step.Moved (step.Failed n)

  checks_still : (n : ℕ) → ((code : ℕ) → checked_ends n ≢ step.Failed code) → Still (own_checked o n)
  checks_still n goes = by (n == 0) goes
    where
      by : (b : Bool) → ((code : ℕ) → cond b step.Moved (step.Failed n) ≢ step.Failed code)
          → to_link (cond b (user_program.goes_on o.user) (user_program.fails (user_program.goes_on o.user) n))
          ≡ to_link o.user
      by true z = refl
      by false z = absurd (z n refl)

  abbrev took_ends : Step
  took_ends = cond (errand_waits o a o.errand) step.Idle
      (user_ending (errand_took o k a o.errand).0.user.code (errand_took o k a o.errand).0.user.step)

  took_still : (o.errand ≡ errand_step.Done → (errand_took o k a o.errand).0.errand ≡ errand_step.Done → ⊥)
      → ((code : ℕ) → took_ends ≢ step.Failed code) → Still (errand_took o k a o.errand).0
  took_still away goes = errand_still o.errand refl away
      (λ moves. subst (λ (b : Bool). (code : ℕ) → cond b step.Idle
      (user_ending (errand_took o k a o.errand).0.user.code (errand_took o k a o.errand).0.user.step)
      ≢ step.Failed code) moves goes)

  -- from where it sets out until its errand is over it comes no nearer
  pub stands_still : (v : OwnUser) (ends : Step) → v ≡ (own_goes_on o k a).0 → ends ≡ own_step_of o k a
      → (o.errand ≡ errand_step.Done → v.errand ≡ errand_step.Done → ⊥)
      → ((code : ℕ) → ends ≢ step.Failed code) → to_link v.user ≡ to_link o.user
  stands_still v ends is ended away goes = by o.user.checks v ends is ended away goes
    where
      by : (b : Bool) (x : OwnUser) (e : Step)
          → x ≡ (cond b (own_checked o (old_of a), k) (errand_took o k a o.errand)).0
          → e ≡ cond b (checked_ends (old_of a)) (cond (errand_waits o a o.errand) step.Idle
          (user_ending (cond b (own_checked o (old_of a), k) (errand_took o k a o.errand)).0.user.code
          (cond b (own_checked o (old_of a), k) (errand_took o k a o.errand)).0.user.step))
          → (o.errand ≡ errand_step.Done → x.errand ≡ errand_step.Done → ⊥)
          → ((code : ℕ) → e ≢ step.Failed code) → to_link x.user ≡ to_link o.user
      by true x e is end away goes =
          ap (λ (z : OwnUser). to_link z.user) is ∙ checks_still (old_of a) (λ code z. goes code (end ∙ z))
      by false x e is end away goes = ap (λ (z : OwnUser). to_link z.user) is
          ∙ took_still (λ off done. away off (ap (λ (z : OwnUser). z.errand) is ∙ done)) (λ code z. goes code (end ∙ z))

-- the same with what its own Op brings
pub nearer_alone : (o : OwnUser) (k : LogWork) (a : Answer) (v : OwnUser) (ends : Step)
    → v ≡ (own_goes_on o k a).0 → ends ≡ own_step_of o k a
    → (o.errand ≡ errand_step.Done → v.errand ≡ errand_step.Done → ComesNearer o.user ends v.user)
    → ComesNearerAlone o ends v
nearer_alone o k a v ends is ended own = record { own = own; errand = stands_still o k a v ends is ended }

-- and where it doesn't check for a failure
pub nearer_off : (o : OwnUser) (k : LogWork) (a : Answer) (v : OwnUser) (ends : Step) → o.user.checks ≡ false
    → v ≡ (errand_took o k a o.errand).0 → ends ≡ ends_as (errand_waits o a o.errand) v
    → (o.errand ≡ errand_step.Done → v.errand ≡ errand_step.Done → ComesNearer o.user ends v.user)
    → ComesNearerAlone o ends v
nearer_off o k a v ends asks is ended own = record {
  own = own;
  errand = λ away goes. ap (λ (z : OwnUser). to_link z.user) is ∙ took_still o k a
      (λ off done. away off (ap (λ (z : OwnUser). z.errand) is ∙ done))
      (λ code z. goes code (ended ∙ ap (ends_as (errand_waits o a o.errand)) is ∙ z));
}

-- a check for a failure is no step on the way
pub checks_only : (old : UserState) (ends : Step) (new : UserState) → old.checks ≡ true → ComesNearer old ends new
checks_only old ends new is = record {
  reserves = λ asks at. absurd (let z : true ≡ false = sym is ∙ asks in cc);
  nearer = λ asks some moves. absurd (let z : true ≡ false = sym is ∙ asks in cc);
}
