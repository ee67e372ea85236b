-- How a turn ends, by the programs: which end a wait, which well, and what of an actor that rests.
use Rattle.std.proofs.Common.{Bool, ap, cond, false, inl, inr, refl, subst, sym, true, ℕ, ⊎_elim, ◌==◌, ◌∙◌, ◌≡◌, ◌⊎◌}
use Rattle.model_core.proofs.Later.{took_later, was_user}
use Rattle.model_core.proofs.Rests.{rests}
use Rattle.model_core.proofs.Waiting.{user_again, user_wait, wait_checks}
use Rattle.model_core.specs.{checked, checked_of, heard, is_checking, next, old_of, own_op, own_took, step_of, took, user_program, user_took, UserState, checkpointer_ending, cleaner_ending, closer_ending, flusher_ending, user_ending, user_waits, writer_ending, reader_ending}
use Rattle.model_core.specs.States as model
use Rattle.model_core.specs.Later.{IsSameActor}
use Rattle.model_core.specs.Program.{ending, waits}
use Rattle.model_core.specs.declared.ops.Answer.{Answer}
use Rattle.model_core.specs.declared.ops.Answer.TheVariants as answer
use Rattle.model_core.specs.declared.ops.Op.{Op}
use Rattle.model_core.specs.declared.ops.Op.TheVariants as op
use Rattle.model_core.specs.declared.ops.Step.{Step}
use Rattle.model_core.specs.declared.ops.Step.TheVariants as step
use Rattle.model_core.specs.declared.steps.CheckpointerStep.{CheckpointerStep}
use Rattle.model_core.specs.declared.steps.CheckpointerStep.TheVariants as checkpointer_step
use Rattle.model_core.specs.declared.steps.CleanerStep.{CleanerStep}
use Rattle.model_core.specs.declared.steps.CleanerStep.TheVariants as cleaner_step
use Rattle.model_core.specs.declared.steps.CloserStep.{CloserStep}
use Rattle.model_core.specs.declared.steps.CloserStep.TheVariants as closer_step
use Rattle.model_core.specs.declared.steps.FlusherStep.{FlusherStep}
use Rattle.model_core.specs.declared.steps.ReaderStep.{ReaderStep}
use Rattle.model_core.specs.declared.steps.FlusherStep.TheVariants as flusher_step
use Rattle.model_core.specs.declared.steps.ReaderStep.TheVariants as reader_step
use Rattle.model_core.specs.declared.steps.UserStep.{UserStep}
use Rattle.model_core.specs.declared.steps.UserStep.TheVariants as user_step
use Rattle.model_core.specs.declared.steps.WriterStep.{WriterStep}
use Rattle.model_core.specs.declared.steps.WriterStep.TheVariants as writer_step
use Rattle.model_core.specs.declared.words.Word.TheVariants as word

-- An actor's end: it has failed at its last step, with its code, and has ended at no other.
abbrev pub EndsAt : {S : Type 0} → (S → Step) → S → ℕ → S → Type 0
EndsAt end last n f = ((f ≡ last) × (end f ≡ step.Failed n)) ⊎ (end f ≡ step.Moved)

pub writer_end : (n : ℕ) (f : WriterStep) → EndsAt (writer_ending n) writer_step.Failed n f
writer_end n writer_step.Failed = inl (refl, refl)
writer_end n _ = inr refl

pub flusher_end : (n : ℕ) (f : FlusherStep) → EndsAt (flusher_ending n) flusher_step.Failed n f
flusher_end n flusher_step.Failed = inl (refl, refl)
flusher_end n _ = inr refl

pub reader_end : (n : ℕ) (f : ReaderStep) → EndsAt (reader_ending n) reader_step.Failed n f
reader_end n reader_step.Failed = inl (refl, refl)
reader_end n _ = inr refl

pub closer_end : (n : ℕ) (f : CloserStep) → EndsAt (closer_ending n) closer_step.Failed n f
closer_end n closer_step.Failed = inl (refl, refl)
closer_end n _ = inr refl

pub cleaner_end : (n : ℕ) (f : CleanerStep) → EndsAt (cleaner_ending n) cleaner_step.Failed n f
cleaner_end n cleaner_step.Failed = inl (refl, refl)
cleaner_end n _ = inr refl

pub checkpointer_end : (n : ℕ) (f : CheckpointerStep) → EndsAt (checkpointer_ending n) checkpointer_step.Failed n f
checkpointer_end n checkpointer_step.Failed = inl (refl, refl)
checkpointer_end n _ = inr refl

apart : (n : ℕ) → (step.Failed n ≡ step.Idle → ⊥) × (step.Failed n ≡ step.Ended → ⊥)
apart n = ((λ e. absurd (cc)), (λ e. absurd (cc)))

apart_moved : (code : ℕ) → (step.Moved ≡ step.Idle → ⊥) × (step.Moved ≡ step.Ended → ⊥) × (step.Moved ≡ step.Failed code → ⊥)
apart_moved code = ((λ e. absurd (cc)), (λ e. absurd (cc)), (λ e. absurd (cc)))

-- so it is no wait, and no good end; and where it is a failure that is the last step
module _ {S : Type 0} (end : S → Step) (last : S) (n : ℕ) (f : S) (at : EndsAt end last n f) where
  no_wait : end f ≡ step.Idle → ⊥
  no_wait e = ⊎_elim (λ t. (apart n).0 (sym t.1 ∙ e)) (λ t. (apart_moved 0).0 (sym t ∙ e)) at

  no_good_end : end f ≡ step.Ended → ⊥
  no_good_end e = ⊎_elim (λ t. (apart n).1 (sym t.1 ∙ e)) (λ t. (apart_moved 0).1 (sym t ∙ e)) at

  pub failed_last : (code : ℕ) → end f ≡ step.Failed code → f ≡ last
  failed_last code e = ⊎_elim (λ t. t.0) (λ t. absurd ((apart_moved code).2 (sym t ∙ e))) at

-- a user may also end well
user_never : (code : ℕ) (f : UserStep) → user_ending code f ≡ step.Idle → ⊥
user_never code user_step.Done e = absurd (cc)
user_never code user_step.Failed e = absurd (cc)
user_never code _ e = absurd (cc)

user_done : (n : ℕ) (f : UserStep) → user_ending n f ≡ step.Ended → f ≡ user_step.Done
user_done n user_step.Done e = refl
user_done n _ e = absurd (cc)

pub user_failed : (n code : ℕ) (f : UserStep) → user_ending n f ≡ step.Failed code → f ≡ user_step.Failed
user_failed n code user_step.Failed e = refl
user_failed n code _ e = absurd (cc)

-- no end is a wait
not_idle : (a : model.Actor) → ending a ≡ step.Idle → ⊥
not_idle (model.User u) e = user_never u.code u.step e
not_idle (model.Writer s) e = no_wait (writer_ending s.code) writer_step.Failed s.code s.step (writer_end s.code s.step) e
not_idle (model.Flusher t) e = no_wait (flusher_ending t.code) flusher_step.Failed t.code t.step (flusher_end t.code t.step) e
not_idle (model.Reader t) e = no_wait (reader_ending t.code) reader_step.Failed t.code t.step (reader_end t.code t.step) e
not_idle (model.Closer t) e = no_wait (closer_ending t.code) closer_step.Failed t.code t.step (closer_end t.code t.step) e
not_idle (model.Cleaner v) e = no_wait (cleaner_ending v.code) cleaner_step.Failed v.code v.step (cleaner_end v.code v.step) e
not_idle (model.Checkpointer t) e = no_wait (checkpointer_ending t.code) checkpointer_step.Failed t.code t.step (checkpointer_end t.code t.step) e

idle_by : (checks zero waiting : Bool) (n : ℕ) (ends : Step) → (ends ≡ step.Idle → ⊥) → cond checks (cond zero step.Moved (step.Failed n)) (cond waiting step.Idle ends) ≡ step.Idle → (checks ≡ false) × (waiting ≡ true)
idle_by true true waiting n ends no_wait e = absurd (cc)
idle_by true false waiting n ends no_wait e = absurd (cc)
idle_by false zero true n ends no_wait e = (refl, refl)
idle_by false zero false n ends no_wait e = absurd (no_wait e)

pub idle_of : (a : model.Actor) (r : Answer) → step_of a r ≡ step.Idle → (is_checking a ≡ false) × (waits a r ≡ true)
idle_of a r e = idle_by (is_checking a) (old_of r == 0) (waits a r) (old_of r) (ending (own_took a r)) (not_idle (own_took a r)) e

ended_by : (checks zero waiting : Bool) (n : ℕ) (ends : Step) → cond checks (cond zero step.Moved (step.Failed n)) (cond waiting step.Idle ends) ≡ step.Ended → (checks ≡ false) × (ends ≡ step.Ended)
ended_by true true waiting n ends e = absurd (cc)
ended_by true false waiting n ends e = absurd (cc)
ended_by false zero true n ends e = absurd (cc)
ended_by false zero false n ends e = (refl, e)

pub ended_of : (a : model.Actor) (r : Answer) → step_of a r ≡ step.Ended → ending (took a r) ≡ step.Ended
ended_of a r e =
    let t = ended_by (is_checking a) (old_of r == 0) (waits a r) (old_of r) (ending (own_took a r)) e in
    ap (λ (b : Bool). ending (cond b (checked a (old_of r)) (own_took a r))) t.0 ∙ t.1

-- only a user ends well
pub ended_well : (a : model.Actor) → ending a ≡ step.Ended → (u : UserState) × (a ≡ model.User u) × (u.step ≡ user_step.Done)
ended_well (model.User u) e = (u, refl, user_done u.code u.step e)
ended_well (model.Writer s) e = absurd (no_good_end (writer_ending s.code) writer_step.Failed s.code s.step (writer_end s.code s.step) e)
ended_well (model.Flusher t) e = absurd (no_good_end (flusher_ending t.code) flusher_step.Failed t.code t.step (flusher_end t.code t.step) e)
ended_well (model.Reader t) e = absurd (no_good_end (reader_ending t.code) reader_step.Failed t.code t.step (reader_end t.code t.step) e)
ended_well (model.Closer t) e = absurd (no_good_end (closer_ending t.code) closer_step.Failed t.code t.step (closer_end t.code t.step) e)
ended_well (model.Cleaner v) e = absurd (no_good_end (cleaner_ending v.code) cleaner_step.Failed v.code v.step (cleaner_end v.code v.step) e)
ended_well (model.Checkpointer t) e = absurd (no_good_end (checkpointer_ending t.code) checkpointer_step.Failed t.code t.step (checkpointer_end t.code t.step) e)

abbrev user_or : UserState → model.Actor → UserState
user_or d (model.User u) = u
user_or d _ = d

-- whoever waits hasn't ended
again_done : (f : UserStep) → user_again f ≡ user_step.Done → f ≡ user_step.Done
again_done user_step.LoadSn e = absurd (cc)
again_done (user_step.AdvanceWritten s) e = absurd (cc)
again_done user_step.ReloadWtail e = absurd (cc)
again_done (user_step.AdvanceClosed s) e = absurd (cc)
again_done user_step.ReloadCtail e = absurd (cc)
again_done _ e = e

waiting_not : (u : UserState) (n : ℕ) (f : UserStep) → user_waits u n f ≡ true → (user_took u n f).step ≡ user_step.Done → ⊥
waiting_not u n f w e =
    let done : f ≡ user_step.Done = again_done f (sym (user_wait u n f w).1 ∙ e) in
    let never : user_waits u n user_step.Done ≡ true = subst (λ (g : UserStep). user_waits u n g ≡ true) done w in absurd (cc)

-- after a check it has ended only if it had
still_done : (zero : Bool) (u : UserState) (n : ℕ) → (cond zero (record u { checks = false }) (record u { checks = false; code = n; step = user_step.Failed })).step ≡ user_step.Done → u.step ≡ user_step.Done
still_done true u n e = e
still_done false u n e = absurd (cc)

by_wait : (waiting : Bool) (ends : Step) → (waiting ≡ true → ⊥) → ends ≡ step.Ended → cond waiting step.Idle ends ≡ step.Ended
by_wait true ends never e = absurd (never refl)
by_wait false ends never e = e

-- a turn after which a user has ended, that hadn't where it checks, ends so
user_ends : (b : Bool) (u v : UserState) (r : Answer) → b ≡ u.checks → (u.step ≡ user_step.Done → u.checks ≡ false) → model.User v ≡ cond b (model.User (checked_of user_program u (old_of r))) (model.User (user_took u (heard r) u.step)) → v.step ≡ user_step.Done
    → cond b (cond (old_of r == 0) step.Moved (step.Failed (old_of r))) (cond (user_waits u (heard r) u.step) step.Idle (user_ending (user_took u (heard r) u.step).code (user_took u (heard r) u.step).step)) ≡ step.Ended
user_ends true u v r flag free e at =
    let was : u.step ≡ user_step.Done = still_done (old_of r == 0) u (old_of r) (sym (ap (λ (z : model.Actor). (user_or u z).step) e) ∙ at) in
    let unchecked : u.checks ≡ false = free was in absurd (cc)
user_ends false u v r flag free e at =
    let now : (user_took u (heard r) u.step).step ≡ user_step.Done = sym (ap (λ (z : model.Actor). (user_or u z).step) e) ∙ at in
    by_wait (user_waits u (heard r) u.step) (user_ending (user_took u (heard r) u.step).code (user_took u (heard r) u.step).step) (λ w. waiting_not u (heard r) u.step w now) (ap (user_ending (user_took u (heard r) u.step).code) now)

pub turn_ends : (a : model.Actor) (u : UserState) (r : Answer) → model.User u ≡ took a r → u.step ≡ user_step.Done → ((w : UserState) → a ≡ model.User w → w.step ≡ user_step.Done → w.checks ≡ false) → step_of a r ≡ step.Ended
turn_ends a u r e at free =
    let w = was_user a u (subst (λ (z : model.Actor). IsSameActor a z) (sym e) (took_later a r)) in
    subst (λ (z : model.Actor). step_of z r ≡ step.Ended) (sym w.1) (user_ends w.0.checks w.0 u r refl (free w.0 w.1) (e ∙ ap (λ (z : model.Actor). took z r) w.1) at)

-- whoever rests doesn't check
pub resting_free : (b : Bool) (o : Op) → cond b (op.Load word.Failed) o ≡ op.Rest → b ≡ false
resting_free true o e = absurd (cc)
resting_free false o e = refl

-- nor waits, since it stays as it is
pub quiet : (a : model.Actor) (r : Answer) → next a ≡ op.Rest → waits a r ≡ true → ⊥
quiet a r rest w =
    let free : is_checking a ≡ false = resting_free (is_checking a) (own_op a) rest in
    let stays : own_took a r ≡ a = ap (λ (b : Bool). cond b (checked a (old_of r)) (own_took a r)) (sym free) ∙ rests a rest r in
    let checks : is_checking a ≡ true = ap is_checking (sym stays) ∙ wait_checks a r w in absurd (cc)

-- whoever rests and ends by a failure had ended so
resting_by : (checks zero waiting : Bool) (n code : ℕ) (ends : Step) → checks ≡ false → cond checks (cond zero step.Moved (step.Failed n)) (cond waiting step.Idle ends) ≡ step.Failed code → ends ≡ step.Failed code
resting_by true zero waiting n code ends free e = absurd (cc)
resting_by false zero true n code ends free e = absurd (cc)
resting_by false zero false n code ends free e = e

pub resting_code : (a : model.Actor) (code : ℕ) → next a ≡ op.Rest → step_of a answer.Rested ≡ step.Failed code → ending a ≡ step.Failed code
resting_code a code rest e =
    let free : is_checking a ≡ false = resting_free (is_checking a) (own_op a) rest in
    let at : ending (own_took a answer.Rested) ≡ step.Failed code = resting_by (is_checking a) (old_of answer.Rested == 0) (waits a answer.Rested) (old_of answer.Rested) code (ending (own_took a answer.Rested)) free e in
    ap ending (sym (rests a rest answer.Rested) ∙ ap (λ (b : Bool). cond b (checked a (old_of answer.Rested)) (own_took a answer.Rested)) free) ∙ at
