-- Who gives the log part back after a failed call.
use Rattle.std.proofs.Common.{Bool, None, Option, Some, ap, cond, false, refl, sym, true, ℕ, ⊎_elim, ◌==◌, ◌∙◌, ◌≡◌}
use Rattle.model_core.specs.{checked_of, checkpointer_op, checkpointer_program, checkpointer_took, CheckpointerState, cleaner_program, cleaner_took, closer_program, closer_took, flusher_op, flusher_program, flusher_took, FlusherState, heard, is_checking, next, old_of, took, user_program, user_took, writer_op, writer_program, writer_took, WriterState, reader_op, reader_program, reader_took, ReaderState}
use Rattle.model_core.specs.States as actor
use Rattle.model_core.specs.States.{Actor}
use Rattle.model_core.specs.declared.ops.Answer.{Answer}
use Rattle.model_core.specs.declared.ops.Op.TheVariants as op
use Rattle.model_core.specs.declared.words.Word.TheVariants as word
use Rattle.model_core.specs.declared.steps.CheckpointerStep.{CheckpointerStep}
use Rattle.model_core.specs.declared.steps.CheckpointerStep.TheVariants as checkpointer_step
use Rattle.model_core.specs.declared.steps.FlusherStep.{FlusherStep}
use Rattle.model_core.specs.declared.steps.ReaderStep.{ReaderStep}
use Rattle.model_core.specs.declared.steps.FlusherStep.TheVariants as flusher_step
use Rattle.model_core.specs.declared.steps.ReaderStep.TheVariants as reader_step
use Rattle.model_core.specs.declared.steps.WriterStep.{WriterStep}
use Rattle.model_core.specs.declared.steps.WriterStep.TheVariants as writer_step
use Rattle.model_core.proofs.FailedSteps.{checkpointer_near_or, checkpointer_on, checkpointer_quiet, flusher_near_or, flusher_on, flusher_quiet, writer_near_or, writer_on, writer_quiet, reader_near_or, reader_on, reader_quiet}
use Rattle.model_core.specs.Hands.{checkpointer_hand, flusher_hand, GivesFailed, hand, IsFreeToCheck, writer_hand, reader_hand}

-- who gives the log part back after a failed call has just stored its code: it was about to
abbrev pub HasStored : Actor → ℕ → Type 0
HasStored (actor.Writer s) code = (s.step ≡ writer_step.StoreFailed) × (s.code ≡ code)
HasStored (actor.Flusher f) code = (f.step ≡ flusher_step.StoreFailed) × (f.code ≡ code)
HasStored (actor.Reader f) code = (f.step ≡ reader_step.StoreFailed) × (f.code ≡ code)
HasStored (actor.Checkpointer t) code = (t.step ≡ checkpointer_step.StoreFailed) × (t.code ≡ code)
HasStored _ code = ⊥

-- what an actor that gives the log part back after a failed call holds
pub gives_hand : (a : Actor) (code : ℕ) → GivesFailed a code → hand a ≡ Some 0
gives_hand (actor.Writer s) code g = ap writer_hand g.0
gives_hand (actor.Flusher f) code g = ap flusher_hand g.0
gives_hand (actor.Reader f) code g = ap reader_hand g.0
gives_hand (actor.Checkpointer t) code g = ap (checkpointer_hand t) g.0
gives_hand (actor.User u) code g = absurd g
gives_hand (actor.Closer t) code g = absurd g
gives_hand (actor.Cleaner v) code g = absurd g

writer_loud : (f : WriterStep) → writer_quiet f → f ≡ writer_step.GiveFailed → ⊥
writer_loud writer_step.GiveFailed quiet e = absurd quiet
writer_loud _ quiet e = absurd (cc)

flusher_loud : (f : FlusherStep) → flusher_quiet f → f ≡ flusher_step.GiveFailed → ⊥
flusher_loud flusher_step.GiveFailed quiet e = absurd quiet
flusher_loud _ quiet e = absurd (cc)

reader_loud : (f : ReaderStep) → reader_quiet f → f ≡ reader_step.GiveFailed → ⊥
reader_loud reader_step.GiveFailed quiet e = absurd quiet
reader_loud _ quiet e = absurd (cc)

checkpointer_loud : (f : CheckpointerStep) → checkpointer_quiet f → f ≡ checkpointer_step.GiveFailed → ⊥
checkpointer_loud checkpointer_step.GiveFailed quiet e = absurd quiet
checkpointer_loud _ quiet e = absurd (cc)

writer_apart : writer_step.Failed ≡ writer_step.GiveFailed → ⊥
writer_apart e = absurd (cc)

flusher_apart : flusher_step.Failed ≡ flusher_step.GiveFailed → ⊥
flusher_apart e = absurd (cc)

reader_apart : reader_step.Failed ≡ reader_step.GiveFailed → ⊥
reader_apart e = absurd (cc)

checkpointer_apart : checkpointer_step.Failed ≡ checkpointer_step.GiveFailed → ⊥
checkpointer_apart e = absurd (cc)

writer_stored : (s : WriterState) (r : Answer) (code : ℕ) → GivesFailed (actor.Writer (writer_took s r s.step)) code → HasStored (actor.Writer s) code
writer_stored s r code g =
    let W : WriterStep → WriterStep = λ f. (writer_took s r f).step in
    ⊎_elim
    (λ near. absurd (writer_loud (writer_took s r s.step).step (writer_on s r s.step near) g.0))
    (λ t. ⊎_elim
    (λ q. (q, sym (ap (λ (f : WriterStep). (writer_took s r f).code) q) ∙ g.1))
    (λ u. ⊎_elim (λ q. absurd (writer_apart (sym (ap W q) ∙ g.0))) (λ q. absurd (writer_apart (sym q ∙ (sym (ap W q) ∙ g.0)))) u)
    t)
    (writer_near_or s.step)

flusher_stored : (s : FlusherState) (r : Answer) (code : ℕ) → GivesFailed (actor.Flusher (flusher_took s r s.step)) code → HasStored (actor.Flusher s) code
flusher_stored s r code g =
    let W : FlusherStep → FlusherStep = λ f. (flusher_took s r f).step in
    ⊎_elim
    (λ near. absurd (flusher_loud (flusher_took s r s.step).step (flusher_on s r s.step near) g.0))
    (λ t. ⊎_elim
    (λ q. (q, sym (ap (λ (f : FlusherStep). (flusher_took s r f).code) q) ∙ g.1))
    (λ u. ⊎_elim (λ q. absurd (flusher_apart (sym (ap W q) ∙ g.0))) (λ q. absurd (flusher_apart (sym q ∙ (sym (ap W q) ∙ g.0)))) u)
    t)
    (flusher_near_or s.step)

reader_stored : (s : ReaderState) (r : Answer) (code : ℕ) → GivesFailed (actor.Reader (reader_took s r s.step)) code → HasStored (actor.Reader s) code
reader_stored s r code g =
    let W : ReaderStep → ReaderStep = λ f. (reader_took s r f).step in
    ⊎_elim
    (λ near. absurd (reader_loud (reader_took s r s.step).step (reader_on s r s.step near) g.0))
    (λ t. ⊎_elim
    (λ q. (q, sym (ap (λ (f : ReaderStep). (reader_took s r f).code) q) ∙ g.1))
    (λ u. ⊎_elim (λ q. absurd (reader_apart (sym (ap W q) ∙ g.0)))
    (λ v. ⊎_elim (λ q. absurd (reader_apart (sym (ap W q) ∙ g.0))) (λ q. absurd (reader_apart (sym q ∙ (sym (ap W q) ∙ g.0)))) v) u)
    t)
    (reader_near_or s.step)

checkpointer_stored : (s : CheckpointerState) (r : Answer) (code : ℕ) → GivesFailed (actor.Checkpointer (checkpointer_took s r s.step)) code → HasStored (actor.Checkpointer s) code
checkpointer_stored s r code g =
    let W : CheckpointerStep → CheckpointerStep = λ f. (checkpointer_took s r f).step in
    ⊎_elim
    (λ near. absurd (checkpointer_loud (checkpointer_took s r s.step).step (checkpointer_on s r s.step near) g.0))
    (λ t. ⊎_elim
    (λ q. (q, sym (ap (λ (f : CheckpointerStep). (checkpointer_took s r f).code) q) ∙ g.1))
    (λ u. ⊎_elim (λ q. absurd (checkpointer_apart (sym (ap W q) ∙ g.0))) (λ q. absurd (checkpointer_apart (sym q ∙ (sym (ap W q) ∙ g.0)))) u)
    t)
    (checkpointer_near_or s.step)

-- who checks holds nothing, and so gives nothing back after the check
not_held : {A : Type 0} (h : A → Option ℕ) (x y : A) → h y ≡ Some 0 → h x ≡ None → x ≡ y → ⊥
not_held h x y some none e = let z = sym some ∙ (ap h (sym e) ∙ none) in absurd (cc)

writer_not : (zero : Bool) (s : WriterState) (n code : ℕ) → writer_hand s.step ≡ None → GivesFailed (actor.Writer (cond zero (record s { checks = false }) (record s { checks = false; code = n; step = writer_step.Failed }))) code → ⊥
writer_not true s n code none g = not_held writer_hand s.step writer_step.GiveFailed refl none g.0
writer_not false s n code none g = writer_apart g.0

flusher_not : (zero : Bool) (s : FlusherState) (n code : ℕ) → flusher_hand s.step ≡ None → GivesFailed (actor.Flusher (cond zero (record s { checks = false }) (record s { checks = false; code = n; step = flusher_step.Failed }))) code → ⊥
flusher_not true s n code none g = not_held flusher_hand s.step flusher_step.GiveFailed refl none g.0
flusher_not false s n code none g = flusher_apart g.0

reader_not : (zero : Bool) (s : ReaderState) (n code : ℕ) → reader_hand s.step ≡ None → GivesFailed (actor.Reader (cond zero (record s { checks = false }) (record s { checks = false; code = n; step = reader_step.Failed }))) code → ⊥
reader_not true s n code none g = not_held reader_hand s.step reader_step.GiveFailed refl none g.0
reader_not false s n code none g = reader_apart g.0

checkpointer_not : (zero : Bool) (s : CheckpointerState) (n code : ℕ) → checkpointer_hand s s.step ≡ None → GivesFailed (actor.Checkpointer (cond zero (record s { checks = false }) (record s { checks = false; code = n; step = checkpointer_step.Failed }))) code → ⊥
checkpointer_not true s n code none g = not_held (checkpointer_hand s) s.step checkpointer_step.GiveFailed refl none g.0
checkpointer_not false s n code none g = checkpointer_apart g.0

by_check : (b : Bool) (x y : Actor) (code : ℕ) (H : Type 0) → (b ≡ true → GivesFailed x code → ⊥) → (GivesFailed y code → H) → GivesFailed (cond b x y) code → (b ≡ false) × H
by_check true x y code H never goes g = absurd (never refl g)
by_check false x y code H never goes g = (refl, goes g)

none_gives : (b : Bool) (x y : Actor) (code : ℕ) → (GivesFailed x code → ⊥) → (GivesFailed y code → ⊥) → GivesFailed (cond b x y) code → ⊥
none_gives true x y code one other g = one g
none_gives false x y code one other g = other g

pub has_stored : (a : Actor) (r : Answer) (code : ℕ) → IsFreeToCheck a → GivesFailed (took a r) code → (is_checking a ≡ false) × HasStored a code
has_stored (actor.Writer s) r code free g = by_check s.checks (actor.Writer (checked_of writer_program s (old_of r))) (actor.Writer (writer_took s r s.step)) code (HasStored (actor.Writer s) code) (λ e. writer_not (old_of r == 0) s (old_of r) code (free e).no_slot) (writer_stored s r code) g
has_stored (actor.Flusher s) r code free g = by_check s.checks (actor.Flusher (checked_of flusher_program s (old_of r))) (actor.Flusher (flusher_took s r s.step)) code (HasStored (actor.Flusher s) code) (λ e. flusher_not (old_of r == 0) s (old_of r) code (free e).no_slot) (flusher_stored s r code) g
has_stored (actor.Reader s) r code free g = by_check s.checks (actor.Reader (checked_of reader_program s (old_of r))) (actor.Reader (reader_took s r s.step)) code (HasStored (actor.Reader s) code) (λ e. reader_not (old_of r == 0) s (old_of r) code (free e).no_slot) (reader_stored s r code) g
has_stored (actor.Checkpointer s) r code free g = by_check s.checks (actor.Checkpointer (checked_of checkpointer_program s (old_of r))) (actor.Checkpointer (checkpointer_took s r s.step)) code (HasStored (actor.Checkpointer s) code) (λ e. checkpointer_not (old_of r == 0) s (old_of r) code (free e).no_slot) (checkpointer_stored s r code) g
has_stored (actor.User u) r code free g = absurd (none_gives u.checks (actor.User (checked_of user_program u (old_of r))) (actor.User (user_took u (heard r) u.step)) code (λ x. x) (λ x. x) g)
has_stored (actor.Closer t) r code free g = absurd (none_gives t.checks (actor.Closer (checked_of closer_program t (old_of r))) (actor.Closer (closer_took t r t.step)) code (λ x. x) (λ x. x) g)
has_stored (actor.Cleaner v) r code free g = absurd (none_gives v.checks (actor.Cleaner (checked_of cleaner_program v (old_of r))) (actor.Cleaner (cleaner_took v r v.step)) code (λ x. x) (λ x. x) g)

-- it stores the code
pub stores : (a : Actor) (code : ℕ) → is_checking a ≡ false → HasStored a code → next a ≡ op.Store word.Failed code
stores (actor.Writer s) code free h = ap (λ (b : Bool). cond b (op.Load word.Failed) (writer_op s s.step)) free ∙ ap (writer_op s) h.0 ∙ ap (op.Store word.Failed) h.1
stores (actor.Flusher f) code free h = ap (λ (b : Bool). cond b (op.Load word.Failed) (flusher_op f f.step)) free ∙ ap (flusher_op f) h.0 ∙ ap (op.Store word.Failed) h.1
stores (actor.Reader f) code free h = ap (λ (b : Bool). cond b (op.Load word.Failed) (reader_op f f.step)) free ∙ ap (reader_op f) h.0 ∙ ap (op.Store word.Failed) h.1
stores (actor.Checkpointer t) code free h = ap (λ (b : Bool). cond b (op.Load word.Failed) (checkpointer_op t t.step)) free ∙ ap (checkpointer_op t) h.0 ∙ ap (op.Store word.Failed) h.1
stores (actor.User u) code free h = absurd h
stores (actor.Closer t) code free h = absurd h
stores (actor.Cleaner v) code free h = absurd h
