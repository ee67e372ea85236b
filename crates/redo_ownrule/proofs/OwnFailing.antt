-- Who gives the log part back after a failed call, in the hand of a user that writes for itself: it has just stored its
-- code.
use Rattle.std.proofs.Common.{Bool, List, [], ap, arith, cond, false, inl, inr, length, subst, suc, sym, true, zero, ℕ, ⊎_elim, ◌+◌, ◌∙◌, ◌∷◌, ◌≡◌, ◌≤◌, ◌⊎◌}
use Rattle.std.specs.Prelude.{nat_lt}
use lib.ListN.{get_elem?}
use mathlib.Core.Option as maybe
use Rattle.model_core.proofs.FailedCalls.{has_stored, HasStored}
use Rattle.model_core.specs.{checked_of, flusher_op, flusher_program, flusher_took, FlusherState, old_of, writer_op, writer_program, writer_took, WriterState, GivesFailed, LogSide}
use Rattle.model_core.specs.States as model
use Rattle.model_core.specs.ActorProgram.{on_take}
use Rattle.model_core.specs.declared.ops.Answer.{Answer}
use Rattle.model_core.specs.declared.ops.Answer.TheVariants as answer
use Rattle.model_core.specs.declared.ops.Op.{Op}
use Rattle.model_core.specs.declared.ops.Op.TheVariants as op
use Rattle.model_core.specs.declared.steps.AdvanceStep.TheVariants as advance_step
use Rattle.model_core.specs.declared.steps.FlusherStep.{FlusherStep}
use Rattle.model_core.specs.declared.steps.FlusherStep.TheVariants as flusher_step
use Rattle.model_core.specs.declared.steps.WriterStep.{WriterStep}
use Rattle.model_core.specs.declared.steps.WriterStep.TheVariants as writer_step
use Rattle.model_core.specs.declared.words.Word.TheVariants as word
use Rattle.model_own.specs.{all_actors, after_flusher, after_writer, errand_op, errand_took, flushes_at, LogWork, own_checked, own_goes_on, own_next, OwnUser, taken_up, written, has_work}
use Rattle.model_own.specs.declared.errand.ErrandStep.{ErrandStep}
use Rattle.model_own.specs.declared.errand.ErrandStep.TheVariants as errand_step
use Rattle.model_ownrun.specs.OwnRunning.{IsWriterAtRest, WorkAt, WorkFits, WritesAt}
use Rattle.redo_ownrule.specs.OwnPlays.{ErrandGivesFailed}

-- the writer or the flusher of the log's work gives the log part back after a failure, or is about to store the code
abbrev pub WorkGives : LogWork → ℕ → Type 0
WorkGives k code = GivesFailed (model.Writer k.writer) code ⊎ GivesFailed (model.Flusher k.flusher) code

abbrev pub WorkStores : LogWork → ℕ → Type 0
WorkStores k code = HasStored (model.Writer k.writer) code ⊎ HasStored (model.Flusher k.flusher) code

pub errand_gives : (x : ErrandStep) (k : LogWork) (code : ℕ) → ErrandGivesFailed x k code → WorkGives k code
errand_gives errand_step.Write k code g = inl g
errand_gives errand_step.Flush k code g = inr g
errand_gives _ k code g = absurd g

-- who gives it back so sits behind them, or is one of them
pub gives_where : (users : List OwnUser) (k : LogWork) (others : List model.Actor) (n : ℕ) (c : model.Actor) (code : ℕ)
    → get_elem? (all_actors users k others) n ≡ maybe.some c → GivesFailed c code
    → (length users + 2 ≤ n) ⊎ WorkGives k code
gives_where [] k others zero c code at g =
    let is = maybe.some-injective (model.Writer k.writer) c at in
    inr (inl (subst (λ (z : model.Actor). GivesFailed z code) (sym is) g))
gives_where [] k others (suc zero) c code at g =
    let is = maybe.some-injective (model.Flusher k.flusher) c at in
    inr (inr (subst (λ (z : model.Actor). GivesFailed z code) (sym is) g))
gives_where [] k others (suc (suc n)) c code at g = inl (omega arith)
gives_where (x ∷ xs) k others zero c code at g =
    absurd (subst (λ (z : model.Actor). GivesFailed z code) (sym (maybe.some-injective (model.User x.user) c at)) g)
gives_where (x ∷ xs) k others (suc n) c code at g =
    ⊎_elim (λ far. inl (omega arith)) (λ w. inr w) (gives_where xs k others n c code at g)

module _ (k : LogWork) (code : ℕ) where
  up : WorkGives (taken_up k) code → WorkGives k code
  up g = ⊎_elim (λ w. inl w) (λ f. let z : flusher_step.GiveDevice ≡ flusher_step.GiveFailed = f.0 in absurd (cc)) g

  took_up : (r : Answer) (x y z : OwnUser)
      → WorkGives (on_take {A = OwnUser × LogWork} r (x, taken_up k) (y, taken_up k) (z, k)).1 code → WorkGives k code
  took_up (answer.Taken n) x y z g = up g
  took_up answer.Broken x y z g = up g
  took_up _ x y z g = g

  -- A turn of a user that hasn't the log's work in hand leaves it so.
  pub aside_gives : (o : OwnUser) (r : Answer) → has_work o.errand ≡ false → WorkGives (own_goes_on o k r).1 code
      → WorkGives k code
  aside_gives o r none g = by o.user.checks o.errand none g
    where
      by : (b : Bool) (x : ErrandStep) → has_work x ≡ false
          → WorkGives (cond {A = OwnUser × LogWork} b (own_checked o (old_of r), k) (errand_took o k r x)).1 code
          → WorkGives k code
      by true x none g = g
      by false errand_step.Done none g = g
      by false errand_step.TakeDevice none g = took_up r _ _ _ g
      by false _ none g = absurd (cc)

-- who does its work without a check has stored the code
writer_stored : (s : WriterState) (r : Answer) (code : ℕ) → s.checks ≡ false
    → GivesFailed (model.Writer (writer_took s r s.step)) code → HasStored (model.Writer s) code
writer_stored s r code on g = (has_stored (model.Writer s) r code
    (λ checks. let z : true ≡ false = sym checks ∙ on in absurd (cc))
    (subst (λ (b : Bool). GivesFailed (cond b (model.Writer (checked_of writer_program s (old_of r)))
    (model.Writer (writer_took s r s.step))) code) (sym on) g)).1

flusher_stored : (t : FlusherState) (r : Answer) (code : ℕ) → t.checks ≡ false
    → GivesFailed (model.Flusher (flusher_took t r t.step)) code → HasStored (model.Flusher t) code
flusher_stored t r code on g = (has_stored (model.Flusher t) r code
    (λ checks. let z : true ≡ false = sym checks ∙ on in absurd (cc))
    (subst (λ (b : Bool). GivesFailed (cond b (model.Flusher (checked_of flusher_program t (old_of r)))
    (model.Flusher (flusher_took t r t.step))) code) (sym on) g)).1

-- the writer's part ends with nothing to give back
from_none : (b : Bool) (t : FlusherState) (write code : ℕ) → GivesFailed (model.Flusher
    (cond b (record t { write = write; checks = false; step = flusher_step.Sync })
    (record t { checks = false; step = flusher_step.GiveDevice }))) code → ⊥
from_none true t write code g = let z : flusher_step.Sync ≡ flusher_step.GiveFailed = g.0 in absurd (cc)
from_none false t write code g = let z : flusher_step.GiveDevice ≡ flusher_step.GiveFailed = g.0 in absurd (cc)

module _ (o : OwnUser) (k : LogWork) (code : ℕ) where
  written_none : (s : WriterState) → WorkGives (written o k s).1 code → ⊥
  written_none s g = ⊎_elim
      (λ w. let z : writer_step.Advance advance_step.LoadTail ≡ writer_step.GiveFailed = w.0 in absurd (cc))
      (from_none (cond (flushes_at o.user o.user.step) (nat_lt k.flusher.last s.write) false) k.flusher s.write code) g

  either : (b : Bool) (s : WriterState) → (k.flusher.step ≡ flusher_step.GiveFailed → ⊥)
      → WorkGives (cond {A = OwnUser × LogWork} b (written o k s) (o, record k { writer = s })).1 code
      → GivesFailed (model.Writer s) code
  either true s quiet g = absurd (written_none s g)
  either false s quiet g = ⊎_elim (λ w. w) (λ f. absurd (quiet f.0)) g

  wrote : (s : WriterState) (f : WriterStep) → (k.flusher.step ≡ flusher_step.GiveFailed → ⊥)
      → WorkGives (after_writer o k s f).1 code → GivesFailed (model.Writer s) code
  wrote s (writer_step.Advance v) quiet g = either s.checks s quiet g
  wrote s writer_step.LoadCheckpoint quiet g = either s.checks s quiet g
  wrote s writer_step.TakeDevice quiet g = ⊎_elim
      (λ w. let z : writer_step.WriteTo ≡ writer_step.GiveFailed = w.0 in absurd (cc))
      (λ f. let z : flusher_step.LoadWrite ≡ flusher_step.GiveFailed = f.0 in absurd (cc)) g
  wrote s writer_step.GiveDevice quiet g = absurd (written_none s g)
  wrote s writer_step.Failed quiet g = ⊎_elim (λ w. w) (λ f. absurd (quiet f.0)) g
  wrote s _ quiet g = ⊎_elim (λ w. w) (λ f. absurd (quiet f.0)) g

  flushed : (t : FlusherState) (f : FlusherStep) → WorkGives (after_flusher o k t f).1 code
      → GivesFailed (model.Writer k.writer) code ⊎ GivesFailed (model.Flusher t) code
  flushed t flusher_step.LoadWrite g = g
  flushed t flusher_step.Failed g = g
  flushed t _ g = g

module _ (D : LogSide) (p : D.Part) where
  rest_quiet : (w : WriterStep) → IsWriterAtRest D p w → w ≡ writer_step.GiveFailed → ⊥
  rest_quiet writer_step.GiveFailed rests e = absurd rests
  rest_quiet _ rests e = absurd (cc)

  -- while the writer has its part the flusher has none
  writes_quiet : (w : WriterStep) (f : FlusherStep) → WritesAt D p w f → f ≡ flusher_step.GiveFailed → ⊥
  writes_quiet (writer_step.Advance v) f z e = let n = sym z.0 ∙ e in absurd (cc)
  writes_quiet writer_step.LoadCheckpoint f z e = let n = sym z.0 ∙ e in absurd (cc)
  writes_quiet writer_step.LoadFirst f z e = let n = sym z.0 ∙ e in absurd (cc)
  writes_quiet writer_step.ClearFirst f z e = let n = sym z.0 ∙ e in absurd (cc)
  writes_quiet writer_step.LoadCell f z e = let n = sym z.0 ∙ e in absurd (cc)
  writes_quiet writer_step.ClearCell f z e = let n = sym z.0 ∙ e in absurd (cc)
  writes_quiet writer_step.WriteTo f z e = let n = sym z.0 ∙ e in absurd (cc)
  writes_quiet writer_step.StoreWrite f z e = let n = sym z.0 ∙ e in absurd (cc)
  writes_quiet writer_step.StoreFailed f z e = let n = sym z.0 ∙ e in absurd (cc)
  writes_quiet writer_step.GiveFailed f z e = let n = sym z.0 ∙ e in absurd (cc)
  writes_quiet _ f z e = absurd z

  -- A turn of the user that has the log's work in hand, after which that gives the log part back so, stores the code.
  pub busy_stores : (o : OwnUser) (k : LogWork) (r : Answer) (code : ℕ) → o.user.checks ≡ false
      → has_work o.errand ≡ true → WorkFits D p o.errand k → WorkGives (own_goes_on o k r).1 code
      → WorkStores k code × (own_next o k ≡ op.Store word.Failed code)
  busy_stores o k r code asks has fits g = by o.errand has fits.step
      (subst (λ (b : Bool). WorkGives (cond {A = OwnUser × LogWork} b (own_checked o (old_of r), k)
      (errand_took o k r o.errand)).1 code) asks g)
    where
      Stores : ErrandStep → Type 0
      Stores x = WorkStores k code
          × (cond o.user.checks (op.Load word.Failed) (errand_op o k x) ≡ op.Store word.Failed code)

      unchecked : (a : Op) → cond o.user.checks (op.Load word.Failed) a ≡ a
      unchecked a = ap (λ (b : Bool). cond b (op.Load word.Failed) a) asks

      by : (x : ErrandStep) → has_work x ≡ true → WorkAt D p x k.writer.step k.flusher.step
          → WorkGives (errand_took o k r x).1 code → Stores x
      by errand_step.GiveBroken has at g = ⊎_elim
          (λ w. absurd (rest_quiet k.writer.step at.0 w.0))
          (λ f. let z : flusher_step.LoadWrite ≡ flusher_step.GiveFailed = f.0 in absurd (cc)) g
      by errand_step.Write has at g =
          let s : WriterState = writer_took k.writer r k.writer.step in
          let h = writer_stored k.writer r code fits.writer_goes_on
          (wrote o k code s s.step (writes_quiet k.writer.step k.flusher.step at) g) in (
            inl h,
            unchecked (writer_op k.writer k.writer.step) ∙ ap (writer_op k.writer) h.0 ∙ ap (op.Store word.Failed) h.1,
          )
      by errand_step.Flush has at g =
          let t : FlusherState = flusher_took k.flusher r k.flusher.step in
          ⊎_elim
          (λ w. let z = sym at.0 ∙ w.0 in absurd (cc))
          (λ f. let h = flusher_stored k.flusher r code fits.flusher_goes_on f in (
            inr h,
            unchecked (flusher_op k.flusher k.flusher.step) ∙ ap (flusher_op k.flusher) h.0
                ∙ ap (op.Store word.Failed) h.1,
          ))
          (flushed o k code t t.step g)
      by _ has at g = absurd (cc)
