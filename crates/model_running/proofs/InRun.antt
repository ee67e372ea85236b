-- Whatever the log device tells, the numbers of readers are those of words, they read blocks of the run, and the
-- archiver alone appends.
use Rattle.std.proofs.Common.{Bool, List, ap, arith, cond, eqb, false, inl, inr, refl, subst, sym, true, ℕ, ⊎_elim, ◌%◌, ◌+◌, ◌<◌, ◌==◌, ◌∙◌, ◌≡◌, ◌≤◌}
use Rattle.std.proofs.lemmas.Bool.{eqb-false}
use Rattle.model_core.specs.ActorProgram.{oldest_in}
use Rattle.model_base.specs.declared.limits.TheConstants.{BLOCK_SIZE}
use Rattle.model_core.proofs.Lsns.{floor_grows, lsn_le}
use Rattle.model_core.specs.{Actor, archived, archives, candidate, checkpointer_took, CheckpointerState, floor, followed, has_all, has_taken, is_none, IsArchiveCode, IsLosing, is_above, Listed, LostAt, lowered, lsn, next, next_block, old_of, OwnServed, read_to, reader_op, reader_took, ReaderState, shared_answer, SharedWords, to_append, took, Setup}
use Rattle.model_core.specs.States as actor
use Rattle.model_core.specs.declared.ops.Answer.{Answer}
use Rattle.model_core.specs.declared.ops.Answer.TheVariants as answer
use Rattle.model_core.specs.declared.ops.Op.{Op}
use Rattle.model_core.specs.declared.ops.Op.TheVariants as op
use Rattle.model_core.specs.declared.words.Word.TheVariants as word
use Rattle.model_core.specs.declared.steps.CheckpointerStep.{CheckpointerStep}
use Rattle.model_core.specs.declared.steps.CheckpointerStep.TheVariants as checkpointer_step
use Rattle.model_core.specs.declared.steps.ReaderStep.{ReaderStep}
use Rattle.model_core.specs.declared.steps.ReaderStep.TheVariants as reader_step
use Rattle.model_running.specs.ReadHalf.{NumberAt, ReadsInRun, StaysInRun}

-- what an append is answered
abbrev pub AppendFits : Op → Answer → Type 0
AppendFits (op.Append x) a = (code : ℕ) → a ≡ answer.Failed code → IsArchiveCode code
AppendFits o a = Unit {0}

pub append_fits : (ls : ℕ → List Listed) (broken : Bool) (code mark : ℕ) (m : SharedWords) (o : Op) → OwnServed o code
    → AppendFits o (shared_answer ls broken code mark m o)
append_fits ls broken code mark m (op.Append x) served = by (eqb code 0) refl
  where
    by : (b : Bool) → eqb code 0 ≡ b → (n : ℕ) → cond b (answer.Called 0) (answer.Failed code) ≡ answer.Failed n
        → IsArchiveCode n
    by true e n is = absurd (cc)
    by false e n is =
        let same : code ≡ n = cc in
        let some = eqb-false code 0 e in
        subst IsArchiveCode same (⊎_elim (λ none. absurd (some none)) (λ z. z) served)
append_fits ls broken code mark m (op.Load w) served = tt
append_fits ls broken code mark m _ served = tt

-- what is said of a failed append is said of each state with the same number and codes, that doesn't check more
module _ (r w : ReaderState) (number : w.number ≡ r.number) (lost : w.lost ≡ r.lost) (code : w.code ≡ r.code)
    (checks : r.checks ≡ false → w.checks ≡ false) where
  losing_same : IsLosing r → IsLosing w
  losing_same k = record {
    archiver = ap (λ n. n == 0) number ∙ k.archiver;
    why = subst IsArchiveCode (sym lost) k.why;
    ends = code ∙ k.ends ∙ sym lost;
    unchecked = checks k.unchecked;
  }

  pub lost_same : (st : ReaderStep) → LostAt r st → LostAt w st
  lost_same reader_step.Append k = (ap (λ n. n == 0) number ∙ k.0, lost ∙ k.1)
  lost_same reader_step.StoreLost k = losing_same k
  lost_same reader_step.Failed k = ⊎_elim (λ none. inl (lost ∙ none)) (λ z. inr (losing_same z)) k
  lost_same reader_step.LoadFlushed k = lost ∙ k
  lost_same reader_step.TakeDevice k = lost ∙ k
  lost_same reader_step.GiveBroken k = lost ∙ k
  lost_same reader_step.ReadBlock k = lost ∙ k
  lost_same reader_step.GiveDevice k = lost ∙ k
  lost_same reader_step.StorePlace k = lost ∙ k
  lost_same reader_step.StoreFailed k = lost ∙ k
  lost_same reader_step.GiveFailed k = lost ∙ k

-- who checks has lost nothing
none_lost : (r : ReaderState) (st : ReaderStep) → LostAt r st → r.checks ≡ true → r.lost ≡ 0
none_lost r reader_step.Append k checks = k.1
none_lost r reader_step.StoreLost k checks = let z = k.unchecked in absurd (cc)
none_lost r reader_step.Failed k checks = ⊎_elim (λ none. none) (λ z. let y = z.unchecked in absurd (cc)) k
none_lost r reader_step.LoadFlushed k checks = k
none_lost r reader_step.TakeDevice k checks = k
none_lost r reader_step.GiveBroken k checks = k
none_lost r reader_step.ReadBlock k checks = k
none_lost r reader_step.GiveDevice k checks = k
none_lost r reader_step.StorePlace k checks = k
none_lost r reader_step.StoreFailed k checks = k
none_lost r reader_step.GiveFailed k checks = k

-- A READER goes on from its place, or stays there.
module _ (c : Setup) (r : ReaderState) (k : ReadsInRun c r) where
  -- but for what it hands on or archives
  stays_put : (w : ReaderState) → w.number ≡ r.number → w.at ≡ r.at → w.place ≡ r.place → LostAt w w.step
      → ReadsInRun c w
  stays_put w number at place lost = record {
    first = (let z = k.first in omega arith);
    few = (let z = k.few in omega arith);
    from = (let z = k.from in omega arith);
    block = λ kind. let z = k.block (ap (λ n. n == 0) (sym number) ∙ kind) in
        subst (λ (x : ℕ). (x % BLOCK_SIZE ≡ 0) × (floor (lsn c.base) ≤ x)) (sym place) z;
    lost = lost;
  }

  -- it appends its block, or fails to
  of_append : r.checks ≡ false → LostAt r reader_step.Append → (a : Answer)
      → ((code : ℕ) → a ≡ answer.Failed code → IsArchiveCode code) → ReadsInRun c (archived r a)
  of_append free lost a fits = by a fits
    where
      next_place : (w : ReaderState) → w.number ≡ r.number → w.at ≡ r.at → w.place ≡ r.place + BLOCK_SIZE
          → LostAt w w.step → ReadsInRun c w
      next_place w number at place lost = record {
        first = (let z = k.first in omega arith);
        few = (let z = k.few in omega arith);
        from = (let z = k.from in omega arith);
        block = λ kind. let z = k.block (ap (λ n. n == 0) (sym number) ∙ kind) in
            (let y = z.0 in omega arith, let y = z.1 in omega arith);
        lost = lost;
      }

      by : (a : Answer) → ((code : ℕ) → a ≡ answer.Failed code → IsArchiveCode code) → ReadsInRun c (archived r a)
      by (answer.Failed n) fits = stays_put (archived r (answer.Failed n)) refl refl refl
          (record { archiver = lost.0; why = fits n refl; ends = refl; unchecked = free })
      by (answer.Old n) fits = next_place (archived r (answer.Old n)) refl refl refl refl
      by (answer.Taken n) fits = next_place (archived r (answer.Taken n)) refl refl refl refl
      by answer.Held fits = next_place (archived r answer.Held) refl refl refl refl
      by answer.Broken fits = next_place (archived r answer.Broken) refl refl refl refl
      by (answer.Called n) fits = next_place (archived r (answer.Called n)) refl refl refl refl
      by answer.Rested fits = next_place (archived r answer.Rested) refl refl refl refl

  of_reader : r.checks ≡ false → (a : Answer) (f : ReaderStep) → r.step ≡ f → LostAt r f → AppendFits (reader_op r f) a
      → ReadsInRun c (reader_took r a f)
  of_reader free a reader_step.LoadFlushed is lost fits = by (has_all r (old_of a))
    where
      waits : ReaderState
      waits = record r { mark = old_of a; checks = true; step = reader_step.LoadFlushed }

      more : ReaderState
      more = record r { mark = old_of a; step = reader_step.TakeDevice }

      by : (b : Bool) → ReadsInRun c (cond b waits more)
      by true = stays_put waits refl refl refl lost
      by false = stays_put more refl refl refl lost
  of_reader free (answer.Old n) reader_step.TakeDevice is lost fits =
      stays_put (reader_took r (answer.Old n) reader_step.TakeDevice) refl refl refl lost
  of_reader free (answer.Taken n) reader_step.TakeDevice is lost fits =
      stays_put (reader_took r (answer.Taken n) reader_step.TakeDevice) refl refl refl lost
  of_reader free answer.Held reader_step.TakeDevice is lost fits =
      stays_put (reader_took r answer.Held reader_step.TakeDevice) refl refl refl lost
  of_reader free answer.Broken reader_step.TakeDevice is lost fits =
      stays_put (reader_took r answer.Broken reader_step.TakeDevice) refl refl refl lost
  of_reader free (answer.Called n) reader_step.TakeDevice is lost fits =
      stays_put (reader_took r (answer.Called n) reader_step.TakeDevice) refl refl refl lost
  of_reader free (answer.Failed n) reader_step.TakeDevice is lost fits =
      stays_put (reader_took r (answer.Failed n) reader_step.TakeDevice) refl refl refl lost
  of_reader free answer.Rested reader_step.TakeDevice is lost fits =
      stays_put (reader_took r answer.Rested reader_step.TakeDevice) refl refl refl lost
  of_reader free a reader_step.GiveBroken is lost fits =
      stays_put (reader_took r a reader_step.GiveBroken) refl refl refl lost
  of_reader free (answer.Failed n) reader_step.ReadBlock is lost fits =
      stays_put (reader_took r (answer.Failed n) reader_step.ReadBlock) refl refl refl lost
  of_reader free (answer.Old n) reader_step.ReadBlock is lost fits =
      stays_put (reader_took r (answer.Old n) reader_step.ReadBlock) refl refl refl lost
  of_reader free (answer.Taken n) reader_step.ReadBlock is lost fits =
      stays_put (reader_took r (answer.Taken n) reader_step.ReadBlock) refl refl refl lost
  of_reader free answer.Held reader_step.ReadBlock is lost fits =
      stays_put (reader_took r answer.Held reader_step.ReadBlock) refl refl refl lost
  of_reader free answer.Broken reader_step.ReadBlock is lost fits =
      stays_put (reader_took r answer.Broken reader_step.ReadBlock) refl refl refl lost
  of_reader free (answer.Called n) reader_step.ReadBlock is lost fits =
      stays_put (reader_took r (answer.Called n) reader_step.ReadBlock) refl refl refl lost
  of_reader free answer.Rested reader_step.ReadBlock is lost fits =
      stays_put (reader_took r answer.Rested reader_step.ReadBlock) refl refl refl lost
  of_reader free a reader_step.GiveDevice is lost fits = by (archives r) refl
    where
      goes_on : (b : Bool) → LostAt (followed r) (cond b reader_step.LoadFlushed reader_step.StorePlace)
      goes_on true = lost
      goes_on false = lost

      by : (b : Bool) → archives r ≡ b → ReadsInRun c (cond b (to_append r) (followed r))
      by true kind = stays_put (to_append r) refl refl refl (kind, lost)
      by false kind = record {
        first = k.first;
        few = k.few;
        from = (let z = k.from in omega arith);
        block = λ other. let z : false ≡ true = sym kind ∙ other in absurd (cc);
        lost = goes_on (is_none r.texts);
      }
  of_reader free a reader_step.Append is lost fits = of_append free lost a fits
  of_reader free a reader_step.StorePlace is lost fits =
      stays_put (reader_took r a reader_step.StorePlace) refl refl refl lost
  of_reader free a reader_step.StoreFailed is lost fits =
      stays_put (reader_took r a reader_step.StoreFailed) refl refl refl lost
  of_reader free a reader_step.GiveFailed is lost fits =
      stays_put (reader_took r a reader_step.GiveFailed) refl refl refl (inl lost)
  of_reader free a reader_step.StoreLost is lost fits = stays_put (reader_took r a reader_step.StoreLost) refl refl refl
      (inr (record { archiver = lost.archiver; why = lost.why; ends = lost.ends; unchecked = lost.unchecked }))
  of_reader free a reader_step.Failed is lost fits = k

  reader_stays : (a : Answer) → AppendFits (next (actor.Reader r)) a → StaysInRun c (took (actor.Reader r) a)
  reader_stays a = by r.checks (old_of a == 0) refl
    where
      goes_on : ReaderState
      goes_on = record r { checks = false }

      fails : ReaderState
      fails = record r { checks = false; code = old_of a; step = reader_step.Failed }

      by : (b n : Bool) → r.checks ≡ b → AppendFits (cond b (op.Load word.Failed) (reader_op r r.step)) a
          → StaysInRun c (cond b (actor.Reader (cond n goes_on fails)) (actor.Reader (reader_took r a r.step)))
      by true true is fits = stays_put goes_on refl refl refl
          (lost_same r goes_on refl refl refl (λ _. refl) r.step k.lost)
      by true false is fits = stays_put fails refl refl refl (inl (none_lost r r.step k.lost is))
      by false n is fits = of_reader is a r.step refl k.lost fits

  -- so it may ask for the block that it needs
  pub next_in_run : (next_block r % BLOCK_SIZE ≡ 0) × (floor (lsn c.base) ≤ next_block r)
  next_in_run = by (archives r) refl
    where
      by : (b : Bool) → archives r ≡ b
          → let x : ℕ = cond b r.place (floor (lsn (read_to r))) in (x % BLOCK_SIZE ≡ 0) × (floor (lsn c.base) ≤ x)
      by true kind = k.block kind
      by false kind =
          let low = k.from in
          let later : lsn c.base ≤ lsn (read_to r) = lsn_le c.base (read_to r) (omega arith) in
          (omega arith, floor_grows (lsn c.base) (lsn (read_to r)) later)

-- THE CHECKPOINTER knows the readers' numbers.
module _ (c : Setup) (readers : c.first_reader ≤ c.last_reader) (t : CheckpointerState)
    (k : StaysInRun c (actor.Checkpointer t)) where
  at_last : (w : CheckpointerState) (b : Bool) → w.first ≡ t.first → w.last ≡ t.last → (b ≡ false → w.reader < w.last)
      → StaysInRun c (actor.Checkpointer (record w {
        step = cond b checkpointer_step.ReadList checkpointer_step.LoadPlace;
      }))
  at_last w true f l less = (let z = k.0 in omega arith, let z = k.1 in omega arith, tt)
  at_last w false f l less = (let z = k.0 in omega arith, let z = k.1 in omega arith, less refl)

  either_one : (b : Bool) (x y : CheckpointerState) → StaysInRun c (actor.Checkpointer x)
      → StaysInRun c (actor.Checkpointer y) → StaysInRun c (actor.Checkpointer (cond b x y))
  either_one true x y one two = one
  either_one false x y one two = two

  of_checkpointer : (a : Answer) (f : CheckpointerStep) → NumberAt t f
      → StaysInRun c (actor.Checkpointer (checkpointer_took t a f))
  of_checkpointer a checkpointer_step.LoadCtail n =
      at_last (checkpointer_took t a checkpointer_step.LoadCtail) (eqb t.first t.last) refl refl
      (λ e. let ne = eqb-false t.first t.last e in let z = k.0 in let y = k.1 in omega arith)
  of_checkpointer a checkpointer_step.LoadPlace n =
      at_last (checkpointer_took t a checkpointer_step.LoadPlace) (eqb (t.reader + 1) t.last) refl refl
      (λ e. let ne = eqb-false (t.reader + 1) t.last e in omega arith)
  of_checkpointer a checkpointer_step.ReadList n = either_one (has_taken a)
      (record t { to = lowered t.to (oldest_in a); step = checkpointer_step.GiveList })
      (record t { checks = true; step = checkpointer_step.ReadList }) (k.0, k.1, tt) (k.0, k.1, tt)
  of_checkpointer a checkpointer_step.GiveList n = by (eqb (t.list + 1) 4)
    where
      by : (b : Bool) → StaysInRun c (actor.Checkpointer (record t {
        list = t.list + 1;
        step = cond b checkpointer_step.LoadFlushed checkpointer_step.ReadList;
      }))
      by true = (k.0, k.1, tt)
      by false = (k.0, k.1, tt)
  of_checkpointer a checkpointer_step.LoadFlushed n = either_one (is_above t (old_of a))
      (record t { flushed = old_of a; to = candidate t (old_of a); step = checkpointer_step.TakeDevice })
      (record t { flushed = old_of a; checks = true; step = checkpointer_step.LoadCtail }) (k.0, k.1, tt) (k.0, k.1, tt)
  of_checkpointer (answer.Old x) checkpointer_step.TakeDevice n = (k.0, k.1, tt)
  of_checkpointer (answer.Taken x) checkpointer_step.TakeDevice n = (k.0, k.1, tt)
  of_checkpointer answer.Held checkpointer_step.TakeDevice n = (k.0, k.1, tt)
  of_checkpointer answer.Broken checkpointer_step.TakeDevice n = (k.0, k.1, tt)
  of_checkpointer (answer.Called x) checkpointer_step.TakeDevice n = (k.0, k.1, tt)
  of_checkpointer (answer.Failed x) checkpointer_step.TakeDevice n = (k.0, k.1, tt)
  of_checkpointer answer.Rested checkpointer_step.TakeDevice n = (k.0, k.1, tt)
  of_checkpointer a checkpointer_step.GiveBroken n = (k.0, k.1, tt)
  of_checkpointer (answer.Old x) checkpointer_step.Checkpoint n = (k.0, k.1, tt)
  of_checkpointer (answer.Taken x) checkpointer_step.Checkpoint n = (k.0, k.1, tt)
  of_checkpointer answer.Held checkpointer_step.Checkpoint n = (k.0, k.1, tt)
  of_checkpointer answer.Broken checkpointer_step.Checkpoint n = (k.0, k.1, tt)
  of_checkpointer (answer.Called x) checkpointer_step.Checkpoint n = (k.0, k.1, tt)
  of_checkpointer (answer.Failed x) checkpointer_step.Checkpoint n = (k.0, k.1, tt)
  of_checkpointer answer.Rested checkpointer_step.Checkpoint n = (k.0, k.1, tt)
  of_checkpointer a checkpointer_step.StoreCheckpoint n = (k.0, k.1, tt)
  of_checkpointer a checkpointer_step.GiveDevice n = (k.0, k.1, tt)
  of_checkpointer a checkpointer_step.StoreFailed n = (k.0, k.1, tt)
  of_checkpointer a checkpointer_step.GiveFailed n = (k.0, k.1, tt)
  of_checkpointer a checkpointer_step.Failed n = k

  checkpointer_stays : (a : Answer) → StaysInRun c (took (actor.Checkpointer t) a)
  checkpointer_stays a = by t.checks (either_one (eqb (old_of a) 0) goes_on fails k (k.0, k.1, tt))
    where
      goes_on : CheckpointerState
      goes_on = record t { checks = false }

      fails : CheckpointerState
      fails = record t { checks = false; code = old_of a; step = checkpointer_step.Failed }

      by : (b : Bool) → StaysInRun c (actor.Checkpointer (cond (eqb (old_of a) 0) goes_on fails))
          → StaysInRun c (cond b (actor.Checkpointer (cond (eqb (old_of a) 0) goes_on fails))
          (actor.Checkpointer (checkpointer_took t a t.step)))
      by true checked = checked
      by false checked = of_checkpointer a t.step k.2

either : (c : Setup) (b : Bool) (x y : Actor) → StaysInRun c x → StaysInRun c y → StaysInRun c (cond b x y)
either c true x y one two = one
either c false x y one two = two

pub stays_in_run : (c : Setup) → c.first_reader ≤ c.last_reader → (x : Actor) (a : Answer) → AppendFits (next x) a
    → StaysInRun c x → StaysInRun c (took x a)
stays_in_run c readers (actor.Checkpointer t) a fits k = checkpointer_stays c readers t k a
stays_in_run c readers (actor.Reader r) a fits k = reader_stays c r k a fits
stays_in_run c readers (actor.User u) a fits k = either c u.checks _ _ tt tt
stays_in_run c readers (actor.Writer s) a fits k = either c s.checks _ _ tt tt
stays_in_run c readers (actor.Flusher s) a fits k = either c s.checks _ _ tt tt
stays_in_run c readers (actor.Closer s) a fits k = either c s.checks _ _ tt tt
stays_in_run c readers (actor.Cleaner s) a fits k = either c s.checks _ _ tt tt
