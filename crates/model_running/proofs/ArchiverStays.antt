-- The archiver's place, whatever the log device tells: it stays below FLUSHED's block, and up to its append below that
-- of the mark that it has loaded.
use Rattle.std.proofs.Common.{Bool, List, None, ap, arith, cond, eqb, false, refl, set, subst, sym, true, ℕ, ⊎_elim, ◌%◌, ◌+◌, ◌<◌, ◌==◌, ◌∙◌, ◌≡◌, ◌≤◌}
use Rattle.std.proofs.lemmas.Bool.Decides.{nat_tests}
use Rattle.std.specs.Prelude.{nat_le}
use lib.ListN.{get_elem?}
use mathlib.Core.Option.{some}
use Rattle.model_base.specs.declared.limits.TheConstants.{BLOCK_SIZE}
use Rattle.model_core.proofs.Lists.{at_set}
use Rattle.model_core.proofs.Lsns.{floor_grows}
use Rattle.model_core.specs.{Actor, after_of, archives, Entry, floor, flusher_op, followed, has_all, Listed, log_left, next, old_of, own_op, reader_op, reader_program, reader_took, ReaderState, shared_answer, shared_left, SharedWords, to_append, took, DataSide, LogSide, Setup}
use Rattle.model_core.specs.declared.ops.Answer.{Answer}
use Rattle.model_core.specs.declared.ops.Answer.TheVariants as answer
use Rattle.model_core.specs.declared.ops.Op.{Op}
use Rattle.model_core.specs.declared.ops.Op.TheVariants as op
use Rattle.model_core.specs.declared.steps.FlusherStep.{FlusherStep}
use Rattle.model_core.specs.declared.steps.FlusherStep.TheVariants as flusher_step
use Rattle.model_core.specs.declared.steps.ReaderStep.{ReaderStep}
use Rattle.model_core.specs.declared.steps.ReaderStep.TheVariants as reader_step
use Rattle.model_core.specs.declared.words.Word.TheVariants as word
use Rattle.model_core.specs.States as actor
use Rattle.model_logcore.specs.{LogGhost}
use Rattle.model_logcore.specs.LogFits as marks
use Rattle.model_pagecore.specs.{PageGhost}
use Rattle.model_running.proofs.Archiving.{reader_is, number_stays, stays_other, took_reader}
use Rattle.model_running.proofs.ReadStays.{asks, checkpointer_leaves, cleaner_leaves, closer_leaves, left_reads, user_leaves, writer_leaves}
use Rattle.model_running.specs.ReadHalf.{ArchiverAt, ArchiverHas}
use Rattle.model_running.specs.Watermarks.{BothHalves}

-- FLUSHED doesn't go back
module _ (c : Setup) (m m' : SharedWords) (log log' : List Entry) (flushed : m.flushed ≤ m'.flushed) where
  at_later : (r : ReaderState) (st : ReaderStep) → ArchiverAt c m log r st → ArchiverAt c m' log' r st
  at_later r reader_step.TakeDevice h = ((let a = h.0 in omega arith), h.1)
  at_later r reader_step.GiveBroken h = ((let a = h.0 in omega arith), h.1)
  at_later r reader_step.ReadBlock h = ((let a = h.0 in omega arith), h.1)
  at_later r reader_step.GiveDevice h = ((let a = h.0 in omega arith), h.1)
  at_later r reader_step.Append h = ((let a = h.0 in omega arith), h.1)
  at_later r reader_step.LoadFlushed h = tt
  at_later r reader_step.StorePlace h = tt
  at_later r reader_step.StoreFailed h = tt
  at_later r reader_step.GiveFailed h = tt
  at_later r reader_step.StoreLost h = tt
  at_later r reader_step.Failed h = tt

  later : (r : ReaderState) → ArchiverHas c m log r → ArchiverHas c m' log' r
  later r A = record {
    aligned = A.aligned;
    below = (let a = A.below in let b = floor_grows m.flushed m'.flushed flushed in omega arith);
    own_aligned = A.own_aligned;
    step = at_later r r.step A.step;
  }

module _ (D : LogSide) (E : DataSide) (c : Setup) (m : SharedWords) (g : LogGhost) (h : PageGhost)
    (ls : ℕ → List Listed) (p : D.Part) (d : E.Part) (actors : List Actor) (seat : ℕ)
    (both : BothHalves D E c m g h ls p d actors) (code : ℕ) (q : D.Part) where
  -- no Op takes FLUSHED back
  pub rises : (a : Actor) → get_elem? actors seat ≡ some a → m.flushed ≤ (shared_left m (next a)).flushed
  rises (actor.User u) at =
      let z = left_reads m (next (actor.User u)) (asks u.checks (own_op (actor.User u)) (user_leaves u u.step)) in
      let y = z.1 in omega arith
  rises (actor.Writer s) at =
      let z = left_reads m (next (actor.Writer s)) (asks s.checks (own_op (actor.Writer s)) (writer_leaves s s.step)) in
      let y = z.1 in omega arith
  rises (actor.Closer s) at =
      let z = left_reads m (next (actor.Closer s)) (asks s.checks (own_op (actor.Closer s)) (closer_leaves s s.step)) in
      let y = z.1 in omega arith
  rises (actor.Cleaner s) at =
      let own : Op = own_op (actor.Cleaner s) in
      let z = left_reads m (next (actor.Cleaner s)) (asks s.checks own (cleaner_leaves s s.step)) in
      let y = z.1 in omega arith
  rises (actor.Checkpointer s) at =
      let own : Op = own_op (actor.Checkpointer s) in
      let z = left_reads m (next (actor.Checkpointer s)) (asks s.checks own (checkpointer_leaves s s.step)) in
      let y = z.1 in omega arith
  rises (actor.Reader r) at = by r.checks r.step
    where
      by : (b : Bool) (st : ReaderStep)
          → m.flushed ≤ (shared_left m (cond b (op.Load word.Failed) (reader_op r st))).flushed
      by true st = omega arith
      by false reader_step.TakeDevice = either (eqb m.device 0)
        where
          either : (b : Bool) → m.flushed ≤ (cond b (record m { device = 1 }) m).flushed
          either true = omega arith
          either false = omega arith
      by false reader_step.LoadFlushed = omega arith
      by false _ = omega arith
  rises (actor.Flusher t) at = by t.checks t.step refl
    where
      N : marks.FlusherFits D c m g p seat t
      N = both.logged.each seat (actor.Flusher t) at

      by : (b : Bool) (st : FlusherStep) → t.step ≡ st
          → m.flushed ≤ (shared_left m (cond b (op.Load word.Failed) (flusher_op t st))).flushed
      by true st is = omega arith
      by false flusher_step.TakeDevice is = either (eqb m.device 0)
        where
          either : (b : Bool) → m.flushed ≤ (cond b (record m { device = 1 }) m).flushed
          either true = omega arith
          either false = omega arith
      by false flusher_step.StoreFlushed is =
          let mark : t.mark ≡ D.stable p = subst (marks.FlusherAt D c m g p t) is N.step in
          let low = both.logged.global.part.flushed_stable in omega arith
      by false flusher_step.LoadWrite is = omega arith
      by false _ is = omega arith

  -- THE ARCHIVER WHOSE TURN IT IS
  module _ (r : ReaderState) (at : get_elem? actors seat ≡ some (actor.Reader r)) (kind : archives r ≡ true) where
    A : ArchiverHas c m g.log r
    A = both.archiver seat r at kind

    goes : (w : ReaderState) → w.place ≡ r.place → w.own ≡ r.own → ArchiverAt c m g.log w w.step
        → ArchiverHas c m g.log w
    goes w place own step = record {
      aligned = subst (λ (x : ℕ). x % BLOCK_SIZE ≡ 0) (sym place) A.aligned;
      below = subst (λ (x : ℕ). x ≤ floor m.flushed) (sym place) A.below;
      own_aligned = subst (λ (x : ℕ). x % BLOCK_SIZE ≡ 0) (sym own) A.own_aligned;
      step = step;
    }

    -- FLUSHED's block is above its place
    more : has_all r m.flushed ≡ false → r.place + BLOCK_SIZE ≤ floor m.flushed
    more none =
        let other : nat_le (floor m.flushed) r.place ≡ false =
        sym (ap (λ b. cond b (nat_le (floor m.flushed) r.place) (m.flushed == r.place)) kind) ∙ none in
        let above : r.place < floor m.flushed = grind (arith, nat_tests) in
        omega (arith, A.aligned, above)

    own : (st : ReaderStep) → r.step ≡ st → ArchiverAt c m g.log r st
        → ArchiverHas c m g.log (reader_took r (shared_answer ls (D.failed p) code (D.stable q) m (reader_op r st)) st)
    own reader_step.LoadFlushed is k = by (has_all r m.flushed) refl
      where
        waits : ReaderState
        waits = record r { mark = m.flushed; checks = true; step = reader_step.LoadFlushed }

        reads : ReaderState
        reads = record r { mark = m.flushed; step = reader_step.TakeDevice }

        by : (b : Bool) → has_all r m.flushed ≡ b → ArchiverHas c m g.log (cond b waits reads)
        by true e = goes waits refl refl tt
        by false e = goes reads refl refl (omega arith, more e)
    own reader_step.TakeDevice is k = by (eqb m.device 0) (D.failed p)
      where
        by : (b e : Bool) → ArchiverHas c m g.log
            (reader_took r (cond b (cond e answer.Broken (answer.Taken None)) answer.Held) reader_step.TakeDevice)
        by true true = goes (reader_took r answer.Broken reader_step.TakeDevice) refl refl k
        by true false = goes (reader_took r (answer.Taken None) reader_step.TakeDevice) refl refl k
        by false e = goes (reader_took r answer.Held reader_step.TakeDevice) refl refl k
    own reader_step.GiveBroken is k = goes (record r { checks = true; step = reader_step.TakeDevice }) refl refl k
    own reader_step.ReadBlock is k = by (eqb code 0)
      where
        by : (b : Bool) → ArchiverHas c m g.log
            (reader_took r (cond b (answer.Called 0) (answer.Failed code)) reader_step.ReadBlock)
        by true = goes (reader_took r (answer.Called 0) reader_step.ReadBlock) refl refl k
        by false = goes (reader_took r (answer.Failed code) reader_step.ReadBlock) refl refl tt
    own reader_step.GiveDevice is k = by (archives r) refl
      where
        by : (b : Bool) → archives r ≡ b → ArchiverHas c m g.log (cond b (to_append r) (followed r))
        by true e = goes (to_append r) refl refl k
        by false e = let z : false ≡ true = sym e ∙ kind in absurd (cc)
    own reader_step.Append is k = by (eqb code 0)
      where
        by : (b : Bool) → ArchiverHas c m g.log
            (reader_took r (cond b (answer.Called 0) (answer.Failed code)) reader_step.Append)
        by true =
            let k0 = k.0 in let k1 = k.1 in
            let up = floor_grows r.mark m.flushed k0 in
            record {
              aligned = omega (arith, A.aligned);
              below = omega arith;
              own_aligned = A.own_aligned;
              step = tt;
            }
        by false = goes (reader_took r (answer.Failed code) reader_step.Append) refl refl tt
    own reader_step.StorePlace is k =
        record { aligned = A.aligned; below = A.below; own_aligned = A.aligned; step = tt }
    own reader_step.StoreFailed is k = goes (record r { step = reader_step.GiveFailed }) refl refl tt
    own reader_step.GiveFailed is k = goes (record r { step = reader_step.Failed }) refl refl tt
    own reader_step.StoreLost is k = goes (record r { step = reader_step.Failed }) refl refl tt
    own reader_step.Failed is k = A

    its_turn : (b : Bool) →
        let said : Answer =
        shared_answer ls (D.failed p) code (D.stable q) m (cond b (op.Load word.Failed) (reader_op r r.step)) in
        ArchiverHas c m g.log (cond b (cond (old_of said == 0) (record r { checks = false })
        (record r { checks = false; code = old_of said; step = reader_step.Failed })) (reader_took r said r.step))
    its_turn true = by (m.failed == 0)
      where
        still : (st : ReaderStep) → ArchiverAt c m g.log r st → ArchiverAt c m g.log (record r { checks = false }) st
        still reader_step.TakeDevice k = k
        still reader_step.GiveBroken k = k
        still reader_step.ReadBlock k = k
        still reader_step.GiveDevice k = k
        still reader_step.Append k = k
        still _ k = tt

        by : (b : Bool) → ArchiverHas c m g.log (cond b (record r { checks = false })
            (record r { checks = false; code = m.failed; step = reader_step.Failed }))
        by true = goes (record r { checks = false }) refl refl (still r.step A.step)
        by false = goes (record r { checks = false; code = m.failed; step = reader_step.Failed }) refl refl tt
    its_turn false = own r.step refl A.step

  abbrev said_to : Actor → Answer
  said_to a = shared_answer ls (D.failed p) code (D.stable q) m (next a)

  -- what the turn leaves an archiver at its seat
  left : (a : Actor) → get_elem? actors seat ≡ some a → (r : ReaderState) → took a (said_to a) ≡ actor.Reader r
      → archives r ≡ true → ArchiverHas c m g.log r
  left (actor.Reader x) at r same kind =
      let said : Answer = said_to (actor.Reader x) in
      let is : ◌≡◌ {A = ReaderState} (after_of reader_program x said) r =
      reader_is (after_of reader_program x said) r (sym (took_reader x said) ∙ same) in
      let number : x.number ≡ r.number = sym (number_stays x said) ∙ ap (λ (z : ReaderState). z.number) is in
      subst (ArchiverHas c m g.log) is (its_turn x at (ap (λ n. n == 0) number ∙ kind) x.checks)
  left (actor.User u) at r same kind = absurd (stays_other (actor.User u) (said_to (actor.User u)) tt r same)
  left (actor.Writer s) at r same kind = absurd (stays_other (actor.Writer s) (said_to (actor.Writer s)) tt r same)
  left (actor.Flusher s) at r same kind = absurd (stays_other (actor.Flusher s) (said_to (actor.Flusher s)) tt r same)
  left (actor.Closer s) at r same kind = absurd (stays_other (actor.Closer s) (said_to (actor.Closer s)) tt r same)
  left (actor.Cleaner s) at r same kind = absurd (stays_other (actor.Cleaner s) (said_to (actor.Cleaner s)) tt r same)
  left (actor.Checkpointer s) at r same kind =
      absurd (stays_other (actor.Checkpointer s) (said_to (actor.Checkpointer s)) tt r same)

  -- EACH TURN keeps what the archiver has
  pub archiver_kept : (a : Actor) → get_elem? actors seat ≡ some a → (j : ℕ) (r : ReaderState)
      → get_elem? (set actors seat (took a (said_to a))) j ≡ some (actor.Reader r) → archives r ≡ true
      → ArchiverHas c (shared_left m (next a)) (log_left g.log m.sn a) r
  archiver_kept a at j r e kind =
      later c m (shared_left m (next a)) g.log (log_left g.log m.sn a) (rises a at) r
      (⊎_elim (λ t. left a at r t.1 kind) (λ t. both.archiver j r t.1 kind)
      (at_set actors seat j _ (actor.Reader r) e))
