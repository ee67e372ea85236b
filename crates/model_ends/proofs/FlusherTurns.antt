-- What a turn of the flusher comes to, while FAILED is 0; and that neither it nor the writer makes the words' part greater.
use Rattle.std.proofs.Common.{Bool, List, arith, cond, eqb, eqb-true, false, inl, inr, refl, true, ℕ, ◌%◌, ◌<◌, ◌≡◌, ◌≤◌}
use Rattle.std.proofs.lemmas.Bool.{eqb-false}
use Rattle.model_core.proofs.Tails.{tail_in}
use Rattle.model_core.specs.{Actor, flusher_op, flusher_took, FlusherState, Listed, next, shared_answer, shared_left, SharedWords, tail_word, took, writer_op, WriterState, wrote, LogSide, Setup}
use Rattle.model_core.specs.declared.ops.Op.{Op}
use Rattle.model_core.specs.declared.steps.FlusherStep.{FlusherStep}
use Rattle.model_core.specs.declared.steps.WriterStep.{WriterStep}
use Rattle.model_core.specs.declared.limits.TheConstants.{WRITTEN_LINKS}
use Rattle.model_logcore.proofs.AdvanceSteps.{is_free, tails}
use Rattle.model_logcore.specs.{FlusherAt, LogGhost, WriterAt, LogHalf}
use Rattle.model_ends.proofs.Cost.{cost, flusher_cost, words_cost}
use Rattle.model_ends.proofs.Links.{links_clear}
use Rattle.model_ends.proofs.Outcome.{Can, FlusherCan, Outcome, tries}
use Rattle.model_ends.proofs.WriterTurns.{device_says}
use Rattle.model_core.specs.States as actor
use Rattle.model_core.specs.declared.ops.Answer.TheVariants as answer
use Rattle.model_core.specs.declared.ops.Op.TheVariants as op
use Rattle.model_core.specs.declared.steps.AdvanceStep.TheVariants as advance_step
use Rattle.model_core.specs.declared.steps.FlusherStep.TheVariants as flusher_step
use Rattle.model_core.specs.declared.steps.WriterStep.TheVariants as writer_step
use Rattle.model_core.specs.declared.words.Word.TheVariants as word

cost_same : (last : ℕ) (t : FlusherState) (b d : Bool) (f : FlusherStep) → flusher_cost last (record t { checks = b; step = f }) f ≡ flusher_cost last (record t { checks = d; step = f }) f
cost_same last t b d _ = refl

can_same : (m : SharedWords) (t : FlusherState) (b d : Bool) (f : FlusherStep) → FlusherCan m (record t { checks = b; step = f }) f → FlusherCan m (record t { checks = d; step = f }) f
can_same m t b d _ can = can

module _ (D : LogSide) (c : Setup) (m : SharedWords) (g : LogGhost) (p : D.Part) (t : FlusherState) (last : ℕ) (stable_last : D.stable p ≤ last) (sound : m.failed ≡ 0) (ls : ℕ → List Listed) (broken : Bool) (code mark : ℕ) where
  -- the flusher at a step of its own
  abbrev own : FlusherStep → FlusherState
  own f = record t { checks = false; step = f }

  abbrev End : SharedWords → FlusherStep → FlusherState → Type 0
  End after f w = Outcome last m after (actor.Flusher (own f)) (actor.Flusher w)

  stays : (f : FlusherStep) (w : FlusherState) → cost last (actor.Flusher w) ≤ cost last (actor.Flusher (own f)) → (FlusherCan m (own f) f → Can m (actor.Flusher w) × (tries (actor.Flusher w) < tries (actor.Flusher (own f)))) → End m f w
  stays f w same nearer = inr (inl (record { same_cost = same; words = refl; tail = inl refl; nearer = nearer; leaving = λ _ z. absurd z; taking = λ z. absurd z; freeing = λ z. absurd z }))

  flusher_own : (f : FlusherStep) → FlusherAt D c m g p t f → (f ≡ flusher_step.GiveBroken → 0 < m.failed) → (f ≡ flusher_step.StoreFlushed → t.last < t.mark) → (m.device ≡ 0 → broken ≡ false)
      → End (shared_left m (flusher_op (own f) f)) f (flusher_took (own f) (shared_answer ls broken code mark m (flusher_op (own f) f)) f)
  flusher_own flusher_step.LoadWrite h gives up free = by (eqb m.write t.last) refl
    where
      by : (b : Bool) → eqb m.write t.last ≡ b → End m flusher_step.LoadWrite (cond b (record (own flusher_step.LoadWrite) { write = m.write; checks = true }) (record (own flusher_step.LoadWrite) { write = m.write; step = flusher_step.TakeDevice }))
      by true e = stays flusher_step.LoadWrite _ (omega arith) (λ ne. absurd (ne (eqb-true m.write t.last e)))
      by false e = inl (omega arith)
  flusher_own flusher_step.TakeDevice h gives up free = by (eqb m.device 0) refl broken free
    where
      by : (b : Bool) → eqb m.device 0 ≡ b → (d : Bool) → (m.device ≡ 0 → d ≡ false) → End (cond b (record m { device = 1 }) m) flusher_step.TakeDevice (flusher_took (own flusher_step.TakeDevice) (device_says b d) flusher_step.TakeDevice)
      by true e true sound_part = let z = sound_part (eqb-true m.device 0 e) in absurd (cc)
      by true e false sound_part = inl (omega arith)
      by false e d sound_part = stays flusher_step.TakeDevice _ (omega arith) (λ is. absurd (eqb-false m.device 0 e is))
  flusher_own flusher_step.GiveBroken h gives up free = let z = gives refl in absurd (omega arith)
  flusher_own flusher_step.Sync h gives up free = by (eqb code 0)
    where
      by : (b : Bool) → End m flusher_step.Sync (flusher_took (own flusher_step.Sync) (cond b (answer.Called mark) (answer.Failed code)) flusher_step.Sync)
      by true = inl (omega arith)
      by false = inl (omega arith)
  flusher_own flusher_step.StoreFlushed h gives up free = inl (let z = up refl in let is = h in omega arith)
  flusher_own flusher_step.GiveDevice h gives up free = inl (omega arith)
  flusher_own flusher_step.StoreFailed h gives up free = inr (inr (h.0, omega arith, omega arith))
  flusher_own flusher_step.GiveFailed h gives up free = let z = h in absurd (omega arith)
  flusher_own flusher_step.Failed h gives up free = let z = h in absurd (omega arith)

  flusher_check : (f : FlusherStep) (b : Bool) → eqb m.failed 0 ≡ b
      → Outcome last m m (actor.Flusher (record t { checks = true; step = f })) (actor.Flusher (cond b (record t { checks = false; step = f }) (record t { checks = false; code = m.failed; step = flusher_step.Failed })))
  flusher_check f true e = inr (inl (record {
    same_cost = (let z = cost_same last t false true f in omega arith);
    words = refl;
    tail = inl refl;
    nearer = λ can. (can_same m t true false f can, omega arith);
    leaving = λ _ z. absurd z;
    taking = λ z. absurd z;
    freeing = λ z. absurd z;
  }))
  flusher_check f false e = absurd (eqb-false m.failed 0 e sound)

  flusher_by : (b : Bool) (f : FlusherStep) → FlusherAt D c m g p t f → (f ≡ flusher_step.GiveBroken → 0 < m.failed) → (f ≡ flusher_step.StoreFlushed → t.last < t.mark) → (m.device ≡ 0 → broken ≡ false)
      → Outcome last m (shared_left m (next (actor.Flusher (record t { checks = b; step = f })))) (actor.Flusher (record t { checks = b; step = f })) (took (actor.Flusher (record t { checks = b; step = f })) (shared_answer ls broken code mark m (next (actor.Flusher (record t { checks = b; step = f })))))
  flusher_by true f h gives up free = flusher_check f (eqb m.failed 0) refl
  flusher_by false f h gives up free = flusher_own f h gives up free

  pub flusher_turns : FlusherAt D c m g p t t.step → (t.step ≡ flusher_step.GiveBroken → 0 < m.failed) → (t.step ≡ flusher_step.StoreFlushed → t.last < t.mark) → (m.device ≡ 0 → broken ≡ false)
      → Outcome last m (shared_left m (next (actor.Flusher t))) (actor.Flusher t) (took (actor.Flusher t) (shared_answer ls broken code mark m (next (actor.Flusher t))))
  flusher_turns = flusher_by t.checks t.step

-- whatever the writer and the flusher do, the words' part isn't greater
module _ (last : ℕ) (m : SharedWords) where
  abbrev NoMore : Op → Type 0
  NoMore o = words_cost last (shared_left m o) ≤ words_cost last m

  checking_words : (b : Bool) (o : Op) → NoMore o → NoMore (cond b (op.Load word.Failed) o)
  checking_words true o le = omega arith
  checking_words false o le = le

  device_words : (b : Bool) → words_cost last (cond b (record m { device = 1 }) m) ≤ words_cost last m
  device_words true = omega arith
  device_words false = omega arith

  flusher_no_more : (t : FlusherState) (f : FlusherStep) → NoMore (flusher_op t f)
  flusher_no_more t flusher_step.TakeDevice = device_words (eqb m.device 0)
  flusher_no_more t _ = omega arith

  pub flusher_words : (t : FlusherState) → NoMore (next (actor.Flusher t))
  flusher_words t = checking_words t.checks (flusher_op t t.step) (flusher_no_more t t.step)

  module _ (D : LogSide) (c : Setup) (g : LogGhost) (p : D.Part) (actors : List Actor) (seat : ℕ) (before : LogHalf D c m g p actors) (s : WriterState) where
    writer_no_more : (f : WriterStep) → WriterAt D c m g p seat s f → NoMore (writer_op s f)
    writer_no_more (writer_step.Advance advance_step.TakeTail) h = by (eqb (tail_word m.wtail m.wheld) (tail_word s.advance.tail false)) refl
      where
        by : (b : Bool) → eqb (tail_word m.wtail m.wheld) (tail_word s.advance.tail false) ≡ b → words_cost last (cond b (wrote m word.Wtail (tail_word s.advance.tail true)) m) ≤ words_cost last m
        by true e = let k = (is_free m s.advance.tail (eqb-true (tail_word m.wtail m.wheld) (tail_word s.advance.tail false) e)).1 in let t = tail_in s.advance.tail true in omega arith
        by false e = omega arith
    writer_no_more (writer_step.Advance advance_step.ClearLink) h = let z = links_clear m.wlinks (s.advance.place % WRITTEN_LINKS) in omega arith
    writer_no_more (writer_step.Advance advance_step.FreeTail) h = let t = tail_in s.advance.place false in let place = h.1.place in let low = tails D c m g p actors before in omega arith
    writer_no_more writer_step.TakeDevice h = device_words (eqb m.device 0)
    writer_no_more _ h = omega arith

    pub writer_words : WriterAt D c m g p seat s s.step → NoMore (next (actor.Writer s))
    writer_words h = checking_words s.checks (writer_op s s.step) (writer_no_more s.step h)
