-- What a turn leaves of the log part, while FAILED is 0: no more is stable than WRITE says, and the part has failed only where
-- the actor whose call failed is about to tell it.
use Rattle.std.proofs.Common.{Bool, List, ap, arith, cond, eqb, eqb-true, false, inl, inr, refl, subst, sym, true, ℕ, ◌%◌, ◌∙◌, ◌≡◌, ◌≤◌, ◌⊎◌}
use Rattle.std.specs.Prelude.{slice_index, slice_set}
use lib.ListN.{get_elem?}
use mathlib.Core.Option.{some, some-injective}
use Rattle.model_core.proofs.Lsns.{lsn_less}
use Rattle.model_core.specs.{Actor, Blocks, checkpointer_holds, current_page, flusher_holds, flusher_op, flusher_took, FlusherState, holds, lent, Listed, LogServed, lsn, next, Nothing, page_words_at, shared_answer, shared_left, SharedWords, tail_word, took, user_op, UserState, with_page_words, writer_holds, writer_op, writer_took, WriterState, wrote, LogSide, Setup}
use Rattle.model_core.specs.declared.steps.FlusherStep.{FlusherStep}
use Rattle.model_core.specs.declared.steps.UserStep.{UserStep}
use Rattle.model_core.specs.declared.steps.WriterStep.{WriterStep}
use Rattle.model_logcore.proofs.DeviceSteps.{can_write}
use Rattle.model_logcore.specs.{FlusherAt, FlusherFits, LogGhost, WriterAt, WriterFits, LogHalf}
use Rattle.model_logcore.specs.LogLaws.{AfterSync, AfterWrite, LogLaws}
use Rattle.model_ends.proofs.Further.{HasWriter, StoresCode}
use Rattle.model_core.specs.States as actor
use Rattle.model_core.specs.declared.ops.Answer.TheVariants as answer
use Rattle.model_core.specs.declared.ops.Op.TheVariants as op
use Rattle.model_core.specs.declared.steps.AdvanceStep.TheVariants as advance_step
use Rattle.model_core.specs.declared.steps.FlusherStep.TheVariants as flusher_step
use Rattle.model_core.specs.declared.steps.UserStep.TheVariants as user_step
use Rattle.model_core.specs.declared.steps.WriterStep.TheVariants as writer_step
use Rattle.model_core.specs.declared.words.Word.TheVariants as word

pub storer_holds : (a : Actor) → StoresCode a → holds a ≡ true
storer_holds (actor.Writer s) is = ap writer_holds is
storer_holds (actor.Flusher t) is = ap flusher_holds is
storer_holds (actor.Checkpointer t) is = ap checkpointer_holds is
storer_holds _ is = absurd is

module _ (D : LogSide) (L : LogLaws D) (c : Setup) (m : SharedWords) (g : LogGhost) (p : D.Part) (actors : List Actor) (seat : ℕ) (before : LogHalf D c m g p actors) (W : HasWriter actors) (St : m.failed ≡ 0 → D.stable p ≤ m.write) (ls : ℕ → List Listed) (broken : Bool) (code : ℕ) (q : D.Part) where
  abbrev pub Left : SharedWords → Actor → Actor → Type 0
  Left after a b = after.failed ≡ 0 → (D.stable q ≤ after.write) × ((D.failed q ≡ false) ⊎ (StoresCode b ⊎ ((◌≡◌ {A = D.Part} q p) × (StoresCode a → ⊥))))

  still : ◌≡◌ {A = D.Part} q p → m.failed ≡ 0 → D.stable q ≤ m.write
  still is sound = let z = ap D.stable is in let y = St sound in omega arith

  -- of a user
  user_same : (u : UserState) (f : UserStep) → LogServed D p Nothing (user_op u f) code q → ◌≡◌ {A = D.Part} q p
  user_same u (user_step.AdvanceWritten advance_step.LoadTail) v = v
  user_same u (user_step.AdvanceClosed advance_step.LoadTail) v = v
  user_same u _ v = v

  abbrev SameMarks : SharedWords → Type 0
  SameMarks after = (after.write ≡ m.write) × (after.failed ≡ m.failed)

  either : (b : Bool) (x : SharedWords) → SameMarks x → SameMarks (cond b x m)
  either true x same = same
  either false x same = (refl, refl)

  user_marks : (u : UserState) (f : UserStep) → SameMarks (shared_left m (user_op u f))
  user_marks u (user_step.AdvanceWritten advance_step.TakeTail) = either (eqb (tail_word m.wtail m.wheld) (tail_word u.advance.tail false)) (wrote m word.Wtail (tail_word u.advance.tail true)) (refl, refl)
  user_marks u (user_step.AdvanceClosed advance_step.TakeTail) = either (eqb (tail_word m.ctail m.cheld) (tail_word u.advance.tail false)) (wrote m word.Ctail (tail_word u.advance.tail true)) (refl, refl)
  user_marks u user_step.TakeLatch = let w = page_words_at m.page_words (current_page u) in either (eqb w.latch 0) (with_page_words m (current_page u) (record w { latch = 1 })) (refl, refl)
  user_marks u user_step.AddToList = let i : ℕ = current_page u % 4 in either (eqb (slice_index m.lists i) 0) (record m { lists = slice_set m.lists i 1 }) (refl, refl)
  user_marks u _ = (refl, refl)

  user_by : (u : UserState) (b : Bool) → LogServed D p Nothing (cond b (op.Load word.Failed) (user_op u u.step)) code q → (w : Actor) → Left (shared_left m (cond b (op.Load word.Failed) (user_op u u.step))) (actor.User u) w
  user_by u true v w = λ sound. (still v sound, inr (inr (v, λ z. z)))
  user_by u false v w = let same = user_same u u.step v in let marks = user_marks u u.step in λ sound. (let z = marks.0 in let y = still same (sym marks.1 ∙ sound) in (omega arith, inr (inr (same, λ x. x))))

  pub user_left : (u : UserState) → LogServed D p (lent (actor.User u)) (next (actor.User u)) code q → (w : Actor) → Left (shared_left m (next (actor.User u))) (actor.User u) w
  user_left u = user_by u u.checks

  -- of the writer
  module _ (s : WriterState) (at : get_elem? actors seat ≡ some (actor.Writer s)) where
    fits : WriterFits D c m g p seat s
    fits = before.each seat (actor.Writer s) at

    abbrev writer_at : WriterStep → WriterState
    writer_at f = record s { checks = false; step = f }

    abbrev WriterLeft : WriterStep → Type 0
    WriterLeft f = Left (shared_left m (writer_op (writer_at f) f)) (actor.Writer (writer_at f)) (actor.Writer (writer_took (writer_at f) (shared_answer ls broken code (D.stable q) m (writer_op (writer_at f) f)) f))

    as_was : (f : WriterStep) → SameMarks (shared_left m (writer_op (writer_at f) f)) → (f ≡ writer_step.StoreFailed → ⊥) → ◌≡◌ {A = D.Part} q p → WriterLeft f
    as_was f marks other same = λ sound. (let z = marks.0 in let y = still same (sym marks.1 ∙ sound) in (omega arith, inr (inr (same, other))))

    writer_own : (f : WriterStep) → WriterAt D c m g p seat s f → LogServed D p (Blocks s.kept s.firsts) (writer_op (writer_at f) f) code q
        → Left (shared_left m (writer_op (writer_at f) f)) (actor.Writer (writer_at f)) (actor.Writer (writer_took (writer_at f) (shared_answer ls broken code (D.stable q) m (writer_op (writer_at f) f)) f))
    writer_own (writer_step.Advance advance_step.TakeTail) h v = as_was (writer_step.Advance advance_step.TakeTail) (either (eqb (tail_word m.wtail m.wheld) (tail_word s.advance.tail false)) (wrote m word.Wtail (tail_word s.advance.tail true)) (refl, refl)) (λ e. absurd (cc)) v
    writer_own (writer_step.Advance advance_step.LoadTail) h v = as_was (writer_step.Advance advance_step.LoadTail) (refl, refl) (λ e. absurd (cc)) v
    writer_own (writer_step.Advance advance_step.LoadLink) h v = as_was (writer_step.Advance advance_step.LoadLink) (refl, refl) (λ e. absurd (cc)) v
    writer_own (writer_step.Advance advance_step.ClearLink) h v = as_was (writer_step.Advance advance_step.ClearLink) (refl, refl) (λ e. absurd (cc)) v
    writer_own (writer_step.Advance advance_step.FreeTail) h v = as_was (writer_step.Advance advance_step.FreeTail) (refl, refl) (λ e. absurd (cc)) v
    writer_own writer_step.LoadCheckpoint h v = as_was writer_step.LoadCheckpoint (refl, refl) (λ e. absurd (cc)) v
    writer_own writer_step.LoadFirst h v = as_was writer_step.LoadFirst (refl, refl) (λ e. absurd (cc)) v
    writer_own writer_step.ClearFirst h v = as_was writer_step.ClearFirst (refl, refl) (λ e. absurd (cc)) v
    writer_own writer_step.LoadCell h v = as_was writer_step.LoadCell (refl, refl) (λ e. absurd (cc)) v
    writer_own writer_step.ClearCell h v = as_was writer_step.ClearCell (refl, refl) (λ e. absurd (cc)) v
    writer_own writer_step.TakeDevice h v = as_was writer_step.TakeDevice (either (eqb m.device 0) (record m { device = 1 }) (refl, refl)) (λ e. absurd (cc)) v
    writer_own writer_step.GiveBroken h v = as_was writer_step.GiveBroken (refl, refl) (λ e. absurd (cc)) v
    writer_own writer_step.WriteTo h v = by (eqb code 0) refl
      where
        A : AfterWrite D c.blocks c.base g.log (lsn g.target) code p q
        A = L.writes c.blocks c.base g.log g.write g.target code s.kept s.firsts p q before.global.part.holds (can_write D L c m g p actors seat s before at h) (subst (λ (t : ℕ). D.Wrote t s.kept s.firsts code p q) fits.tail v)

        by : (b : Bool) → eqb code 0 ≡ b → Left m (actor.Writer (writer_at writer_step.WriteTo)) (actor.Writer (writer_took (writer_at writer_step.WriteTo) (cond b (answer.Called 0) (answer.Failed code)) writer_step.WriteTo))
        by true e = λ sound. (let z = A.stable in let y = St sound in (omega arith, inl (A.sound (eqb-true code 0 e))))
        by false e = λ sound. (let z = A.stable in let y = St sound in (omega arith, inr (inl refl)))
    writer_own writer_step.StoreWrite h v = λ sound. (
      (let z = ap D.stable v in let y = St sound in let w = before.global.order.write_is in let t = fits.tail in let l = lsn_less g.write g.target h.0 in omega arith),
      inr (inr (v, λ e. absurd (cc))),
    )
    writer_own writer_step.GiveDevice h v = as_was writer_step.GiveDevice (refl, refl) (λ e. absurd (cc)) v
    writer_own writer_step.StoreFailed h v = λ sound. (let z = h.0 in absurd (omega arith))
    writer_own writer_step.GiveFailed h v = as_was writer_step.GiveFailed (refl, refl) (λ e. absurd (cc)) v
    writer_own writer_step.Failed h v = as_was writer_step.Failed (refl, refl) (λ e. absurd (cc)) v

    writer_by : (b : Bool) (f : WriterStep) → WriterAt D c m g p seat s f → (b ≡ true → writer_holds f ≡ false) → LogServed D p (Blocks s.kept s.firsts) (cond b (op.Load word.Failed) (writer_op (writer_at f) f)) code q
        → Left (shared_left m (next (actor.Writer (record s { checks = b; step = f })))) (actor.Writer (record s { checks = b; step = f })) (took (actor.Writer (record s { checks = b; step = f })) (shared_answer ls broken code (D.stable q) m (next (actor.Writer (record s { checks = b; step = f })))))
    writer_by true f h off v = λ sound. (still v sound, inr (inr (v, λ e. let z = off refl in let y = ap writer_holds e in absurd (cc))))
    writer_by false f h off v = writer_own f h v

    pub writer_left : LogServed D p (lent (actor.Writer s)) (next (actor.Writer s)) code q → Left (shared_left m (next (actor.Writer s))) (actor.Writer s) (took (actor.Writer s) (shared_answer ls broken code (D.stable q) m (next (actor.Writer s))))
    writer_left = writer_by s.checks s.step fits.step fits.no_device_while_checking

  -- while the flusher has the log part, what is written is what WRITE says
  written_by : (j : ℕ) (s : WriterState) (f : WriterStep) → WriterAt D c m g p j s f → writer_holds f ≡ false → m.failed ≡ 0 → D.written p ≡ m.write
  written_by j s (writer_step.Advance v) h off sound = h.0.1
  written_by j s writer_step.LoadCheckpoint h off sound = h.0.1
  written_by j s writer_step.LoadFirst h off sound = h.0.1
  written_by j s writer_step.ClearFirst h off sound = h.0.1
  written_by j s writer_step.LoadCell h off sound = h.0.1
  written_by j s writer_step.ClearCell h off sound = h.0.1
  written_by j s writer_step.TakeDevice h off sound = h.0.1
  written_by j s writer_step.Failed h off sound = let z = h in absurd (omega arith)
  written_by j s writer_step.GiveBroken h off sound = absurd (cc)
  written_by j s writer_step.WriteTo h off sound = absurd (cc)
  written_by j s writer_step.StoreWrite h off sound = absurd (cc)
  written_by j s writer_step.GiveDevice h off sound = absurd (cc)
  written_by j s writer_step.StoreFailed h off sound = absurd (cc)
  written_by j s writer_step.GiveFailed h off sound = absurd (cc)

  -- of the flusher
  module _ (t : FlusherState) (at : get_elem? actors seat ≡ some (actor.Flusher t)) where
    flusher_fits : FlusherFits D c m g p seat t
    flusher_fits = before.each seat (actor.Flusher t) at

    abbrev flusher_at : FlusherStep → FlusherState
    flusher_at f = record t { checks = false; step = f }

    -- the writer doesn't hold the part
    off : t.step ≡ flusher_step.Sync → writer_holds W.1.step ≡ false
    off is = by (writer_holds W.1.step) refl
      where
        by : (b : Bool) → writer_holds W.1.step ≡ b → b ≡ false
        by false e = refl
        by true e =
            let mine = before.turns seat (actor.Flusher t) at (ap flusher_holds is) in
            let its = before.turns W.0 (actor.Writer W.1) W.2 e in
            let same : W.0 ≡ seat = its.1 ∙ sym mine.1 in
            let here : get_elem? actors seat ≡ some (actor.Writer W.1) = subst (λ (k : ℕ). get_elem? actors k ≡ some (actor.Writer W.1)) same W.2 in
            let z = some-injective (actor.Writer W.1) (actor.Flusher t) (sym here ∙ at) in absurd (cc)

    pub written : t.step ≡ flusher_step.Sync → m.failed ≡ 0 → D.written p ≡ m.write
    written is sound = let f : WriterFits D c m g p W.0 W.1 = before.each W.0 (actor.Writer W.1) W.2 in written_by W.0 W.1 W.1.step f.step (off is) sound

    abbrev FlusherLeft : FlusherStep → Type 0
    FlusherLeft f = Left (shared_left m (flusher_op (flusher_at f) f)) (actor.Flusher (flusher_at f)) (actor.Flusher (flusher_took (flusher_at f) (shared_answer ls broken code (D.stable q) m (flusher_op (flusher_at f) f)) f))

    flusher_was : (f : FlusherStep) → SameMarks (shared_left m (flusher_op (flusher_at f) f)) → (f ≡ flusher_step.StoreFailed → ⊥) → ◌≡◌ {A = D.Part} q p → FlusherLeft f
    flusher_was f marks other same = λ sound. (let z = marks.0 in let y = still same (sym marks.1 ∙ sound) in (omega arith, inr (inr (same, other))))

    flusher_own : (f : FlusherStep) → t.step ≡ f → FlusherAt D c m g p t f → LogServed D p Nothing (flusher_op (flusher_at f) f) code q
        → Left (shared_left m (flusher_op (flusher_at f) f)) (actor.Flusher (flusher_at f)) (actor.Flusher (flusher_took (flusher_at f) (shared_answer ls broken code (D.stable q) m (flusher_op (flusher_at f) f)) f))
    flusher_own flusher_step.LoadWrite is h v = flusher_was flusher_step.LoadWrite (refl, refl) (λ e. absurd (cc)) v
    flusher_own flusher_step.TakeDevice is h v = flusher_was flusher_step.TakeDevice (either (eqb m.device 0) (record m { device = 1 }) (refl, refl)) (λ e. absurd (cc)) v
    flusher_own flusher_step.GiveBroken is h v = flusher_was flusher_step.GiveBroken (refl, refl) (λ e. absurd (cc)) v
    flusher_own flusher_step.Sync is h v = by (eqb code 0) refl
      where
        A : AfterSync D c.blocks c.base g.log code p q
        A = L.syncs c.blocks c.base g.log code p q before.global.part.holds h v

        stable_by : (b : Bool) → eqb code 0 ≡ b → D.stable q ≡ cond b (D.written p) (D.stable p)
        stable_by b e = A.stable ∙ ap (λ (z : Bool). cond z (D.written p) (D.stable p)) e

        by : (b : Bool) → eqb code 0 ≡ b → Left m (actor.Flusher (flusher_at flusher_step.Sync)) (actor.Flusher (flusher_took (flusher_at flusher_step.Sync) (cond b (answer.Called (D.stable q)) (answer.Failed code)) flusher_step.Sync))
        by true e = λ sound. (let z = stable_by true e in let y = written is sound in (omega arith, inl (A.sound (eqb-true code 0 e))))
        by false e = λ sound. (let z = stable_by false e in let y = St sound in (omega arith, inr (inl refl)))
    flusher_own flusher_step.StoreFlushed is h v = flusher_was flusher_step.StoreFlushed (refl, refl) (λ e. absurd (cc)) v
    flusher_own flusher_step.GiveDevice is h v = flusher_was flusher_step.GiveDevice (refl, refl) (λ e. absurd (cc)) v
    flusher_own flusher_step.StoreFailed is h v = λ sound. (let z = h.0 in absurd (omega arith))
    flusher_own flusher_step.GiveFailed is h v = flusher_was flusher_step.GiveFailed (refl, refl) (λ e. absurd (cc)) v
    flusher_own flusher_step.Failed is h v = flusher_was flusher_step.Failed (refl, refl) (λ e. absurd (cc)) v

    flusher_by : (b : Bool) (f : FlusherStep) → t.step ≡ f → FlusherAt D c m g p t f → (b ≡ true → flusher_holds f ≡ false) → LogServed D p Nothing (cond b (op.Load word.Failed) (flusher_op (flusher_at f) f)) code q
        → Left (shared_left m (next (actor.Flusher (record t { checks = b; step = f })))) (actor.Flusher (record t { checks = b; step = f })) (took (actor.Flusher (record t { checks = b; step = f })) (shared_answer ls broken code (D.stable q) m (next (actor.Flusher (record t { checks = b; step = f })))))
    flusher_by true f is h none v = λ sound. (still v sound, inr (inr (v, λ e. let z = none refl in let y = ap flusher_holds e in absurd (cc))))
    flusher_by false f is h none v = flusher_own f is h v

    pub flusher_left : LogServed D p (lent (actor.Flusher t)) (next (actor.Flusher t)) code q → Left (shared_left m (next (actor.Flusher t))) (actor.Flusher t) (took (actor.Flusher t) (shared_answer ls broken code (D.stable q) m (next (actor.Flusher t))))
    flusher_left = flusher_by t.checks t.step refl flusher_fits.step flusher_fits.no_device_while_checking
