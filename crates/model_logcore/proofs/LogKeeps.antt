-- Whatever an actor's next Op is, its turn over the words by name keeps the invariant.
use Rattle.std.proofs.Common.{Bool, List, [], ap, arith, cond, drop, eqb, eqb-true, false, inl, inr, leb, length, ltb, refl, set, subst, sym, true, ℕ, ⊎_elim, ◌%◌, ◌++◌, ◌+◌, ◌-◌, ◌/◌, ◌<◌, ◌∙◌, ◌∷◌, ◌≡◌, ◌≤◌}
use Rattle.std.proofs.lemmas.Bool.{eqb-false}
use Rattle.std.specs.Prelude.{None, min, slice_index, slice_set}
use lib.ListN.{get_elem?}
use Rattle.model_core.proofs.Lists.{at_set, set_again}
use Rattle.model_core.proofs.TailHolders.{holder_stays}
use Rattle.model_core.proofs.TailsFree.{took_free}
unfoldable use Rattle.model_core.specs.{lanes}
use Rattle.model_core.specs.{Actor, Advance, Batch, Blocks, checked, ChecksWithoutTail, checkpointer_holds, checkpointer_op, checkpointer_took, CheckpointerState, cleaner_op, cleaner_took, CleanerState, closer_op, closer_took, CloserState, Entry, first_of_batch, floor, flusher_holds, flusher_op, flusher_took, FlusherState, heard, is_held, IsSized, layout_of, lent, Listed, log_left, LogServed, lowered, next, next_in_round, Nothing, old_of, oldest_end, own_took, page_loaded, current_page, page_words_at, PageWords, phase_log, shared_answer, shared_left, SharedWords, tail_of, tail_word, took, user_op, user_took, UserState, with_page_words, writer_holds, writer_op, writer_took, WriterState, LogSide, Setup, ReaderState, Room, reader_holds}
use Rattle.model_core.specs.declared.ops.Answer.{Answer}
use Rattle.model_core.specs.declared.ops.Op.{Op}
use Rattle.model_core.specs.declared.steps.AdvanceStep.{AdvanceStep}
use Rattle.model_core.specs.declared.steps.CleanerStep.{CleanerStep}
use Rattle.model_core.specs.declared.steps.CloserStep.{CloserStep}
use Rattle.model_core.specs.declared.steps.UserStep.{UserStep}
use Rattle.model_core.specs.declared.steps.CheckpointerStep.{CheckpointerStep}
use Rattle.model_core.specs.declared.steps.WriterStep.{WriterStep}
use Rattle.model_core.specs.declared.steps.FlusherStep.{FlusherStep}
use Rattle.model_core.specs.declared.limits.TheConstants.{ADVANCE_PLACES, CLOSED_LINKS}
use Rattle.model_logcore.proofs.LogAside.{page_aside, points_by}
use Rattle.model_logcore.proofs.DeviceSteps.{can_write, gives, stays, takes, writes_by}
use Rattle.model_logcore.proofs.FlusherSteps.{flusher_checked, keeps_fault, keeps_flushed, keeps_watch, syncs_by}
use Rattle.model_logcore.proofs.ReaderSteps.{appends_by, keeps_code, keeps_lost, keeps_place, reader_checked, reads_by, reads_on}
use Rattle.model_core.specs.ReaderProgram.{archives, has_all, is_none, joined_texts, next_block, pending, reader_op, reader_took, to_append}
use Rattle.model_core.specs.Lanes.{lsn}
use Rattle.model_core.specs.declared.steps.ReaderStep.{ReaderStep}
use Rattle.model_core.specs.declared.steps.ReaderStep.TheVariants as reader_step
use Rattle.model_logcore.specs.LogFits.{ReaderAt, ReaderFits, CleanerTold, CheckpointerAt, CheckpointerFits, WriterAt, WriterFits, FlusherAt, FlusherFits, UserAt, LogHalf}
use Rattle.model_logcore.proofs.Same.{clinks_sized, lists_sized, numbers_sized, page_sized}
use Rattle.model_logcore.proofs.UserSteps.{user_give, user_keeps, user_list, user_checked}
use Rattle.model_logcore.proofs.WriterAdvances.{keeps_clear_link, keeps_free_tail, keeps_load_link, keeps_load_tail, keeps_take_tail}
use Rattle.model_logcore.proofs.WriterCells.{keeps_clear_cell, keeps_clear_first, keeps_load_cell, keeps_load_checkpoint, keeps_load_first, writer_checked}
use Rattle.model_logcore.proofs.WriterSteps.{staged}
use Rattle.model_logcore.proofs.WriterStores.{keeps_store_failed, keeps_store_write}
use Rattle.model_logcore.proofs.Frame.{Kept}
use Rattle.model_logcore.specs.LogFacts.{LogGhost}
use Rattle.model_logcore.specs.LogLaws.{CanCheckpoint, LogLaws}
use mathlib.Core.Option as maybe
use Rattle.model_core.specs.declared.words.Word.TheVariants as word
use Rattle.model_core.specs.declared.ops.Op.TheVariants as op
use Rattle.model_core.specs.declared.ops.Answer.TheVariants as answer
use Rattle.model_core.specs.declared.steps.AdvanceStep.TheVariants as advance_step
use Rattle.model_core.specs.declared.words.LinkBuffer.TheVariants as link_buffer
use Rattle.model_core.specs.declared.steps.UserStep.TheVariants as user_step
use Rattle.model_core.specs.declared.steps.WriterStep.TheVariants as writer_step
use Rattle.model_core.specs.declared.steps.FlusherStep.TheVariants as flusher_step
use Rattle.model_core.specs.declared.steps.CloserStep.TheVariants as closer_step
use Rattle.model_core.specs.declared.steps.CleanerStep.TheVariants as cleaner_step
use Rattle.model_core.specs.declared.steps.CheckpointerStep.TheVariants as checkpointer_step
use Rattle.model_core.specs.States as actor

module _ (D : LogSide) (L : LogLaws D) (c : Setup) (m : SharedWords) (g : LogGhost) (p : D.Part) (actors : List Actor) (seat : ℕ) (before : LogHalf D c m g p actors) (code : ℕ) (q : D.Part) (ls : ℕ → List Listed) (can : (t : CheckpointerState) → get_elem? actors seat ≡ maybe.some (actor.Checkpointer t) → t.step ≡ checkpointer_step.Checkpoint → CanCheckpoint D c.blocks c.base g.log t.to p) where
  abbrev LeftTo : List Entry → Op → (Answer → Actor) → Type 0
  LeftTo l o f = (h : LogGhost) × Kept D c (shared_left m o) h q (set actors seat (f (shared_answer ls (D.failed p) code (D.stable q) m o))) × (◌≡◌ {A = List Entry} (h.log) l)

  abbrev LeftSo : Op → (Answer → Actor) → Type 0
  LeftSo o f = LeftTo g.log o f

  -- the part is as before
  same : {l : List Entry} (m' : SharedWords) (b : Actor) → ◌≡◌ {A = D.Part} q p → (h : LogGhost) × Kept D c m' h p (set actors seat b) × (◌≡◌ {A = List Entry} (h.log) l) → (h : LogGhost) × Kept D c m' h q (set actors seat b) × (◌≡◌ {A = List Entry} (h.log) l)
  same {l} m' b e k = subst (λ (r : D.Part). (h : LogGhost) × Kept D c m' h r (set actors seat b) × (◌≡◌ {A = List Entry} (h.log) l)) (sym e) k

  rested : (a : Actor) → get_elem? actors seat ≡ maybe.some a → ◌≡◌ {A = D.Part} q p → (h : LogGhost) × Kept D c m h q (set actors seat a) × (◌≡◌ {A = List Entry} (h.log) g.log)
  rested a at e = same m a e (g, (λ advanced without. subst (λ (z : List Actor). LogHalf D c m g p z) (sym (set_again actors seat a at)) before), refl)

  module _ (u : UserState) (at : get_elem? actors seat ≡ maybe.some (actor.User u)) where
    user_own : (f : UserStep) → u.step ≡ f → UserAt D c m g p seat u f → u.checks ≡ false → LogServed D p Nothing (user_op u f) code q → LeftTo (phase_log g.log m.sn u f) (user_op u f) (λ r. actor.User (user_took u (heard r) f))
    user_own user_step.LoadCheckpoint is h unasked s = same _ _ s (user_keeps D L c m g p actors seat u before at user_step.LoadCheckpoint is h unasked tt)
    user_own user_step.LoadSn is h unasked s = same _ _ s (user_keeps D L c m g p actors seat u before at user_step.LoadSn is h unasked tt)
    user_own user_step.TakeLatch is h unasked s = same _ _ s (user_keeps D L c m g p actors seat u before at user_step.TakeLatch is h unasked tt)
    user_own user_step.Reserve is h unasked s = same _ _ s (user_keeps D L c m g p actors seat u before at user_step.Reserve is h unasked tt)
    user_own user_step.LoadWrite is h unasked s = same _ _ s (user_keeps D L c m g p actors seat u before at user_step.LoadWrite is h unasked tt)
    user_own user_step.AddCell is h unasked s = same _ _ s (user_keeps D L c m g p actors seat u before at user_step.AddCell is h unasked tt)
    user_own user_step.StoreFirst is h unasked s = same _ _ s (user_keeps D L c m g p actors seat u before at user_step.StoreFirst is h unasked tt)
    user_own user_step.LoadWtail is h unasked s = same _ _ s (user_keeps D L c m g p actors seat u before at user_step.LoadWtail is h unasked tt)
    user_own (user_step.AdvanceWritten advance_step.LoadTail) is h unasked s = same _ _ s (user_keeps D L c m g p actors seat u before at (user_step.AdvanceWritten advance_step.LoadTail) is h unasked tt)
    user_own (user_step.AdvanceWritten advance_step.TakeTail) is h unasked s = same _ _ s (user_keeps D L c m g p actors seat u before at (user_step.AdvanceWritten advance_step.TakeTail) is h unasked tt)
    user_own (user_step.AdvanceWritten advance_step.LoadLink) is h unasked s = same _ _ s (user_keeps D L c m g p actors seat u before at (user_step.AdvanceWritten advance_step.LoadLink) is h unasked tt)
    user_own (user_step.AdvanceWritten advance_step.ClearLink) is h unasked s = same _ _ s (user_keeps D L c m g p actors seat u before at (user_step.AdvanceWritten advance_step.ClearLink) is h unasked tt)
    user_own (user_step.AdvanceWritten advance_step.FreeTail) is h unasked s = same _ _ s (user_keeps D L c m g p actors seat u before at (user_step.AdvanceWritten advance_step.FreeTail) is h unasked tt)
    user_own user_step.ReloadWtail is h unasked s = same _ _ s (user_keeps D L c m g p actors seat u before at user_step.ReloadWtail is h unasked tt)
    user_own user_step.StoreLink is h unasked s = same _ _ s (user_keeps D L c m g p actors seat u before at user_step.StoreLink is h unasked tt)
    user_own user_step.LoadCtail is h unasked s = same _ _ s (user_keeps D L c m g p actors seat u before at user_step.LoadCtail is h unasked tt)
    user_own (user_step.AdvanceClosed advance_step.LoadTail) is h unasked s = same _ _ s (user_keeps D L c m g p actors seat u before at (user_step.AdvanceClosed advance_step.LoadTail) is h unasked tt)
    user_own (user_step.AdvanceClosed advance_step.TakeTail) is h unasked s = same _ _ s (user_keeps D L c m g p actors seat u before at (user_step.AdvanceClosed advance_step.TakeTail) is h unasked tt)
    user_own (user_step.AdvanceClosed advance_step.LoadLink) is h unasked s = same _ _ s (user_keeps D L c m g p actors seat u before at (user_step.AdvanceClosed advance_step.LoadLink) is h unasked tt)
    user_own (user_step.AdvanceClosed advance_step.ClearLink) is h unasked s = same _ _ s (user_keeps D L c m g p actors seat u before at (user_step.AdvanceClosed advance_step.ClearLink) is h unasked tt)
    user_own (user_step.AdvanceClosed advance_step.FreeTail) is h unasked s = same _ _ s (user_keeps D L c m g p actors seat u before at (user_step.AdvanceClosed advance_step.FreeTail) is h unasked tt)
    user_own user_step.ReloadCtail is h unasked s = same _ _ s (user_keeps D L c m g p actors seat u before at user_step.ReloadCtail is h unasked tt)
    user_own user_step.LoadFrame is h unasked s = same _ _ s (user_keeps D L c m g p actors seat u before at user_step.LoadFrame is h unasked tt)
    user_own user_step.StoreFrame is h unasked s = same _ _ s (user_keeps D L c m g p actors seat u before at user_step.StoreFrame is h unasked tt)
    user_own user_step.StoreNewest is h unasked s = same _ _ s (user_keeps D L c m g p actors seat u before at user_step.StoreNewest is h unasked tt)
    user_own user_step.LoadOldest is h unasked s = same _ _ s (user_keeps D L c m g p actors seat u before at user_step.LoadOldest is h unasked tt)
    user_own user_step.StoreOldest is h unasked s = same _ _ s (user_keeps D L c m g p actors seat u before at user_step.StoreOldest is h unasked tt)
    user_own user_step.StoreClosedLink is h unasked s = same _ _ s (user_keeps D L c m g p actors seat u before at user_step.StoreClosedLink is h unasked tt)
    user_own user_step.ReleaseLatch is h unasked s = same _ _ s (user_keeps D L c m g p actors seat u before at user_step.ReleaseLatch is h unasked tt)
    user_own user_step.AwaitMark is h unasked s = same _ _ s (user_keeps D L c m g p actors seat u before at user_step.AwaitMark is h unasked tt)
    user_own user_step.AddToList is h unasked s = list_by (eqb (slice_index m.lists (current_page u % 4)) 0) h s
      where
        list_by : (b : Bool) → UserAt D c m g p seat u user_step.AddToList → ◌≡◌ {A = D.Part} q p
            → (k : LogGhost) × Kept D c (cond b (record m { lists = slice_set m.lists (current_page u % 4) 1 }) m) k q (set actors seat (actor.User (user_took u (heard (cond b (answer.Taken None) answer.Held)) user_step.AddToList))) × (◌≡◌ {A = List Entry} (k.log) g.log)
        list_by true h s = same _ _ s (g, user_list D L c m g p actors seat u before at true h, refl)
        list_by false h s = same _ _ s (g, user_list D L c m g p actors seat u before at false h, refl)
    user_own user_step.GiveList is h unasked s = same _ _ s (g, user_give D L c m g p actors seat u before at h, refl)
    user_own user_step.Done is h unasked s = rested (actor.User u) at s
    user_own user_step.Failed is h unasked s = rested (actor.User u) at s

    user_any : (b : Bool) → u.checks ≡ b → LogServed D p Nothing (cond b (op.Load word.Failed) (user_op u u.step)) code q
        → LeftTo (cond b g.log (phase_log g.log m.sn u u.step)) (cond b (op.Load word.Failed) (user_op u u.step)) (λ r. cond b (checked (actor.User u) (old_of r)) (own_took (actor.User u) r))
    user_any true checks s = same _ _ s (g, user_checked D L c m g p actors seat u before at checks, refl)
    user_any false checks s = user_own u.step refl (before.each seat (actor.User u) at).step checks s

  module _ (s : WriterState) (at : get_elem? actors seat ≡ maybe.some (actor.Writer s)) where
    mine : WriterFits D c m g p seat s
    mine = before.each seat (actor.Writer s) at

    seize : (b d : Bool) → eqb m.device 0 ≡ b → D.failed p ≡ d → ◌≡◌ {A = D.Part} q p → s.step ≡ writer_step.TakeDevice → WriterAt D c m g p seat s writer_step.TakeDevice
        → (h : LogGhost) × Kept D c (cond b (record m { device = 1 }) m) h q (set actors seat (actor.Writer (writer_took s (cond b (cond d answer.Broken (answer.Taken None)) answer.Held) writer_step.TakeDevice))) × (◌≡◌ {A = List Entry} (h.log) g.log)
    seize true true e f same_part is h = same _ _ same_part (takes D c m g p actors seat (actor.Writer s) before at (actor.Writer (record s { checks = false; step = writer_step.GiveBroken })) (eqb-true m.device 0 e) refl
        (staged D c m g p actors seat s before at s.first s.ckpt s.code false writer_step.GiveBroken mine.ckpt (λ z. absurd (cc)) h) refl (omega arith))
    seize true false e f same_part is h = same _ _ same_part (takes D c m g p actors seat (actor.Writer s) before at (actor.Writer (record s { checks = false; step = writer_step.WriteTo })) (eqb-true m.device 0 e) refl
        (staged D c m g p actors seat s before at s.first s.ckpt s.code false writer_step.WriteTo mine.ckpt (λ z. absurd (cc)) (h.0, h.1, h.2, f)) refl (omega arith))
    seize false d e f same_part is h = same _ _ same_part (
      g,
      stays D c m g p actors seat (actor.Writer s) before at (actor.Writer (record s { checks = true; step = writer_step.TakeDevice })) (sym (ap writer_holds is))
          (staged D c m g p actors seat s before at s.first s.ckpt s.code true writer_step.TakeDevice mine.ckpt (λ z. refl) h) refl (omega arith),
      refl,
    )

    give : (checks : Bool) (st : WriterStep) → ◌≡◌ {A = D.Part} q p → writer_holds s.step ≡ true → writer_holds st ≡ false → WriterAt D c m g p seat (record s { checks = checks; step = st }) st
        → (h : LogGhost) × Kept D c (record m { device = 0 }) h q (set actors seat (actor.Writer (record s { checks = checks; step = st }))) × (◌≡◌ {A = List Entry} (h.log) g.log)
    give checks st same_part had free h = same _ _ same_part (gives D c m g p actors seat (actor.Writer s) before at (actor.Writer (record s { checks = checks; step = st })) had free
        (staged D c m g p actors seat s before at s.first s.ckpt s.code checks st mine.ckpt (λ z. free) h) refl (omega arith))

    writer_own : (f : WriterStep) → s.step ≡ f → WriterAt D c m g p seat s f → LogServed D p (Blocks s.kept s.firsts) (writer_op s f) code q → LeftSo (writer_op s f) (λ r. actor.Writer (writer_took s r f))
    writer_own (writer_step.Advance advance_step.LoadTail) is h v = same _ _ v (keeps_load_tail D c m g p actors seat s before at is h.0)
    writer_own (writer_step.Advance advance_step.TakeTail) is h v = same _ _ v (keeps_take_tail D c m g p actors seat s before at is h.0)
    writer_own (writer_step.Advance advance_step.LoadLink) is h v = same _ _ v (keeps_load_link D c m g p actors seat s before at is h)
    writer_own (writer_step.Advance advance_step.ClearLink) is h v = same _ _ v (keeps_clear_link D c m g p actors seat s before at is h)
    writer_own (writer_step.Advance advance_step.FreeTail) is h v = same _ _ v (keeps_free_tail D c m g p actors seat s before at is h)
    writer_own writer_step.LoadCheckpoint is h v = same _ _ v (g, keeps_load_checkpoint D c m g p actors seat s before at is h, refl)
    writer_own writer_step.LoadFirst is h v = same _ _ v (g, keeps_load_first D c m g p actors seat s before at is h, refl)
    writer_own writer_step.ClearFirst is h v = same _ _ v (keeps_clear_first D c m g p actors seat s before at is h)
    writer_own writer_step.LoadCell is h v = same _ _ v (keeps_load_cell D c m g p actors seat s before at is h)
    writer_own writer_step.ClearCell is h v = same _ _ v (keeps_clear_cell D c m g p actors seat s before at is h)
    writer_own writer_step.TakeDevice is h v = seize (eqb m.device 0) (D.failed p) refl refl v is h
    writer_own writer_step.GiveBroken is h v = give true writer_step.TakeDevice v (ap writer_holds is) refl h
    writer_own writer_step.WriteTo is h v = (
      g,
      writes_by D L c m g p actors seat s before at q code (eqb code 0) refl is h
          (L.writes c.blocks c.base g.log g.write g.target code s.kept s.firsts p q before.global.part.holds (can_write D L c m g p actors seat s before at h) (subst (λ (t : ℕ). D.Wrote t s.kept s.firsts code p q) mine.tail v)),
      refl,
    )
    writer_own writer_step.StoreWrite is h v = same _ _ v (keeps_store_write D c m g p actors seat s before at is h)
    writer_own writer_step.GiveDevice is h v = give s.checks (writer_step.Advance advance_step.LoadTail) v (ap writer_holds is) refl (h.0, tt)
    writer_own writer_step.StoreFailed is h v = same _ _ v (g, keeps_store_failed D c m g p actors seat s before at is h, refl)
    writer_own writer_step.GiveFailed is h v = give s.checks writer_step.Failed v (ap writer_holds is) refl h
    writer_own writer_step.Failed is h v = rested (actor.Writer s) at v

    writer_any : (b : Bool) → s.checks ≡ b → LogServed D p (Blocks s.kept s.firsts) (cond b (op.Load word.Failed) (writer_op s s.step)) code q
        → LeftSo (cond b (op.Load word.Failed) (writer_op s s.step)) (λ r. cond b (checked (actor.Writer s) (old_of r)) (own_took (actor.Writer s) r))
    writer_any true checks v = same _ _ v (g, writer_checked D c m g p actors seat s before at checks, refl)
    writer_any false checks v = writer_own s.step refl mine.step v

  module _ (f : FlusherState) (at : get_elem? actors seat ≡ maybe.some (actor.Flusher f)) where
    hers : FlusherFits D c m g p seat f
    hers = before.each seat (actor.Flusher f) at

    seizes : (b d : Bool) → eqb m.device 0 ≡ b → D.failed p ≡ d → ◌≡◌ {A = D.Part} q p → f.step ≡ flusher_step.TakeDevice
        → (h : LogGhost) × Kept D c (cond b (record m { device = 1 }) m) h q (set actors seat (actor.Flusher (flusher_took f (cond b (cond d answer.Broken (answer.Taken None)) answer.Held) flusher_step.TakeDevice))) × (◌≡◌ {A = List Entry} (h.log) g.log)
    seizes true true e k same_part is = same _ _ same_part (takes D c m g p actors seat (actor.Flusher f) before at (actor.Flusher (record f { checks = false; step = flusher_step.GiveBroken })) (eqb-true m.device 0 e) refl
        (record { alone = hers.alone; last = hers.last; write = hers.write; no_device_while_checking = λ z. absurd (cc); step = tt }) refl (omega arith))
    seizes true false e k same_part is = same _ _ same_part (takes D c m g p actors seat (actor.Flusher f) before at (actor.Flusher (record f { checks = false; step = flusher_step.Sync })) (eqb-true m.device 0 e) refl
        (record { alone = hers.alone; last = hers.last; write = hers.write; no_device_while_checking = λ z. absurd (cc); step = k }) refl (omega arith))
    seizes false d e k same_part is = same _ _ same_part (
      g,
      stays D c m g p actors seat (actor.Flusher f) before at (actor.Flusher (record f { checks = true; step = flusher_step.TakeDevice })) (sym (ap flusher_holds is))
          (record { alone = hers.alone; last = hers.last; write = hers.write; no_device_while_checking = λ z. refl; step = tt }) refl (omega arith),
      refl,
    )

    yields : (checks : Bool) (st : FlusherStep) → ◌≡◌ {A = D.Part} q p → flusher_holds f.step ≡ true → flusher_holds st ≡ false → FlusherAt D c m g p (record f { checks = checks; step = st }) st
        → (h : LogGhost) × Kept D c (record m { device = 0 }) h q (set actors seat (actor.Flusher (record f { checks = checks; step = st }))) × (◌≡◌ {A = List Entry} (h.log) g.log)
    yields checks st same_part had free h = same _ _ same_part (gives D c m g p actors seat (actor.Flusher f) before at (actor.Flusher (record f { checks = checks; step = st })) had free
        (record { alone = hers.alone; last = hers.last; write = hers.write; no_device_while_checking = λ z. free; step = h }) refl (omega arith))

    flusher_own : (w : FlusherStep) → f.step ≡ w → FlusherAt D c m g p f w → LogServed D p Nothing (flusher_op f w) code q → LeftSo (flusher_op f w) (λ r. actor.Flusher (flusher_took f r w))
    flusher_own flusher_step.LoadWrite is h v = same _ _ v (g, keeps_watch D L c m g p actors seat f before at is, refl)
    flusher_own flusher_step.TakeDevice is h v = seizes (eqb m.device 0) (D.failed p) refl refl v is
    flusher_own flusher_step.GiveBroken is h v = yields true flusher_step.TakeDevice v (ap flusher_holds is) refl tt
    flusher_own flusher_step.Sync is h v = (g, syncs_by D L c m g p actors seat f before at q code (eqb code 0) refl is (L.syncs c.blocks c.base g.log code p q before.global.part.holds h v), refl)
    flusher_own flusher_step.StoreFlushed is h v = same _ _ v (keeps_flushed D L c m g p actors seat f before at is h)
    flusher_own flusher_step.GiveDevice is h v = yields f.checks flusher_step.LoadWrite v (ap flusher_holds is) refl tt
    flusher_own flusher_step.StoreFailed is h v = same _ _ v (g, keeps_fault D L c m g p actors seat f before at is h, refl)
    flusher_own flusher_step.GiveFailed is h v = yields f.checks flusher_step.Failed v (ap flusher_holds is) refl h
    flusher_own flusher_step.Failed is h v = rested (actor.Flusher f) at v

    flusher_any : (b : Bool) → f.checks ≡ b → LogServed D p Nothing (cond b (op.Load word.Failed) (flusher_op f f.step)) code q
        → LeftSo (cond b (op.Load word.Failed) (flusher_op f f.step)) (λ r. cond b (checked (actor.Flusher f) (old_of r)) (own_took (actor.Flusher f) r))
    flusher_any true checks v = same _ _ v (g, flusher_checked D L c m g p actors seat f before at checks, refl)
    flusher_any false checks v = flusher_own f.step refl hers.step v

  module _ (t : CloserState) (at : get_elem? actors seat ≡ maybe.some (actor.Closer t)) where
    closer_fits : t.step ≡ closer_step.Failed → 0 < m.failed
    closer_fits = before.each seat (actor.Closer t) at

    closer_keeps : (clinks : List ℕ) (ctail : ℕ) (cheld : Bool) (x : CloserState) → IsSized (layout_of c) (record m { clinks = clinks; ctail = ctail; cheld = cheld }) → (x.step ≡ closer_step.Failed → 0 < m.failed) → ◌≡◌ {A = D.Part} q p
        → (h : LogGhost) × Kept D c (record m { clinks = clinks; ctail = ctail; cheld = cheld }) h q (set actors seat (actor.Closer x)) × (◌≡◌ {A = List Entry} (h.log) g.log)
    closer_keeps clinks ctail cheld x sized f v = same _ _ v (g, page_aside D c m g p actors seat (actor.Closer t) before at m.lists clinks m.page_words ctail cheld m.ckpt m.failed (actor.Closer x) sized (omega arith) before.global.part.ckpt_part (λ z. z) (inl refl) f refl refl (omega arith), refl)

    advances : (clinks : List ℕ) (ctail : ℕ) (cheld : Bool) (advance : Advance) (checks : Bool) (x : AdvanceStep) → IsSized (layout_of c) (record m { clinks = clinks; ctail = ctail; cheld = cheld }) → ◌≡◌ {A = D.Part} q p
        → (h : LogGhost) × Kept D c (record m { clinks = clinks; ctail = ctail; cheld = cheld }) h q (set actors seat (actor.Closer (record t { advance = advance; checks = checks; step = closer_step.Advance x }))) × (◌≡◌ {A = List Entry} (h.log) g.log)
    advances clinks ctail cheld advance checks x sized v = closer_keeps clinks ctail cheld (record t { advance = advance; checks = checks; step = closer_step.Advance x }) sized (λ z. absurd (cc)) v

    closer_own : (f : CloserStep) → t.step ≡ f → LogServed D p Nothing (closer_op t f) code q → LeftSo (closer_op t f) (λ r. actor.Closer (closer_took t r f))
    closer_own (closer_step.Advance advance_step.LoadTail) is v = advances m.clinks m.ctail m.cheld (record t.advance { tail = tail_of (tail_word m.ctail m.cheld) }) (is_held (tail_word m.ctail m.cheld)) (cond (is_held (tail_word m.ctail m.cheld)) advance_step.LoadTail advance_step.TakeTail) before.sized v
    closer_own (closer_step.Advance advance_step.TakeTail) is v = by (eqb (tail_word m.ctail m.cheld) (tail_word t.advance.tail false))
      where
        by : (b : Bool) → (h : LogGhost) × Kept D c (cond b (record m { ctail = tail_of (tail_word t.advance.tail true); cheld = is_held (tail_word t.advance.tail true) }) m) h q (set actors seat (actor.Closer (record t { advance = record t.advance { place = t.advance.tail }; checks = cond b false true; step = closer_step.Advance (cond (cond b false true) advance_step.LoadTail advance_step.LoadLink) }))) × (◌≡◌ {A = List Entry} (h.log) g.log)
        by true = advances m.clinks (tail_of (tail_word t.advance.tail true)) (is_held (tail_word t.advance.tail true)) (record t.advance { place = t.advance.tail }) false advance_step.LoadLink (numbers_sized before.sized) v
        by false = advances m.clinks m.ctail m.cheld (record t.advance { place = t.advance.tail }) true advance_step.LoadTail before.sized v
    closer_own (closer_step.Advance advance_step.LoadLink) is v = advances m.clinks m.ctail m.cheld (record t.advance { link = slice_index m.clinks (t.advance.place % CLOSED_LINKS) }) false (cond (eqb (slice_index m.clinks (t.advance.place % CLOSED_LINKS)) 0) advance_step.FreeTail advance_step.ClearLink) before.sized v
    closer_own (closer_step.Advance advance_step.ClearLink) is v = advances (slice_set m.clinks (t.advance.place % CLOSED_LINKS) 0) m.ctail m.cheld (record t.advance { place = t.advance.place + t.advance.link; link = 0 }) false (cond (ltb (t.advance.place + t.advance.link) (t.advance.tail + ADVANCE_PLACES)) advance_step.LoadLink advance_step.FreeTail) (clinks_sized (t.advance.place % CLOSED_LINKS) 0 before.sized) v
    closer_own (closer_step.Advance advance_step.FreeTail) is v = advances m.clinks (tail_of (tail_word t.advance.place false)) (is_held (tail_word t.advance.place false)) t.advance (eqb t.advance.place t.advance.tail) advance_step.LoadTail (numbers_sized before.sized) v
    closer_own closer_step.Failed is v = rested (actor.Closer t) at v

    closer_any : (b : Bool) → LogServed D p Nothing (cond b (op.Load word.Failed) (closer_op t t.step)) code q → LeftSo (cond b (op.Load word.Failed) (closer_op t t.step)) (λ r. cond b (checked (actor.Closer t) (old_of r)) (own_took (actor.Closer t) r))
    closer_any true v = by (eqb m.failed 0) refl
      where
        by : (b : Bool) → eqb m.failed 0 ≡ b → (h : LogGhost) × Kept D c m h q (set actors seat (actor.Closer (cond b (record t { checks = false }) (record t { checks = false; code = m.failed; step = closer_step.Failed })))) × (◌≡◌ {A = List Entry} (h.log) g.log)
        by true e = closer_keeps m.clinks m.ctail m.cheld (record t { checks = false }) before.sized closer_fits v
        by false e = closer_keeps m.clinks m.ctail m.cheld (record t { checks = false; code = m.failed; step = closer_step.Failed }) before.sized (λ _. let k = eqb-false m.failed 0 e in omega arith) v
    closer_any false v = closer_own t.step refl v

  module _ (x : CleanerState) (at : get_elem? actors seat ≡ maybe.some (actor.Cleaner x)) where
    told_fits : CleanerTold D c m g p x
    told_fits = before.each seat (actor.Cleaner x) at

    cleaner_keeps : (lists : List ℕ) (page_words : List PageWords) (failed : ℕ) (y : CleanerState) → IsSized (layout_of c) (record m { lists = lists; page_words = page_words; failed = failed }) → (0 < m.failed → 0 < failed) → (y.step ≡ cleaner_step.Failed → 0 < failed) → (y.step ≡ cleaner_step.StoreFailed → 0 < y.code) → ◌≡◌ {A = D.Part} q p
        → (h : LogGhost) × Kept D c (record m { lists = lists; page_words = page_words; failed = failed }) h q (set actors seat (actor.Cleaner y)) × (◌≡◌ {A = List Entry} (h.log) g.log)
    cleaner_keeps lists page_words failed y sized up a b v = same _ _ v (g, page_aside D c m g p actors seat (actor.Cleaner x) before at lists m.clinks page_words m.ctail m.cheld m.ckpt failed (actor.Cleaner y) sized (omega arith) before.global.part.ckpt_part up (inl refl) (a, b) refl refl (omega arith), refl)

    abbrev CleanerDone : SharedWords → CleanerState → Type 0
    CleanerDone m' y = (h : LogGhost) × Kept D c m' h q (set actors seat (actor.Cleaner y)) × (◌≡◌ {A = List Entry} (h.log) g.log)

    plain : (y : CleanerState) → (y.step ≡ cleaner_step.Failed → ⊥) → (y.step ≡ cleaner_step.StoreFailed → ⊥) → ◌≡◌ {A = D.Part} q p → CleanerDone m y
    plain y a b v = cleaner_keeps m.lists m.page_words m.failed y before.sized (λ z. z) (λ z. absurd (a z)) (λ z. absurd (b z)) v

    leafy : (k : ℕ) (w : PageWords) → length w.frame ≡ length (page_words_at m.page_words k).frame → (y : CleanerState) → (y.step ≡ cleaner_step.Failed → ⊥) → (y.step ≡ cleaner_step.StoreFailed → ⊥) → ◌≡◌ {A = D.Part} q p → CleanerDone (with_page_words m k w) y
    leafy k w e y a b v = cleaner_keeps m.lists (slice_set m.page_words k w) m.failed y (page_sized k w e before.sized) (λ z. z) (λ z. absurd (a z)) (λ z. absurd (b z)) v

    -- it goes on: neither dead nor failing
    next_in_round_on : (y : CleanerState) → ((next_in_round y).step ≡ cleaner_step.Failed → ⊥) × ((next_in_round y).step ≡ cleaner_step.StoreFailed → ⊥)
    next_in_round_on y = by (cond (eqb y.left 1) true (eqb (length y.batch) y.slots)) (eqb (length y.batch) 0)
      where
        by : (b d : Bool) → ((cond b (cond d (record y { page = cond (eqb (y.page + 1) y.pages) 0 (y.page + 1); left = y.left - 1; kept = []; checks = true; step = cleaner_step.LoadFlushed }) (record y { page = cond (eqb (y.page + 1) y.pages) 0 (y.page + 1); left = y.left - 1; kept = []; step = cleaner_step.WriteBatch }))
            (record y { page = cond (eqb (y.page + 1) y.pages) 0 (y.page + 1); left = y.left - 1; kept = []; step = cleaner_step.LoadOldest })).step ≡ cleaner_step.Failed → ⊥) × ((cond b (cond d (record y { page = cond (eqb (y.page + 1) y.pages) 0 (y.page + 1); left = y.left - 1; kept = []; checks = true; step = cleaner_step.LoadFlushed }) (record y { page = cond (eqb (y.page + 1) y.pages) 0 (y.page + 1); left = y.left - 1; kept = []; step = cleaner_step.WriteBatch }))
            (record y { page = cond (eqb (y.page + 1) y.pages) 0 (y.page + 1); left = y.left - 1; kept = []; step = cleaner_step.LoadOldest })).step ≡ cleaner_step.StoreFailed → ⊥)
        by true true = ((λ z. absurd (cc)), (λ z. absurd (cc)))
        by true false = ((λ z. absurd (cc)), (λ z. absurd (cc)))
        by false d = ((λ z. absurd (cc)), (λ z. absurd (cc)))

    cleaner_own : (f : CleanerStep) → x.step ≡ f → LogServed D p (Batch x.batch) (cleaner_op x f) code q → LeftSo (cleaner_op x f) (λ r. actor.Cleaner (cleaner_took x r f))
    cleaner_own cleaner_step.LoadFlushed is v = plain (record x { flushed = m.flushed; left = x.pages; batch = []; step = cleaner_step.LoadOldest }) (λ z. absurd (cc)) (λ z. absurd (cc)) v
    cleaner_own cleaner_step.LoadOldest is v = by (eqb (page_words_at m.page_words x.page).oldest 0)
      where
        by : (b : Bool) → CleanerDone m (cond b (next_in_round x) (record x { step = cleaner_step.TakeLatch }))
        by true = plain (next_in_round x) (next_in_round_on x).0 (next_in_round_on x).1 v
        by false = plain (record x { step = cleaner_step.TakeLatch }) (λ z. absurd (cc)) (λ z. absurd (cc)) v
    cleaner_own cleaner_step.TakeLatch is v = by (eqb (page_words_at m.page_words x.page).latch 0)
      where
        by : (b : Bool) → CleanerDone (cond b (with_page_words m x.page (record (page_words_at m.page_words x.page) { latch = 1 })) m) (cond b (record x { step = cleaner_step.LoadNewest }) (next_in_round x))
        by true = leafy x.page (record (page_words_at m.page_words x.page) { latch = 1 }) refl (record x { step = cleaner_step.LoadNewest }) (λ z. absurd (cc)) (λ z. absurd (cc)) v
        by false = plain (next_in_round x) (next_in_round_on x).0 (next_in_round_on x).1 v
    cleaner_own cleaner_step.LoadNewest is v = by (leb (page_words_at m.page_words x.page).newest x.flushed)
      where
        by : (b : Bool) → CleanerDone m (cond b (record x { newest = (page_words_at m.page_words x.page).newest; kept = []; step = cleaner_step.LoadFrame }) (record x { step = cleaner_step.ReleaseSkipped }))
        by true = plain (record x { newest = (page_words_at m.page_words x.page).newest; kept = []; step = cleaner_step.LoadFrame }) (λ z. absurd (cc)) (λ z. absurd (cc)) v
        by false = plain (record x { step = cleaner_step.ReleaseSkipped }) (λ z. absurd (cc)) (λ z. absurd (cc)) v
    cleaner_own cleaner_step.ReleaseSkipped is v = leafy x.page (record (page_words_at m.page_words x.page) { latch = 0 }) refl (next_in_round x) (next_in_round_on x).0 (next_in_round_on x).1 v
    cleaner_own cleaner_step.LoadFrame is v = by (eqb (length x.kept + 8) x.page_size)
      where
        by : (b : Bool) → CleanerDone m (cond b (next_in_round (record x { batch = x.batch ++ page_loaded x (slice_index (page_words_at m.page_words x.page).frame (length x.kept / 8)) ∷ [] })) (record x { kept = x.kept ++ lanes 0 8 (slice_index (page_words_at m.page_words x.page).frame (length x.kept / 8)); step = cleaner_step.LoadFrame }))
        by true = let y : CleanerState = record x { batch = x.batch ++ page_loaded x (slice_index (page_words_at m.page_words x.page).frame (length x.kept / 8)) ∷ [] } in plain (next_in_round y) (next_in_round_on y).0 (next_in_round_on y).1 v
        by false = plain (record x { kept = x.kept ++ lanes 0 8 (slice_index (page_words_at m.page_words x.page).frame (length x.kept / 8)); step = cleaner_step.LoadFrame }) (λ z. absurd (cc)) (λ z. absurd (cc)) v
    cleaner_own cleaner_step.WriteBatch is v = by (eqb code 0) refl
      where
        by : (b : Bool) → eqb code 0 ≡ b → CleanerDone m (cleaner_took x (cond b (answer.Called 0) (answer.Failed code)) cleaner_step.WriteBatch)
        by true e = plain (record x { code = 0; step = cleaner_step.RemoveFromList }) (λ z. absurd (cc)) (λ z. absurd (cc)) v
        by false e = cleaner_keeps m.lists m.page_words m.failed (record x { code = code; step = cleaner_step.StoreFailed }) before.sized (λ z. z) (λ z. absurd (cc)) (λ _. let k = eqb-false code 0 e in omega arith) v
    cleaner_own cleaner_step.RemoveFromList is v = by (eqb (slice_index m.lists (first_of_batch x % 4)) 0)
      where
        by : (b : Bool) → CleanerDone (cond b (record m { lists = slice_set m.lists (first_of_batch x % 4) 1 }) m) (cleaner_took x (cond b (answer.Taken None) answer.Held) cleaner_step.RemoveFromList)
        by true = cleaner_keeps (slice_set m.lists (first_of_batch x % 4) 1) m.page_words m.failed (record x { step = cleaner_step.ClearOldest }) (lists_sized (first_of_batch x % 4) 1 before.sized) (λ z. z) (λ z. absurd (cc)) (λ z. absurd (cc)) v
        by false = plain (record x { checks = true; step = cleaner_step.RemoveFromList }) (λ z. absurd (cc)) (λ z. absurd (cc)) v
    cleaner_own cleaner_step.ClearOldest is v = leafy (first_of_batch x) (record (page_words_at m.page_words (first_of_batch x)) { oldest = 0 }) refl (record x { step = cleaner_step.GiveList }) (λ z. absurd (cc)) (λ z. absurd (cc)) v
    cleaner_own cleaner_step.GiveList is v = cleaner_keeps (slice_set m.lists (first_of_batch x % 4) 0) m.page_words m.failed (record x { step = cleaner_step.ReleaseLatch }) (lists_sized (first_of_batch x % 4) 0 before.sized) (λ z. z) (λ z. absurd (cc)) (λ z. absurd (cc)) v
    cleaner_own cleaner_step.ReleaseLatch is v = by (eqb (length x.batch) 1)
      where
        by : (b : Bool) → CleanerDone (with_page_words m (first_of_batch x) (record (page_words_at m.page_words (first_of_batch x)) { latch = 0 })) (record x { batch = drop 1 x.batch; step = cond b cleaner_step.LoadFlushed cleaner_step.RemoveFromList })
        by true = leafy (first_of_batch x) (record (page_words_at m.page_words (first_of_batch x)) { latch = 0 }) refl (record x { batch = drop 1 x.batch; step = cleaner_step.LoadFlushed }) (λ z. absurd (cc)) (λ z. absurd (cc)) v
        by false = leafy (first_of_batch x) (record (page_words_at m.page_words (first_of_batch x)) { latch = 0 }) refl (record x { batch = drop 1 x.batch; step = cleaner_step.RemoveFromList }) (λ z. absurd (cc)) (λ z. absurd (cc)) v
    cleaner_own cleaner_step.StoreFailed is v = let pos = told_fits.1 is in cleaner_keeps m.lists m.page_words x.code (record x { step = cleaner_step.Failed }) (numbers_sized before.sized) (λ _. pos) (λ _. pos) (λ z. absurd (cc)) v
    cleaner_own cleaner_step.Failed is v = rested (actor.Cleaner x) at v

    cleaner_any : (b : Bool) → LogServed D p (Batch x.batch) (cond b (op.Load word.Failed) (cleaner_op x x.step)) code q → LeftSo (cond b (op.Load word.Failed) (cleaner_op x x.step)) (λ r. cond b (checked (actor.Cleaner x) (old_of r)) (own_took (actor.Cleaner x) r))
    cleaner_any true v = by (eqb m.failed 0) refl
      where
        by : (b : Bool) → eqb m.failed 0 ≡ b → CleanerDone m (cond b (record x { checks = false }) (record x { checks = false; code = m.failed; step = cleaner_step.Failed }))
        by true e = cleaner_keeps m.lists m.page_words m.failed (record x { checks = false }) before.sized (λ z. z) told_fits.0 told_fits.1 v
        by false e = let pos : 0 < m.failed = (let k = eqb-false m.failed 0 e in omega arith) in cleaner_keeps m.lists m.page_words m.failed (record x { checks = false; code = m.failed; step = cleaner_step.Failed }) before.sized (λ z. z) (λ _. pos) (λ z. absurd (cc)) v
    cleaner_any false v = cleaner_own x.step refl v

  module _ (t : CheckpointerState) (at : get_elem? actors seat ≡ maybe.some (actor.Checkpointer t)) where
    its : CheckpointerFits D c m g p seat t
    its = before.each seat (actor.Checkpointer t) at

    abbrev CheckpointerDone : SharedWords → CheckpointerState → Type 0
    CheckpointerDone m' y = (h : LogGhost) × Kept D c m' h q (set actors seat (actor.Checkpointer y)) × (◌≡◌ {A = List Entry} (h.log) g.log)

    checkpointer_keeps : (lists : List ℕ) (ckpt failed : ℕ) (y : CheckpointerState) → IsSized (layout_of c) (record m { lists = lists; ckpt = ckpt; failed = failed }) → m.ckpt ≤ ckpt → ckpt ≤ D.ckpt p → (0 < m.failed → 0 < failed) → CheckpointerFits D c (record m { lists = lists; ckpt = ckpt; failed = failed }) g p seat y → checkpointer_holds y.step ≡ checkpointer_holds t.step → ◌≡◌ {A = D.Part} q p
        → CheckpointerDone (record m { lists = lists; ckpt = ckpt; failed = failed }) y
    checkpointer_keeps lists ckpt failed y sized a b up f keep v = same _ _ v (g, page_aside D c m g p actors seat (actor.Checkpointer t) before at lists m.clinks m.page_words m.ctail m.cheld ckpt failed (actor.Checkpointer y) sized a b up (inr its.alone) f keep refl (omega arith), refl)

    easy : (y : CheckpointerState) → CheckpointerFits D c m g p seat y → checkpointer_holds y.step ≡ checkpointer_holds t.step → ◌≡◌ {A = D.Part} q p → CheckpointerDone m y
    easy y f keep v = checkpointer_keeps m.lists m.ckpt m.failed y before.sized (omega arith) before.global.part.ckpt_part (λ z. z) f keep v

    with_list : (i n : ℕ) (y : CheckpointerState) → CheckpointerFits D c m g p seat y → checkpointer_holds y.step ≡ checkpointer_holds t.step → ◌≡◌ {A = D.Part} q p → CheckpointerDone (record m { lists = slice_set m.lists i n }) y
    with_list i n y f keep v = checkpointer_keeps (slice_set m.lists i n) m.ckpt m.failed y (lists_sized i n before.sized) (omega arith) before.global.part.ckpt_part (λ z. z) (record { alone = f.alone; own = f.own; no_device_while_checking = f.no_device_while_checking; step = f.step }) keep v

    gives_back : (y : CheckpointerState) → checkpointer_holds t.step ≡ true → checkpointer_holds y.step ≡ false → CheckpointerFits D c m g p seat y → ◌≡◌ {A = D.Part} q p → CheckpointerDone (record m { device = 0 }) y
    gives_back y had free f v = same _ _ v (gives D c m g p actors seat (actor.Checkpointer t) before at (actor.Checkpointer y) had free f refl (omega arith))

    checkpointer_own : (f : CheckpointerStep) → t.step ≡ f → CheckpointerAt D c m g p t f → LogServed D p Nothing (checkpointer_op t f) code q → LeftSo (checkpointer_op t f) (λ r. actor.Checkpointer (checkpointer_took t r f))
    checkpointer_own checkpointer_step.LoadCtail is h v = by (eqb t.first t.last)
      where
        by : (b : Bool) → CheckpointerDone m (record t { ctail = tail_of (tail_word m.ctail m.cheld); to = tail_of (tail_word m.ctail m.cheld); list = 0; reader = t.first; step = cond b checkpointer_step.ReadList checkpointer_step.LoadPlace })
        by true = easy (record t { ctail = tail_of (tail_word m.ctail m.cheld); to = tail_of (tail_word m.ctail m.cheld); list = 0; reader = t.first; step = checkpointer_step.ReadList }) (record { alone = its.alone; own = its.own; no_device_while_checking = λ _. refl; step = h }) (sym (ap checkpointer_holds is)) v
        by false = easy (record t { ctail = tail_of (tail_word m.ctail m.cheld); to = tail_of (tail_word m.ctail m.cheld); list = 0; reader = t.first; step = checkpointer_step.LoadPlace }) (record { alone = its.alone; own = its.own; no_device_while_checking = λ _. refl; step = h }) (sym (ap checkpointer_holds is)) v
    checkpointer_own checkpointer_step.LoadPlace is h v = by (eqb (t.reader + 1) t.last)
      where
        by : (b : Bool) → CheckpointerDone m (record t { to = min t.to (slice_index m.places t.reader); reader = t.reader + 1; step = cond b checkpointer_step.ReadList checkpointer_step.LoadPlace })
        by true = easy (record t { to = min t.to (slice_index m.places t.reader); reader = t.reader + 1; step = checkpointer_step.ReadList }) (record { alone = its.alone; own = its.own; no_device_while_checking = λ _. refl; step = h }) (sym (ap checkpointer_holds is)) v
        by false = easy (record t { to = min t.to (slice_index m.places t.reader); reader = t.reader + 1; step = checkpointer_step.LoadPlace }) (record { alone = its.alone; own = its.own; no_device_while_checking = λ _. refl; step = h }) (sym (ap checkpointer_holds is)) v
    checkpointer_own checkpointer_step.ReadList is h v = by (eqb (slice_index m.lists t.list) 0)
      where
        by : (b : Bool) → CheckpointerDone (cond b (record m { lists = slice_set m.lists t.list 1 }) m) (checkpointer_took t (cond b (answer.Taken (oldest_end (ls t.list))) answer.Held) checkpointer_step.ReadList)
        by true = with_list t.list 1 (record t { to = lowered t.to (oldest_end (ls t.list)); step = checkpointer_step.GiveList }) (record { alone = its.alone; own = its.own; no_device_while_checking = λ _. refl; step = h }) (sym (ap checkpointer_holds is)) v
        by false = easy (record t { checks = true; step = checkpointer_step.ReadList }) (record { alone = its.alone; own = its.own; no_device_while_checking = λ _. refl; step = h }) (sym (ap checkpointer_holds is)) v
    checkpointer_own checkpointer_step.GiveList is h v = by (eqb (t.list + 1) 4)
      where
        by : (b : Bool) → CheckpointerDone (record m { lists = slice_set m.lists t.list 0 }) (record t { list = t.list + 1; step = cond b checkpointer_step.LoadFlushed checkpointer_step.ReadList })
        by true = with_list t.list 0 (record t { list = t.list + 1; step = checkpointer_step.LoadFlushed }) (record { alone = its.alone; own = its.own; no_device_while_checking = λ _. refl; step = h }) (sym (ap checkpointer_holds is)) v
        by false = with_list t.list 0 (record t { list = t.list + 1; step = checkpointer_step.ReadList }) (record { alone = its.alone; own = its.own; no_device_while_checking = λ _. refl; step = h }) (sym (ap checkpointer_holds is)) v
    checkpointer_own checkpointer_step.LoadFlushed is h v = by (ltb t.own (floor (min t.to m.flushed)))
      where
        by : (b : Bool) → CheckpointerDone m (cond b (record t { flushed = m.flushed; to = floor (min t.to m.flushed); step = checkpointer_step.TakeDevice }) (record t { flushed = m.flushed; checks = true; step = checkpointer_step.LoadCtail }))
        by true = easy (record t { flushed = m.flushed; to = floor (min t.to m.flushed); step = checkpointer_step.TakeDevice }) (record { alone = its.alone; own = its.own; no_device_while_checking = λ _. refl; step = h }) (sym (ap checkpointer_holds is)) v
        by false = easy (record t { flushed = m.flushed; checks = true; step = checkpointer_step.LoadCtail }) (record { alone = its.alone; own = its.own; no_device_while_checking = λ _. refl; step = h }) (sym (ap checkpointer_holds is)) v
    checkpointer_own checkpointer_step.TakeDevice is h v = by (eqb m.device 0) (D.failed p) refl refl
      where
        by : (b d : Bool) → eqb m.device 0 ≡ b → D.failed p ≡ d → CheckpointerDone (cond b (record m { device = 1 }) m) (checkpointer_took t (cond b (cond d answer.Broken (answer.Taken None)) answer.Held) checkpointer_step.TakeDevice)
        by true true e f = same _ _ v (takes D c m g p actors seat (actor.Checkpointer t) before at (actor.Checkpointer (record t { checks = false; step = checkpointer_step.GiveBroken })) (eqb-true m.device 0 e) refl (record { alone = its.alone; own = its.own; no_device_while_checking = λ z. absurd (cc); step = h }) refl (omega arith))
        by true false e f = same _ _ v (takes D c m g p actors seat (actor.Checkpointer t) before at (actor.Checkpointer (record t { checks = false; step = checkpointer_step.Checkpoint })) (eqb-true m.device 0 e) refl (record { alone = its.alone; own = its.own; no_device_while_checking = λ z. absurd (cc); step = (h, f) }) refl (omega arith))
        by false d e f = easy (record t { checks = true; step = checkpointer_step.TakeDevice }) (record { alone = its.alone; own = its.own; no_device_while_checking = λ _. refl; step = h }) (sym (ap checkpointer_holds is)) v
    checkpointer_own checkpointer_step.GiveBroken is h v = gives_back (record t { checks = true; step = checkpointer_step.TakeDevice }) (ap checkpointer_holds is) refl (record { alone = its.alone; own = its.own; no_device_while_checking = λ _. refl; step = h }) v
    checkpointer_own checkpointer_step.Checkpoint is h v = let k = can t at is in (g, points_by D c m g p actors seat t before at q code (eqb code 0) refl is h.0 k.more k.below (L.checkpoints c.blocks c.base g.log t.to code p q before.global.part.holds k v), refl)
    checkpointer_own checkpointer_step.StoreCheckpoint is h v = let low = before.global.part.ckpt_part in checkpointer_keeps m.lists t.to m.failed (record t { own = t.to; step = checkpointer_step.GiveDevice }) (numbers_sized before.sized) (omega arith) (omega arith) (λ z. z)
        (record { alone = its.alone; own = refl; no_device_while_checking = λ z. let y = its.no_device_while_checking z in let x : true ≡ false = sym (ap checkpointer_holds is) ∙ y in absurd (cc); step = h }) (sym (ap checkpointer_holds is)) v
    checkpointer_own checkpointer_step.GiveDevice is h v = gives_back (record t { step = checkpointer_step.LoadCtail }) (ap checkpointer_holds is) refl (record { alone = its.alone; own = its.own; no_device_while_checking = λ _. refl; step = h }) v
    checkpointer_own checkpointer_step.StoreFailed is h v = checkpointer_keeps m.lists m.ckpt t.code (record t { step = checkpointer_step.GiveFailed }) (numbers_sized before.sized) (omega arith) before.global.part.ckpt_part (λ _. h.0)
        (record { alone = its.alone; own = its.own; no_device_while_checking = λ z. let y = its.no_device_while_checking z in let x : true ≡ false = sym (ap checkpointer_holds is) ∙ y in absurd (cc); step = h.0 }) (sym (ap checkpointer_holds is)) v
    checkpointer_own checkpointer_step.GiveFailed is h v = gives_back (record t { step = checkpointer_step.Failed }) (ap checkpointer_holds is) refl (record { alone = its.alone; own = its.own; no_device_while_checking = λ _. refl; step = h }) v
    checkpointer_own checkpointer_step.Failed is h v = rested (actor.Checkpointer t) at v

    checkpointer_any : (b : Bool) → t.checks ≡ b → LogServed D p Nothing (cond b (op.Load word.Failed) (checkpointer_op t t.step)) code q → LeftSo (cond b (op.Load word.Failed) (checkpointer_op t t.step)) (λ r. cond b (checked (actor.Checkpointer t) (old_of r)) (own_took (actor.Checkpointer t) r))
    checkpointer_any true checks v = by (eqb m.failed 0) refl
      where
        by : (b : Bool) → eqb m.failed 0 ≡ b → CheckpointerDone m (cond b (record t { checks = false }) (record t { checks = false; code = m.failed; step = checkpointer_step.Failed }))
        by true e = easy (record t { checks = false }) (record { alone = its.alone; own = its.own; no_device_while_checking = λ z. absurd (cc); step = its.step }) refl v
        by false e = let pos : 0 < m.failed = (let k = eqb-false m.failed 0 e in omega arith) in easy (record t { checks = false; code = m.failed; step = checkpointer_step.Failed }) (record { alone = its.alone; own = its.own; no_device_while_checking = λ _. refl; step = pos }) (sym (its.no_device_while_checking checks)) v
    checkpointer_any false checks v = checkpointer_own t.step refl its.step v

  module _ (r : ReaderState) (at : get_elem? actors seat ≡ maybe.some (actor.Reader r)) where
    theirs : ReaderFits D c m g p seat r
    theirs = before.each seat (actor.Reader r) at

    abbrev ReaderDone : SharedWords → ReaderState → Type 0
    ReaderDone m' w = (h : LogGhost) × Kept D c m' h q (set actors seat (actor.Reader w)) × (◌≡◌ {A = List Entry} (h.log) g.log)

    -- it goes on with what it has
    goes : (w : ReaderState) → reader_holds w.step ≡ reader_holds r.step → ReaderFits D c m g p seat w → ◌≡◌ {A = D.Part} q p → ReaderDone m w
    goes w keep fit v = same _ _ v (g, reads_on D c m g p actors seat r before at w keep fit, refl)

    hands_back : (w : ReaderState) → reader_holds r.step ≡ true → reader_holds w.step ≡ false → ReaderFits D c m g p seat w → ◌≡◌ {A = D.Part} q p → ReaderDone (record m { device = 0 }) w
    hands_back w had free f v = same _ _ v (gives D c m g p actors seat (actor.Reader r) before at (actor.Reader w) had free f refl (omega arith))

    reader_own : (f : ReaderStep) → r.step ≡ f → ReaderAt D c m g p r f → LogServed D p (Room r.block) (reader_op r f) code q → LeftSo (reader_op r f) (λ z. actor.Reader (reader_took r z f))
    reader_own reader_step.LoadFlushed is h v = by (has_all r m.flushed)
      where
        by : (b : Bool) → ReaderDone m (cond b (record r { mark = m.flushed; checks = true; step = reader_step.LoadFlushed }) (record r { mark = m.flushed; step = reader_step.TakeDevice }))
        by true = goes (record r { mark = m.flushed; checks = true; step = reader_step.LoadFlushed }) (sym (ap reader_holds is)) (record { no_device_while_checking = λ _. refl; step = tt }) v
        by false = goes (record r { mark = m.flushed; step = reader_step.TakeDevice }) (sym (ap reader_holds is)) (record { no_device_while_checking = λ _. refl; step = tt }) v
    reader_own reader_step.TakeDevice is h v = by (eqb m.device 0) (D.failed p) refl refl
      where
        by : (b d : Bool) → eqb m.device 0 ≡ b → D.failed p ≡ d → ReaderDone (cond b (record m { device = 1 }) m) (reader_took r (cond b (cond d answer.Broken (answer.Taken None)) answer.Held) reader_step.TakeDevice)
        by true true e f = same _ _ v (takes D c m g p actors seat (actor.Reader r) before at (actor.Reader (record r { checks = false; step = reader_step.GiveBroken })) (eqb-true m.device 0 e) refl (record { no_device_while_checking = λ z. absurd (cc); step = tt }) refl (omega arith))
        by true false e f = same _ _ v (takes D c m g p actors seat (actor.Reader r) before at (actor.Reader (record r { checks = false; step = reader_step.ReadBlock })) (eqb-true m.device 0 e) refl (record { no_device_while_checking = λ z. absurd (cc); step = f }) refl (omega arith))
        by false d e f = goes (record r { checks = true; step = reader_step.TakeDevice }) (sym (ap reader_holds is)) (record { no_device_while_checking = λ _. refl; step = tt }) v
    reader_own reader_step.GiveBroken is h v = hands_back (record r { checks = true; step = reader_step.TakeDevice }) (ap reader_holds is) refl (record { no_device_while_checking = λ _. refl; step = tt }) v
    reader_own reader_step.ReadBlock is h v = (g, reads_by D c m g p actors seat r before at q code (eqb code 0) refl is (L.reads c.blocks c.base g.log (next_block r) code r.block p q before.global.part.holds h v), refl)
    reader_own reader_step.GiveDevice is h v = by (archives r) (is_none r.texts)
      where
        by : (b d : Bool) → ReaderDone (record m { device = 0 }) (cond b (to_append r) (record r {
          at = r.at + length (joined_texts r.texts);
          place = lsn (r.at + length (joined_texts r.texts));
          kept = drop (length (joined_texts r.texts)) (pending r);
          texts = [];
          step = cond d reader_step.LoadFlushed reader_step.StorePlace;
        }))
        by true d = hands_back (to_append r) (ap reader_holds is) refl (record { no_device_while_checking = λ _. refl; step = tt }) v
        by false true = hands_back _ (ap reader_holds is) refl (record { no_device_while_checking = λ _. refl; step = tt }) v
        by false false = hands_back _ (ap reader_holds is) refl (record { no_device_while_checking = λ _. refl; step = tt }) v
    reader_own reader_step.Append is h v = same _ _ v (g, appends_by D c m g p actors seat r before at code (eqb code 0) refl is, refl)
    reader_own reader_step.StorePlace is h v = same _ _ v (g, keeps_place D c m g p actors seat r before at is, refl)
    reader_own reader_step.StoreFailed is h v = same _ _ v (g, keeps_code D c m g p actors seat r before at is h, refl)
    reader_own reader_step.GiveFailed is h v = hands_back (record r { step = reader_step.Failed }) (ap reader_holds is) refl (record { no_device_while_checking = λ _. refl; step = h }) v
    reader_own reader_step.StoreLost is h v = same _ _ v (g, keeps_lost D c m g p actors seat r before at is h, refl)
    reader_own reader_step.Failed is h v = rested (actor.Reader r) at v

    reader_any : (b : Bool) → r.checks ≡ b → LogServed D p (Room r.block) (cond b (op.Load word.Failed) (reader_op r r.step)) code q → LeftSo (cond b (op.Load word.Failed) (reader_op r r.step)) (λ z. cond b (checked (actor.Reader r) (old_of z)) (own_took (actor.Reader r) z))
    reader_any true checks v = same _ _ v (g, reader_checked D c m g p actors seat r before at checks, refl)
    reader_any false checks v = reader_own r.step refl theirs.step v

  left : (a : Actor) → get_elem? actors seat ≡ maybe.some a → LogServed D p (lent a) (next a) code q → LeftTo (log_left g.log m.sn a) (next a) (took a)
  left (actor.User u) at v = user_any u at u.checks refl v
  left (actor.Writer s) at v = writer_any s at s.checks refl v
  left (actor.Flusher f) at v = flusher_any f at f.checks refl v
  left (actor.Closer t) at v = closer_any t at t.checks v
  left (actor.Cleaner x) at v = cleaner_any x at x.checks v
  left (actor.Checkpointer t) at v = checkpointer_any t at t.checks refl v
  left (actor.Reader r) at v = reader_any r at r.checks refl v

  abbrev pub KeptTo : List Entry → Op → (Answer → Actor) → Type 0
  KeptTo l o f = (h : LogGhost) × LogHalf D c (shared_left m o) h q (set actors seat (f (shared_answer ls (D.failed p) code (D.stable q) m o))) × (◌≡◌ {A = List Entry} (h.log) l)

  -- Whatever the actor's next Op is, its turn keeps the invariant
  pub keeps : (a : Actor) → get_elem? actors seat ≡ maybe.some a → LogServed D p (lent a) (next a) code q → KeptTo (log_left g.log m.sn a) (next a) (took a)
  keeps a at v =
      let k = left a at v in
      let free : (j : ℕ) (x : Actor) → get_elem? (set actors seat (took a (shared_answer ls (D.failed p) code (D.stable q) m (next a)))) j ≡ maybe.some x → ChecksWithoutTail x = λ j x e.
      ⊎_elim (λ t. subst ChecksWithoutTail t.1 (took_free a (shared_answer ls (D.failed p) code (D.stable q) m (next a)))) (λ t. before.without_tail j x t.1) (at_set actors seat j _ x e) in
      (k.0, k.1 (holder_stays m ls (D.failed p) code (D.stable q) link_buffer.Written actors seat a at (before.without_tail seat a at) before.advanced) free, k.2)
