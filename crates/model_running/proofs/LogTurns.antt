-- The turns of the writer, the flusher and the closer keep the page half.
use Rattle.model_core.specs.ReaderProgram.{next_block}
use Rattle.model_core.specs.{Room, Actor, Blocks, checked, closer_op, closer_took, CloserState, DataServed, Entry, flusher_op, FlusherState, Listed, lists_left, LogServed, Nothing, old_of, own_took, shared_answer, shared_left, SharedWords, writer_op, WriterState, advance_op, after, found, tail_word, wrote, reader_op, ReaderState, DataSide, LogSide, Setup}
use Rattle.std.proofs.Common.{Bool, List, arith, cond, eqb, false, refl, set, subst, true, ℕ, ◌≡◌, ◌≤◌}
use Rattle.std.specs.Prelude.{slice_index}
use lib.ListN.{get_elem?}
use mathlib.Core.Option.{some}
use Rattle.model_core.specs.declared.steps.CloserStep.{CloserStep}
use Rattle.model_core.specs.declared.steps.WriterStep.{WriterStep}
use Rattle.model_core.specs.declared.steps.FlusherStep.{FlusherStep}
use Rattle.model_core.specs.declared.steps.ReaderStep.{ReaderStep}
use Rattle.model_logcore.proofs.DeviceSteps.{can_write}
use Rattle.model_logcore.specs.{LogGhost, LogHalf}
use Rattle.model_logcore.specs.LogLaws.{LogLaws}
use Rattle.model_pagecore.proofs.CloserSteps.{keeps_closer_advance}
use Rattle.model_pagecore.proofs.PageStep.{page_quiet}
use Rattle.model_pagecore.specs.{CloserFits, PageGhost}
use Rattle.model_running.specs.Watermarks.{BothHalves}
use Rattle.model_core.specs.declared.steps.CloserStep.TheVariants as closer_step
use Rattle.model_core.specs.declared.steps.AdvanceStep.TheVariants as advance_step
use Rattle.model_core.specs.declared.words.LinkBuffer.TheVariants as link_buffer
use Rattle.model_core.specs.declared.steps.AdvanceStep.{AdvanceStep}
use Rattle.model_core.specs.declared.ops.Answer.TheVariants as answer
use Rattle.model_core.specs.States as actor
use Rattle.model_core.specs.declared.words.Word.TheVariants as word
use Rattle.model_core.specs.declared.ops.Op.TheVariants as op
use Rattle.model_core.specs.declared.steps.WriterStep.TheVariants as writer_step
use Rattle.model_core.specs.declared.steps.FlusherStep.TheVariants as flusher_step
use Rattle.model_core.specs.declared.steps.ReaderStep.TheVariants as reader_step
use Rattle.model_logcore.specs.LogFits as marks
use Rattle.model_running.proofs.PageTurn.{PageDone, as_is, laid_of, mates, pass, rested, still_part, unmoved}

module _ (D : LogSide) (L : LogLaws D) (E : DataSide) (c : Setup) (m : SharedWords) (g : LogGhost) (h : PageGhost) (ls : ℕ → List Listed) (p : D.Part) (d : E.Part) (actors : List Actor) (seat : ℕ) (both : BothHalves D E c m g h ls p d actors) (code : ℕ) (q : D.Part) (e : E.Part) where
  abbrev Kept : SharedWords → List Entry → (ℕ → List Listed) → Actor → Type 0
  Kept m' l ls' b = PageDone D E c m h actors seat p d m' l ls' b

  abbrev Done : SharedWords → List Entry → (ℕ → List Listed) → Actor → Type 0
  Done m' l ls' b = PageDone D E c m h actors seat q e m' l ls' b

  writer_page : (s : WriterState) (f : WriterStep) (x : WriterState) (k : LogGhost) → LogHalf D c (shared_left m (writer_op s f)) k q (set actors seat (actor.Writer x)) → D.stable p ≤ D.stable q → ◌≡◌ {A = E.Part} e d → Done (shared_left m (writer_op s f)) g.log ls (actor.Writer x)
  writer_page s (writer_step.Advance advance_step.LoadTail) x k after ge v = pass both seat _ (actor.Writer x) k after ge refl refl refl refl refl refl (omega arith) tt v
  writer_page s (writer_step.Advance advance_step.LoadLink) x k after ge v = pass both seat _ (actor.Writer x) k after ge refl refl refl refl refl refl (omega arith) tt v
  writer_page s (writer_step.Advance advance_step.ClearLink) x k after ge v = pass both seat _ (actor.Writer x) k after ge refl refl refl refl refl refl (omega arith) tt v
  writer_page s (writer_step.Advance advance_step.FreeTail) x k after ge v = pass both seat _ (actor.Writer x) k after ge refl refl refl refl refl refl (omega arith) tt v
  writer_page s (writer_step.Advance advance_step.TakeTail) x k after ge v = by (eqb (tail_word m.wtail m.wheld) (tail_word s.advance.tail false)) after
    where
      by : (b : Bool) → LogHalf D c (cond b (wrote m word.Wtail (tail_word s.advance.tail true)) m) k q (set actors seat (actor.Writer x)) → Done (cond b (wrote m word.Wtail (tail_word s.advance.tail true)) m) g.log ls (actor.Writer x)
      by true a = pass both seat _ (actor.Writer x) k a ge refl refl refl refl refl refl (omega arith) tt v
      by false a = pass both seat _ (actor.Writer x) k a ge refl refl refl refl refl refl (omega arith) tt v
  writer_page s writer_step.LoadCheckpoint x k after ge v = pass both seat _ (actor.Writer x) k after ge refl refl refl refl refl refl (omega arith) tt v
  writer_page s writer_step.LoadFirst x k after ge v = pass both seat _ (actor.Writer x) k after ge refl refl refl refl refl refl (omega arith) tt v
  writer_page s writer_step.ClearFirst x k after ge v = pass both seat _ (actor.Writer x) k after ge refl refl refl refl refl refl (omega arith) tt v
  writer_page s writer_step.LoadCell x k after ge v = pass both seat _ (actor.Writer x) k after ge refl refl refl refl refl refl (omega arith) tt v
  writer_page s writer_step.ClearCell x k after ge v = pass both seat _ (actor.Writer x) k after ge refl refl refl refl refl refl (omega arith) tt v
  writer_page s writer_step.GiveBroken x k after ge v = pass both seat _ (actor.Writer x) k after ge refl refl refl refl refl refl (omega arith) tt v
  writer_page s writer_step.WriteTo x k after ge v = pass both seat _ (actor.Writer x) k after ge refl refl refl refl refl refl (omega arith) tt v
  writer_page s writer_step.StoreWrite x k after ge v = pass both seat _ (actor.Writer x) k after ge refl refl refl refl refl refl (omega arith) tt v
  writer_page s writer_step.GiveDevice x k after ge v = pass both seat _ (actor.Writer x) k after ge refl refl refl refl refl refl (omega arith) tt v
  writer_page s writer_step.StoreFailed x k after ge v = pass both seat _ (actor.Writer x) k after ge refl refl refl refl refl refl (omega arith) tt v
  writer_page s writer_step.GiveFailed x k after ge v = pass both seat _ (actor.Writer x) k after ge refl refl refl refl refl refl (omega arith) tt v
  writer_page s writer_step.Failed x k after ge v = pass both seat _ (actor.Writer x) k after ge refl refl refl refl refl refl (omega arith) tt v
  writer_page s writer_step.TakeDevice x k after ge v = by (eqb m.device 0) after
    where
      by : (b : Bool) → LogHalf D c (cond b (record m { device = 1 }) m) k q (set actors seat (actor.Writer x)) → Done (cond b (record m { device = 1 }) m) g.log ls (actor.Writer x)
      by true a = pass both seat _ (actor.Writer x) k a ge refl refl refl refl refl refl (omega arith) tt v
      by false a = pass both seat _ (actor.Writer x) k a ge refl refl refl refl refl refl (omega arith) tt v

  flusher_page : (t : FlusherState) (f : FlusherStep) (x : FlusherState) (k : LogGhost) → (f ≡ flusher_step.StoreFlushed → m.flushed ≤ t.mark) → LogHalf D c (shared_left m (flusher_op t f)) k q (set actors seat (actor.Flusher x)) → D.stable p ≤ D.stable q → ◌≡◌ {A = E.Part} e d → Done (shared_left m (flusher_op t f)) g.log ls (actor.Flusher x)
  flusher_page t flusher_step.LoadWrite x k up after ge v = pass both seat _ (actor.Flusher x) k after ge refl refl refl refl refl refl (omega arith) tt v
  flusher_page t flusher_step.GiveBroken x k up after ge v = pass both seat _ (actor.Flusher x) k after ge refl refl refl refl refl refl (omega arith) tt v
  flusher_page t flusher_step.Sync x k up after ge v = pass both seat _ (actor.Flusher x) k after ge refl refl refl refl refl refl (omega arith) tt v
  flusher_page t flusher_step.StoreFlushed x k up after ge v = pass both seat _ (actor.Flusher x) k after ge refl refl refl refl refl refl (up refl) tt v
  flusher_page t flusher_step.GiveDevice x k up after ge v = pass both seat _ (actor.Flusher x) k after ge refl refl refl refl refl refl (omega arith) tt v
  flusher_page t flusher_step.StoreFailed x k up after ge v = pass both seat _ (actor.Flusher x) k after ge refl refl refl refl refl refl (omega arith) tt v
  flusher_page t flusher_step.GiveFailed x k up after ge v = pass both seat _ (actor.Flusher x) k after ge refl refl refl refl refl refl (omega arith) tt v
  flusher_page t flusher_step.Failed x k up after ge v = pass both seat _ (actor.Flusher x) k after ge refl refl refl refl refl refl (omega arith) tt v
  flusher_page t flusher_step.TakeDevice x k up after ge v = by (eqb m.device 0) after
    where
      by : (b : Bool) → LogHalf D c (cond b (record m { device = 1 }) m) k q (set actors seat (actor.Flusher x)) → Done (cond b (record m { device = 1 }) m) g.log ls (actor.Flusher x)
      by true a = pass both seat _ (actor.Flusher x) k a ge refl refl refl refl refl refl (omega arith) tt v
      by false a = pass both seat _ (actor.Flusher x) k a ge refl refl refl refl refl refl (omega arith) tt v

  reader_page : (t : ReaderState) (f : ReaderStep) (x : ReaderState) (k : LogGhost) → LogHalf D c (shared_left m (reader_op t f)) k q (set actors seat (actor.Reader x)) → D.stable p ≤ D.stable q → ◌≡◌ {A = E.Part} e d → Done (shared_left m (reader_op t f)) g.log ls (actor.Reader x)
  reader_page t reader_step.LoadFlushed x k after ge v = pass both seat _ (actor.Reader x) k after ge refl refl refl refl refl refl (omega arith) tt v
  reader_page t reader_step.GiveBroken x k after ge v = pass both seat _ (actor.Reader x) k after ge refl refl refl refl refl refl (omega arith) tt v
  reader_page t reader_step.ReadBlock x k after ge v = pass both seat _ (actor.Reader x) k after ge refl refl refl refl refl refl (omega arith) tt v
  reader_page t reader_step.StorePlace x k after ge v = pass both seat _ (actor.Reader x) k after ge refl refl refl refl refl refl (omega arith) tt v
  reader_page t reader_step.GiveDevice x k after ge v = pass both seat _ (actor.Reader x) k after ge refl refl refl refl refl refl (omega arith) tt v
  reader_page t reader_step.StoreFailed x k after ge v = pass both seat _ (actor.Reader x) k after ge refl refl refl refl refl refl (omega arith) tt v
  reader_page t reader_step.Append x k after ge v = pass both seat _ (actor.Reader x) k after ge refl refl refl refl refl refl (omega arith) tt v
  reader_page t reader_step.StoreLost x k after ge v = pass both seat _ (actor.Reader x) k after ge refl refl refl refl refl refl (omega arith) tt v
  reader_page t reader_step.GiveFailed x k after ge v = pass both seat _ (actor.Reader x) k after ge refl refl refl refl refl refl (omega arith) tt v
  reader_page t reader_step.Failed x k after ge v = pass both seat _ (actor.Reader x) k after ge refl refl refl refl refl refl (omega arith) tt v
  reader_page t reader_step.TakeDevice x k after ge v = by (eqb m.device 0) after
    where
      by : (b : Bool) → LogHalf D c (cond b (record m { device = 1 }) m) k q (set actors seat (actor.Reader x)) → Done (cond b (record m { device = 1 }) m) g.log ls (actor.Reader x)
      by true a = pass both seat _ (actor.Reader x) k a ge refl refl refl refl refl refl (omega arith) tt v
      by false a = pass both seat _ (actor.Reader x) k a ge refl refl refl refl refl refl (omega arith) tt v

  module _ (s : WriterState) (at : get_elem? actors seat ≡ some (actor.Writer s)) where
    S1 : marks.WriterFits D c m g p seat s
    S1 = both.logged.each seat (actor.Writer s) at

    writer_ge : (f : WriterStep) → marks.WriterAt D c m g p seat s f → LogServed D p (Blocks s.kept s.firsts) (writer_op s f) code q → D.stable p ≤ D.stable q
    writer_ge writer_step.WriteTo k v = let r = (L.writes c.blocks c.base g.log g.write g.target code s.kept s.firsts p q both.logged.global.part.holds (can_write D L c m g p actors seat s both.logged at k) (subst (λ (t : ℕ). D.Wrote t s.kept s.firsts code p q) S1.tail v)).stable in omega arith
    writer_ge (writer_step.Advance advance_step.LoadTail) k v = still_part D v
    writer_ge _ k v = still_part D v

    writer_stored : (f : WriterStep) → DataServed E d (Blocks s.kept s.firsts) (writer_op s f) code e → ◌≡◌ {A = E.Part} e d
    writer_stored (writer_step.Advance advance_step.LoadTail) v = v
    writer_stored _ v = v

    writer_lists : (f : WriterStep) (l : List Entry) (m' : SharedWords) (b : Actor) → Done m' l ls b → Done m' l (lists_left ls (λ i. slice_index m.lists i) (writer_op s f)) b
    writer_lists (writer_step.Advance advance_step.LoadTail) l m' b r = r
    writer_lists _ l m' b r = r

    pub writer_turn : (b : Bool) (x : WriterState) (k : LogGhost) → LogHalf D c (shared_left m (cond b (op.Load word.Failed) (writer_op s s.step))) k q (set actors seat (actor.Writer x)) → LogServed D p (Blocks s.kept s.firsts) (cond b (op.Load word.Failed) (writer_op s s.step)) code q
        → DataServed E d (Blocks s.kept s.firsts) (cond b (op.Load word.Failed) (writer_op s s.step)) code e
        → Done (shared_left m (cond b (op.Load word.Failed) (writer_op s s.step))) g.log (lists_left ls (λ i. slice_index m.lists i) (cond b (op.Load word.Failed) (writer_op s s.step))) (actor.Writer x)
    writer_turn true x k after w v = pass both seat m (actor.Writer x) k after (still_part D w) refl refl refl refl refl refl (omega arith) tt v
    writer_turn false x k after w v = writer_lists s.step g.log (shared_left m (writer_op s s.step)) (actor.Writer x) (writer_page s s.step x k after (writer_ge s.step S1.step w) (writer_stored s.step v))

  module _ (t : FlusherState) (at : get_elem? actors seat ≡ some (actor.Flusher t)) where
    T1 : marks.FlusherFits D c m g p seat t
    T1 = both.logged.each seat (actor.Flusher t) at

    synced_ge : (b : Bool) → D.stable q ≡ cond b (D.written p) (D.stable p) → D.stable p ≤ D.stable q
    synced_ge true r = let z = both.logged.global.part.stable_written in omega arith
    synced_ge false r = omega arith

    flusher_ge : (f : FlusherStep) → marks.FlusherAt D c m g p t f → LogServed D p Nothing (flusher_op t f) code q → D.stable p ≤ D.stable q
    flusher_ge flusher_step.Sync k v = synced_ge (eqb code 0) (L.syncs c.blocks c.base g.log code p q both.logged.global.part.holds k v).stable
    flusher_ge flusher_step.LoadWrite k v = still_part D v
    flusher_ge _ k v = still_part D v

    flusher_stored : (f : FlusherStep) → DataServed E d Nothing (flusher_op t f) code e → ◌≡◌ {A = E.Part} e d
    flusher_stored flusher_step.LoadWrite v = v
    flusher_stored _ v = v

    flusher_lists : (f : FlusherStep) (l : List Entry) (m' : SharedWords) (b : Actor) → Done m' l ls b → Done m' l (lists_left ls (λ i. slice_index m.lists i) (flusher_op t f)) b
    flusher_lists flusher_step.LoadWrite l m' b r = r
    flusher_lists _ l m' b r = r

    pub flusher_turn : (b : Bool) (x : FlusherState) (k : LogGhost) → LogHalf D c (shared_left m (cond b (op.Load word.Failed) (flusher_op t t.step))) k q (set actors seat (actor.Flusher x)) → LogServed D p Nothing (cond b (op.Load word.Failed) (flusher_op t t.step)) code q
        → DataServed E d Nothing (cond b (op.Load word.Failed) (flusher_op t t.step)) code e
        → Done (shared_left m (cond b (op.Load word.Failed) (flusher_op t t.step))) g.log (lists_left ls (λ i. slice_index m.lists i) (cond b (op.Load word.Failed) (flusher_op t t.step))) (actor.Flusher x)
    flusher_turn true x k after w v = pass both seat m (actor.Flusher x) k after (still_part D w) refl refl refl refl refl refl (omega arith) tt v
    flusher_turn false x k after w v = flusher_lists t.step g.log (shared_left m (flusher_op t t.step)) (actor.Flusher x) (flusher_page t t.step x k
        (λ z. let r : t.mark ≡ D.stable p = subst (marks.FlusherAt D c m g p t) z T1.step in let y = both.logged.global.part.flushed_stable in omega arith)
        after (flusher_ge t.step T1.step w) (flusher_stored t.step v))

  module _ (t : CloserState) (at : get_elem? actors seat ≡ some (actor.Closer t)) where
    TF : CloserFits E c m g.log h ls d seat t
    TF = both.paged.each seat (actor.Closer t) at

    advanced : (s : AdvanceStep) → t.step ≡ closer_step.Advance s → Kept (after (advance_op link_buffer.Closed t.advance s) m) g.log ls (actor.Closer (closer_took t (answer.Old (found (advance_op link_buffer.Closed t.advance s) m)) (closer_step.Advance s)))
    advanced s is = keeps_closer_advance E c g.seat_of m g.log (D.stable p) h ls d actors seat both.paged (mates both) (laid_of both) t at s is both.logged.sized.clinks

    closer_page : (f : CloserStep) → t.step ≡ f → Kept (shared_left m (closer_op t f)) g.log ls (actor.Closer (closer_took t (shared_answer ls (D.failed p) code (D.stable q) m (closer_op t f)) f))
    closer_page (closer_step.Advance advance_step.LoadTail) is = advanced advance_step.LoadTail is
    closer_page (closer_step.Advance advance_step.TakeTail) is = advanced advance_step.TakeTail is
    closer_page (closer_step.Advance advance_step.LoadLink) is = advanced advance_step.LoadLink is
    closer_page (closer_step.Advance advance_step.ClearLink) is = advanced advance_step.ClearLink is
    closer_page (closer_step.Advance advance_step.FreeTail) is = advanced advance_step.FreeTail is
    closer_page closer_step.Failed is = rested both seat (actor.Closer t) at

    closer_hears : (b : Bool) → Kept m g.log ls (actor.Closer (cond b (record t { checks = false }) (record t { checks = false; code = m.failed; step = closer_step.Failed })))
    closer_hears true = (h, page_quiet E c g.seat_of m g.log (D.stable p) h ls d actors seat both.paged (mates both) (actor.Closer (record t { checks = false })) (record { alone = TF.alone; loaded = TF.loaded; step = TF.step }), unmoved)
    closer_hears false = (h, page_quiet E c g.seat_of m g.log (D.stable p) h ls d actors seat both.paged (mates both) (actor.Closer (record t { checks = false; code = m.failed; step = closer_step.Failed })) (record { alone = TF.alone; loaded = TF.loaded; step = tt }), unmoved)

  pub closer_turn : (t : CloserState) → get_elem? actors seat ≡ some (actor.Closer t) → (b : Bool) → LogServed D p Nothing (cond b (op.Load word.Failed) (closer_op t t.step)) code q → DataServed E d Nothing (cond b (op.Load word.Failed) (closer_op t t.step)) code e
      → Done (shared_left m (cond b (op.Load word.Failed) (closer_op t t.step))) g.log (lists_left ls (λ i. slice_index m.lists i) (cond b (op.Load word.Failed) (closer_op t t.step)))
      (cond b (checked (actor.Closer t) (old_of (shared_answer ls (D.failed p) code (D.stable q) m (cond b (op.Load word.Failed) (closer_op t t.step))))) (own_took (actor.Closer t) (shared_answer ls (D.failed p) code (D.stable q) m (cond b (op.Load word.Failed) (closer_op t t.step)))))
  closer_turn t at true w v = as_is D E c m h actors seat p q d e _ w v (closer_hears t at (eqb m.failed 0))
  closer_turn t at false w v = by t.step refl w v
    where
      by : (f : CloserStep) → t.step ≡ f → LogServed D p Nothing (closer_op t f) code q → DataServed E d Nothing (closer_op t f) code e → Done (shared_left m (closer_op t f)) g.log (lists_left ls (λ i. slice_index m.lists i) (closer_op t f)) (actor.Closer (closer_took t (shared_answer ls (D.failed p) code (D.stable q) m (closer_op t f)) f))
      by (closer_step.Advance advance_step.LoadTail) is w v = as_is D E c m h actors seat p q d e _ w v (closer_page t at (closer_step.Advance advance_step.LoadTail) is)
      by (closer_step.Advance advance_step.TakeTail) is w v = as_is D E c m h actors seat p q d e _ w v (closer_page t at (closer_step.Advance advance_step.TakeTail) is)
      by (closer_step.Advance advance_step.LoadLink) is w v = as_is D E c m h actors seat p q d e _ w v (closer_page t at (closer_step.Advance advance_step.LoadLink) is)
      by (closer_step.Advance advance_step.ClearLink) is w v = as_is D E c m h actors seat p q d e _ w v (closer_page t at (closer_step.Advance advance_step.ClearLink) is)
      by (closer_step.Advance advance_step.FreeTail) is w v = as_is D E c m h actors seat p q d e _ w v (closer_page t at (closer_step.Advance advance_step.FreeTail) is)
      by closer_step.Failed is w v = as_is D E c m h actors seat p q d e _ w v (closer_page t at closer_step.Failed is)

  module _ (t : ReaderState) (at : get_elem? actors seat ≡ some (actor.Reader t)) where
    R1 : marks.ReaderFits D c m g p seat t
    R1 = both.logged.each seat (actor.Reader t) at

    reader_ge : (f : ReaderStep) → marks.ReaderAt D c m g p t f → LogServed D p (Room t.block) (reader_op t f) code q → D.stable p ≤ D.stable q
    reader_ge reader_step.ReadBlock k v = let r = (L.reads c.blocks c.base g.log (next_block t) code t.block p q both.logged.global.part.holds k v).stable in omega arith
    reader_ge reader_step.LoadFlushed k v = still_part D v
    reader_ge _ k v = still_part D v

    reader_stored : (f : ReaderStep) → DataServed E d (Room t.block) (reader_op t f) code e → ◌≡◌ {A = E.Part} e d
    reader_stored reader_step.LoadFlushed v = v
    reader_stored _ v = v

    reader_lists : (f : ReaderStep) (l : List Entry) (m' : SharedWords) (b : Actor) → Done m' l ls b → Done m' l (lists_left ls (λ i. slice_index m.lists i) (reader_op t f)) b
    reader_lists reader_step.LoadFlushed l m' b r = r
    reader_lists _ l m' b r = r

    pub reader_turn : (b : Bool) (x : ReaderState) (k : LogGhost) → LogHalf D c (shared_left m (cond b (op.Load word.Failed) (reader_op t t.step))) k q (set actors seat (actor.Reader x)) → LogServed D p (Room t.block) (cond b (op.Load word.Failed) (reader_op t t.step)) code q
        → DataServed E d (Room t.block) (cond b (op.Load word.Failed) (reader_op t t.step)) code e
        → Done (shared_left m (cond b (op.Load word.Failed) (reader_op t t.step))) g.log (lists_left ls (λ i. slice_index m.lists i) (cond b (op.Load word.Failed) (reader_op t t.step))) (actor.Reader x)
    reader_turn true x k after w v = pass both seat m (actor.Reader x) k after (still_part D w) refl refl refl refl refl refl (omega arith) tt v
    reader_turn false x k after w v = reader_lists t.step g.log (shared_left m (reader_op t t.step)) (actor.Reader x) (reader_page t t.step x k after (reader_ge t.step R1.step w) (reader_stored t.step v))
