-- The checkpointer's turn keeps the page half.
use Rattle.std.proofs.Common.{Bool, List, ap, arith, cond, eqb, eqb-true, false, refl, set, sym, true, ℕ, ◌≡◌, ◌≤◌}
use Rattle.std.specs.Prelude.{None, slice_index, slice_set}
use lib.ListN.{get_elem?}
use mathlib.Core.Option.{some}
use Rattle.model_core.specs.{Actor, checked, checkpointer_op, checkpointer_took, CheckpointerState, DataServed, Entry, Listed, lists_left, LogServed, Nothing, old_of, oldest_end, own_took, shared_answer, shared_left, SharedWords, DataSide, LogSide, Setup}
use Rattle.model_core.specs.declared.steps.CheckpointerStep.{CheckpointerStep}
use Rattle.model_logcore.specs.{LogGhost, LogHalf}
use Rattle.model_logcore.specs.LogLaws.{LogLaws}
use Rattle.model_pagecore.proofs.ListSteps.{keeps_oldest_end}
use Rattle.model_pagecore.proofs.CheckpointSteps.{keeps_begin, keeps_candidate, keeps_next_list, keeps_place_bound, keeps_promise}
use Rattle.model_pagecore.specs.{CheckpointerPageFits, CheckpointerPagesAt, PageGhost, rests}
use Rattle.model_pagecore.specs.DataLaws.{DataLaws}
use Rattle.model_running.specs.Watermarks.{BothHalves}
use Rattle.model_core.specs.declared.ops.Answer.TheVariants as answer
use Rattle.model_core.specs.declared.steps.CheckpointerStep.TheVariants as checkpointer_step
use Rattle.model_core.specs.States as actor
use Rattle.model_core.specs.declared.words.Word.TheVariants as word
use Rattle.model_core.specs.declared.ops.Op.TheVariants as op
use Rattle.model_running.proofs.CallConditions.{can_checkpoint}
use Rattle.model_running.proofs.PageTurn.{PageDone, as_is, away, laid_of, mates, pass, rested, unmoved}

module _ (D : LogSide) (L : LogLaws D) (E : DataSide) (EL : DataLaws E) (c : Setup) (m : SharedWords) (g : LogGhost) (h : PageGhost) (ls : ℕ → List Listed) (p : D.Part) (d : E.Part) (actors : List Actor) (seat : ℕ) (both : BothHalves D E c m g h ls p d actors) (code : ℕ) (q : D.Part) (e : E.Part) where
  abbrev Kept : SharedWords → List Entry → (ℕ → List Listed) → Actor → Type 0
  Kept m' l ls' b = PageDone D E c m h actors seat p d m' l ls' b

  abbrev Done : SharedWords → List Entry → (ℕ → List Listed) → Actor → Type 0
  Done m' l ls' b = PageDone D E c m h actors seat q e m' l ls' b

  module _ (t : CheckpointerState) (at : get_elem? actors seat ≡ some (actor.Checkpointer t)) where
    PF : CheckpointerPageFits E c m g.log h ls d seat t
    PF = both.paged.each seat (actor.Checkpointer t) at

    abbrev at_pages : CheckpointerStep → Type 0
    at_pages f = CheckpointerPagesAt E c m g.log h ls d seat t f

    moves : (m' : SharedWords) (y : CheckpointerState) → CheckpointerPageFits E c m' g.log h ls d seat y → m'.page_words ≡ m.page_words → m'.lists ≡ m.lists → m'.clinks ≡ m.clinks → m'.ctail ≡ m.ctail → m'.cheld ≡ m.cheld → m.sn ≡ m'.sn → m.flushed ≡ m'.flushed → Kept m' g.log ls (actor.Checkpointer y)
    moves m' y f e1 e2 e3 e4 e5 e6 e7 = (h, away both seat m' (actor.Checkpointer y) f e1 e2 e3 e4 e5 e6 e7, unmoved)

    list_read : (b : Bool) → eqb (slice_index m.lists t.list) 0 ≡ b → t.step ≡ checkpointer_step.ReadList → at_pages checkpointer_step.ReadList
        → Kept (cond b (record m { lists = slice_set m.lists t.list 1 }) m) g.log ls (actor.Checkpointer (checkpointer_took t (cond b (answer.Taken (oldest_end (ls t.list))) answer.Held) checkpointer_step.ReadList))
    list_read true k is o = keeps_oldest_end E c g.seat_of m g.log (D.stable p) h ls d actors seat both.paged (mates both) (laid_of both) t at ls (λ i. refl) both.logged.sized.lists (eqb-true (slice_index m.lists t.list) 0 k) is
    list_read false k is o = moves m (record t { checks = true; step = checkpointer_step.ReadList }) (record { alone = PF.alone; with_pages = PF.with_pages; loaded = PF.loaded; given = λ _. PF.given (ap rests is); step = o }) refl refl refl refl refl refl refl

    seize_by : (b k : Bool) → t.step ≡ checkpointer_step.TakeDevice → at_pages checkpointer_step.TakeDevice
        → Kept (cond b (record m { device = 1 }) m) g.log ls (actor.Checkpointer (checkpointer_took t (cond b (cond k answer.Broken (answer.Taken None)) answer.Held) checkpointer_step.TakeDevice))
    seize_by true true is o = moves (record m { device = 1 }) (record t { checks = false; step = checkpointer_step.GiveBroken }) (record { alone = PF.alone; with_pages = PF.with_pages; loaded = PF.loaded; given = λ _. PF.given (ap rests is); step = o }) refl refl refl refl refl refl refl
    seize_by true false is o = keeps_promise E c g.seat_of m g.log (D.stable p) h ls d actors seat both.paged (mates both) (laid_of both) t at is
    seize_by false k is o = moves m (record t { checks = true; step = checkpointer_step.TakeDevice }) (record { alone = PF.alone; with_pages = PF.with_pages; loaded = PF.loaded; given = λ _. PF.given (ap rests is); step = o }) refl refl refl refl refl refl refl

    called_it : (b : Bool) → at_pages checkpointer_step.Checkpoint → (k : LogGhost) → LogHalf D c m k q (set actors seat (actor.Checkpointer (checkpointer_took t (cond b (answer.Called 0) (answer.Failed code)) checkpointer_step.Checkpoint))) → D.stable p ≤ D.stable q → ◌≡◌ {A = E.Part} e d
        → Done m g.log ls (actor.Checkpointer (checkpointer_took t (cond b (answer.Called 0) (answer.Failed code)) checkpointer_step.Checkpoint))
    called_it true o k after ge v = pass both seat m (actor.Checkpointer (record t { code = 0; step = checkpointer_step.StoreCheckpoint })) k after ge refl refl refl refl refl refl (omega arith) (record { alone = PF.alone; with_pages = PF.with_pages; loaded = PF.loaded; given = λ z. absurd (cc); step = o.1 }) v
    called_it false o k after ge v = pass both seat m (actor.Checkpointer (record t { code = code; step = checkpointer_step.StoreFailed })) k after ge refl refl refl refl refl refl (omega arith) (record { alone = PF.alone; with_pages = PF.with_pages; loaded = PF.loaded; given = λ z. absurd (cc); step = tt }) v

    -- every step but the call
    checkpointer_page : (f : CheckpointerStep) → (f ≡ checkpointer_step.Checkpoint → ⊥) → t.step ≡ f → at_pages f
        → Kept (shared_left m (checkpointer_op t f)) g.log (lists_left ls (λ i. slice_index m.lists i) (checkpointer_op t f)) (actor.Checkpointer (checkpointer_took t (shared_answer ls (D.failed p) code (D.stable q) m (checkpointer_op t f)) f))
    checkpointer_page checkpointer_step.LoadCtail n is o = (h, keeps_begin E c g.seat_of m g.log (D.stable p) h ls d actors seat both.paged (mates both) (laid_of both) t at is, unmoved)
    checkpointer_page checkpointer_step.LoadPlace n is o = (h, keeps_place_bound E c g.seat_of m g.log (D.stable p) h ls d actors seat both.paged (mates both) (laid_of both) t at is (slice_index m.places t.reader), unmoved)
    checkpointer_page checkpointer_step.ReadList n is o = list_read (eqb (slice_index m.lists t.list) 0) refl is o
    checkpointer_page checkpointer_step.GiveList n is o = (h, keeps_next_list E c g.seat_of m g.log (D.stable p) h ls d actors seat both.paged (mates both) (laid_of both) t at both.logged.sized.lists is, unmoved)
    checkpointer_page checkpointer_step.LoadFlushed n is o = (h, keeps_candidate E c g.seat_of m g.log (D.stable p) h ls d actors seat both.paged (mates both) (laid_of both) t at is, unmoved)
    checkpointer_page checkpointer_step.TakeDevice n is o = seize_by (eqb m.device 0) (D.failed p) is o
    checkpointer_page checkpointer_step.GiveBroken n is o = moves (record m { device = 0 }) (record t { checks = true; step = checkpointer_step.TakeDevice }) (record { alone = PF.alone; with_pages = PF.with_pages; loaded = PF.loaded; given = λ _. PF.given (ap rests is); step = o }) refl refl refl refl refl refl refl
    checkpointer_page checkpointer_step.Checkpoint n is o = absurd (n refl)
    checkpointer_page checkpointer_step.StoreCheckpoint n is o = moves (record m { ckpt = t.to }) (record t { own = t.to; step = checkpointer_step.GiveDevice }) (record { alone = PF.alone; with_pages = PF.with_pages; loaded = PF.loaded; given = λ _. sym o; step = tt }) refl refl refl refl refl refl refl
    checkpointer_page checkpointer_step.GiveDevice n is o = moves (record m { device = 0 }) (record t { step = checkpointer_step.LoadCtail }) (record { alone = PF.alone; with_pages = PF.with_pages; loaded = PF.loaded; given = λ _. PF.given (ap rests is); step = tt }) refl refl refl refl refl refl refl
    checkpointer_page checkpointer_step.StoreFailed n is o = moves (record m { failed = t.code }) (record t { step = checkpointer_step.GiveFailed }) (record { alone = PF.alone; with_pages = PF.with_pages; loaded = PF.loaded; given = λ z. absurd (cc); step = tt }) refl refl refl refl refl refl refl
    checkpointer_page checkpointer_step.GiveFailed n is o = moves (record m { device = 0 }) (record t { step = checkpointer_step.Failed }) (record { alone = PF.alone; with_pages = PF.with_pages; loaded = PF.loaded; given = λ z. absurd (cc); step = tt }) refl refl refl refl refl refl refl
    checkpointer_page checkpointer_step.Failed n is o = rested both seat (actor.Checkpointer t) at

    checkpointer_hears : (b : Bool) → Kept m g.log ls (actor.Checkpointer (cond b (record t { checks = false }) (record t { checks = false; code = m.failed; step = checkpointer_step.Failed })))
    checkpointer_hears true = moves m (record t { checks = false }) (record { alone = PF.alone; with_pages = PF.with_pages; loaded = PF.loaded; given = PF.given; step = PF.step }) refl refl refl refl refl refl refl
    checkpointer_hears false = moves m (record t { checks = false; code = m.failed; step = checkpointer_step.Failed }) (record { alone = PF.alone; with_pages = PF.with_pages; loaded = PF.loaded; given = λ z. absurd (cc); step = tt }) refl refl refl refl refl refl refl

  pub checkpointer_turn : (t : CheckpointerState) → get_elem? actors seat ≡ some (actor.Checkpointer t) → (b : Bool) → LogServed D p Nothing (cond b (op.Load word.Failed) (checkpointer_op t t.step)) code q → DataServed E d Nothing (cond b (op.Load word.Failed) (checkpointer_op t t.step)) code e
      → (k : LogGhost) → LogHalf D c (shared_left m (cond b (op.Load word.Failed) (checkpointer_op t t.step))) k q (set actors seat (cond b (checked (actor.Checkpointer t) (old_of (shared_answer ls (D.failed p) code (D.stable q) m (cond b (op.Load word.Failed) (checkpointer_op t t.step))))) (own_took (actor.Checkpointer t) (shared_answer ls (D.failed p) code (D.stable q) m (cond b (op.Load word.Failed) (checkpointer_op t t.step))))))
      → Done (shared_left m (cond b (op.Load word.Failed) (checkpointer_op t t.step))) g.log (lists_left ls (λ i. slice_index m.lists i) (cond b (op.Load word.Failed) (checkpointer_op t t.step)))
      (cond b (checked (actor.Checkpointer t) (old_of (shared_answer ls (D.failed p) code (D.stable q) m (cond b (op.Load word.Failed) (checkpointer_op t t.step))))) (own_took (actor.Checkpointer t) (shared_answer ls (D.failed p) code (D.stable q) m (cond b (op.Load word.Failed) (checkpointer_op t t.step)))))
  checkpointer_turn t at true w v k after = as_is D E c m h actors seat p q d e _ w v (checkpointer_hears t at (eqb m.failed 0))
  checkpointer_turn t at false w v k after = by t.step refl (PF t at).step w v k after
    where
      by : (f : CheckpointerStep) → t.step ≡ f → CheckpointerPagesAt E c m g.log h ls d seat t f → LogServed D p Nothing (checkpointer_op t f) code q → DataServed E d Nothing (checkpointer_op t f) code e → (k : LogGhost)
          → LogHalf D c (shared_left m (checkpointer_op t f)) k q (set actors seat (actor.Checkpointer (checkpointer_took t (shared_answer ls (D.failed p) code (D.stable q) m (checkpointer_op t f)) f)))
          → Done (shared_left m (checkpointer_op t f)) g.log (lists_left ls (λ i. slice_index m.lists i) (checkpointer_op t f)) (actor.Checkpointer (checkpointer_took t (shared_answer ls (D.failed p) code (D.stable q) m (checkpointer_op t f)) f))
      by checkpointer_step.Checkpoint is o w v k after = called_it t at (eqb code 0) o k after (let r = (L.checkpoints c.blocks c.base g.log t.to code p q both.logged.global.part.holds (can_checkpoint D L E EL c m g h ls p d actors seat both t at is) w).stable in omega arith) v
      by checkpointer_step.LoadCtail is o w v k after = as_is D E c m h actors seat p q d e _ w v (checkpointer_page t at checkpointer_step.LoadCtail (λ z. absurd (cc)) is o)
      by checkpointer_step.LoadPlace is o w v k after = as_is D E c m h actors seat p q d e _ w v (checkpointer_page t at checkpointer_step.LoadPlace (λ z. absurd (cc)) is o)
      by checkpointer_step.ReadList is o w v k after = as_is D E c m h actors seat p q d e _ w v (checkpointer_page t at checkpointer_step.ReadList (λ z. absurd (cc)) is o)
      by checkpointer_step.GiveList is o w v k after = as_is D E c m h actors seat p q d e _ w v (checkpointer_page t at checkpointer_step.GiveList (λ z. absurd (cc)) is o)
      by checkpointer_step.LoadFlushed is o w v k after = as_is D E c m h actors seat p q d e _ w v (checkpointer_page t at checkpointer_step.LoadFlushed (λ z. absurd (cc)) is o)
      by checkpointer_step.TakeDevice is o w v k after = as_is D E c m h actors seat p q d e _ w v (checkpointer_page t at checkpointer_step.TakeDevice (λ z. absurd (cc)) is o)
      by checkpointer_step.GiveBroken is o w v k after = as_is D E c m h actors seat p q d e _ w v (checkpointer_page t at checkpointer_step.GiveBroken (λ z. absurd (cc)) is o)
      by checkpointer_step.StoreCheckpoint is o w v k after = as_is D E c m h actors seat p q d e _ w v (checkpointer_page t at checkpointer_step.StoreCheckpoint (λ z. absurd (cc)) is o)
      by checkpointer_step.GiveDevice is o w v k after = as_is D E c m h actors seat p q d e _ w v (checkpointer_page t at checkpointer_step.GiveDevice (λ z. absurd (cc)) is o)
      by checkpointer_step.StoreFailed is o w v k after = as_is D E c m h actors seat p q d e _ w v (checkpointer_page t at checkpointer_step.StoreFailed (λ z. absurd (cc)) is o)
      by checkpointer_step.GiveFailed is o w v k after = as_is D E c m h actors seat p q d e _ w v (checkpointer_page t at checkpointer_step.GiveFailed (λ z. absurd (cc)) is o)
      by checkpointer_step.Failed is o w v k after = as_is D E c m h actors seat p q d e _ w v (checkpointer_page t at checkpointer_step.Failed (λ z. absurd (cc)) is o)
