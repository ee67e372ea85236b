-- The cleaner's turn keeps the page half.
use Rattle.std.proofs.Common.{Bool, List, [], ap, arith, cond, eq-eqb, eqb, eqb-true, false, ne_eqb, refl, set, subst, suc, sym, true, ℕ, ◌%◌, ◌≡◌}
use Rattle.std.proofs.lemmas.Bool.{eqb-false}
use Rattle.std.specs.Prelude.{None, slice_index, slice_set}
use lib.ListN.{get_elem?}
use mathlib.Core.Option.{some}
use Rattle.model_core.specs.{Actor, Batch, BatchPage, checked, cleaner_op, cleaner_took, CleanerState, DataServed, Entry, first_of_batch, Listed, lists_left, LogServed, next_in_round, old_of, own_took, page_words_at, shared_answer, shared_left, SharedWords, with_page_words, without, DataSide, LogSide, Setup}
use Rattle.model_core.specs.declared.steps.CleanerStep.{CleanerStep}
use Rattle.model_logcore.specs.{LogGhost}
use Rattle.model_logcore.specs.LogLaws.{LogLaws}
use Rattle.model_pagecore.proofs.BatchSteps.{keeps_unwritten, keeps_written}
use Rattle.model_pagecore.proofs.ListSteps.{keeps_remove}
use Rattle.model_pagecore.proofs.CleanerSteps.{keeps_held, keeps_latched, keeps_load, keeps_load_flushed, keeps_read_newest, keeps_seen, keeps_skip}
use Rattle.model_pagecore.proofs.Holders.{cleaner_still_holds}
use Rattle.model_pagecore.proofs.PageFrame.{cleaner_later, pages_same}
use Rattle.model_pagecore.proofs.CheckpointSteps.{front_of, keeps_cleared, keeps_freed, keeps_given, keeps_list_held}
use Rattle.model_pagecore.proofs.PageStep.{page_quiet}
use Rattle.model_pagecore.specs.{AfterBatch, CleanerAt, CleanerFits, Grows, PageGhost, renewed}
use Rattle.model_pagecore.specs.DataLaws.{DataLaws}
use Rattle.model_pagecore.specs.PageHalf.{PageHalf}
use Rattle.model_running.specs.Watermarks.{BothHalves}
use Rattle.model_core.specs.declared.ops.Answer.TheVariants as answer
use Rattle.model_core.specs.declared.steps.CleanerStep.TheVariants as cleaner_step
use Rattle.model_core.specs.States as actor
use Rattle.model_core.specs.declared.words.Word.TheVariants as word
use Rattle.model_core.specs.declared.ops.Op.TheVariants as op
use Rattle.model_running.proofs.CallConditions.{after_batch}
use Rattle.model_running.proofs.LatchesKeep.{held_by}
use Rattle.model_running.proofs.PageTurn.{PageDone, as_is, away, laid_of, lists_kept, mates, rested, unmoved}

module _ (D : LogSide) (L : LogLaws D) (E : DataSide) (EL : DataLaws E) (c : Setup) (m : SharedWords) (g : LogGhost) (h : PageGhost) (ls : ℕ → List Listed) (p : D.Part) (d : E.Part) (actors : List Actor) (seat : ℕ) (both : BothHalves D E c m g h ls p d actors) (code : ℕ) (q : D.Part) (e : E.Part) where
  abbrev Done : SharedWords → List Entry → (ℕ → List Listed) → Actor → Type 0
  Done m' l ls' b = PageDone D E c m h actors seat q e m' l ls' b

  module _ (x : CleanerState) (at : get_elem? actors seat ≡ some (actor.Cleaner x)) where
    XF : CleanerFits E c m g.log h ls d seat x
    XF = both.paged.each seat (actor.Cleaner x) at

    latched_by : (b : Bool) → eqb (page_words_at m.page_words x.page).latch 0 ≡ b → x.step ≡ cleaner_step.TakeLatch → ◌≡◌ {A = D.Part} q p → ◌≡◌ {A = E.Part} e d
        → Done (cond b (with_page_words m x.page (record (page_words_at m.page_words x.page) { latch = 1 })) m) g.log ls (actor.Cleaner (cond b (record x { step = cleaner_step.LoadNewest }) (next_in_round x)))
    latched_by true k is s v = as_is D E c m h actors seat p q d e _ s v (keeps_latched E c g.seat_of m g.log (D.stable p) h ls d actors seat both.paged (mates both) (laid_of both) x at both.logged.sized.page_words is (eqb-true (page_words_at m.page_words x.page).latch 0 k))
    latched_by false k is s v = as_is D E c m h actors seat p q d e _ s v (h, keeps_held E c g.seat_of m g.log (D.stable p) h ls d actors seat both.paged (mates both) (laid_of both) x at is, unmoved)

    called_by : (b : Bool) → eqb code 0 ≡ b → x.step ≡ cleaner_step.WriteBatch → ◌≡◌ {A = D.Part} q p → E.Batched x.batch code d e → Done m g.log ls (actor.Cleaner (cleaner_took x (cond b (answer.Called 0) (answer.Failed code)) cleaner_step.WriteBatch))
    called_by b k is s v = by b k
      where
        A : AfterBatch E h.kept_page x.batch code d e
        A = after_batch D L E EL c m g h ls p d actors seat both x at is code e v

        holds_by : (b : Bool) → eqb code 0 ≡ b → E.Holds (cond b (renewed h.kept_page x.batch) h.kept_page) (cond b [] x.batch) e
        holds_by b k = subst (λ (z : Bool). E.Holds (cond z (renewed h.kept_page x.batch) h.kept_page) (cond z [] x.batch) e) k A.holds

        by : (b : Bool) → eqb code 0 ≡ b → Done m g.log ls (actor.Cleaner (cleaner_took x (cond b (answer.Called 0) (answer.Failed code)) cleaner_step.WriteBatch))
        by true k = subst (λ (y : D.Part). PageDone D E c m h actors seat y e m g.log ls (actor.Cleaner (record x { code = 0; step = cleaner_step.RemoveFromList }))) (sym s) (keeps_written E c g.seat_of m g.log (D.stable p) h ls d actors seat both.paged (mates both) (laid_of both) x at is e (A.sound (eqb-true code 0 k)) (holds_by true k))
        by false k = subst (λ (y : D.Part). PageDone D E c m h actors seat y e m g.log ls (actor.Cleaner (record x { code = code; step = cleaner_step.StoreFailed }))) (sym s) (keeps_unwritten E c g.seat_of m g.log (D.stable p) h ls d actors seat both.paged (mates both) (laid_of both) x at is code e (A.cause (let n = eqb-false code 0 k in omega arith)) (holds_by false k))

    removed_by : (b : Bool) → eqb (slice_index m.lists (first_of_batch x % 4)) 0 ≡ b → x.step ≡ cleaner_step.RemoveFromList → ◌≡◌ {A = D.Part} q p → ◌≡◌ {A = E.Part} e d
        → Done (cond b (record m { lists = slice_set m.lists (first_of_batch x % 4) 1 }) m) g.log (λ i. cond (eqb i (first_of_batch x % 4)) (cond b (without (first_of_batch x) (ls i)) (ls i)) (ls i)) (actor.Cleaner (cleaner_took x (cond b (answer.Taken None) answer.Held) cleaner_step.RemoveFromList))
    removed_by true k is s v =
        let o : CleanerAt E c m g.log h ls d seat x cleaner_step.RemoveFromList = subst (CleanerAt E c m g.log h ls d seat x) is XF.step in
        let r = front_of x.batch o.0.3 in
        as_is D E c m h actors seat p q d e _ s v (keeps_remove E c g.seat_of m g.log (D.stable p) h ls d actors seat both.paged (mates both) (laid_of both) x at (λ i. cond (eqb i (first_of_batch x % 4)) (without (first_of_batch x) (ls i)) (ls i))
        (ap (λ (z : Bool). cond z (without (first_of_batch x) (ls (first_of_batch x % 4))) (ls (first_of_batch x % 4))) (eq-eqb (first_of_batch x % 4) (first_of_batch x % 4) refl))
        (λ i n. ap (λ (z : Bool). cond z (without (first_of_batch x) (ls i)) (ls i)) (ne_eqb i (first_of_batch x % 4) n))
        both.logged.sized.lists (eqb-true (slice_index m.lists (first_of_batch x % 4)) 0 k) is r.0 r.1 (ap (λ (y : BatchPage). y.page) r.2))
    removed_by false k is s v = as_is D E c m h actors seat p q d e _ s v (subst (λ (z : ℕ → List Listed). (n : PageGhost) × PageHalf E c m g.log (D.stable p) n z d (set actors seat (actor.Cleaner (record x { checks = true; step = cleaner_step.RemoveFromList }))) × Grows m h n) (lists_kept ls (first_of_batch x % 4)) (h, keeps_list_held E c g.seat_of m g.log (D.stable p) h ls d actors seat both.paged (mates both) (laid_of both) x at is, unmoved))

    -- it has failed, and holds what it held
    dead_fits : (n : ℕ) (checks : Bool) → CleanerFits E c m g.log h ls d seat (record x { checks = checks; code = n; step = cleaner_step.Failed })
    dead_fits n checks = record { alone = XF.alone; pages = XF.pages; page_size = XF.page_size; slots = XF.slots; page = XF.page; flushed = XF.flushed; sound = λ z. absurd (cc); apart = XF.apart; few = XF.few; cause = λ z. absurd (cc); step = cleaner_still_holds E c m g.log h ls d seat x x.step (held_by D E c m g h ls p d actors seat both (actor.Cleaner x) at) XF.step }

    -- so too once it has stored its code
    stored_fits : (n : ℕ) (checks : Bool) → CleanerFits E c (record m { failed = n }) g.log h ls d seat (record x { checks = checks; code = n; step = cleaner_step.Failed })
    stored_fits n checks = cleaner_later E c g.seat_of m (record m { failed = n }) g.log g.log h h ls ls d d (suc seat) seat (λ z. omega arith)
        (pages_same refl refl refl refl (omega arith)) (record x { checks = checks; code = n; step = cleaner_step.Failed }) (record { kept_page = λ _. refl; oldest = λ q z. z; store = refl; unfinished = refl }) (dead_fits n checks)

    cleaner_page : (f : CleanerStep) → x.step ≡ f → ◌≡◌ {A = D.Part} q p → DataServed E d (Batch x.batch) (cleaner_op x f) code e
        → Done (shared_left m (cleaner_op x f)) g.log (lists_left ls (λ i. slice_index m.lists i) (cleaner_op x f)) (actor.Cleaner (cleaner_took x (shared_answer ls (D.failed p) code (D.stable q) m (cleaner_op x f)) f))
    cleaner_page cleaner_step.LoadFlushed is s v = as_is D E c m h actors seat p q d e _ s v (h, keeps_load_flushed E c g.seat_of m g.log (D.stable p) h ls d actors seat both.paged (mates both) (laid_of both) x at both.script.slots is, unmoved)
    cleaner_page cleaner_step.LoadOldest is s v = as_is D E c m h actors seat p q d e _ s v (h, keeps_seen E c g.seat_of m g.log (D.stable p) h ls d actors seat both.paged (mates both) (laid_of both) x at is, unmoved)
    cleaner_page cleaner_step.TakeLatch is s v = latched_by (eqb (page_words_at m.page_words x.page).latch 0) refl is s v
    cleaner_page cleaner_step.LoadNewest is s v = as_is D E c m h actors seat p q d e _ s v (h, keeps_read_newest E c g.seat_of m g.log (D.stable p) h ls d actors seat both.paged (mates both) (laid_of both) x at both.script.page_size is, unmoved)
    cleaner_page cleaner_step.ReleaseSkipped is s v = as_is D E c m h actors seat p q d e _ s v (h, keeps_skip E c g.seat_of m g.log (D.stable p) h ls d actors seat both.paged (mates both) (laid_of both) x at both.logged.sized.page_words is, unmoved)
    cleaner_page cleaner_step.LoadFrame is s v = as_is D E c m h actors seat p q d e _ s v (h, keeps_load E c g.seat_of m g.log (D.stable p) h ls d actors seat both.paged (mates both) (laid_of both) x at both.script.page_size both.logged.sized.frames is, unmoved)
    cleaner_page cleaner_step.WriteBatch is s v = called_by (eqb code 0) refl is s v
    cleaner_page cleaner_step.RemoveFromList is s v = removed_by (eqb (slice_index m.lists (first_of_batch x % 4)) 0) refl is s v
    cleaner_page cleaner_step.ClearOldest is s v = as_is D E c m h actors seat p q d e _ s v (h, keeps_cleared E c g.seat_of m g.log (D.stable p) h ls d actors seat both.paged (mates both) (laid_of both) x at both.logged.sized.page_words is, unmoved)
    cleaner_page cleaner_step.GiveList is s v = as_is D E c m h actors seat p q d e _ s v (h, keeps_given E c g.seat_of m g.log (D.stable p) h ls d actors seat both.paged (mates both) (laid_of both) x at both.logged.sized.lists is, unmoved)
    cleaner_page cleaner_step.ReleaseLatch is s v = as_is D E c m h actors seat p q d e _ s v (h, keeps_freed E c g.seat_of m g.log (D.stable p) h ls d actors seat both.paged (mates both) (laid_of both) x at both.logged.sized.page_words is, unmoved)
    cleaner_page cleaner_step.StoreFailed is s v = as_is D E c m h actors seat p q d e _ s v (h, away both seat (record m { failed = x.code }) (actor.Cleaner (record x { step = cleaner_step.Failed })) (stored_fits x.code x.checks) refl refl refl refl refl refl refl, unmoved)
    cleaner_page cleaner_step.Failed is s v = as_is D E c m h actors seat p q d e _ s v (rested both seat (actor.Cleaner x) at)

    cleaner_hears : (b : Bool) → ◌≡◌ {A = D.Part} q p → ◌≡◌ {A = E.Part} e d → Done m g.log ls (actor.Cleaner (cond b (record x { checks = false }) (record x { checks = false; code = m.failed; step = cleaner_step.Failed })))
    cleaner_hears true s v = as_is D E c m h actors seat p q d e _ s v (h, page_quiet E c g.seat_of m g.log (D.stable p) h ls d actors seat both.paged (mates both) (actor.Cleaner (record x { checks = false })) (record { alone = XF.alone; pages = XF.pages; page_size = XF.page_size; slots = XF.slots; page = XF.page; flushed = XF.flushed; sound = XF.sound; apart = XF.apart; few = XF.few; cause = XF.cause; step = XF.step }), unmoved)
    cleaner_hears false s v = as_is D E c m h actors seat p q d e _ s v (h, page_quiet E c g.seat_of m g.log (D.stable p) h ls d actors seat both.paged (mates both) (actor.Cleaner (record x { checks = false; code = m.failed; step = cleaner_step.Failed })) (dead_fits m.failed false), unmoved)

  pub cleaner_turn : (x : CleanerState) → get_elem? actors seat ≡ some (actor.Cleaner x) → (b : Bool) → LogServed D p (Batch x.batch) (cond b (op.Load word.Failed) (cleaner_op x x.step)) code q → DataServed E d (Batch x.batch) (cond b (op.Load word.Failed) (cleaner_op x x.step)) code e
      → Done (shared_left m (cond b (op.Load word.Failed) (cleaner_op x x.step))) g.log (lists_left ls (λ i. slice_index m.lists i) (cond b (op.Load word.Failed) (cleaner_op x x.step)))
      (cond b (checked (actor.Cleaner x) (old_of (shared_answer ls (D.failed p) code (D.stable q) m (cond b (op.Load word.Failed) (cleaner_op x x.step))))) (own_took (actor.Cleaner x) (shared_answer ls (D.failed p) code (D.stable q) m (cond b (op.Load word.Failed) (cleaner_op x x.step)))))
  cleaner_turn x at true w v = cleaner_hears x at (eqb m.failed 0) w v
  cleaner_turn x at false w v = cleaner_page x at x.step refl (served x.step w) v
    where
      served : (f : CleanerStep) → LogServed D p (Batch x.batch) (cleaner_op x f) code q → ◌≡◌ {A = D.Part} q p
      served cleaner_step.LoadFlushed w = w
      served _ w = w
