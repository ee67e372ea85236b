-- Each turn keeps a holder for each latch that is held.
use Rattle.std.proofs.Common.{Bool, List, ap, arith, cond, eqb, eqb-true, false, get_or-set_other, get_or-set_same, inl, inr, length, refl, set, subst, sym, true, ℕ, ⊎_elim, ◌%◌, ◌+◌, ◌<◌, ◌∙◌, ◌≡◌, ◌≢◌}
use Rattle.std.specs.Prelude.{slice_index, slice_set}
use lib.ListN.{get_elem?}
use mathlib.Core.Option.{some, some-injective}
use native.Mathlib.Decide.{ℕ_discrete}
use Rattle.model_core.proofs.Lists.{set_at, set_else}
use Rattle.model_core.specs.{Actor, Advance, advance_op, blank_words, changes, checked_of, checkpointer_op, CheckpointerState, cleaner_op, cleaner_program, cleaner_took, CleanerState, closer_op, CloserState, current_page, Entry, first_of_batch, flusher_op, FlusherState, frame_word, group_end, heard, Listed, lsn, next, next_in_round, old_of, page_words_at, PageWords, read, shared_answer, shared_left, SharedWords, stored_word, tail_word, took, user_op, user_program, user_took, UserState, with_page_words, writer_op, WriterState, wrote, reader_op, ReaderState, DataSide, LogSide, Setup}
use Rattle.model_core.specs.declared.ops.Answer.{Answer}
use Rattle.model_core.specs.declared.ops.Op.{Op}
use Rattle.model_core.specs.declared.steps.CheckpointerStep.{CheckpointerStep}
use Rattle.model_core.specs.declared.steps.CleanerStep.{CleanerStep}
use Rattle.model_core.specs.declared.steps.CloserStep.{CloserStep}
use Rattle.model_core.specs.declared.steps.FlusherStep.{FlusherStep}
use Rattle.model_core.specs.declared.steps.ReaderStep.{ReaderStep}
use Rattle.model_core.specs.declared.steps.UserStep.{UserStep}
use Rattle.model_core.specs.declared.steps.WriterStep.{WriterStep}
use Rattle.model_logcore.specs.{LogGhost}
use Rattle.model_pagecore.specs.{CleanerFits, CleanerHasLatch, Grows, HasLatch, HoldsOnly, PageFits, PageGhost, UserHasLatch, UserPageFits, UserPagesAt}
use Rattle.model_pagecore.specs.PageHalf.{PageHalf}
use Rattle.model_running.proofs.LatchSteps.{cleaner_goes, cleaner_hears, latch_taken, user_goes, user_hears}
use Rattle.model_running.specs.Watermarks.{LatchesAreHeld, BothHalves}
use Rattle.model_core.specs.declared.steps.AdvanceStep.TheVariants as advance_step
use Rattle.model_core.specs.declared.words.LinkBuffer.TheVariants as link_buffer
use Rattle.model_core.specs.declared.words.LinkBuffer.{LinkBuffer}
use Rattle.model_core.specs.States as actor
use Rattle.model_core.specs.declared.ops.Answer.TheVariants as answer
use Rattle.model_core.specs.declared.ops.Op.TheVariants as op
use Rattle.model_core.specs.declared.steps.CheckpointerStep.TheVariants as checkpointer_step
use Rattle.model_core.specs.declared.steps.CleanerStep.TheVariants as cleaner_step
use Rattle.model_core.specs.declared.steps.CloserStep.TheVariants as closer_step
use Rattle.model_core.specs.declared.steps.FlusherStep.TheVariants as flusher_step
use Rattle.model_core.specs.declared.steps.ReaderStep.TheVariants as reader_step
use Rattle.model_core.specs.declared.steps.UserStep.TheVariants as user_step
use Rattle.model_core.specs.declared.steps.WriterStep.TheVariants as writer_step
use Rattle.model_core.specs.declared.words.Word.TheVariants as word

abbrev latch_of : SharedWords → ℕ → ℕ
latch_of m p = (page_words_at m.page_words p).latch

-- a change of one page's words leaves the latches of the others
other_latch : (m : SharedWords) (q : ℕ) (w : PageWords) (p : ℕ) → p ≢ q → latch_of (with_page_words m q w) p ≡ latch_of m p
other_latch m q w p other = ap (λ (x : PageWords). x.latch) (get_or-set_other m.page_words q p w blank_words other)

own_latch : (m : SharedWords) (q : ℕ) (w : PageWords) (p : ℕ) → p < length m.page_words → p ≡ q → latch_of (with_page_words m q w) p ≡ w.latch
own_latch m q w p there here = ap (λ (k : ℕ). latch_of (with_page_words m q w) k) here ∙ ap (λ (x : PageWords). x.latch) (get_or-set_same m.page_words q w blank_words (omega arith))

same_latch : (m : SharedWords) (q : ℕ) (w : PageWords) (p : ℕ) → p < length m.page_words → w.latch ≡ latch_of m q → latch_of (with_page_words m q w) p ≡ latch_of m p
same_latch m q w p there same = elim (ℕ_discrete p q) [
  | yes here ↦ own_latch m q w p there here ∙ same ∙ ap (latch_of m) (sym here)
  | no other ↦ other_latch m q w p other
]

-- the writer, the flusher, the closer and the checkpointer change no page's words
module _ (m : SharedWords) where
  abbrev SamePages : SharedWords → Type 0
  SamePages after = after.page_words ≡ m.page_words

  either : (b : Bool) (x : SharedWords) → SamePages x → SamePages (cond b x m)
  either true x same = same
  either false x same = refl

  taken : (b : LinkBuffer) (v : Advance) → SamePages (shared_left m (advance_op b v advance_step.TakeTail))
  taken link_buffer.Written v = either (eqb (read m word.Wtail) (tail_word v.tail false)) (wrote m word.Wtail (tail_word v.tail true)) refl
  taken link_buffer.Closed v = either (eqb (read m word.Ctail) (tail_word v.tail false)) (wrote m word.Ctail (tail_word v.tail true)) refl

  writer_pages : (s : WriterState) (f : WriterStep) → SamePages (shared_left m (writer_op s f))
  writer_pages s (writer_step.Advance advance_step.TakeTail) = taken link_buffer.Written s.advance
  writer_pages s writer_step.TakeDevice = either (eqb m.device 0) (record m { device = 1 }) refl
  writer_pages s _ = refl

  flusher_pages : (t : FlusherState) (f : FlusherStep) → SamePages (shared_left m (flusher_op t f))
  flusher_pages t flusher_step.TakeDevice = either (eqb m.device 0) (record m { device = 1 }) refl
  flusher_pages t _ = refl

  reader_pages : (t : ReaderState) (f : ReaderStep) → SamePages (shared_left m (reader_op t f))
  reader_pages t reader_step.TakeDevice = either (eqb m.device 0) (record m { device = 1 }) refl
  reader_pages t _ = refl

  closer_pages : (t : CloserState) (f : CloserStep) → SamePages (shared_left m (closer_op t f))
  closer_pages t (closer_step.Advance advance_step.TakeTail) = taken link_buffer.Closed t.advance
  closer_pages t _ = refl

  checkpointer_pages : (t : CheckpointerState) (f : CheckpointerStep) → SamePages (shared_left m (checkpointer_op t f))
  checkpointer_pages t checkpointer_step.TakeDevice = either (eqb m.device 0) (record m { device = 1 }) refl
  checkpointer_pages t checkpointer_step.ReadList = either (eqb (slice_index m.lists t.list) 0) (record m { lists = slice_set m.lists t.list 1 }) refl
  checkpointer_pages t _ = refl

  checking_pages : (b : Bool) (o : Op) → SamePages (shared_left m o) → SamePages (shared_left m (cond b (op.Load word.Failed) o))
  checking_pages true o same = refl
  checking_pages false o same = same

module _ (D : LogSide) (E : DataSide) (c : Setup) (m : SharedWords) (g : LogGhost) (h : PageGhost) (ls : ℕ → List Listed) (p : D.Part) (d : E.Part) (actors : List Actor) (seat : ℕ) (both : BothHalves D E c m g h ls p d actors) where
  -- each latch that an actor took last and that is held it holds, or it has failed
  pub held_by : (a : Actor) → get_elem? actors seat ≡ some a → HoldsOnly E c m g.log h ls d seat (HasLatch a)
  held_by a at q there latched mine =
      let r = both.latches q there latched in
      subst (λ (x : Actor). HasLatch x q) (some-injective r.0 a (sym r.1 ∙ ap (get_elem? actors) mine ∙ at)) r.2

  module _ (k : PageGhost) (grows : Grows m h k) (a : Actor) (at : get_elem? actors seat ≡ some a) where
    abbrev HasHolder : Actor → ℕ → Type 0
    HasHolder x q = (b : Actor) × (get_elem? (set actors seat x) (k.holder q) ≡ some b) × HasLatch b q

    -- a latch that was held is held by whom held it
    still : (x : Actor) (q : ℕ) → q < c.pages → latch_of m q ≡ 1 → (HasLatch a q → HasLatch x q) → HasHolder x q
    still x q there latched goes = let r = both.latches q there latched in elim (ℕ_discrete (h.holder q) seat) [
      | yes mine ↦ (x, subst (λ (i : ℕ). get_elem? (set actors seat x) i ≡ some x) (sym (grows.holder q latched ∙ mine)) (set_at actors seat a x at), goes (held_by a at q there latched mine))
      | no other ↦ (r.0, subst (λ (i : ℕ). get_elem? (set actors seat x) i ≡ some r.0) (sym (grows.holder q latched)) (set_else actors seat (h.holder q) x other ∙ r.1), r.2)
    ]

    -- one that it takes it holds
    takes : (x : Actor) (q : ℕ) → k.holder q ≡ seat → HasLatch x q → HasHolder x q
    takes x q mine held = (x, subst (λ (i : ℕ). get_elem? (set actors seat x) i ≡ some x) (sym mine) (set_at actors seat a x at), held)

    abbrev Kept : SharedWords → Actor → Type 0
    Kept m' x = LatchesAreHeld c.pages m' k.holder (set actors seat x)

    -- no latch changes
    as_it_was : (m' : SharedWords) (x : Actor) → ((q : ℕ) → q < c.pages → latch_of m' q ≡ latch_of m q) → ((q : ℕ) → HasLatch a q → HasLatch x q) → Kept m' x
    as_it_was m' x same goes q there latched = still x q there (sym (same q there) ∙ latched) (goes q)

    pages_same : (m' : SharedWords) (x : Actor) → m'.page_words ≡ m.page_words → ((q : ℕ) → HasLatch a q → HasLatch x q) → Kept m' x
    pages_same m' x same goes = as_it_was m' x (λ q _. ap (λ (ws : List PageWords). (page_words_at ws q).latch) same) goes

    -- it frees a latch
    frees : (page : ℕ) (x : Actor) → ((q : ℕ) → page ≢ q → HasLatch a q → HasLatch x q) → Kept (with_page_words m page (record (page_words_at m.page_words page) { latch = 0 })) x
    frees page x goes q there latched =
        let w : PageWords = record (page_words_at m.page_words page) { latch = 0 } in
        elim (ℕ_discrete q page) [
          | yes here ↦ (let zero_now = own_latch m page w q (let z = both.logged.sized.page_words in omega arith) here in absurd (omega arith))
          | no other ↦ still x q there (sym (other_latch m page w q other) ∙ latched) (goes q (λ z. other (sym z)))
        ]

    -- it takes one
    takes_one : (page : ℕ) (x : Actor) → k.holder page ≡ seat → HasLatch x page → ((q : ℕ) → HasLatch a q → HasLatch x q) → Kept (with_page_words m page (record (page_words_at m.page_words page) { latch = 1 })) x
    takes_one page x mine held goes q there latched =
        let w : PageWords = record (page_words_at m.page_words page) { latch = 1 } in
        elim (ℕ_discrete q page) [
          | yes here ↦ takes x q (ap k.holder here ∙ mine) (subst (HasLatch x) (sym here) held)
          | no other ↦ still x q there (sym (other_latch m page w q other) ∙ latched) (goes q)
        ]

  -- a user's turn
  module _ (k : PageGhost) (grows : Grows m h k) (u : UserState) (at : get_elem? actors seat ≡ some (actor.User u)) where
    abbrev UserKept : SharedWords → UserState → Type 0
    UserKept m' x = LatchesAreHeld c.pages m' k.holder (set actors seat (actor.User x))

    user_moves : (n : ℕ) (f : UserStep) → u.step ≡ f → (q : ℕ) → (f ≡ user_step.ReleaseLatch → current_page u ≢ q) → HasLatch (actor.User u) q → HasLatch (actor.User (user_took u n f)) q
    user_moves n f is q other held = ⊎_elim
        (λ failed. subst (λ (s : UserStep). HasLatch (actor.User (user_took u n s)) q) (sym failed ∙ is) (inl failed))
        (λ z. user_goes u q n f other (subst (λ (s : UserStep). UserHasLatch u s q) is z)) held

    user_quiet : (m' : SharedWords) (n : ℕ) (f : UserStep) → u.step ≡ f → (f ≡ user_step.ReleaseLatch → ⊥) → m'.page_words ≡ m.page_words → UserKept m' (user_took u n f)
    user_quiet m' n f is other same = pages_same k grows (actor.User u) at m' (actor.User (user_took u n f)) same (λ q. user_moves n f is q (λ z. absurd (other z)))

    user_stores : (q : ℕ) (w : PageWords) (n : ℕ) (f : UserStep) → u.step ≡ f → (f ≡ user_step.ReleaseLatch → ⊥) → w.latch ≡ latch_of m q → UserKept (with_page_words m q w) (user_took u n f)
    user_stores q w n f is other same = as_it_was k grows (actor.User u) at (with_page_words m q w) (actor.User (user_took u n f)) (λ r there. same_latch m q w r (let z = both.logged.sized.page_words in omega arith) same) (λ r. user_moves n f is r (λ z. absurd (other z)))

    -- the latch that it takes is its own
    user_took_it : (m' : SharedWords) (l : List Entry) (ls' : ℕ → List Listed) (e : E.Part) (b : Bool) → eqb (u.page + 1) (length (changes u)) ≡ b
        → UserPagesAt E c m' l k ls' e seat (record u { page = u.page + 1; step = cond b user_step.Reserve user_step.TakeLatch }) (cond b user_step.Reserve user_step.TakeLatch) → k.holder (current_page u) ≡ seat
    user_took_it m' l ls' e true all o = let z = eqb-true (u.page + 1) (length (changes u)) all in (o u.page (omega arith) (omega arith)).mine
    user_took_it m' l ls' e false more o = (o.0 u.page (omega arith) (omega arith)).mine

    take_by : (l : List Entry) (ls' : ℕ → List Listed) (e : E.Part) → u.step ≡ user_step.TakeLatch → (b : Bool)
        → UserPageFits E c (cond b (with_page_words m (current_page u) (record (page_words_at m.page_words (current_page u)) { latch = 1 })) m) l k ls' e seat (cond b (user_took u 0 user_step.TakeLatch) (user_took u 1 user_step.TakeLatch))
        → UserKept (cond b (with_page_words m (current_page u) (record (page_words_at m.page_words (current_page u)) { latch = 1 })) m) (cond b (user_took u 0 user_step.TakeLatch) (user_took u 1 user_step.TakeLatch))
    take_by l ls' e is true fits = takes_one k grows (actor.User u) at (current_page u) (actor.User (user_took u 0 user_step.TakeLatch))
        (user_took_it (with_page_words m (current_page u) (record (page_words_at m.page_words (current_page u)) { latch = 1 })) l ls' e (eqb (u.page + 1) (length (changes u))) refl fits.step)
        (latch_taken u (current_page u) (eqb (u.page + 1) (length (changes u))) refl (u.page, omega arith, omega arith, refl)) (λ q. user_moves 0 user_step.TakeLatch is q (λ z. absurd (cc)))
    take_by l ls' e is false fits = user_quiet m 1 user_step.TakeLatch is (λ z. absurd (cc)) refl

    module _ (broken : Bool) (code mark : ℕ) (l : List Entry) (ls' : ℕ → List Listed) (e : E.Part) where
      abbrev user_after : UserStep → UserState
      user_after f = user_took u (heard (shared_answer ls broken code mark m (user_op u f))) f

      abbrev here : PageWords
      here = page_words_at m.page_words (current_page u)

      user_keeps : (f : UserStep) → u.step ≡ f → UserPageFits E c (shared_left m (user_op u f)) l k ls' e seat (user_after f) → UserKept (shared_left m (user_op u f)) (user_after f)
      user_keeps (user_step.AdvanceWritten advance_step.TakeTail) is fits =
          user_quiet (shared_left m (user_op u (user_step.AdvanceWritten advance_step.TakeTail))) (heard (shared_answer ls broken code mark m (user_op u (user_step.AdvanceWritten advance_step.TakeTail)))) (user_step.AdvanceWritten advance_step.TakeTail) is (λ z. absurd (cc)) (taken m link_buffer.Written u.advance)
      user_keeps (user_step.AdvanceClosed advance_step.TakeTail) is fits =
          user_quiet (shared_left m (user_op u (user_step.AdvanceClosed advance_step.TakeTail))) (heard (shared_answer ls broken code mark m (user_op u (user_step.AdvanceClosed advance_step.TakeTail)))) (user_step.AdvanceClosed advance_step.TakeTail) is (λ z. absurd (cc)) (taken m link_buffer.Closed u.advance)
      user_keeps user_step.TakeLatch is fits = take_by l ls' e is (eqb here.latch 0) fits
      user_keeps user_step.StoreFrame is fits = user_stores (current_page u) (record here { frame = slice_set here.frame (frame_word u) (stored_word u) }) 0 user_step.StoreFrame is (λ z. absurd (cc)) refl
      user_keeps user_step.StoreNewest is fits = user_stores (current_page u) (record here { newest = lsn (group_end u) }) 0 user_step.StoreNewest is (λ z. absurd (cc)) refl
      user_keeps user_step.StoreOldest is fits = user_stores (current_page u) (record here { oldest = lsn u.start }) 0 user_step.StoreOldest is (λ z. absurd (cc)) refl
      user_keeps user_step.AddToList is fits = let i : ℕ = current_page u % 4 in
          user_quiet (shared_left m (user_op u user_step.AddToList)) (heard (shared_answer ls broken code mark m (user_op u user_step.AddToList))) user_step.AddToList is (λ z. absurd (cc)) (either m (eqb (slice_index m.lists i) 0) (record m { lists = slice_set m.lists i 1 }) refl)
      user_keeps user_step.ReleaseLatch is fits = frees k grows (actor.User u) at (current_page u) (actor.User (user_after user_step.ReleaseLatch)) (λ q other. user_moves 0 user_step.ReleaseLatch is q (λ _. other))
      user_keeps f is fits = user_quiet (shared_left m (user_op u f)) (heard (shared_answer ls broken code mark m (user_op u f))) f is (λ z. absurd (cc)) refl

      abbrev user_next_op : Bool → Op
      user_next_op b = cond b (op.Load word.Failed) (user_op u u.step)

      abbrev user_left : Bool → Actor
      user_left b = cond b (actor.User (checked_of user_program u (old_of (shared_answer ls broken code mark m (user_next_op b))))) (actor.User (user_took u (heard (shared_answer ls broken code mark m (user_next_op b))) u.step))

      user_turn : (b : Bool) → PageFits E c (shared_left m (user_next_op b)) l k ls' e seat (user_left b) → LatchesAreHeld c.pages (shared_left m (user_next_op b)) k.holder (set actors seat (user_left b))
      user_turn true fits = pages_same k grows (actor.User u) at m (actor.User (checked_of user_program u m.failed)) refl (λ q. user_hears u q m.failed)
      user_turn false fits = user_keeps u.step refl fits

  -- the cleaner's
  module _ (k : PageGhost) (grows : Grows m h k) (v : CleanerState) (at : get_elem? actors seat ≡ some (actor.Cleaner v)) where
    abbrev CleanerKept : SharedWords → CleanerState → Type 0
    CleanerKept m' x = LatchesAreHeld c.pages m' k.holder (set actors seat (actor.Cleaner x))

    cleaner_moves : (r : Answer) (f : CleanerStep) → v.step ≡ f → (q : ℕ) → (f ≡ cleaner_step.ReleaseSkipped → v.page ≢ q) → (f ≡ cleaner_step.ReleaseLatch → first_of_batch v ≢ q) → HasLatch (actor.Cleaner v) q → HasLatch (actor.Cleaner (cleaner_took v r f)) q
    cleaner_moves r f is q skipped released held = ⊎_elim
        (λ failed. subst (λ (s : CleanerStep). HasLatch (actor.Cleaner (cleaner_took v r s)) q) (sym failed ∙ is) (inl failed))
        (λ z. cleaner_goes v q r f skipped released (subst (λ (s : CleanerStep). CleanerHasLatch v s q) is z)) held

    cleaner_quiet : (m' : SharedWords) (r : Answer) (f : CleanerStep) → v.step ≡ f → (f ≡ cleaner_step.ReleaseSkipped → ⊥) → (f ≡ cleaner_step.ReleaseLatch → ⊥) → m'.page_words ≡ m.page_words → CleanerKept m' (cleaner_took v r f)
    cleaner_quiet m' r f is skipped released same = pages_same k grows (actor.Cleaner v) at m' (actor.Cleaner (cleaner_took v r f)) same (λ q. cleaner_moves r f is q (λ z. absurd (skipped z)) (λ z. absurd (released z)))

    reads_by : (l : List Entry) (ls' : ℕ → List Listed) (e : E.Part) → v.step ≡ cleaner_step.TakeLatch → (b : Bool)
        → CleanerFits E c (cond b (with_page_words m v.page (record (page_words_at m.page_words v.page) { latch = 1 })) m) l k ls' e seat (cond b (record v { step = cleaner_step.LoadNewest }) (next_in_round v))
        → CleanerKept (cond b (with_page_words m v.page (record (page_words_at m.page_words v.page) { latch = 1 })) m) (cond b (record v { step = cleaner_step.LoadNewest }) (next_in_round v))
    reads_by l ls' e is true fits = takes_one k grows (actor.Cleaner v) at v.page (actor.Cleaner (record v { step = cleaner_step.LoadNewest })) fits.step.1.0.mine (inr (inl refl))
        (λ q. cleaner_moves (answer.Old 0) cleaner_step.TakeLatch is q (λ z. absurd (cc)) (λ z. absurd (cc)))
    reads_by l ls' e is false fits = cleaner_quiet m (answer.Old 1) cleaner_step.TakeLatch is (λ z. absurd (cc)) (λ z. absurd (cc)) refl

    module _ (broken : Bool) (code mark : ℕ) (l : List Entry) (ls' : ℕ → List Listed) (e : E.Part) where
      abbrev told : CleanerStep → Answer
      told f = shared_answer ls broken code mark m (cleaner_op v f)

      cleaner_keeps : (f : CleanerStep) → v.step ≡ f → CleanerFits E c (shared_left m (cleaner_op v f)) l k ls' e seat (cleaner_took v (told f) f) → CleanerKept (shared_left m (cleaner_op v f)) (cleaner_took v (told f) f)
      cleaner_keeps cleaner_step.TakeLatch is fits = reads_by l ls' e is (eqb (page_words_at m.page_words v.page).latch 0) fits
      cleaner_keeps cleaner_step.ReleaseSkipped is fits = frees k grows (actor.Cleaner v) at v.page (actor.Cleaner (cleaner_took v (told cleaner_step.ReleaseSkipped) cleaner_step.ReleaseSkipped))
          (λ q other. cleaner_moves (told cleaner_step.ReleaseSkipped) cleaner_step.ReleaseSkipped is q (λ _. other) (λ z. absurd (cc)))
      cleaner_keeps cleaner_step.ReleaseLatch is fits = frees k grows (actor.Cleaner v) at (first_of_batch v) (actor.Cleaner (cleaner_took v (told cleaner_step.ReleaseLatch) cleaner_step.ReleaseLatch))
          (λ q other. cleaner_moves (told cleaner_step.ReleaseLatch) cleaner_step.ReleaseLatch is q (λ z. absurd (cc)) (λ _. other))
      cleaner_keeps cleaner_step.ClearOldest is fits =
          let w : PageWords = record (page_words_at m.page_words (first_of_batch v)) { oldest = 0 } in
          as_it_was k grows (actor.Cleaner v) at (with_page_words m (first_of_batch v) w) (actor.Cleaner (cleaner_took v (told cleaner_step.ClearOldest) cleaner_step.ClearOldest))
          (λ q there. same_latch m (first_of_batch v) w q (let z = both.logged.sized.page_words in omega arith) refl)
          (λ q. cleaner_moves (told cleaner_step.ClearOldest) cleaner_step.ClearOldest is q (λ z. absurd (cc)) (λ z. absurd (cc)))
      cleaner_keeps cleaner_step.RemoveFromList is fits = let i : ℕ = first_of_batch v % 4 in
          cleaner_quiet (shared_left m (cleaner_op v cleaner_step.RemoveFromList)) (told cleaner_step.RemoveFromList) cleaner_step.RemoveFromList is (λ z. absurd (cc)) (λ z. absurd (cc)) (either m (eqb (slice_index m.lists i) 0) (record m { lists = slice_set m.lists i 1 }) refl)
      cleaner_keeps f is fits = cleaner_quiet (shared_left m (cleaner_op v f)) (told f) f is (λ z. absurd (cc)) (λ z. absurd (cc)) refl

      abbrev cleaner_next_op : Bool → Op
      cleaner_next_op b = cond b (op.Load word.Failed) (cleaner_op v v.step)

      abbrev cleaner_left : Bool → Actor
      cleaner_left b = cond b (actor.Cleaner (checked_of cleaner_program v (old_of (shared_answer ls broken code mark m (cleaner_next_op b))))) (actor.Cleaner (cleaner_took v (shared_answer ls broken code mark m (cleaner_next_op b)) v.step))

      cleaner_turn : (b : Bool) → PageFits E c (shared_left m (cleaner_next_op b)) l k ls' e seat (cleaner_left b) → LatchesAreHeld c.pages (shared_left m (cleaner_next_op b)) k.holder (set actors seat (cleaner_left b))
      cleaner_turn true fits = pages_same k grows (actor.Cleaner v) at m (actor.Cleaner (checked_of cleaner_program v m.failed)) refl (λ q. cleaner_hears v q m.failed)
      cleaner_turn false fits = cleaner_keeps v.step refl fits

  -- whatever the actor's next Op is, and whatever its call answers
  module _ (broken : Bool) (code mark : ℕ) (l : List Entry) (stable : ℕ) (k : PageGhost) (ls' : ℕ → List Listed) (e : E.Part) (grows : Grows m h k) where
    abbrev left : Actor → Actor
    left a = took a (shared_answer ls broken code mark m (next a))

    -- of an actor that takes no latch
    takes_none : (a : Actor) → get_elem? actors seat ≡ some a → (shared_left m (next a)).page_words ≡ m.page_words → ((q : ℕ) → HasLatch a q → ⊥) → LatchesAreHeld c.pages (shared_left m (next a)) k.holder (set actors seat (left a))
    takes_none a at same none = pages_same k grows a at (shared_left m (next a)) (left a) same (λ q held. absurd (none q held))

    by_actor : (a : Actor) → get_elem? actors seat ≡ some a → PageFits E c (shared_left m (next a)) l k ls' e seat (left a) → LatchesAreHeld c.pages (shared_left m (next a)) k.holder (set actors seat (left a))
    by_actor (actor.User u) at fits = user_turn k grows u at broken code mark l ls' e u.checks fits
    by_actor (actor.Cleaner v) at fits = cleaner_turn k grows v at broken code mark l ls' e v.checks fits
    by_actor (actor.Writer s) at fits = takes_none (actor.Writer s) at (checking_pages m s.checks (writer_op s s.step) (writer_pages m s s.step)) (λ q held. held)
    by_actor (actor.Flusher t) at fits = takes_none (actor.Flusher t) at (checking_pages m t.checks (flusher_op t t.step) (flusher_pages m t t.step)) (λ q held. held)
    by_actor (actor.Reader t) at fits = takes_none (actor.Reader t) at (checking_pages m t.checks (reader_op t t.step) (reader_pages m t t.step)) (λ q held. held)
    by_actor (actor.Closer t) at fits = takes_none (actor.Closer t) at (checking_pages m t.checks (closer_op t t.step) (closer_pages m t t.step)) (λ q held. held)
    by_actor (actor.Checkpointer t) at fits = takes_none (actor.Checkpointer t) at (checking_pages m t.checks (checkpointer_op t t.step) (checkpointer_pages m t t.step)) (λ q held. held)

    pub latches_kept : (a : Actor) → get_elem? actors seat ≡ some a → PageHalf E c (shared_left m (next a)) l stable k ls' e (set actors seat (left a)) → LatchesAreHeld c.pages (shared_left m (next a)) k.holder (set actors seat (left a))
    latches_kept a at after = by_actor a at (after.each seat (left a) (set_at actors seat a (left a) at))
