-- The cleaner unlists and frees its batch; and the checkpointer's steps.
use Rattle.std.proofs.Common.{Bool, List, [], ap, arith, cond, drop, eqb, eqb-true, false, get_or, inr, length, ltb, ltb-true, refl, set, subst, suc, sym, true, ℕ, ◌%◌, ◌+◌, ◌<◌, ◌∙◌, ◌∷◌, ◌≡◌, ◌≢◌, ◌≤◌}
use Rattle.std.proofs.lemmas.Bool.{eqb-false}
use Rattle.std.specs.Prelude.{None, min, slice_set}
use lib.ListN.{get_elem?}
use mathlib.Core.Option.{some, some-ne-none}
use Rattle.model_core.proofs.Groups.{some_same}
use Rattle.model_core.proofs.Tails.{tail_in}
use Rattle.model_core.specs.{Actor, BatchPage, checkpointer_took, CheckpointerState, cleaner_took, CleanerState, Entry, first_of_batch, floor, framed_page, Listed, lsn, no_page, page_words_at, PageWords, SharedWords, tail_of, tail_word, UserState, with_page_words, DataSide, Setup}
use Rattle.model_core.specs.declared.steps.CleanerStep.{CleanerStep}
use Rattle.model_pagecore.proofs.CleanerSteps.{at_stage}
use Rattle.model_pagecore.proofs.PageFrame.{page_moved, page_others, pages_same}
use Rattle.model_pagecore.proofs.PageStep.{at_else, at_here, freed_sheet, latched_sheet, leaf_else, leaf_here, leaf_step, list_at, list_step, mate, page_quiet}
use Rattle.model_pagecore.specs.PageFacts.{Grows, PageGhost}
use Rattle.model_pagecore.specs.PageHalf.{AreBatch, At, CanGive, CleanerAt, CleanerFits, InBatch, PageHalf, CheckpointerPagesAt, CheckpointerPageFits, Unlisting, rests, runs}
use Rattle.model_pagecore.specs.Pages.{All, InWordOnly, Laid, Last, Unlisted, ListingStage, Agree, end_lsn, none_in_hand, start_lsn, is_changed_page}
use Rattle.model_core.specs.declared.ops.Answer.TheVariants as answer
use Rattle.model_core.specs.declared.steps.CleanerStep.TheVariants as cleaner_step
use Rattle.model_core.specs.declared.steps.CheckpointerStep.TheVariants as checkpointer_step
use Rattle.model_core.specs.States as actor

-- the first page of a batch
pub front_of : (l : List BatchPage) → 0 < length l → (x : BatchPage) × (get_elem? l 0 ≡ some x) × ◌≡◌ {A = BatchPage} (get_or l 0 no_page) x
front_of [] h = absurd (omega arith)
front_of (x ∷ xs) h = (x, refl, refl)

drop_at : (l : List BatchPage) (i : ℕ) (x : BatchPage) → get_elem? (drop 1 l) i ≡ some x → get_elem? l (suc i) ≡ some x
drop_at [] i x e = absurd (some-ne-none x (sym e))
drop_at (y ∷ ys) i x e = e

drop_long : (l : List BatchPage) → 0 < length l → length (drop 1 l) + 1 ≡ length l
drop_long [] h = absurd (omega arith)
drop_long (y ∷ ys) h = omega arith

module _ (E : DataSide) (c : Setup) (seat_of : ℕ → ℕ) (m : SharedWords) (log : List Entry) (stable : ℕ) (h : PageGhost) (ls : ℕ → List Listed) (d : E.Part) (actors : List Actor) (seat : ℕ) (before : PageHalf E c m log stable h ls d actors)
    (mates : (j : ℕ) (u : UserState) → get_elem? actors j ≡ some (actor.User u) → seat_of u.user ≡ j) (W : Laid (lsn c.base) (lsn m.sn) log) where
  module _ (v : CleanerState) (at : get_elem? actors seat ≡ some (actor.Cleaner v)) where
    own : CleanerFits E c m log h ls d seat v
    own = before.each seat (actor.Cleaner v) at

    abbrev pub Now : SharedWords → PageGhost → CleanerState → Type 0
    Now m' h' x = PageHalf E c m' log stable h' ls d (set actors seat (actor.Cleaner x))

    abbrev p : ℕ
    p = first_of_batch v

    first_page : 0 < length v.batch → (y : BatchPage) → get_elem? v.batch 0 ≡ some y → p ≡ y.page
    first_page pos y is = let r = front_of v.batch pos in ap (λ (t : BatchPage). t.page) r.2 ∙ ap (λ (t : BatchPage). t.page) (some_same v.batch 0 r.0 y r.1 is)

    first_held : (t : ListingStage) → Unlisting E c m log h ls d seat v t → At E c m log h ls d seat p none_in_hand All Last t
    first_held t o = let r = front_of v.batch o.3 in subst (λ (q : ℕ). At E c m log h ls d seat q none_in_hand All Last t) (sym (first_page o.3 r.0 r.1)) (o.2 r.0 r.1).held

    -- it finds a list held
    pub keeps_list_held : v.step ≡ cleaner_step.RemoveFromList → Now m h (record v { checks = true; step = cleaner_step.RemoveFromList })
    keeps_list_held ph = page_quiet E c seat_of m log stable h ls d actors seat before mates (actor.Cleaner (record v { checks = true; step = cleaner_step.RemoveFromList }))
        (at_stage E c seat_of m log stable h ls d actors seat before mates W v at (record v { checks = true; step = cleaner_step.RemoveFromList }) (ap runs ph) refl refl refl refl refl refl (λ z. absurd (cc)) m h ls refl refl (subst (CleanerAt E c m log h ls d seat v) ph own.step))

    -- the words of the first page of the batch change, but for its frame and NEWEST
    module _ (long : length m.page_words ≡ c.pages) (t : ListingStage) (o : Unlisting E c m log h ls d seat v t) (w' : PageWords) (fr : w'.frame ≡ (page_words_at m.page_words p).frame) (nw : w'.newest ≡ (page_words_at m.page_words p).newest) where
      others_in : (lo : ℕ) → 1 ≤ lo → AreBatch E c m log h ls d seat v lo → AreBatch E c (with_page_words m p w') log h ls d seat v lo
      others_in lo one b i y l is = let a = first_held t o in let r = b i y l is in
          let r0 = front_of v.batch o.3 in
          let ne : y.page ≢ p = (λ e. own.apart 0 i r0.0 y r0.1 is (omega arith) (sym (first_page o.3 r0.0 r0.1) ∙ sym e)) in
          let ye = leaf_else E c seat_of m log stable h ls d actors seat before mates p w' y.page ne in (
            record {
              held = at_else E c seat_of m log stable h ls d actors seat before mates p w' h.holder a.there long (inr a.mine) (λ _ _. refl) y.page none_in_hand All Last Agree ne r.0.held;
              newest = r.0.newest ∙ sym (ap (λ (k : PageWords). k.newest) ye);
              bytes = r.0.bytes ∙ sym (ap (λ (k : PageWords). framed_page c.page_size k.frame) ye);
              low = r.0.low;
            },
            subst (λ (k : PageWords). 0 < k.oldest) (sym ye) r.1,
          )

      first_in : (t' : ListingStage) → At E c (with_page_words m p w') log h ls d seat p none_in_hand All Last t' → (y : BatchPage) → get_elem? v.batch 0 ≡ some y → InBatch E c (with_page_words m p w') log h ls d seat v.flushed y t'
      first_in t' held y is = let e = first_page o.3 y is in let a = first_held t o in let b = o.2 y is in
          let we = leaf_here E c seat_of m log stable h ls d actors seat before mates p w' (let z = a.there in omega arith) in record {
            held = subst (λ (q : ℕ). At E c (with_page_words m p w') log h ls d seat q none_in_hand All Last t') e held;
            newest = b.newest ∙ ap (λ (q : ℕ). (page_words_at m.page_words q).newest) (sym e) ∙ sym nw ∙ sym (ap (λ (k : PageWords). k.newest) we) ∙ ap (λ (q : ℕ). (page_words_at (with_page_words m p w').page_words q).newest) e;
            bytes = b.bytes ∙ ap (λ (q : ℕ). framed_page c.page_size (page_words_at m.page_words q).frame) (sym e) ∙ sym (ap (framed_page c.page_size) fr) ∙ sym (ap (λ (k : PageWords). framed_page c.page_size k.frame) we) ∙ ap (λ (q : ℕ). framed_page c.page_size (page_words_at (with_page_words m p w').page_words q).frame) e;
            low = b.low;
          }

    -- it stores OLDEST = 0
    pub keeps_cleared : length m.page_words ≡ c.pages → v.step ≡ cleaner_step.ClearOldest → Now (with_page_words m p (record (page_words_at m.page_words p) { oldest = 0 })) h (record v { step = cleaner_step.GiveList })
    keeps_cleared long ph =
        let o : CleanerAt E c m log h ls d seat v cleaner_step.ClearOldest = subst (CleanerAt E c m log h ls d seat v) ph own.step in
        let w' : PageWords = record (page_words_at m.page_words p) { oldest = 0 } in
        let m' : SharedWords = with_page_words m p w' in
        let a = first_held InWordOnly o.0 in
        let st = a.page.listing.1 in
        let here = at_here E c seat_of m log stable h ls d actors seat before mates p w' h.holder a.there long (inr a.mine) (λ _ _. refl) none_in_hand All Last Unlisted a.latched a.mine (record { frame = a.page.frame; newest = a.page.newest; listing = (refl, st) }) in
        leaf_step E c seat_of m log stable h ls d actors seat before mates p w' h.holder a.there long (inr a.mine) (λ _ _. refl) (actor.Cleaner (record v { step = cleaner_step.GiveList }))
        (latched_sheet E c seat_of m log stable h ls d actors seat before mates p w' a.there a.latched (λ z. absurd (omega arith)))
        (λ n. absurd (n own.alone)) (λ _. a.mine)
        (at_stage E c seat_of m log stable h ls d actors seat before mates W v at (record v { step = cleaner_step.GiveList }) (ap runs ph) refl refl refl refl refl refl (λ z. absurd (cc)) m' h ls refl refl
        ((o.0.0, others_in long InWordOnly o.0 w' refl refl 1 (omega arith) o.0.1, first_in long InWordOnly o.0 w' refl refl Unlisted here, o.0.3), o.1))

    -- it gives the list back
    pub keeps_given : length m.lists ≡ 4 → v.step ≡ cleaner_step.GiveList → Now (record m { lists = slice_set m.lists (p % 4) 0 }) h (record v { step = cleaner_step.ReleaseLatch })
    keeps_given long ph =
        let o : CleanerAt E c m log h ls d seat v cleaner_step.GiveList = subst (CleanerAt E c m log h ls d seat v) ph own.step in
        let m' : SharedWords = record m { lists = slice_set m.lists (p % 4) 0 } in
        let same = list_at E c seat_of m log stable h ls d actors seat before mates (p % 4) 0 h.list_holder ls long (omega arith) (inr o.1.1) (λ _ _. refl) in
        list_step E c seat_of m log stable h ls d actors seat before mates (p % 4) 0 h.list_holder ls long (omega arith) (inr o.1.1) (λ _ _. refl) (actor.Cleaner (record v { step = cleaner_step.ReleaseLatch })) before.paged.lists before.paged.each_page (λ _ _ _. refl)
        (at_stage E c seat_of m log stable h ls d actors seat before mates W v at (record v { step = cleaner_step.ReleaseLatch }) (ap runs ph) refl refl refl refl refl refl (λ z. absurd (cc)) m' h ls refl refl (
          o.0.0,
          (λ i y l is. let r = o.0.1 i y l is in (record { held = same y.page none_in_hand All Last Agree refl r.0.held; newest = r.0.newest; bytes = r.0.bytes; low = r.0.low }, r.1)),
          (λ y is. let r = o.0.2 y is in record { held = same y.page none_in_hand All Last Unlisted refl r.held; newest = r.newest; bytes = r.bytes; low = r.low }),
          o.0.3,
        ))

    -- it frees the latch
    pub keeps_freed : length m.page_words ≡ c.pages → v.step ≡ cleaner_step.ReleaseLatch → Now (with_page_words m p (record (page_words_at m.page_words p) { latch = 0 })) h (cleaner_took v (answer.Old 0) cleaner_step.ReleaseLatch)
    keeps_freed long ph =
        let o : CleanerAt E c m log h ls d seat v cleaner_step.ReleaseLatch = subst (CleanerAt E c m log h ls d seat v) ph own.step in
        let w' : PageWords = record (page_words_at m.page_words p) { latch = 0 } in
        let m' : SharedWords = with_page_words m p w' in
        let a = first_held Unlisted o in
        let s0 = a.page.listing.0 in let s1 = a.page.listing.1 in
        let pos = o.3 in
        let shorter = drop_long v.batch pos in
        let few = own.few in
        let others = others_in long Unlisted o w' refl refl 1 (omega arith) o.1 in
        let fits : (st : CleanerStep) → (st ≡ cleaner_step.StoreFailed → ⊥) → CleanerAt E c m' log h ls d seat (record v { batch = drop 1 v.batch; step = st }) st → CleanerFits E c m' log h ls d seat (record v { batch = drop 1 v.batch; step = st }) = λ st nf k. record {
          alone = own.alone;
          pages = own.pages;
          page_size = own.page_size;
          slots = own.slots;
          page = own.page;
          flushed = own.flushed;
          sound = λ _. own.sound (ap runs ph);
          apart = λ i j y z iy jz l. own.apart (suc i) (suc j) y z (drop_at v.batch i y iy) (drop_at v.batch j z jz) (omega arith);
          few = (omega arith);
          cause = λ z. absurd (nf z);
          step = k;
        } in
        let by : (b : Bool) → eqb (length v.batch) 1 ≡ b → CleanerFits E c m' log h ls d seat (record v { batch = drop 1 v.batch; step = cond b cleaner_step.LoadFlushed cleaner_step.RemoveFromList }) = λ b. elim b as (λ (x : Bool). eqb (length v.batch) 1 ≡ x → CleanerFits E c m' log h ls d seat (record v { batch = drop 1 v.batch; step = cond x cleaner_step.LoadFlushed cleaner_step.RemoveFromList })) [
          | true ↦ (λ e. fits cleaner_step.LoadFlushed (λ z. absurd (cc)) tt)
          | false ↦ (λ e. let z = eqb-false (length v.batch) 1 e in fits cleaner_step.RemoveFromList (λ z. absurd (cc)) (
            ((λ i y is. o.0 (suc i) y (drop_at v.batch i y is)), (λ i y l is. others (suc i) y (omega arith) (drop_at v.batch i y is)), (λ y is. (others 1 y (omega arith) (drop_at v.batch 0 y is)).0), (omega arith)),
            (λ y is. (others 1 y (omega arith) (drop_at v.batch 0 y is)).1),
          ))
        ] in
        leaf_step E c seat_of m log stable h ls d actors seat before mates p w' h.holder a.there long (inr a.mine) (λ _ _. refl) (actor.Cleaner (cleaner_took v (answer.Old 0) cleaner_step.ReleaseLatch))
        (freed_sheet E c seat_of m log stable h ls d actors seat before mates p w' a.there refl (before.paged.each_page p a.there).oldest (record { frame = a.page.frame; newest = a.page.newest; listing = s0 ∙ sym s1 }))
        (λ _ z. z) (λ _. a.mine)
        (by (eqb (length v.batch) 1) refl)

  module _ (t : CheckpointerState) (at : get_elem? actors seat ≡ some (actor.Checkpointer t)) where
    his : CheckpointerPageFits E c m log h ls d seat t
    his = before.each seat (actor.Checkpointer t) at

    abbrev pub Then : SharedWords → PageGhost → CheckpointerState → Type 0
    Then m' h' x = PageHalf E c m' log stable h' ls d (set actors seat (actor.Checkpointer x))

    mild : (x : CheckpointerState) → CheckpointerPageFits E c m log h ls d seat x → Then m h x
    mild x f = page_quiet E c seat_of m log stable h ls d actors seat before mates (actor.Checkpointer x) f

    -- it loads CTAIL
    pub keeps_begin : t.step ≡ checkpointer_step.LoadCtail → Then m h (checkpointer_took t (answer.Old (tail_word m.ctail m.cheld)) checkpointer_step.LoadCtail)
    keeps_begin ph = by (eqb t.first t.last)
      where
        by : (b : Bool) → Then m h (record t { ctail = tail_of (tail_word m.ctail m.cheld); to = tail_of (tail_word m.ctail m.cheld); list = 0; reader = t.first; step = cond b checkpointer_step.ReadList checkpointer_step.LoadPlace })
        by true = let low = tail_in m.ctail m.cheld in mild (record t { ctail = tail_of (tail_word m.ctail m.cheld); to = tail_of (tail_word m.ctail m.cheld); list = 0; reader = t.first; step = checkpointer_step.ReadList })
            (record { alone = his.alone; with_pages = his.with_pages; loaded = ((omega arith), his.loaded.1); given = λ _. his.given (ap rests ph); step = ((omega arith), (λ q _ l. absurd (omega arith)), (omega arith)) })
        by false = let low = tail_in m.ctail m.cheld in mild (record t { ctail = tail_of (tail_word m.ctail m.cheld); to = tail_of (tail_word m.ctail m.cheld); list = 0; reader = t.first; step = checkpointer_step.LoadPlace })
            (record { alone = his.alone; with_pages = his.with_pages; loaded = ((omega arith), his.loaded.1); given = λ _. his.given (ap rests ph); step = ((omega arith), refl) })

    -- it loads the place of a reader, whatever that is
    pub keeps_place_bound : t.step ≡ checkpointer_step.LoadPlace → (n : ℕ) → Then m h (checkpointer_took t (answer.Old n) checkpointer_step.LoadPlace)
    keeps_place_bound ph n = by (eqb (t.reader + 1) t.last) (subst (CheckpointerPagesAt E c m log h ls d seat t) ph his.step)
      where
        by : (b : Bool) → CheckpointerPagesAt E c m log h ls d seat t checkpointer_step.LoadPlace → Then m h (record t { to = min t.to n; reader = t.reader + 1; step = cond b checkpointer_step.ReadList checkpointer_step.LoadPlace })
        by true o = let o0 = o.0 in let o1 = o.1 in mild (record t { to = min t.to n; reader = t.reader + 1; step = checkpointer_step.ReadList })
            (record { alone = his.alone; with_pages = his.with_pages; loaded = his.loaded; given = λ _. his.given (ap rests ph); step = ((omega arith), (λ q _ l. absurd (omega arith)), (omega arith)) })
        by false o = let o0 = o.0 in let o1 = o.1 in mild (record t { to = min t.to n; reader = t.reader + 1; step = checkpointer_step.LoadPlace })
            (record { alone = his.alone; with_pages = his.with_pages; loaded = his.loaded; given = λ _. his.given (ap rests ph); step = ((omega arith), o1) })

    -- it gives a list back
    pub keeps_next_list : length m.lists ≡ 4 → t.step ≡ checkpointer_step.GiveList → Then (record m { lists = slice_set m.lists t.list 0 }) h (checkpointer_took t (answer.Taken None) checkpointer_step.GiveList)
    keeps_next_list long ph =
        let o : CheckpointerPagesAt E c m log h ls d seat t checkpointer_step.GiveList = subst (CheckpointerPagesAt E c m log h ls d seat t) ph his.step in
        let m' : SharedWords = record m { lists = slice_set m.lists t.list 0 } in
        let l4 = o.2 in
        let by : (b : Bool) → eqb (t.list + 1) 4 ≡ b → CheckpointerPageFits E c m' log h ls d seat (record t { list = t.list + 1; step = cond b checkpointer_step.LoadFlushed checkpointer_step.ReadList }) = λ b. elim b as (λ (x : Bool). eqb (t.list + 1) 4 ≡ x → CheckpointerPageFits E c m' log h ls d seat (record t { list = t.list + 1; step = cond x checkpointer_step.LoadFlushed checkpointer_step.ReadList })) [
          | true ↦ (λ e. let z = eqb-true (t.list + 1) 4 e in record { alone = his.alone; with_pages = his.with_pages; loaded = his.loaded; given = λ _. his.given (ap rests ph); step = (o.0, (λ q there l. o.1 q there (omega arith))) })
          | false ↦ (λ e. let z = eqb-false (t.list + 1) 4 e in record { alone = his.alone; with_pages = his.with_pages; loaded = his.loaded; given = λ _. his.given (ap rests ph); step = (o.0, o.1, (omega arith)) })
        ] in
        list_step E c seat_of m log stable h ls d actors seat before mates t.list 0 h.list_holder ls long o.2 (inr o.3.1) (λ _ _. refl) (actor.Checkpointer (checkpointer_took t (answer.Taken None) checkpointer_step.GiveList)) before.paged.lists before.paged.each_page (λ _ _ _. refl) (by (eqb (t.list + 1) 4) refl)

    -- it loads FLUSHED, which ends its candidate
    pub keeps_candidate : t.step ≡ checkpointer_step.LoadFlushed → Then m h (checkpointer_took t (answer.Old m.flushed) checkpointer_step.LoadFlushed)
    keeps_candidate ph = by (ltb t.own (floor (min t.to m.flushed))) refl (subst (CheckpointerPagesAt E c m log h ls d seat t) ph his.step)
      where
        by : (b : Bool) → ltb t.own (floor (min t.to m.flushed)) ≡ b → CheckpointerPagesAt E c m log h ls d seat t checkpointer_step.LoadFlushed
            → Then m h (cond b (record t { flushed = m.flushed; to = floor (min t.to m.flushed); step = checkpointer_step.TakeDevice }) (record t { flushed = m.flushed; checks = true; step = checkpointer_step.LoadCtail }))
        by true e o = let o0 = o.0 in mild (record t { flushed = m.flushed; to = floor (min t.to m.flushed); step = checkpointer_step.TakeDevice })
            (record { alone = his.alone; with_pages = his.with_pages; loaded = (his.loaded.0, (omega arith)); given = λ _. his.given (ap rests ph); step = ((λ q there l i x is tc lt. o.1 q there l i x is tc (omega arith)), (omega arith), (omega arith), (omega arith), ltb-true t.own (floor (min t.to m.flushed)) e) })
        by false e o = mild (record t { flushed = m.flushed; checks = true; step = checkpointer_step.LoadCtail }) (record { alone = his.alone; with_pages = his.with_pages; loaded = (his.loaded.0, (omega arith)); given = λ _. his.given (ap rests ph); step = tt })

    -- it takes the log part, and from now on its candidate may be the newest checkpoint
    pub keeps_promise : t.step ≡ checkpointer_step.TakeDevice → (k : PageGhost) × PageHalf E c (record m { device = 1 }) log stable k ls d (set actors seat (actor.Checkpointer (record t { checks = false; step = checkpointer_step.Checkpoint }))) × Grows m h k
    keeps_promise ph =
        let o : CanGive E c m log h ls d t = subst (CheckpointerPagesAt E c m log h ls d seat t) ph his.step in
        let P = before.paged in
        let h' : PageGhost = record h { given = t.to } in
        let m' : SharedWords = record m { device = 1 } in
        let o2 = o.2 in let fl = P.flushed in (
          h',
          page_moved E c m m' log log stable stable h h' ls ls d d actors seat (actor.Checkpointer (record t { checks = false; step = checkpointer_step.Checkpoint }))
              (record {
                closed_links = P.closed_links;
                lists = P.lists;
                each_page = λ q there. let S = P.each_page q there in record {
                  latch = S.latch;
                  free = S.free;
                  oldest = S.oldest;
                  fold = S.fold;
                  ends = S.ends;
                  early = S.early;
                  behind = S.behind;
                  change = S.change;
                  passed = o.0 q there (omega arith);
                };
                within = (omega arith);
                flushed = P.flushed;
                stable_top = P.stable_top;
                stored = P.stored;
                unfinished = P.unfinished;
                alone = λ z. let w = his.with_pages in absurd (cc);
              })
              (record { alone = his.alone; with_pages = his.with_pages; loaded = his.loaded; given = λ z. absurd (cc); step = (o, refl) })
              (λ j a n z. page_others E c seat_of m m' log log h h' ls ls d d seat j n
              (pages_same refl refl refl refl (omega arith))
              (λ _. record { kept_page = λ _. refl; oldest = λ q y. y; store = refl; unfinished = refl })
              (λ other. absurd (other his.alone))
              a (mate E c seat_of m log stable h ls d actors seat before mates j a z) (before.each j a z)),
          record { given = (let given = his.given (ap rests ph) in let above = o.4 in omega arith); closed = λ x z. z; holder = λ _ _. refl },
        )

    -- every group that starts below its candidate ends at or below the stable mark, so the call's condition holds
    pub all_passed : CanGive E c m log h ls d t → ((i : ℕ) (e : Entry) → get_elem? log i ≡ some e → (q : ℕ) × (q < c.pages) × (is_changed_page q e.changes ≡ true)) → (t.to ≤ stable) × ((i : ℕ) (e : Entry) → get_elem? log i ≡ some e → start_lsn e < t.to → end_lsn e ≤ stable)
    all_passed o every = let o2 = o.2 in let fl = before.paged.flushed in
        ((omega arith), (λ i e is lt. let q = every i e is in let b = (before.paged.each_page q.0 q.1).behind in let z = o.0 q.0 q.1 (omega arith) i e is q.2 lt in omega arith))
