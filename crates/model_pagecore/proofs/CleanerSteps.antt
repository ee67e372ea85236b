-- The cleaner's other steps.
use Rattle.std.proofs.Common.{Bool, List, [], ap, arith, cond, eqb, eqb-true, false, inl, inr, leb, leb-true, length, length-append, refl, set, subst, sym, true, ℕ, ⊎_elim, ◌%◌, ◌*◌, ◌++◌, ◌+◌, ◌-◌, ◌/◌, ◌<◌, ◌∙◌, ◌∷◌, ◌≡◌, ◌≢◌, ◌≤◌, ◌⊎◌}
use Rattle.std.proofs.lemmas.Bool.{eqb-false}
use Rattle.std.specs.Prelude.{slice_index}
use lib.ListN.{get_elem?}
use mathlib.Core.Option.{some, some-ne-none}
use Rattle.model_base.proofs.ShapeLimits.{page_size_facts}
use Rattle.model_base.specs.{IsPageSize}
use Rattle.model_core.proofs.Groups.{at_end, at_less, changed, changed_else, changed_here}
use Rattle.model_core.specs.{Actor, BatchPage, cleaner_took, CleanerState, Entry, frame_words, framed_page, Listed, lsn, next_in_round, page_loaded, page_words_at, PageWords, SharedWords, UserState, with_page_words, DataSide, Setup}
use Rattle.model_pagecore.proofs.PageStep.{at_else, at_here, freed_sheet, latched_sheet, leaf_else, leaf_here, leaf_step, page_quiet}
use Rattle.model_pagecore.specs.PageFacts.{Grows, PageGhost, listed_lsn}
use Rattle.model_pagecore.specs.PageHalf.{AreIn, CleanerAt, CleanerFits, InBatch, Looking, PageHalf, runs}
use Rattle.model_pagecore.specs.Pages.{All, Laid, Last, PageIs, Agree, none_in_hand}
use Rattle.model_core.specs.declared.ops.Answer.TheVariants as answer
use Rattle.model_core.specs.declared.steps.CleanerStep.TheVariants as cleaner_step
use Rattle.model_core.specs.States as actor
use Rattle.model_core.proofs.FrameWords.{framed_next}
use Rattle.model_core.proofs.Lanes.{lanes_long}
use Rattle.model_core.proofs.PageSizes.{frame_fills, whole_words}
unfoldable use Rattle.model_core.specs.{lanes}

-- a page isn't among those that are still to come in a round
abbrev pub IsPast : ℕ → ℕ → ℕ → ℕ → Type 0
IsPast page left pages q = (page ≤ q → page + left ≤ q) × (page + left ≤ q + pages)

module _ (E : DataSide) (c : Setup) (seat_of : ℕ → ℕ) (m : SharedWords) (log : List Entry) (stable : ℕ) (h : PageGhost) (ls : ℕ → List Listed) (d : E.Part) (actors : List Actor) (seat : ℕ) (before : PageHalf E c m log stable h ls d actors)
    (mates : (j : ℕ) (u : UserState) → get_elem? actors j ≡ some (actor.User u) → seat_of u.user ≡ j) (W : Laid (lsn c.base) (lsn m.sn) log) where
  module _ (v : CleanerState) (at : get_elem? actors seat ≡ some (actor.Cleaner v)) where
    own : CleanerFits E c m log h ls d seat v
    own = before.each seat (actor.Cleaner v) at

    abbrev pub Now : SharedWords → PageGhost → CleanerState → Type 0
    Now m' h' x = PageHalf E c m' log stable h' ls d (set actors seat (actor.Cleaner x))

    quiet : (x : CleanerState) → CleanerFits E c m log h ls d seat x → Now m h x
    quiet x f = page_quiet E c seat_of m log stable h ls d actors seat before mates (actor.Cleaner x) f

    -- it goes on to the next page, with this batch
    next_in_round_fits : (m' : SharedWords) (h' : PageGhost) (x : CleanerState) → m'.flushed ≡ m.flushed → h'.unfinished ≡ h.unfinished → runs v.step ≡ true → x.pages ≡ v.pages → x.page_size ≡ v.page_size → x.slots ≡ v.slots → x.page ≡ v.page → x.flushed ≡ v.flushed → AreIn E c m' log h' ls d seat x.flushed x.batch 0 → length x.batch ≤ c.slots → 0 < x.left → x.left ≤ x.pages
        → ((i : ℕ) (y : BatchPage) → get_elem? x.batch i ≡ some y → (y.page ≡ x.page) ⊎ IsPast x.page x.left x.pages y.page) → ((i j : ℕ) (y z : BatchPage) → get_elem? x.batch i ≡ some y → get_elem? x.batch j ≡ some z → i < j → y.page ≢ z.page)
        → CleanerFits E c m' log h' ls d seat (next_in_round x)
    next_in_round_fits m' h' x e1 e3 live e4 size many e5 e6 held few more round past apart = by (eqb x.left 1) (eqb (length x.batch) x.slots) (eqb (x.page + 1) x.pages) (eqb (length x.batch) 0) refl refl refl refl
      where
        good : (E.failed d ≡ false) × (h'.unfinished ≡ [])
        good = let r = own.sound live in (r.0, e3 ∙ r.1)

        here : x.page < x.pages
        here = let a = own.page in let b = own.pages in omega arith

        there : (b : Bool) → eqb (x.page + 1) x.pages ≡ b → cond b 0 (x.page + 1) < c.pages
        there true e = let a = own.page in omega arith
        there false e = let a = eqb-false (x.page + 1) x.pages e in let b = own.pages in let k = here in omega arith

        next : (b : Bool) → eqb (x.page + 1) x.pages ≡ b → (i : ℕ) (y : BatchPage) → get_elem? x.batch i ≡ some y → IsPast (cond b 0 (x.page + 1)) (x.left - 1) x.pages y.page
        next true e i y is = let z = eqb-true (x.page + 1) x.pages e in ⊎_elim (λ s. ((λ _. omega arith), omega arith)) (λ s. let s1 = s.1 in ((λ _. omega arith), omega arith)) (past i y is)
        next false e i y is = ⊎_elim (λ s. ((λ a. absurd (omega arith)), omega arith)) (λ s. let s1 = s.1 in ((λ a. let k = s.0 (omega arith) in omega arith), omega arith)) (past i y is)

        base : (w : CleanerState) → w.pages ≡ x.pages → w.page_size ≡ x.page_size → w.slots ≡ x.slots → w.page < c.pages → w.flushed ≡ x.flushed → ◌≡◌ {A = List BatchPage} w.batch x.batch → (w.step ≡ cleaner_step.StoreFailed → ⊥) → CleanerAt E c m' log h' ls d seat w w.step → CleanerFits E c m' log h' ls d seat w
        base w a s r b f g nf k = record {
          alone = own.alone;
          pages = a ∙ e4 ∙ own.pages;
          page_size = s ∙ size ∙ own.page_size;
          slots = r ∙ many ∙ own.slots;
          page = b;
          flushed = (let z = own.flushed in omega arith);
          sound = λ _. good;
          apart = subst (λ (l : List BatchPage). (i j : ℕ) (y z : BatchPage) → get_elem? l i ≡ some y → get_elem? l j ≡ some z → i < j → y.page ≢ z.page) (sym g) apart;
          few = subst (λ (l : List BatchPage). length l ≤ c.slots) (sym g) few;
          cause = λ z. absurd (nf z);
          step = k;
        }

        round_over : (b3 b4 : Bool) → eqb (x.page + 1) x.pages ≡ b3 → eqb (length x.batch) 0 ≡ b4
            → CleanerFits E c m' log h' ls d seat (cond b4 (record x { page = cond b3 0 (x.page + 1); left = x.left - 1; kept = []; checks = true; step = cleaner_step.LoadFlushed }) (record x { page = cond b3 0 (x.page + 1); left = x.left - 1; kept = []; step = cleaner_step.WriteBatch }))
        round_over b3 true f3 f4 = base (record x { page = cond b3 0 (x.page + 1); left = x.left - 1; kept = []; checks = true; step = cleaner_step.LoadFlushed }) refl refl refl (there b3 f3) refl refl (λ z. absurd (cc)) tt
        round_over b3 false f3 f4 = base (record x { page = cond b3 0 (x.page + 1); left = x.left - 1; kept = []; step = cleaner_step.WriteBatch }) refl refl refl (there b3 f3) refl refl (λ z. absurd (cc)) (held, (let k = eqb-false (length x.batch) 0 f4 in omega arith))

        by : (b1 b2 b3 b4 : Bool) → eqb x.left 1 ≡ b1 → eqb (length x.batch) x.slots ≡ b2 → eqb (x.page + 1) x.pages ≡ b3 → eqb (length x.batch) 0 ≡ b4
            → CleanerFits E c m' log h' ls d seat (cond (cond b1 true b2) (cond b4 (record x { page = cond b3 0 (x.page + 1); left = x.left - 1; kept = []; checks = true; step = cleaner_step.LoadFlushed }) (record x { page = cond b3 0 (x.page + 1); left = x.left - 1; kept = []; step = cleaner_step.WriteBatch }))
            (record x { page = cond b3 0 (x.page + 1); left = x.left - 1; kept = []; step = cleaner_step.LoadOldest }))
        by true b2 b3 b4 f1 f2 f3 f4 = round_over b3 b4 f3 f4
        by false true b3 b4 f1 f2 f3 f4 = round_over b3 b4 f3 f4
        by false false b3 b4 f1 f2 f3 f4 = let l1 = eqb-false x.left 1 f1 in let l2 = eqb-false (length x.batch) x.slots f2 in let at_most = own.slots in
            base (record x { page = cond b3 0 (x.page + 1); left = x.left - 1; kept = []; step = cleaner_step.LoadOldest }) refl refl refl (there b3 f3) refl refl (λ z. absurd (cc))
            (record { held = held; few = (omega arith); more = (omega arith); passed = next b3 f3; round = (omega arith) })

    -- the page that it is at isn't in the batch
    not_in : Looking E c m log h ls d seat v → (i : ℕ) (y : BatchPage) → get_elem? v.batch i ≡ some y → y.page ≢ v.page
    not_in o i y is e = let a = (o.passed i y is).0 (omega arith) in let b = o.more in absurd (omega arith)

    next_in_round_same : Looking E c m log h ls d seat v → runs v.step ≡ true → CleanerFits E c m log h ls d seat (next_in_round v)
    next_in_round_same o live = next_in_round_fits m h v refl refl live refl refl refl refl refl o.held own.few o.more o.round (λ i y is. inr (o.passed i y is)) own.apart

    -- a state with the same pages and the same batch
    pub at_stage : (x : CleanerState) → runs v.step ≡ true → x.pages ≡ v.pages → x.page_size ≡ v.page_size → x.slots ≡ v.slots → x.page ≡ v.page → x.flushed ≡ v.flushed → ◌≡◌ {A = List BatchPage} x.batch v.batch → (x.step ≡ cleaner_step.StoreFailed → ⊥) → (m' : SharedWords) (h' : PageGhost) (ls' : ℕ → List Listed) → m'.flushed ≡ m.flushed → h'.unfinished ≡ h.unfinished
        → CleanerAt E c m' log h' ls' d seat x x.step → CleanerFits E c m' log h' ls' d seat x
    at_stage x live a s r b f g nf m' h' ls' e1 e3 k = record {
      alone = own.alone;
      pages = a ∙ own.pages;
      page_size = s ∙ own.page_size;
      slots = r ∙ own.slots;
      page = (let z = own.page in omega arith);
      flushed = (let z = own.flushed in omega arith);
      sound = λ _. let r = own.sound live in (r.0, e3 ∙ r.1);
      apart = subst (λ (l : List BatchPage). (i j : ℕ) (y z : BatchPage) → get_elem? l i ≡ some y → get_elem? l j ≡ some z → i < j → y.page ≢ z.page) (sym g) own.apart;
      few = subst (λ (l : List BatchPage). length l ≤ c.slots) (sym g) own.few;
      cause = λ z. absurd (nf z);
      step = k;
    }

    -- it loads FLUSHED
    pub keeps_load_flushed : 1 ≤ c.slots → v.step ≡ cleaner_step.LoadFlushed → Now m h (cleaner_took v (answer.Old m.flushed) cleaner_step.LoadFlushed)
    keeps_load_flushed room ph = quiet (cleaner_took v (answer.Old m.flushed) cleaner_step.LoadFlushed) (record {
      alone = own.alone;
      pages = own.pages;
      page_size = own.page_size;
      slots = own.slots;
      page = own.page;
      flushed = (omega arith);
      sound = λ _. own.sound (ap runs ph);
      apart = λ i j y z is. absurd (some-ne-none y (sym is));
      few = (omega arith);
      cause = λ z. absurd (cc);
      step = record { held = λ i y _ is. absurd (some-ne-none y (sym is)); few = (omega arith); more = (let a = own.page in let b = own.pages in omega arith); passed = λ i y is. absurd (some-ne-none y (sym is)); round = (omega arith) };
    })

    -- it loads OLDEST
    pub keeps_seen : v.step ≡ cleaner_step.LoadOldest → Now m h (cleaner_took v (answer.Old (page_words_at m.page_words v.page).oldest) cleaner_step.LoadOldest)
    keeps_seen ph = by (eqb (page_words_at m.page_words v.page).oldest 0) refl (subst (CleanerAt E c m log h ls d seat v) ph own.step)
      where
        by : (b : Bool) → eqb (page_words_at m.page_words v.page).oldest 0 ≡ b → CleanerAt E c m log h ls d seat v cleaner_step.LoadOldest → Now m h (cond b (next_in_round v) (record v { step = cleaner_step.TakeLatch }))
        by true e o = quiet (next_in_round v) (next_in_round_same o (ap runs ph))
        by false e o = quiet (record v { step = cleaner_step.TakeLatch }) (at_stage (record v { step = cleaner_step.TakeLatch }) (ap runs ph) refl refl refl refl refl refl (λ z. absurd (cc)) m h ls refl refl (o, (let k = eqb-false (page_words_at m.page_words v.page).oldest 0 e in omega arith)))

    -- it finds the latch held
    pub keeps_held : v.step ≡ cleaner_step.TakeLatch → Now m h (next_in_round v)
    keeps_held ph = quiet (next_in_round v) (next_in_round_same (subst (CleanerAt E c m log h ls d seat v) ph own.step).0 (ap runs ph))

    -- it takes the latch
    pub keeps_latched : length m.page_words ≡ c.pages → v.step ≡ cleaner_step.TakeLatch → (page_words_at m.page_words v.page).latch ≡ 0
        → (k : PageGhost) × PageHalf E c (with_page_words m v.page (record (page_words_at m.page_words v.page) { latch = 1 })) log stable k ls d (set actors seat (actor.Cleaner (record v { step = cleaner_step.LoadNewest }))) × Grows m h k
    keeps_latched long ph free =
        let o : CleanerAt E c m log h ls d seat v cleaner_step.TakeLatch = subst (CleanerAt E c m log h ls d seat v) ph own.step in
        let p : ℕ = v.page in
        let w : PageWords = page_words_at m.page_words p in
        let holders : ℕ → ℕ = changed h.holder p seat in
        let h' : PageGhost = record h { holder = holders } in
        let w' : PageWords = record w { latch = 1 } in
        let m' : SharedWords = with_page_words m p w' in
        let there : p < c.pages = own.page in
        let S = before.paged.each_page p there in
        let same : (q : ℕ) → q ≢ p → holders q ≡ h.holder q = λ q n. changed_else h.holder p seat q n in
        let f = S.free free in
        let is : PageIs c p log none_in_hand w' (listed_lsn ls p) All Last Agree = record { frame = f.frame; newest = f.newest; listing = f.listing } in
        let we = leaf_here E c seat_of m log stable h ls d actors seat before mates p w' (omega arith) in
        let looks : Looking E c m' log h' ls d seat v = record {
          held = λ i y lo z. let r = o.0.held i y lo z in let ne = not_in o.0 i y z in
              let ye = leaf_else E c seat_of m log stable h ls d actors seat before mates p w' y.page ne in (
                record {
                  held = at_else E c seat_of m log stable h ls d actors seat before mates p w' holders there long (inl free) same y.page none_in_hand All Last Agree ne r.0.held;
                  newest = r.0.newest ∙ sym (ap (λ (k : PageWords). k.newest) ye);
                  bytes = r.0.bytes ∙ sym (ap (λ (k : PageWords). framed_page c.page_size k.frame) ye);
                  low = r.0.low;
                },
                subst (λ (k : PageWords). 0 < k.oldest) (sym ye) r.1,
              );
          few = o.0.few;
          more = o.0.more;
          passed = o.0.passed;
          round = o.0.round;
        } in (
          h',
          leaf_step E c seat_of m log stable h ls d actors seat before mates p w' holders there long (inl free) same (actor.Cleaner (record v { step = cleaner_step.LoadNewest }))
              (latched_sheet E c seat_of m log stable h ls d actors seat before mates p w' there refl S.oldest) (λ _ z. z) (λ _. changed_here h.holder p seat p refl)
              (at_stage (record v { step = cleaner_step.LoadNewest }) (ap runs ph) refl refl refl refl refl refl (λ z. absurd (cc)) m' h' ls refl refl
              (looks, (at_here E c seat_of m log stable h ls d actors seat before mates p w' holders there long (inl free) same none_in_hand All Last Agree refl (changed_here h.holder p seat p refl) is, subst (λ (k : PageWords). 0 < k.oldest) (sym we) o.1))),
          record { given = omega arith; closed = λ x z. z; holder = λ q la. same q (λ e. let one : (page_words_at m.page_words p).latch ≡ 1 = subst (λ (x : ℕ). (page_words_at m.page_words x).latch ≡ 1) e la in absurd (omega arith)) },
        )

    -- it loads NEWEST
    pub keeps_read_newest : IsPageSize c.page_size → v.step ≡ cleaner_step.LoadNewest → Now m h (cleaner_took v (answer.Old (page_words_at m.page_words v.page).newest) cleaner_step.LoadNewest)
    keeps_read_newest size ph = by (leb (page_words_at m.page_words v.page).newest v.flushed) refl (subst (CleanerAt E c m log h ls d seat v) ph own.step)
      where
        by : (b : Bool) → leb (page_words_at m.page_words v.page).newest v.flushed ≡ b → CleanerAt E c m log h ls d seat v cleaner_step.LoadNewest
            → Now m h (cond b (record v { newest = (page_words_at m.page_words v.page).newest; kept = []; step = cleaner_step.LoadFrame }) (record v { step = cleaner_step.ReleaseSkipped }))
        by true e o = quiet (record v { newest = (page_words_at m.page_words v.page).newest; kept = []; step = cleaner_step.LoadFrame })
            (at_stage (record v { newest = (page_words_at m.page_words v.page).newest; kept = []; step = cleaner_step.LoadFrame }) (ap runs ph) refl refl refl refl refl refl (λ z. absurd (cc)) m h ls refl refl
            (o.0, o.1, refl, leb-true (page_words_at m.page_words v.page).newest v.flushed e, refl, (let some = (page_size_facts c.page_size size).least in omega arith), refl))
        by false e o = quiet (record v { step = cleaner_step.ReleaseSkipped }) (at_stage (record v { step = cleaner_step.ReleaseSkipped }) (ap runs ph) refl refl refl refl refl refl (λ z. absurd (cc)) m h ls refl refl (o.0, o.1))

    -- it frees a page that is too new
    pub keeps_skip : length m.page_words ≡ c.pages → v.step ≡ cleaner_step.ReleaseSkipped → Now (with_page_words m v.page (record (page_words_at m.page_words v.page) { latch = 0 })) h (next_in_round v)
    keeps_skip long ph =
        let o : CleanerAt E c m log h ls d seat v cleaner_step.ReleaseSkipped = subst (CleanerAt E c m log h ls d seat v) ph own.step in
        let a = o.1.0 in
        let p : ℕ = v.page in
        let w' : PageWords = record (page_words_at m.page_words p) { latch = 0 } in
        leaf_step E c seat_of m log stable h ls d actors seat before mates p w' h.holder a.there long (inr a.mine) (λ _ _. refl) (actor.Cleaner (next_in_round v))
        (freed_sheet E c seat_of m log stable h ls d actors seat before mates p w' a.there refl (before.paged.each_page p a.there).oldest (record { frame = a.page.frame; newest = a.page.newest; listing = a.page.listing }))
        (λ _ z. z) (λ _. a.mine)
        (next_in_round_fits (with_page_words m p w') h v refl refl (ap runs ph) refl refl refl refl refl
        (λ i y lo z. let r = o.0.held i y lo z in let ne = not_in o.0 i y z in
        let ye = leaf_else E c seat_of m log stable h ls d actors seat before mates p w' y.page ne in (
          record {
            held = at_else E c seat_of m log stable h ls d actors seat before mates p w' h.holder a.there long (inr a.mine) (λ _ _. refl) y.page none_in_hand All Last Agree ne r.0.held;
            newest = r.0.newest ∙ sym (ap (λ (k : PageWords). k.newest) ye);
            bytes = r.0.bytes ∙ sym (ap (λ (k : PageWords). framed_page c.page_size k.frame) ye);
            low = r.0.low;
          },
          subst (λ (k : PageWords). 0 < k.oldest) (sym ye) r.1,
        ))
        own.few o.0.more o.0.round (λ i y is. inr (o.0.passed i y is)) own.apart)

    -- it loads a word; with the last the page enters the batch
    pub keeps_load : IsPageSize c.page_size → ((p : ℕ) → p < c.pages → length (page_words_at m.page_words p).frame ≡ frame_words c.page_size) → v.step ≡ cleaner_step.LoadFrame → Now m h (cleaner_took v (answer.Old (slice_index (page_words_at m.page_words v.page).frame (length v.kept / 8))) cleaner_step.LoadFrame)
    keeps_load size sizes ph = by (eqb (length v.kept + 8) v.page_size) refl (subst (CleanerAt E c m log h ls d seat v) ph own.step)
      where
        frame : List ℕ
        frame = (page_words_at m.page_words v.page).frame

        word : List ℕ
        word = lanes 0 8 (slice_index frame (length v.kept / 8))

        more : v.kept ≡ framed_page (length v.kept) frame → length v.kept < c.page_size → length v.kept % 8 ≡ 0
            → v.kept ++ word ≡ framed_page (length v.kept + 8) frame
        more e lt even = more_of (length v.kept / 8) (let z : length v.kept ≡ 8 * (length v.kept / 8) = omega arith in z)
            (omega (arith, sizes v.page own.page, frame_fills c.page_size size))
          where
            more_of : (q : ℕ) → length v.kept ≡ 8 * q → q < length frame
                → v.kept ++ lanes 0 8 (slice_index frame q) ≡ framed_page (length v.kept + 8) frame
            more_of q is lt = ap (λ (l : List ℕ). l ++ lanes 0 8 (slice_index frame q)) (e ∙ ap (λ (k : ℕ). framed_page k frame) is)
                ∙ sym (framed_next frame q lt) ∙ ap (λ (k : ℕ). framed_page (k + 8) frame) (sym is)

        by : (b : Bool) → eqb (length v.kept + 8) v.page_size ≡ b → CleanerAt E c m log h ls d seat v cleaner_step.LoadFrame
            → Now m h (cond b (next_in_round (record v { batch = v.batch ++ page_loaded v (slice_index frame (length v.kept / 8)) ∷ [] })) (record v { kept = v.kept ++ word; step = cleaner_step.LoadFrame }))
        by false e o = let z = eqb-false (length v.kept + 8) v.page_size e in let lt = o.5 in
            let long : length (v.kept ++ word) ≡ length v.kept + 8 = length-append v.kept word ∙ ap (λ (k : ℕ). length v.kept + k) (lanes_long 0 8 (slice_index frame (length v.kept / 8))) in
            let even = o.6 in let whole = whole_words c.page_size size in let its = own.page_size in
            let x : CleanerState = record v { kept = v.kept ++ word; step = cleaner_step.LoadFrame } in
            quiet x (at_stage x (ap runs ph) refl refl refl refl refl refl (λ z. absurd (cc)) m h ls refl refl
            (o.0, o.1, o.2, o.3, more o.4 o.5 o.6 ∙ ap (λ (k : ℕ). framed_page k frame) (sym long), (omega arith), (omega arith)))
        by true e o = let z = eqb-true (length v.kept + 8) v.page_size e in
            let t : BatchPage = page_loaded v (slice_index frame (length v.kept / 8)) in
            let x : CleanerState = record v { batch = v.batch ++ t ∷ [] } in
            let L = o.0 in
            let few = L.few in
            let bytes : t.bytes ≡ framed_page c.page_size frame = more o.4 o.5 o.6 ∙ ap (λ (k : ℕ). framed_page k frame) (z ∙ own.page_size) in
            let mine : InBatch E c m log h ls d seat v.flushed t Agree = record { held = o.1.0; newest = o.2; bytes = bytes; low = o.3 } in
            quiet (next_in_round x) (next_in_round_fits m h x refl refl (ap runs ph) refl refl refl refl refl
            (λ i y lo is. ⊎_elim (λ k. L.held i y lo k) (λ k. subst (λ (r : BatchPage). InBatch E c m log h ls d seat v.flushed r Agree × (0 < (page_words_at m.page_words r.page).oldest)) k.1 (mine, o.1.1)) (at_end v.batch t y i is))
            (let k = length-append v.batch (t ∷ []) in omega arith) L.more L.round
            (λ i y is. ⊎_elim (λ k. inr (L.passed i y k)) (λ k. inl (ap (λ (r : BatchPage). r.page) (sym k.1))) (at_end v.batch t y i is))
            (λ i j y w iy jw l. ⊎_elim
            (λ k. ⊎_elim (λ r. own.apart i j y w k r l) (λ r e. not_in L i y k (e ∙ ap (λ (q : BatchPage). q.page) (sym r.1))) (at_end v.batch t w j jw))
            (λ k. let k0 = k.0 in ⊎_elim (λ r. let q = at_less v.batch j w r in absurd (omega arith)) (λ r. let r0 = r.0 in absurd (omega arith)) (at_end v.batch t w j jw))
            (at_end v.batch t y i iy)))
