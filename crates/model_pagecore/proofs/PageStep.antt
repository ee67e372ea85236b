-- Steps of the page half in common.
use Rattle.std.proofs.Common.{Bool, List, [], ap, arith, cond, eq-eqb, eqb, eqb-true, false, get_or-set_other, get_or-set_same, length, ne_eqb, refl, set, subst, suc, sym, true, zero, ℕ, ⊎_elim, ◌+◌, ◌<◌, ◌∙◌, ◌∷◌, ◌≡◌, ◌≢◌, ◌≤◌, ◌⊎◌}
use Rattle.std.specs.Prelude.{slice_index, slice_set}
use lib.ListN.{get_elem?}
use mathlib.Core.Option.{some}
use native.Mathlib.Decide.{ℕ_discrete}
use Rattle.model_core.specs.{Actor, blank_words, CellWrite, change_at, Entry, Listed, lsn, page_words_at, PageChange, PageWords, SharedWords, UserState, with_page_words, DataSide, Setup}
use Rattle.model_pagecore.proofs.PageHistory.{each_more}
use Rattle.model_pagecore.proofs.PageFrame.{log_same, longer_same, one_page_later, page_later, page_moved, page_others, pages_same}
use Rattle.model_pagecore.proofs.Unfinished.{unfinished_later}
use Rattle.model_pagecore.specs.PageFacts.{ClosedLinks, PageGhost, ListFacts, listed_lsn}
use Rattle.model_pagecore.specs.PageHalf.{At, PageFits, PageHalf, PagesInHand, group_in_hand}
use Rattle.model_pagecore.specs.Pages.{All, Before, AgreeBelow, Cells, FrameStage, GroupInHand, Last, NewestStage, PageIs, OnePage, ListingStage, IsListed, StartsAt, Agree, cells_on, none_in_hand, is_changed_page}
use Rattle.model_core.specs.States as actor
use Rattle.model_core.specs.declared.limits.TheConstants.{CLOSED_LINKS}

-- the change on a page that a group names, if it names each once
pub cells_mine : (cs : List PageChange) (k : ℕ) → k < length cs → ((i : ℕ) → i < k → (change_at cs i).page ≢ (change_at cs k).page) → (◌≡◌ {A = List CellWrite} (cells_on (change_at cs k).page cs) (change_at cs k).cells) × (is_changed_page (change_at cs k).page cs ≡ true)
cells_mine [] k l h = absurd (omega arith)
cells_mine (c ∷ cs) zero l h = (ap (λ (b : Bool). cond b c.cells (cells_on c.page cs)) (eq-eqb c.page c.page refl), ap (λ (b : Bool). cond b true (is_changed_page c.page cs)) (eq-eqb c.page c.page refl))
cells_mine (c ∷ cs) (suc k) l h =
    let p : ℕ = (change_at cs k).page in
    let n : c.page ≢ p = h zero (omega arith) in
    let r = cells_mine cs k (omega arith) (λ i lt. h (suc i) (omega arith)) in
    (ap (λ (b : Bool). cond b c.cells (cells_on p cs)) (ne_eqb c.page p n) ∙ r.0, ap (λ (b : Bool). cond b true (is_changed_page p cs)) (ne_eqb c.page p n) ∙ r.1)

-- a page that a group touches is one that it names
pub named : (p : ℕ) (cs : List PageChange) → is_changed_page p cs ≡ true → (k : ℕ) × (k < length cs) × ((change_at cs k).page ≡ p)
named p [] e = absurd (cc)
named p (c ∷ cs) e = at (eqb c.page p) refl e (λ z. named p cs z)
  where
    at : (b : Bool) → eqb c.page p ≡ b → cond b true (is_changed_page p cs) ≡ true → (is_changed_page p cs ≡ true → (k : ℕ) × (k < length cs) × ((change_at cs k).page ≡ p)) → (k : ℕ) × (k < suc (length cs)) × ((change_at (c ∷ cs) k).page ≡ p)
    at true f e more = (zero, omega arith, eqb-true c.page p f)
    at false f e more = let r = more e in let r1 = r.1 in (suc r.0, (omega arith), r.2)

module _ (E : DataSide) (c : Setup) (seat_of : ℕ → ℕ) (m : SharedWords) (log : List Entry) (stable : ℕ) (h : PageGhost) (ls : ℕ → List Listed) (d : E.Part) (actors : List Actor) (seat : ℕ) (before : PageHalf E c m log stable h ls d actors)
    (mates : (j : ℕ) (u : UserState) → get_elem? actors j ≡ some (actor.User u) → seat_of u.user ≡ j) where
  pub mate : (j : ℕ) (a : Actor) → get_elem? actors j ≡ some a → (u : UserState) → a ≡ actor.User u → seat_of u.user ≡ j
  mate j a e u same = mates j u (subst (λ (x : Actor). get_elem? actors j ≡ some x) same e)

  -- only numbers grow, and only the words that the page half doesn't read change
  pub grown : (m' : SharedWords) (stable' : ℕ) (b : Actor) → m'.page_words ≡ m.page_words → m'.lists ≡ m.lists → m'.clinks ≡ m.clinks → m'.ctail ≡ m.ctail → m'.cheld ≡ m.cheld → m.sn ≡ m'.sn → m.flushed ≤ m'.flushed → stable ≤ stable' → m'.flushed ≤ stable' → stable' ≤ lsn m'.sn
      → PageFits E c m' log h ls d seat b → PageHalf E c m' log stable' h ls d (set actors seat b)
  grown m' stable' b e1 e2 e3 e4 e6 e5 le ge fl tp mine =
      let P = before.paged in
      let K = P.closed_links in
      page_moved E c m m' log log stable stable' h h ls ls d d actors seat b
      (record {
        closed_links = subst (λ (x : ℕ). ClosedLinks log h.closed m'.ctail m'.cheld h.tail (lsn x) m'.clinks) e5 (subst (λ (x : Bool). ClosedLinks log h.closed m'.ctail x h.tail (lsn m.sn) m'.clinks) (sym e6)
            (subst (λ (x : ℕ). ClosedLinks log h.closed x m.cheld h.tail (lsn m.sn) m'.clinks) (sym e4) (subst (λ (x : List ℕ). ClosedLinks log h.closed m.ctail m.cheld h.tail (lsn m.sn) x) (sym e3) K)));
        lists = subst (λ (x : ℕ). ListFacts ls x) (sym e4) P.lists;
        each_page = λ p t. one_page_later c p log log h.closed h.closed h.given stable stable' (page_words_at m.page_words p) (page_words_at m'.page_words p) (listed_lsn ls p) (listed_lsn ls p) (h.kept_page p) (h.kept_page p)
            (longer_same log) (log_same p log) refl (λ _ _ _ _ z. z) (ap (λ (x : List PageWords). page_words_at x p) e1) refl refl ge (P.each_page p t);
        within = (let z = P.within in omega arith);
        flushed = fl;
        stable_top = tp;
        stored = P.stored;
        unfinished = unfinished_later c.pages c.opened h.kept_page log log stable stable' h.unfinished (longer_same log) (λ _ _ _ _. refl) ge P.unfinished;
        alone = P.alone;
      })
      mine
      (λ j a n e. page_others E c seat_of m m' log log h h ls ls d d seat j n
      (pages_same e1 e2 e4 e6 le)
      (λ _. record { kept_page = λ _. refl; oldest = λ p z. subst (λ (x : List PageWords). 0 < (page_words_at x p).oldest) (sym e1) z; store = refl; unfinished = refl })
      (λ _. record { given = refl; passed = λ _ _ _ _ z. z })
      a (mate j a e) (before.each j a e))

  -- nothing but the actor's own state changes
  pub page_quiet : (b : Actor) → PageFits E c m log h ls d seat b → PageHalf E c m log stable h ls d (set actors seat b)
  page_quiet b mine = grown m stable b refl refl refl refl refl refl (omega arith) (omega arith) before.paged.flushed before.paged.stable_top mine

  pub leaf_here : (p : ℕ) (w : PageWords) → p < length m.page_words → ◌≡◌ {A = PageWords} (page_words_at (with_page_words m p w).page_words p) w
  leaf_here p w l = get_or-set_same m.page_words p w blank_words l

  pub leaf_else : (p : ℕ) (w : PageWords) (q : ℕ) → q ≢ p → ◌≡◌ {A = PageWords} (page_words_at (with_page_words m p w).page_words q) (page_words_at m.page_words q)
  leaf_else p w q n = get_or-set_other m.page_words p q w blank_words n

  -- a page whose latch is free, or the seat's, and its words are changed
  module _ (p : ℕ) (w : PageWords) (holders : ℕ → ℕ) (there : p < c.pages) (long : length m.page_words ≡ c.pages) (mine : ((page_words_at m.page_words p).latch ≡ 0) ⊎ (h.holder p ≡ seat)) (same : (q : ℕ) → q ≢ p → holders q ≡ h.holder q) where
    abbrev pub leaf_mem : SharedWords
    leaf_mem = with_page_words m p w

    abbrev pub leaf_folio : PageGhost
    leaf_folio = record h { holder = holders }

    pub not_mine : (q : ℕ) → (page_words_at m.page_words q).latch ≡ 1 → h.holder q ≢ seat → q ≢ p
    not_mine q la ho e = ⊎_elim (λ z. let y : (page_words_at m.page_words p).latch ≡ 1 = subst (λ (x : ℕ). (page_words_at m.page_words x).latch ≡ 1) e la in absurd (omega arith)) (λ z. absurd (ho (ap h.holder e ∙ z))) mine

    pub at_else : (q : ℕ) (k : GroupInHand) (f : FrameStage) (n : NewestStage) (t : ListingStage) → q ≢ p → At E c m log h ls d seat q k f n t → At E c leaf_mem log leaf_folio ls d seat q k f n t
    at_else q k f n t ne o = let we = leaf_else p w q ne in record {
      there = o.there;
      latched = ap (λ (x : PageWords). x.latch) we ∙ o.latched;
      mine = same q ne ∙ o.mine;
      page = page_later c q log log k (page_words_at m.page_words q) (page_words_at leaf_mem.page_words q) (listed_lsn ls q) (listed_lsn ls q) f n t (log_same q log) refl we refl o.page;
    }

    pub leaf_step : (b : Actor) → OnePage c p log h.closed h.given stable w (listed_lsn ls p) (h.kept_page p) → (seat ≢ c.cleaner → 0 < (page_words_at m.page_words p).oldest → 0 < w.oldest) → (w.latch ≡ 1 → holders p ≡ seat)
        → PageFits E c leaf_mem log leaf_folio ls d seat b → PageHalf E c leaf_mem log stable leaf_folio ls d (set actors seat b)
    leaf_step b sheet kept owned fits = let P = before.paged in let l : p < length m.page_words = omega arith in
        page_moved E c m leaf_mem log log stable stable h leaf_folio ls ls d d actors seat b
        (record {
          closed_links = P.closed_links;
          lists = P.lists;
          each_page = λ q t. elim (ℕ_discrete q p) [
            | yes e ↦ subst (λ (x : ℕ). OnePage c x log h.closed h.given stable (page_words_at leaf_mem.page_words x) (listed_lsn ls x) (h.kept_page x)) (sym e)
                (subst (λ (x : PageWords). OnePage c p log h.closed h.given stable x (listed_lsn ls p) (h.kept_page p)) (sym (leaf_here p w l)) sheet)
            | no n ↦ one_page_later c q log log h.closed h.closed h.given stable stable (page_words_at m.page_words q) (page_words_at leaf_mem.page_words q) (listed_lsn ls q) (listed_lsn ls q) (h.kept_page q) (h.kept_page q)
                (longer_same log) (log_same q log) refl (λ _ _ _ _ z. z) (leaf_else p w q n) refl refl (omega arith) (P.each_page q t)
          ];
          within = P.within;
          flushed = P.flushed;
          stable_top = P.stable_top;
          stored = P.stored;
          unfinished = P.unfinished;
          alone = P.alone;
        })
        fits
        (λ j a n e. page_others E c seat_of m leaf_mem log log h leaf_folio ls ls d d seat j n
        (record {
          longer = longer_same log;
          logs = λ q _ _. log_same q log;
          page_words = λ q la ho. leaf_else p w q (not_mine q la ho);
          holders = λ q la ho. same q (not_mine q la ho);
          listeds = λ q _ _. refl;
          taken = λ q la ho. elim (ℕ_discrete q p) [
            | yes e ↦ absurd (ho (ap holders e ∙ owned (sym (ap (λ (x : PageWords). x.latch) (leaf_here p w l)) ∙ subst (λ (x : ℕ). (page_words_at leaf_mem.page_words x).latch ≡ 1) e la)))
            | no n ↦ (sym (ap (λ (x : PageWords). x.latch) (leaf_else p w q n)) ∙ la, same q n)
          ];
          opens = λ _ _ _ _. refl;
          lists = λ i o _. (o, refl);
          closes = λ _ z. z;
          held = λ o _. (o, refl, refl, refl);
          ctail = omega arith;
          flushed = omega arith;
        })
        (λ alone. record {
          kept_page = λ _. refl;
          oldest = λ q z. elim (ℕ_discrete q p) [
            | yes e ↦ subst (λ (x : ℕ). 0 < (page_words_at leaf_mem.page_words x).oldest) (sym e) (subst (λ (x : PageWords). 0 < x.oldest) (sym (leaf_here p w l)) (kept alone (subst (λ (x : ℕ). 0 < (page_words_at m.page_words x).oldest) e z)))
            | no n ↦ subst (λ (x : PageWords). 0 < x.oldest) (sym (leaf_else p w q n)) z
          ];
          store = refl;
          unfinished = refl;
        })
        (λ _. record { given = refl; passed = λ _ _ _ _ z. z })
        a (mate j a e) (before.each j a e))

    -- the page has become this, with the latch kept
    pub at_here : (k : GroupInHand) (f : FrameStage) (n : NewestStage) (t : ListingStage) → w.latch ≡ 1 → holders p ≡ seat → PageIs c p log k w (listed_lsn ls p) f n t → At E c leaf_mem log leaf_folio ls d seat p k f n t
    at_here k f n t la ho is = let we = leaf_here p w (omega arith) in record {
      there = there;
      latched = ap (λ (x : PageWords). x.latch) we ∙ la;
      mine = ho;
      page = page_later c p log log k w (page_words_at leaf_mem.page_words p) (listed_lsn ls p) (listed_lsn ls p) f n t (log_same p log) refl we refl is;
    }

  -- a latched page with other words in its frame, or another OLDEST
  pub latched_sheet : (p : ℕ) (w : PageWords) → p < c.pages → w.latch ≡ 1 → (0 < w.oldest → StartsAt p log w.oldest) → OnePage c p log h.closed h.given stable w (listed_lsn ls p) (h.kept_page p)
  latched_sheet p w t la o = let S = before.paged.each_page p t in record {
    latch = omega arith;
    free = λ z. absurd (omega arith);
    oldest = o;
    fold = S.fold;
    ends = S.ends;
    early = S.early;
    behind = S.behind;
    change = S.change;
    passed = S.passed;
  }

  pub freed_sheet : (p : ℕ) (w : PageWords) → p < c.pages → w.latch ≡ 0 → (0 < w.oldest → StartsAt p log w.oldest) → PageIs c p log none_in_hand w (listed_lsn ls p) All Last Agree → OnePage c p log h.closed h.given stable w (listed_lsn ls p) (h.kept_page p)
  freed_sheet p w t la o is = let S = before.paged.each_page p t in record {
    latch = omega arith;
    free = λ z. is;
    oldest = o;
    fold = S.fold;
    ends = S.ends;
    early = S.early;
    behind = S.behind;
    change = S.change;
    passed = S.passed;
  }

  -- a group in hand, with the page that its user is at changed
  module _ (m' : SharedWords) (h' : PageGhost) (ls' : ℕ → List Listed) (d' : E.Part) (g : Entry) (page : ℕ) (apart : (i k : ℕ) → i < k → k < length g.changes → (change_at g.changes i).page ≢ (change_at g.changes k).page) (pl : page < length g.changes) where
    pub work_here : (f f' : FrameStage) (n n' : NewestStage) (t t' : ListingStage) → (o : PagesInHand E c m log h ls d seat g page f n t) → h'.closed g.start ≡ false
        → ((q : ℕ) (k : GroupInHand) (f : FrameStage) (n : NewestStage) (t : ListingStage) → q ≢ (change_at g.changes page).page → At E c m log h ls d seat q k f n t → At E c m' log h' ls' d' seat q k f n t)
        → At E c m' log h' ls' d' seat ((change_at g.changes page).page) (group_in_hand E c m log h ls d g o.at) f' n' t' → PagesInHand E c m' log h' ls' d' seat g page f' n' t'
    work_here f f' n n' t t' o un else here = record {
      at = o.at;
      is = o.is;
      not_closed = un;
      last = o.last;
      before = λ k a b. else ((change_at g.changes k).page) (group_in_hand E c m log h ls d g o.at) All Last IsListed (apart k page a pl) (o.before k a b);
      here = λ _. here;
      after = λ k a b. else ((change_at g.changes k).page) (group_in_hand E c m log h ls d g o.at) (Cells 0) Before AgreeBelow (λ z. apart page k a b (sym z)) (o.after k a b);
    }

  -- a list's turn word is taken or given, and what the list says of a page of the seat's may change
  module _ (i x : ℕ) (turns : ℕ → ℕ) (ls' : ℕ → List Listed) (long : length m.lists ≡ 4) (low : i < 4) (mine : (slice_index m.lists i ≡ 0) ⊎ (h.list_holder i ≡ seat)) (same : (j : ℕ) → j ≢ i → turns j ≡ h.list_holder j) where
    abbrev pub list_mem : SharedWords
    list_mem = record m { lists = slice_set m.lists i x }

    abbrev pub list_folio : PageGhost
    list_folio = record h { list_holder = turns }

    pub list_at : (q : ℕ) (k : GroupInHand) (f : FrameStage) (n : NewestStage) (t : ListingStage) → listed_lsn ls' q ≡ listed_lsn ls q → At E c m log h ls d seat q k f n t → At E c list_mem log list_folio ls' d seat q k f n t
    list_at q k f n t e o = record {
      there = o.there;
      latched = o.latched;
      mine = o.mine;
      page = page_later c q log log k (page_words_at m.page_words q) (page_words_at m.page_words q) (listed_lsn ls q) (listed_lsn ls' q) f n t (log_same q log) refl refl e o.page;
    }

    pub list_sheet : (q : ℕ) → q < c.pages → listed_lsn ls' q ≡ listed_lsn ls q → OnePage c q log h.closed h.given stable (page_words_at m.page_words q) (listed_lsn ls' q) (h.kept_page q)
    list_sheet q t e = one_page_later c q log log h.closed h.closed h.given stable stable (page_words_at m.page_words q) (page_words_at m.page_words q) (listed_lsn ls q) (listed_lsn ls' q) (h.kept_page q) (h.kept_page q)
        (longer_same log) (log_same q log) refl (λ _ _ _ _ z. z) refl e refl (omega arith) (before.paged.each_page q t)

    pub list_step : (b : Actor) → ListFacts ls' m.ctail → ((q : ℕ) → q < c.pages → OnePage c q log h.closed h.given stable (page_words_at m.page_words q) (listed_lsn ls' q) (h.kept_page q))
        → ((q : ℕ) → (page_words_at m.page_words q).latch ≡ 1 → h.holder q ≢ seat → listed_lsn ls' q ≡ listed_lsn ls q) → PageFits E c list_mem log list_folio ls' d seat b → PageHalf E c list_mem log stable list_folio ls' d (set actors seat b)
    list_step b waits each_page others fits = let P = before.paged in
        page_moved E c m list_mem log log stable stable h list_folio ls ls' d d actors seat b
        (record { closed_links = P.closed_links; lists = waits; each_page = each_page; within = P.within; flushed = P.flushed; stable_top = P.stable_top; stored = P.stored; unfinished = P.unfinished; alone = P.alone })
        fits
        (λ j a n e. page_others E c seat_of m list_mem log log h list_folio ls ls' d d seat j n
        (record {
          longer = longer_same log;
          logs = λ q _ _. log_same q log;
          page_words = λ q _ _. refl;
          holders = λ q _ _. refl;
          listeds = others;
          taken = λ q la _. (la, refl);
          opens = λ _ _ _ _. refl;
          lists = λ j o t. let ne : j ≢ i = (λ z. ⊎_elim (λ y. let k : slice_index m.lists i ≡ 1 = subst (λ (r : ℕ). slice_index m.lists r ≡ 1) z o in absurd (omega arith)) (λ y. absurd (t (ap h.list_holder z ∙ y))) mine) in
              (get_or-set_other m.lists i j x 0 ne ∙ o, same j ne);
          closes = λ _ z. z;
          held = λ o _. (o, refl, refl, refl);
          ctail = omega arith;
          flushed = omega arith;
        })
        (λ _. record { kept_page = λ _. refl; oldest = λ q z. z; store = refl; unfinished = refl })
        (λ _. record { given = refl; passed = λ _ _ _ _ z. z })
        a (mate j a e) (before.each j a e))

  -- the links of closed groups, CTAIL and who holds it, the place to which links are cleared, or which groups are closed change
  module _ (links : List ℕ) (ctail : ℕ) (cheld : Bool) (tail advancer : ℕ) (closed : ℕ → Bool) where
    abbrev pub ring_mem : SharedWords
    ring_mem = record m { clinks = links; ctail = ctail; cheld = cheld }

    abbrev pub ring_folio : PageGhost
    ring_folio = record h { closed = closed; tail = tail; advancer = advancer }

    pub ring_step : (b : Actor) → ClosedLinks log closed ctail cheld tail (lsn m.sn) links → m.ctail ≤ ctail
        → ((q : ℕ) → q < c.pages → OnePage c q log closed h.given stable (page_words_at m.page_words q) (listed_lsn ls q) (h.kept_page q))
        → ((i : ℕ) (e : Entry) → get_elem? log i ≡ some e → seat_of e.user ≢ seat → closed e.start ≡ h.closed e.start) → ((x : ℕ) → h.closed x ≡ true → closed x ≡ true)
        → (m.cheld ≡ true → h.advancer ≢ seat → (cheld ≡ true) × (advancer ≡ h.advancer) × (ctail ≡ m.ctail) × (tail ≡ h.tail))
        → PageFits E c ring_mem log ring_folio ls d seat b → PageHalf E c ring_mem log stable ring_folio ls d (set actors seat b)
    ring_step b K le each_page opens closes held fits = let P = before.paged in
        page_moved E c m ring_mem log log stable stable h ring_folio ls ls d d actors seat b
        (record {
          closed_links = K;
          lists = record { relaxed = P.lists.relaxed; near = λ i. each_more (λ x. x.oldest < m.ctail + CLOSED_LINKS) (λ x. x.oldest < ctail + CLOSED_LINKS) (ls i) (λ x z. omega arith) (P.lists.near i); real = P.lists.real };
          each_page = each_page;
          within = P.within;
          flushed = P.flushed;
          stable_top = P.stable_top;
          stored = P.stored;
          unfinished = P.unfinished;
          alone = P.alone;
        })
        fits
        (λ j a n e. page_others E c seat_of m ring_mem log log h ring_folio ls ls d d seat j n
        (record {
          longer = longer_same log;
          logs = λ q _ _. log_same q log;
          page_words = λ q _ _. refl;
          holders = λ q _ _. refl;
          listeds = λ q _ _. refl;
          taken = λ q la _. (la, refl);
          opens = opens;
          lists = λ i o _. (o, refl);
          closes = closes;
          held = held;
          ctail = le;
          flushed = omega arith;
        })
        (λ _. record { kept_page = λ _. refl; oldest = λ q z. z; store = refl; unfinished = refl })
        (λ _. record { given = refl; passed = λ _ _ _ _ z. z })
        a (mate j a e) (before.each j a e))
