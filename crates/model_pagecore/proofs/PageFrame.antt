-- What stays of the page half when one actor moves.
use Rattle.std.proofs.Common.{Bool, List, [], ap, arith, cond, false, inl, inr, length, refl, set, subst, sym, take, true, ℕ, ⊎_elim, ◌%◌, ◌++◌, ◌+◌, ◌<◌, ◌∙◌, ◌∷◌, ◌≡◌, ◌≢◌, ◌≤◌}
use Rattle.std.proofs.lemmas.List.{take-append-le}
use Rattle.std.specs.Prelude.{slice_index}
use lib.ListN.{get_elem?}
use mathlib.Core.Option.{some}
use native.Mathlib.Decide.{dec_le, ℕ_discrete}
use Rattle.model_core.proofs.Lists.{at_longer, at_set}
use Rattle.model_core.proofs.Groups.{at_end, at_less}
use Rattle.model_core.specs.{Actor, Advance, BatchPage, cells_of, change_at, changes, CheckpointerState, CleanerState, CloserState, current_page, Entry, entry, first_of_batch, frame_word, framed_page, KeptPage, line, Listed, page_words_at, PageWords, SharedWords, UserState, DataSide, Setup}
use Rattle.model_core.specs.declared.steps.AdvanceStep.{AdvanceStep}
use Rattle.model_core.specs.declared.steps.CleanerStep.{CleanerStep}
use Rattle.model_core.specs.declared.steps.CloserStep.{CloserStep}
use Rattle.model_core.specs.declared.steps.UserStep.{UserStep}
use Rattle.model_core.specs.declared.steps.CheckpointerStep.{CheckpointerStep}
use Rattle.model_pagecore.proofs.PageHistory.{last_snoc, puts_none, whole_snoc}
use Rattle.model_pagecore.specs.Latches.{CleanerHasLatch, UserHasLatch}
use Rattle.model_pagecore.specs.PageFacts.{PageGhost, PageFacts, listed_lsn}
use Rattle.model_pagecore.specs.PageHalf.{AreBatch, AreLatched, IsBatchKept, At, CanGive, CleanerAt, CleanerFits, CleanerHolds, CloserAt, CloserFits, ClosingAt, HasList, HasPage, HoldsCtail, HoldsOnly, InBatch, HasPagesInHand, HasUntouchedPages, IsNear, Looking, PageFits, PageHalf, CheckpointerPagesAt, CheckpointerPageFits, ReadBelow, Unlisting, UserClosingAt, UserHolds, UserPagesAt, UserPageFits, PagesInHand, group_in_hand}
use Rattle.model_pagecore.specs.Pages.{InListOnly, All, Before, AgreeBelow, Cells, InWordOnly, FrameIs, FrameStage, GroupInHand, Last, NewestIs, NewestStage, Unlisted, PageIs, Passed, OnePage, ListingStage, ListingIs, IsListed, Agree, cells_on, end_lsn, none_in_hand, last_end, write_cells, is_changed_page, applied_upto, applied_all}
use Rattle.model_core.specs.declared.steps.AdvanceStep.TheVariants as advance_step
use Rattle.model_core.specs.declared.steps.UserStep.TheVariants as user_step
use Rattle.model_core.specs.declared.steps.CloserStep.TheVariants as closer_step
use Rattle.model_core.specs.declared.steps.CleanerStep.TheVariants as cleaner_step
use Rattle.model_core.specs.declared.steps.CheckpointerStep.TheVariants as checkpointer_step
use Rattle.model_core.specs.States as actor

-- the history goes on
pub record Longer (log log' : List Entry) : Type 0 where
  pub old : (i : ℕ) (e : Entry) → get_elem? log i ≡ some e → get_elem? log' i ≡ some e
  pub takes : (i : ℕ) (e : Entry) → get_elem? log i ≡ some e → ◌≡◌ {A = List Entry} (take i log') (take i log)

-- and without page p
pub record LogLater (p : ℕ) (log log' : List Entry) : Type 0 where
  pub applied_all : (b : List ℕ) → applied_all p log' b ≡ applied_all p log b
  pub last : (n : ℕ) → last_end p log' n ≡ last_end p log n
  pub fresh : (i : ℕ) (e : Entry) → get_elem? log' i ≡ some e → is_changed_page p e.changes ≡ true → get_elem? log i ≡ some e

pub longer_same : (log : List Entry) → Longer log log
longer_same log = record { old = λ i e z. z; takes = λ i e z. refl }

pub log_same : (p : ℕ) (log : List Entry) → LogLater p log log
log_same p log = record { applied_all = λ b. refl; last = λ n. refl; fresh = λ i e z t. z }

pub longer_snoc : (log : List Entry) (e : Entry) → Longer log (log ++ e ∷ [])
longer_snoc log e = record {
  old = λ i x z. at_longer log (e ∷ []) i x z;
  takes = λ i x z. let l = at_less log i x z in take-append-le i log (e ∷ []) (omega arith);
}

pub log_snoc : (p : ℕ) (log : List Entry) (e : Entry) → is_changed_page p e.changes ≡ false → LogLater p log (log ++ e ∷ [])
log_snoc p log e t = record {
  applied_all = λ b. whole_snoc p log e b ∙ puts_none p e.changes (applied_all p log b) t;
  last = λ n. last_snoc p log e n ∙ ap (λ (d : Bool). cond d (end_lsn e) (last_end p log n)) t;
  fresh = λ i x z k. ⊎_elim (λ q. q) (λ q. let y : is_changed_page p x.changes ≡ false = ap (λ (r : Entry). is_changed_page p r.changes) (sym q.1) ∙ t in absurd (cc)) (at_end log e x i z);
}

pub page_later : (c : Setup) (p : ℕ) (log log' : List Entry) (k : GroupInHand) (w w' : PageWords) (l l' : ℕ) (f : FrameStage) (n : NewestStage) (t : ListingStage) → LogLater p log log' → ◌≡◌ {A = List Entry} (take k.at log') (take k.at log) → ◌≡◌ {A = PageWords} w' w → l' ≡ l
    → PageIs c p log k w l f n t → PageIs c p log' k w' l' f n t
page_later c p log log' k w w' l l' f n t L tk we le h = record {
  frame = frame f h.frame;
  newest = newest n h.newest;
  listing = subst (λ (x : ℕ). ListingIs k w'.oldest x t) (sym le) (subst (λ (x : PageWords). ListingIs k x.oldest l t) (sym we) h.listing);
}
  where
    b : List ℕ
    b = (c.opened p).bytes

    fr : framed_page c.page_size w'.frame ≡ framed_page c.page_size w.frame
    fr = ap (λ (x : PageWords). framed_page c.page_size x.frame) we

    nw : w'.newest ≡ w.newest
    nw = ap (λ (x : PageWords). x.newest) we

    frame : (f : FrameStage) → FrameIs p b log k (framed_page c.page_size w.frame) f → FrameIs p b log' k (framed_page c.page_size w'.frame) f
    frame All e = fr ∙ e ∙ sym (L.applied_all b)
    frame (Cells j) e = fr ∙ e ∙ ap (λ (x : List Entry). write_cells (take j (cells_on p k.changes)) (applied_all p x b)) (sym tk)

    newest : (n : NewestStage) → NewestIs p log k w.newest n → NewestIs p log' k w'.newest n
    newest Last e = nw ∙ e ∙ sym (L.last 0)
    newest Before e = nw ∙ e ∙ ap (λ (x : List Entry). last_end p x 0) (sym tk)

-- what a step leaves of a page that it doesn't change
pub one_page_later : (c : Setup) (p : ℕ) (log log' : List Entry) (closed closed' : ℕ → Bool) (given stable stable' : ℕ) (w w' : PageWords) (l l' : ℕ) (k k' : KeptPage)
    → Longer log log' → LogLater p log log' → applied_upto p k.lsn log' (c.opened p).bytes ≡ applied_upto p k.lsn log (c.opened p).bytes
    → ((i : ℕ) (e : Entry) → get_elem? log i ≡ some e → is_changed_page p e.changes ≡ true → closed' e.start ≡ true → closed e.start ≡ true)
    → ◌≡◌ {A = PageWords} w' w → l' ≡ l → ◌≡◌ {A = KeptPage} k' k → stable ≤ stable'
    → OnePage c p log closed given stable w l k → OnePage c p log' closed' given stable' w' l' k'
one_page_later c p log log' closed closed' given stable stable' w w' l l' k k' G L up cl we le ke st h = subst (λ (x : KeptPage). OnePage c p log' closed' given stable' w' l' x) (sym ke) (record {
  latch = subst (λ (x : PageWords). x.latch ≤ 1) (sym we) h.latch;
  free = λ z. page_later c p log log' none_in_hand w w' l l' All Last Agree L refl we le (h.free (sym (ap (λ (x : PageWords). x.latch) we) ∙ z));
  oldest = λ z. let o = h.oldest (subst (λ (x : PageWords). 0 < x.oldest) we z) in (o.0, o.1, G.old o.0 o.1 o.2, o.3, o.4 ∙ sym (ap (λ (x : PageWords). x.oldest) we));
  fold = h.fold ∙ sym up;
  ends = ⊎_elim (λ z. inl z) (λ o. inr (o.0, o.1, G.old o.0 o.1 o.2, o.3, o.4)) h.ends;
  early = h.early;
  behind = let z = h.behind in omega arith;
  change = λ i e is t shut. let is' = L.fresh i e is t in ⊎_elim (λ z. inl (let a = z.0 in let b = z.1 in (omega arith, omega arith))) (λ z. inr z) (h.change i e is' t (cl i e is' t shut));
  passed = λ i e is t lt. h.passed i e (L.fresh i e is t) t lt;
})

module _ (E : DataSide) (c : Setup) (seat_of : ℕ → ℕ) (m m' : SharedWords) (log log' : List Entry) (h h' : PageGhost) (ls ls' : ℕ → List Listed) (d d' : E.Part) where
  -- what a step of a seat leaves to all others
  pub record PageLater (seat : ℕ) : Type 0 where
    pub longer : Longer log log'
    pub logs : (p : ℕ) → (page_words_at m.page_words p).latch ≡ 1 → h.holder p ≢ seat → LogLater p log log'
    pub page_words : (p : ℕ) → (page_words_at m.page_words p).latch ≡ 1 → h.holder p ≢ seat → ◌≡◌ {A = PageWords} (page_words_at m'.page_words p) (page_words_at m.page_words p)
    pub holders : (p : ℕ) → (page_words_at m.page_words p).latch ≡ 1 → h.holder p ≢ seat → h'.holder p ≡ h.holder p
    pub listeds : (p : ℕ) → (page_words_at m.page_words p).latch ≡ 1 → h.holder p ≢ seat → listed_lsn ls' p ≡ listed_lsn ls p
    pub taken : (p : ℕ) → (page_words_at m'.page_words p).latch ≡ 1 → h'.holder p ≢ seat → ((page_words_at m.page_words p).latch ≡ 1) × (h'.holder p ≡ h.holder p)
    pub opens : (i : ℕ) (e : Entry) → get_elem? log i ≡ some e → seat_of e.user ≢ seat → h'.closed e.start ≡ h.closed e.start
    pub lists : (i : ℕ) → slice_index m.lists i ≡ 1 → h.list_holder i ≢ seat → (slice_index m'.lists i ≡ 1) × (h'.list_holder i ≡ h.list_holder i)
    pub closes : (x : ℕ) → h.closed x ≡ true → h'.closed x ≡ true
    -- a tail that another seat holds stays so, with its place
    pub held : m.cheld ≡ true → h.advancer ≢ seat → (m'.cheld ≡ true) × (h'.advancer ≡ h.advancer) × (m'.ctail ≡ m.ctail) × (h'.tail ≡ h.tail)
    pub ctail : m.ctail ≤ m'.ctail
    pub flushed : m.flushed ≤ m'.flushed

  pub record StillCleaner : Type 0 where
    pub kept_page : (p : ℕ) → ◌≡◌ {A = KeptPage} (h'.kept_page p) (h.kept_page p)
    pub oldest : (p : ℕ) → 0 < (page_words_at m.page_words p).oldest → 0 < (page_words_at m'.page_words p).oldest
    pub store : ◌≡◌ {A = E.Part} d' d
    pub unfinished : ◌≡◌ {A = List BatchPage} h'.unfinished h.unfinished

  pub record StillCheckpointer : Type 0 where
    pub given : h'.given ≡ h.given
    pub passed : (p x : ℕ) → p < c.pages → x ≤ m.ctail → Passed p log (h.kept_page p).lsn x → Passed p log' (h'.kept_page p).lsn x

  module _ (seat j : ℕ) (ne : j ≢ seat) (later : PageLater seat) where
    at_later : (p : ℕ) (k : GroupInHand) (f : FrameStage) (n : NewestStage) (t : ListingStage) → ◌≡◌ {A = List Entry} (take k.at log') (take k.at log) → At E c m log h ls d j p k f n t → At E c m' log' h' ls' d' j p k f n t
    at_later p k f n t tk o =
        let other : h.holder p ≢ seat = (λ z. ne (sym o.mine ∙ z)) in
        let we = later.page_words p o.latched other in record {
          there = o.there;
          latched = ap (λ (x : PageWords). x.latch) we ∙ o.latched;
          mine = later.holders p o.latched other ∙ o.mine;
          page = page_later c p log log' k (page_words_at m.page_words p) (page_words_at m'.page_words p) (listed_lsn ls p) (listed_lsn ls' p) f n t (later.logs p o.latched other) tk we (later.listeds p o.latched other) o.page;
        }

    leaf_later : (p : ℕ) (k : GroupInHand) (f : FrameStage) (n : NewestStage) (t : ListingStage) → At E c m log h ls d j p k f n t → ◌≡◌ {A = PageWords} (page_words_at m'.page_words p) (page_words_at m.page_words p)
    leaf_later p k f n t o = later.page_words p o.latched (λ z. ne (sym o.mine ∙ z))

    logs_later : (p : ℕ) (k : GroupInHand) (f : FrameStage) (n : NewestStage) (t : ListingStage) → At E c m log h ls d j p k f n t → LogLater p log log'
    logs_later p k f n t o = later.logs p o.latched (λ z. ne (sym o.mine ∙ z))

    list_later : (i : ℕ) → HasList E c m log h ls d j i → HasList E c m' log' h' ls' d' j i
    list_later i o = let r = later.lists i o.0 (λ z. ne (sym o.1 ∙ z)) in (r.0, r.1 ∙ o.1)

    only_later : (named : ℕ → Type 0) → HoldsOnly E c m log h ls d j named → HoldsOnly E c m' log' h' ls' d' j named
    only_later named o p there la own = let r = later.taken p la (λ z. ne (sym own ∙ z)) in o p there r.0 (sym r.1 ∙ own)

    held_later : (u : UserState) (lo hi : ℕ) → AreLatched E c m log h ls d j u lo hi → AreLatched E c m' log' h' ls' d' j u lo hi
    held_later u lo hi o k a b = at_later ((change_at (changes u) k).page) none_in_hand All Last Agree refl (o k a b)

    work_later : (g : Entry) (page : ℕ) (f : FrameStage) (n : NewestStage) (t : ListingStage) → seat_of g.user ≡ j → PagesInHand E c m log h ls d j g page f n t → PagesInHand E c m' log' h' ls' d' j g page f n t
    work_later g page f n t own_seat o =
        let tk = later.longer.takes o.at g o.is in record {
          at = o.at;
          is = later.longer.old o.at g o.is;
          not_closed = later.opens o.at g o.is (λ z. ne (sym own_seat ∙ z)) ∙ o.not_closed;
          last = λ i e is l k lk. untouched i e is l k lk (some_at k lk) (is_changed_page ((change_at g.changes k).page) e.changes) refl;
          before = λ k a b. at_later _ (group_in_hand E c m log h ls d g o.at) All Last IsListed tk (o.before k a b);
          here = λ a. at_later _ (group_in_hand E c m log h ls d g o.at) f n t tk (o.here a);
          after = λ k a b. at_later _ (group_in_hand E c m log h ls d g o.at) (Cells 0) Before AgreeBelow tk (o.after k a b);
        }
      where
        some_at : (k : ℕ) → k < length g.changes → LogLater ((change_at g.changes k).page) log log'
        some_at k lk = elim (dec_le page k) [
          | yes a ↦ elim (ℕ_discrete page k) [
            | yes e ↦ subst (λ (i : ℕ). LogLater ((change_at g.changes i).page) log log') e (logs_later _ _ f n t (o.here (omega arith)))
            | no e ↦ logs_later _ _ (Cells 0) Before AgreeBelow (o.after k (omega arith) lk)
          ]
          | no a ↦ logs_later _ _ All Last IsListed (o.before k (omega arith) lk)
        ]

        untouched : (i : ℕ) (e : Entry) → get_elem? log' i ≡ some e → o.at < i → (k : ℕ) → k < length g.changes → LogLater ((change_at g.changes k).page) log log' → (b : Bool) → is_changed_page ((change_at g.changes k).page) e.changes ≡ b → b ≡ false
        untouched i e is l k lk L true t' = sym t' ∙ o.last i e (L.fresh i e is t') l k lk
        untouched i e is l k lk L false t' = refl

    in_work_later : (u : UserState) (f : FrameStage) (n : NewestStage) (t : ListingStage) → seat_of u.user ≡ j → HasPagesInHand E c m log h ls d j u f n t → HasPagesInHand E c m' log' h' ls' d' j u f n t
    in_work_later u f n t own_seat o = work_later (entry u.user u.k u.start (line u)) u.page f n t own_seat o

    fresh_later : (u : UserState) → seat_of u.user ≡ j → HasUntouchedPages E c m log h ls d j u → HasUntouchedPages E c m' log' h' ls' d' j u
    fresh_later u own_seat o = (in_work_later u (Cells 0) Before AgreeBelow own_seat o.0, o.1, o.2)

    near_later : (u : UserState) → IsNear E c m log h ls d u → IsNear E c m' log' h' ls' d' u
    near_later u o = (let a = o.0 in let b = later.ctail in omega arith, o.1)

    user_holds_later : (u : UserState) → seat_of u.user ≡ j → (f : UserStep) → UserHolds E c m log h ls d j u f → UserHolds E c m' log' h' ls' d' j u f
    user_holds_later u own_seat user_step.LoadCheckpoint o = tt
    user_holds_later u own_seat user_step.LoadSn o = tt
    user_holds_later u own_seat user_step.TakeLatch o = (held_later u 0 u.page o.0, o.1)
    user_holds_later u own_seat user_step.Reserve o = held_later u 0 (length (changes u)) o
    user_holds_later u own_seat user_step.LoadWrite o = fresh_later u own_seat o
    user_holds_later u own_seat user_step.AddCell o = fresh_later u own_seat o
    user_holds_later u own_seat user_step.StoreFirst o = fresh_later u own_seat o
    user_holds_later u own_seat user_step.LoadWtail o = fresh_later u own_seat o
    user_holds_later u own_seat (user_step.AdvanceWritten s) o = fresh_later u own_seat o
    user_holds_later u own_seat user_step.ReloadWtail o = fresh_later u own_seat o
    user_holds_later u own_seat user_step.StoreLink o = fresh_later u own_seat o
    user_holds_later u own_seat user_step.LoadCtail o = (fresh_later u own_seat o.0, o.1)
    user_holds_later u own_seat (user_step.AdvanceClosed s) o = (fresh_later u own_seat o.0, o.1)
    user_holds_later u own_seat user_step.ReloadCtail o = (fresh_later u own_seat o.0, o.1)
    user_holds_later u own_seat user_step.LoadFrame o = (in_work_later u (Cells u.cell) Before AgreeBelow own_seat o.0, near_later u o.1, o.2)
    user_holds_later u own_seat user_step.StoreFrame o = (in_work_later u (Cells u.cell) Before AgreeBelow own_seat o.0, near_later u o.1, o.2, ⊎_elim (λ z. inl (z ∙ sym (ap (λ (y : PageWords). slice_index y.frame (frame_word u)) (leaf_later _ _ (Cells u.cell) Before AgreeBelow (o.0.here o.1.1))))) (λ z. inr z) o.3)
    user_holds_later u own_seat user_step.StoreNewest o = (in_work_later u (Cells (length (cells_of u))) Before AgreeBelow own_seat o.0, near_later u o.1)
    user_holds_later u own_seat user_step.LoadOldest o = (in_work_later u All Last AgreeBelow own_seat o.0, near_later u o.1)
    user_holds_later u own_seat user_step.AddToList o = (in_work_later u All Last Unlisted own_seat o.0, near_later u o.1)
    user_holds_later u own_seat user_step.StoreOldest o = (in_work_later u All Last InListOnly own_seat o.0, near_later u o.1, list_later (current_page u % 4) o.2)
    user_holds_later u own_seat user_step.GiveList o = (in_work_later u All Last IsListed own_seat o.0, near_later u o.1, list_later (current_page u % 4) o.2)
    user_holds_later u own_seat user_step.StoreClosedLink o = (in_work_later u All Last IsListed own_seat o.0, (let a = o.1 in let b = later.ctail in omega arith), o.2, o.3)
    user_holds_later u own_seat user_step.ReleaseLatch o = (held_later u u.page (length (changes u)) o.0, o.1)
    user_holds_later u own_seat user_step.AwaitMark o = tt
    user_holds_later u own_seat user_step.Done o = tt
    user_holds_later u own_seat user_step.Failed o = absurd o

    user_pages_later : (u : UserState) → seat_of u.user ≡ j → (f : UserStep) → UserPagesAt E c m log h ls d j u f → UserPagesAt E c m' log' h' ls' d' j u f
    user_pages_later u own_seat user_step.Failed o = (o.0, user_holds_later u own_seat o.0 o.1, only_later (UserHasLatch u o.0) o.2)
    user_pages_later u own_seat f o = user_holds_later u own_seat f o

    ctail_later : (v : Advance) → HoldsCtail E c m log h ls d j v → HoldsCtail E c m' log' h' ls' d' j v
    ctail_later v o = let r = later.held o.held (λ z. ne (sym o.mine ∙ z)) in record { held = r.0; mine = r.1 ∙ o.mine; tail = o.tail ∙ sym r.2; place = o.place ∙ sym r.3 }

    closing_later : (v : Advance) (s : AdvanceStep) → ClosingAt E c m log h ls d j v s → ClosingAt E c m' log' h' ls' d' j v s
    closing_later v advance_step.LoadTail o = tt
    closing_later v advance_step.TakeTail o = tt
    closing_later v advance_step.LoadLink o = ctail_later v o
    closing_later v advance_step.ClearLink o = let f = o.1 in (ctail_later v o.0, (f.0, f.1, later.longer.old f.0 f.1 f.2, later.closes f.1.start f.3, f.4, f.5))
    closing_later v advance_step.FreeTail o = ctail_later v o

    user_closing_later : (v : Advance) (f : UserStep) → UserClosingAt E c m log h ls d j v f → UserClosingAt E c m' log' h' ls' d' j v f
    user_closing_later v (user_step.AdvanceClosed s) o = closing_later v s o
    user_closing_later v f o = tt

    pub user_page_fits_later : (u : UserState) → seat_of u.user ≡ j → UserPageFits E c m log h ls d j u → UserPageFits E c m' log' h' ls' d' j u
    user_page_fits_later u own_seat o = record {
      there = o.there;
      apart = o.apart;
      within = o.within;
      ascending = o.ascending;
      are_bytes = o.are_bytes;
      loaded = (let l = o.loaded in let a = later.ctail in omega arith);
      closing = user_closing_later u.advance u.step o.closing;
      step = user_pages_later u own_seat u.step o.step;
    }

    closer_at_later : (v : Advance) (f : CloserStep) → CloserAt E c m log h ls d j v f → CloserAt E c m' log' h' ls' d' j v f
    closer_at_later v (closer_step.Advance s) o = closing_later v s o
    closer_at_later v closer_step.Failed o = tt

    closer_later : (t : CloserState) → CloserFits E c m log h ls d j t → CloserFits E c m' log' h' ls' d' j t
    closer_later t o = record { alone = o.alone; loaded = (let l = o.loaded in let a = later.ctail in omega arith); step = closer_at_later t.advance t.step o.step }

    batch_one : (f : ℕ) (x : BatchPage) (t : ListingStage) → InBatch E c m log h ls d j f x t → InBatch E c m' log' h' ls' d' j f x t
    batch_one f x t o = let we = leaf_later x.page none_in_hand All Last t o.held in record {
      held = at_later x.page none_in_hand All Last t refl o.held;
      newest = o.newest ∙ sym (ap (λ (y : PageWords). y.newest) we);
      bytes = o.bytes ∙ sym (ap (λ (y : PageWords). framed_page c.page_size y.frame) we);
      low = o.low;
    }

    batch_later : (v : CleanerState) (lo : ℕ) → AreBatch E c m log h ls d j v lo → AreBatch E c m' log' h' ls' d' j v lo
    batch_later v lo o i x l is = let r = o i x l is in (batch_one v.flushed x Agree r.0, subst (λ (y : PageWords). 0 < y.oldest) (sym (leaf_later x.page none_in_hand All Last Agree r.0.held)) r.1)

    looking_later : (v : CleanerState) → Looking E c m log h ls d j v → Looking E c m' log' h' ls' d' j v
    looking_later v o = record { held = batch_later v 0 o.held; few = o.few; more = o.more; passed = o.passed; round = o.round }

    has_page_later : (v : CleanerState) → HasPage E c m log h ls d j v → HasPage E c m' log' h' ls' d' j v
    has_page_later v o = (at_later v.page none_in_hand All Last Agree refl o.0, subst (λ (y : PageWords). 0 < y.oldest) (sym (leaf_later v.page none_in_hand All Last Agree o.0)) o.1)

    kept_later : (v : CleanerState) → StillCleaner → IsBatchKept E c m log h ls d v → IsBatchKept E c m' log' h' ls' d' v
    kept_later v still o i x is = let r = o i x is in (ap (λ (y : KeptPage). y.lsn) (still.kept_page x.page) ∙ r.0, ap (λ (y : KeptPage). y.bytes) (still.kept_page x.page) ∙ r.1)

    unlisting_later : (v : CleanerState) (t : ListingStage) → StillCleaner → Unlisting E c m log h ls d j v t → Unlisting E c m' log' h' ls' d' j v t
    unlisting_later v t still o = (kept_later v still o.0, batch_later v 1 o.1, (λ x is. batch_one v.flushed x t (o.2 x is)), o.3)

    cleaner_holds_later : (v : CleanerState) → StillCleaner → (f : CleanerStep) → CleanerHolds E c m log h ls d j v f → CleanerHolds E c m' log' h' ls' d' j v f
    cleaner_holds_later v still cleaner_step.LoadFlushed o = tt
    cleaner_holds_later v still cleaner_step.LoadOldest o = looking_later v o
    cleaner_holds_later v still cleaner_step.TakeLatch o = (looking_later v o.0, still.oldest v.page o.1)
    cleaner_holds_later v still cleaner_step.LoadNewest o = (looking_later v o.0, has_page_later v o.1)
    cleaner_holds_later v still cleaner_step.ReleaseSkipped o = (looking_later v o.0, has_page_later v o.1)
    cleaner_holds_later v still cleaner_step.LoadFrame o = let we = leaf_later v.page none_in_hand All Last Agree o.1.0 in
        (looking_later v o.0, has_page_later v o.1, o.2 ∙ sym (ap (λ (y : PageWords). y.newest) we), o.3, o.4 ∙ sym (ap (λ (y : PageWords). framed_page (length v.kept) y.frame) we), o.5, o.6)
    cleaner_holds_later v still cleaner_step.WriteBatch o = (batch_later v 0 o.0, o.1)
    cleaner_holds_later v still cleaner_step.RemoveFromList o = (unlisting_later v Agree still o.0, (λ x is. subst (λ (y : PageWords). 0 < y.oldest) (sym (leaf_later x.page none_in_hand All Last Agree (o.0.2 x is).held)) (o.1 x is)))
    cleaner_holds_later v still cleaner_step.ClearOldest o = (unlisting_later v InWordOnly still o.0, list_later (first_of_batch v % 4) o.1)
    cleaner_holds_later v still cleaner_step.GiveList o = (unlisting_later v Unlisted still o.0, list_later (first_of_batch v % 4) o.1)
    cleaner_holds_later v still cleaner_step.ReleaseLatch o = unlisting_later v Unlisted still o
    cleaner_holds_later v still cleaner_step.StoreFailed o = batch_later v 0 o
    cleaner_holds_later v still cleaner_step.Failed o = absurd o

    cleaner_at_later : (v : CleanerState) → StillCleaner → (f : CleanerStep) → CleanerAt E c m log h ls d j v f → CleanerAt E c m' log' h' ls' d' j v f
    cleaner_at_later v still cleaner_step.Failed o = (o.0, cleaner_holds_later v still o.0 o.1, only_later (CleanerHasLatch v o.0) o.2)
    cleaner_at_later v still f o = cleaner_holds_later v still f o

    pub cleaner_later : (v : CleanerState) → StillCleaner → CleanerFits E c m log h ls d j v → CleanerFits E c m' log' h' ls' d' j v
    cleaner_later v still o = record {
      alone = o.alone;
      pages = o.pages;
      page_size = o.page_size;
      slots = o.slots;
      page = o.page;
      flushed = (let a = o.flushed in let b = later.flushed in omega arith);
      sound = λ z. let r = o.sound z in (ap E.failed still.store ∙ r.0, still.unfinished ∙ r.1);
      apart = o.apart;
      few = o.few;
      cause = λ z. subst (λ (y : E.Part). E.Cause y v.code) (sym still.store) (o.cause z);
      step = cleaner_at_later v still v.step o.step;
    }

    read_later : (x n : ℕ) → StillCheckpointer → x ≤ m.ctail → ReadBelow E c m log h ls d x n → ReadBelow E c m' log' h' ls' d' x n
    read_later x n still le o p there l = still.passed p x there le (o p there l)

    can_later : (t : CheckpointerState) → StillCheckpointer → CanGive E c m log h ls d t → CanGive E c m' log' h' ls' d' t
    can_later t still o = (read_later t.to 4 still o.1 o.0, (let a = o.1 in let b = later.ctail in omega arith), (let a = o.2 in let b = later.flushed in omega arith), o.3, o.4)

    checkpointer_at_later : (t : CheckpointerState) → StillCheckpointer → (f : CheckpointerStep) → CheckpointerPagesAt E c m log h ls d j t f → CheckpointerPagesAt E c m' log' h' ls' d' j t f
    checkpointer_at_later t still checkpointer_step.LoadCtail o = tt
    checkpointer_at_later t still checkpointer_step.LoadPlace o = ((let a = o.0 in let b = later.ctail in omega arith), o.1)
    checkpointer_at_later t still checkpointer_step.ReadList o = ((let a = o.0 in let b = later.ctail in omega arith), read_later t.to t.list still o.0 o.1, o.2)
    checkpointer_at_later t still checkpointer_step.GiveList o = ((let a = o.0 in let b = later.ctail in omega arith), read_later t.to (t.list + 1) still o.0 o.1, o.2, list_later t.list o.3)
    checkpointer_at_later t still checkpointer_step.LoadFlushed o = ((let a = o.0 in let b = later.ctail in omega arith), read_later t.to 4 still o.0 o.1)
    checkpointer_at_later t still checkpointer_step.TakeDevice o = can_later t still o
    checkpointer_at_later t still checkpointer_step.GiveBroken o = can_later t still o
    checkpointer_at_later t still checkpointer_step.Checkpoint o = (can_later t still o.0, still.given ∙ o.1)
    checkpointer_at_later t still checkpointer_step.StoreCheckpoint o = still.given ∙ o
    checkpointer_at_later t still checkpointer_step.GiveDevice o = tt
    checkpointer_at_later t still checkpointer_step.StoreFailed o = tt
    checkpointer_at_later t still checkpointer_step.GiveFailed o = tt
    checkpointer_at_later t still checkpointer_step.Failed o = tt

    checkpointer_later : (t : CheckpointerState) → StillCheckpointer → CheckpointerPageFits E c m log h ls d j t → CheckpointerPageFits E c m' log' h' ls' d' j t
    checkpointer_later t still o = record { alone = o.alone; with_pages = o.with_pages; loaded = (let l = o.loaded in let l0 = l.0 in let l1 = l.1 in let a = later.ctail in let b = later.flushed in ((omega arith), (omega arith))); given = λ z. o.given z ∙ sym still.given; step = checkpointer_at_later t still t.step o.step }

    -- every other actor is as before; each user's seat is its own
    pub page_others : (seat ≢ c.cleaner → StillCleaner) → (seat ≢ c.checkpointer → StillCheckpointer) → (a : Actor) → ((u : UserState) → a ≡ actor.User u → seat_of u.user ≡ j)
        → PageFits E c m log h ls d j a → PageFits E c m' log' h' ls' d' j a
    page_others ca po (actor.User u) own_seat o = user_page_fits_later u (own_seat u refl) o
    page_others ca po (actor.Writer s) own_seat o = tt
    page_others ca po (actor.Flusher f) own_seat o = tt
    page_others ca po (actor.Closer t) own_seat o = closer_later t o
    page_others ca po (actor.Cleaner v) own_seat o = cleaner_later v (ca (λ z. ne (o.alone ∙ sym z))) o
    page_others ca po (actor.Checkpointer t) own_seat o = checkpointer_later t (po (λ z. ne (o.alone ∙ sym z))) o
    page_others ca po (actor.Reader r) own_seat o = tt

-- no page's words and no list change, and the history doesn't
pub pages_same : {E : DataSide} {c : Setup} {seat_of : ℕ → ℕ} {m m' : SharedWords} {log : List Entry} {h : PageGhost} {given : ℕ} {kept_page : ℕ → KeptPage} {unfinished : List BatchPage} {ls : ℕ → List Listed} {d d' : E.Part} {seat : ℕ}
    → m'.page_words ≡ m.page_words → m'.lists ≡ m.lists → m'.ctail ≡ m.ctail → m'.cheld ≡ m.cheld → m.flushed ≤ m'.flushed → PageLater E c seat_of m m' log log h (record h { given = given; kept_page = kept_page; unfinished = unfinished }) ls ls d d' seat
pages_same {log = log} words lists ctail cheld flushed = record {
  longer = longer_same log;
  logs = λ p _ _. log_same p log;
  page_words = λ p _ _. ap (λ (x : List PageWords). page_words_at x p) words;
  holders = λ _ _ _. refl;
  listeds = λ _ _ _. refl;
  taken = λ q la _. (sym (ap (λ (x : List PageWords). (page_words_at x q).latch) words) ∙ la, refl);
  opens = λ _ _ _ _. refl;
  lists = λ i o _. (ap (λ (x : List ℕ). slice_index x i) lists ∙ o, refl);
  closes = λ _ z. z;
  held = λ o _. (cheld ∙ o, refl, ctail, refl);
  ctail = (omega arith);
  flushed = flushed;
}

-- the actor at one seat moves
pub page_moved : (E : DataSide) (c : Setup) (m m' : SharedWords) (log log' : List Entry) (stable stable' : ℕ) (h h' : PageGhost) (ls ls' : ℕ → List Listed) (d d' : E.Part) (actors : List Actor) (seat : ℕ) (b : Actor)
    → PageFacts E c m' log' stable' h' ls' d' → PageFits E c m' log' h' ls' d' seat b
    → ((j : ℕ) (a : Actor) → j ≢ seat → get_elem? actors j ≡ some a → PageFits E c m' log' h' ls' d' j a)
    → PageHalf E c m' log' stable' h' ls' d' (set actors seat b)
page_moved E c m m' log log' stable stable' h h' ls ls' d d' actors seat b paged mine others = record {
  paged = paged;
  each = λ j a e. ⊎_elim (λ t. subst (λ (z : ℕ × Actor). PageFits E c m' log' h' ls' d' z.0 z.1) (λ i. (sym t.0 i, t.1 i)) mine) (λ t. others j a t.0 t.1) (at_set actors seat j b a e);
}
