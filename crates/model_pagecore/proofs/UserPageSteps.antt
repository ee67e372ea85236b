-- A user's other steps on its pages.
use Rattle.std.proofs.Common.{Bool, List, [], ap, arith, cond, drop, eq-eqb, eqb, eqb-true, false, inl, inr, leb-true, length, length-drop, length-take-le, refl, set, subst, suc, sym, take, true, ℕ, ⊎_elim, ◌%◌, ◌*◌, ◌+◌, ◌-◌, ◌/◌, ◌<◌, ◌∙◌, ◌∷◌, ◌≡◌, ◌≢◌, ◌≤◌, ◌⊎◌}
use Rattle.std.proofs.lemmas.Bool.{eqb-false}
use Rattle.std.proofs.lemmas.List.{get_or-drop, get_or-take}
use Rattle.std.specs.Prelude.{get_or, slice_index, slice_set}
use lib.ListN.{get_elem?}
use mathlib.Core.Option.{some}
use native.Mathlib.Decide.{ℕ_discrete}
use Rattle.model_core.proofs.Groups.{changed, changed_else, changed_here}
use Rattle.model_core.proofs.Lsns.{lsn_some}
unfoldable use Rattle.model_core.specs.{lanes, packed}
use Rattle.model_base.specs.{IsPageSize}
use Rattle.model_core.specs.{Actor, Advance, after_link, answered, cells_of, CellWrite, change_at, changes, current_page, Entry, entry, frame_count, frame_word, frame_words, framed_page, group_end, is_whole, line, Listed, lsn, mode, next_puts, page_words_at, PageWords, put_lanes, put_of, same_word, SharedWords, stored_word, to_next_page, user_took, UserState, with_page_words, word_step, DataSide, Setup}
use Rattle.model_core.specs.declared.steps.UserStep.{UserStep}
use Rattle.model_pagecore.proofs.FrameStores.{word_stored, writes_next}
use Rattle.model_core.proofs.PageSizes.{frame_fills}
use Rattle.model_core.proofs.FrameWords.{Ascend, cell_at, counted_in_word, InWord, whole_word_put}
use Rattle.model_core.proofs.Lanes.{lanes_long}
use Rattle.model_pagecore.proofs.PageHistory.{last_after, take_all, whole_after}
use Rattle.model_pagecore.proofs.PageStep.{at_else, at_here, cells_mine, freed_sheet, latched_sheet, leaf_step, list_at, list_step, page_quiet, work_here}
use Rattle.model_pagecore.specs.PageFacts.{Grows, PageGhost, listed_lsn}
use Rattle.model_pagecore.specs.PageHalf.{At, HasPagesInHand, IsNear, PageHalf, UserClosingAt, UserPagesAt, UserPageFits, PagesInHand, group_in_hand}
use Rattle.model_pagecore.specs.Pages.{InListOnly, All, Before, AgreeBelow, Cells, FrameStage, Laid, Last, NewestStage, PageIs, ListingStage, IsListed, StartsAt, Agree, cells_on, none_in_hand, write_cells, is_changed_page, applied_all}
use Rattle.model_core.specs.declared.steps.UserStep.TheVariants as user_step
use Rattle.model_core.specs.States as actor

-- a user that goes on with one of two steps, and advances no tail at either
module _ (E : DataSide) (c : Setup) (m : SharedWords) (log : List Entry) (h : PageGhost) (ls : ℕ → List Listed) (d : E.Part) (seat : ℕ) (v : Advance) where
  abbrev Closing : UserStep → Type 0
  Closing f = UserClosingAt E c m log h ls d seat v f

  pub closing_by : (b : Bool) (f s : UserStep) → Closing f → Closing s → Closing (cond b f s)
  closing_by true f s o k = o
  closing_by false f s o k = k

  pub word_closing : (b : Bool) (cells : List CellWrite) (i : ℕ) → Closing (cond b user_step.StoreNewest (word_step cells i))
  word_closing b cells i = closing_by b user_step.StoreNewest (word_step cells i) tt (closing_by (is_whole cells i) user_step.StoreFrame user_step.LoadFrame tt tt)

  turned_closing : (u : UserState) → Closing (to_next_page u).step
  turned_closing u = let cells : List CellWrite = (change_at (changes u) (u.page + 1)).cells in
      closing_by (eqb (u.page + 1) (length (changes u))) user_step.StoreClosedLink (cond (eqb 0 (length cells)) user_step.StoreNewest (word_step cells 0)) tt (word_closing (eqb 0 (length cells)) cells 0)

module _ (E : DataSide) (c : Setup) (seat_of : ℕ → ℕ) (m : SharedWords) (log : List Entry) (stable : ℕ) (h : PageGhost) (ls : ℕ → List Listed) (d : E.Part) (actors : List Actor) (seat : ℕ) (before : PageHalf E c m log stable h ls d actors)
    (mates : (j : ℕ) (u : UserState) → get_elem? actors j ≡ some (actor.User u) → seat_of u.user ≡ j) (W : Laid (lsn c.base) (lsn m.sn) log) where
  module _ (u : UserState) (at : get_elem? actors seat ≡ some (actor.User u)) where
    own : UserPageFits E c m log h ls d seat u
    own = before.each seat (actor.User u) at

    abbrev g : Entry
    g = entry u.user u.k u.start (line u)

    -- with a user's place at a page's cells its next phase follows
    pub framed : (m' : SharedWords) (h' : PageGhost) (ls' : ℕ → List Listed) (w : UserState) → HasPagesInHand E c m' log h' ls' d seat w (Cells w.cell) Before AgreeBelow → IsNear E c m' log h' ls' d w → w.cell ≤ length (cells_of w)
        → (b : Bool) → eqb w.cell (length (cells_of w)) ≡ b → UserPagesAt E c m' log h' ls' d seat w (cond b user_step.StoreNewest (word_step (cells_of w) w.cell))
    framed m' h' ls' w o n le true e = (subst (λ (k : ℕ). HasPagesInHand E c m' log h' ls' d seat w (Cells k) Before AgreeBelow) (eqb-true w.cell (length (cells_of w)) e) o, n)
    framed m' h' ls' w o n le false e = by (is_whole (cells_of w) w.cell) refl
      where
        less : w.cell < length (cells_of w)
        less = let k = eqb-false w.cell (length (cells_of w)) e in omega arith

        by : (whole : Bool) → is_whole (cells_of w) w.cell ≡ whole → UserPagesAt E c m' log h' ls' d seat w (cond whole user_step.StoreFrame user_step.LoadFrame)
        by true f = (o, n, less, inr f)
        by false f = (o, n, less)

    -- after its page is done it goes on to the next, or closes its group
    pub turned_fits : (m' : SharedWords) (h' : PageGhost) (ls' : ℕ → List Listed) → PagesInHand E c m' log h' ls' d seat g u.page All Last IsListed → IsNear E c m' log h' ls' d u → (b : Bool) → eqb (u.page + 1) (length (changes u)) ≡ b
        → UserPagesAt E c m' log h' ls' d seat (to_next_page u) (cond b user_step.StoreClosedLink (cond (eqb 0 (length (change_at (changes u) (u.page + 1)).cells)) user_step.StoreNewest (word_step (change_at (changes u) (u.page + 1)).cells 0)))
    turned_fits m' h' ls' o n true e = let z = eqb-true (u.page + 1) (length (changes u)) e in (next_all m' h' ls' o n.1 z, n.0, z, (let l = n.1 in omega arith))
      where
        next_all : (m' : SharedWords) (h' : PageGhost) (ls' : ℕ → List Listed) → PagesInHand E c m' log h' ls' d seat g u.page All Last IsListed → u.page < length (changes u) → u.page + 1 ≡ length (changes u) → PagesInHand E c m' log h' ls' d seat g (u.page + 1) All Last IsListed
        next_all m' h' ls' o l z = record {
          at = o.at;
          is = o.is;
          not_closed = o.not_closed;
          last = o.last;
          before = λ k a b. elim (ℕ_discrete k u.page) [
            | yes e ↦ subst (λ (i : ℕ). At E c m' log h' ls' d seat ((change_at g.changes i).page) (group_in_hand E c m' log h' ls' d g o.at) All Last IsListed) (sym e) (o.here l)
            | no n ↦ o.before k (omega arith) b
          ];
          here = λ l. absurd (omega arith);
          after = λ k a b. o.after k (omega arith) b;
        }
    turned_fits m' h' ls' o n false e = let z = eqb-false (u.page + 1) (length (changes u)) e in let l = n.1 in
        framed m' h' ls' (to_next_page u) (to_next m' h' ls' o l) (n.0, (omega arith)) (omega arith) (eqb 0 (length (change_at (changes u) (u.page + 1)).cells)) refl
      where
        to_next : (m' : SharedWords) (h' : PageGhost) (ls' : ℕ → List Listed) → PagesInHand E c m' log h' ls' d seat g u.page All Last IsListed → u.page < length (changes u) → PagesInHand E c m' log h' ls' d seat g (u.page + 1) (Cells 0) Before AgreeBelow
        to_next m' h' ls' o l = record {
          at = o.at;
          is = o.is;
          not_closed = o.not_closed;
          last = o.last;
          before = λ k a b. elim (ℕ_discrete k u.page) [
            | yes e ↦ subst (λ (i : ℕ). At E c m' log h' ls' d seat ((change_at g.changes i).page) (group_in_hand E c m' log h' ls' d g o.at) All Last IsListed) (sym e) (o.here l)
            | no n ↦ o.before k (omega arith) b
          ];
          here = λ l. o.after (u.page + 1) (omega arith) l;
          after = λ k a b. o.after k (omega arith) b;
        }

    -- facts of its page in hand
    abbrev p : ℕ
    p = current_page u

    abbrev w : PageWords
    w = page_words_at m.page_words (current_page u)

    mine_cells : u.page < length (changes u) → (◌≡◌ {A = List CellWrite} (cells_on p (changes u)) (cells_of u)) × (is_changed_page p (changes u) ≡ true)
    mine_cells l = cells_mine (changes u) u.page l (λ i lt. own.apart u.k i u.page lt l)

    abbrev pub Now : SharedWords → PageGhost → UserState → Type 0
    Now m' h' x = PageHalf E c m' log stable h' ls d (set actors seat (actor.User x))

    -- the words of its page in hand change under its latch
    module _ (long : length m.page_words ≡ c.pages) (pl : u.page < length (changes u)) (f : FrameStage) (n : NewestStage) (t : ListingStage) (o : PagesInHand E c m log h ls d seat g u.page f n t) (w' : PageWords) (la : w'.latch ≡ 1) (old : 0 < w'.oldest → StartsAt p log w'.oldest) (kept : 0 < w.oldest → 0 < w'.oldest) where
      own_leaf : (f' : FrameStage) (n' : NewestStage) (t' : ListingStage) → PageIs c p log (group_in_hand E c m log h ls d g o.at) w' (listed_lsn ls p) f' n' t' → PagesInHand E c (with_page_words m p w') log h ls d seat g u.page f' n' t'
      own_leaf f' n' t' is = let a = o.here pl in
          work_here E c seat_of m log stable h ls d actors seat before mates (with_page_words m p w') h ls d g u.page (own.apart u.k) pl f f' n n' t t' o o.not_closed
          (λ q k f n t ne x. at_else E c seat_of m log stable h ls d actors seat before mates p w' h.holder a.there long (inr a.mine) (λ _ _. refl) q k f n t ne x)
          (at_here E c seat_of m log stable h ls d actors seat before mates p w' h.holder a.there long (inr a.mine) (λ _ _. refl) (group_in_hand E c m log h ls d g o.at) f' n' t' la a.mine is)

      own_step : (x : UserState) → UserPageFits E c (with_page_words m p w') log h ls d seat x → Now (with_page_words m p w') h x
      own_step x fits = let a = o.here pl in
          leaf_step E c seat_of m log stable h ls d actors seat before mates p w' h.holder a.there long (inr a.mine) (λ _ _. refl) (actor.User x)
          (latched_sheet E c seat_of m log stable h ls d actors seat before mates p w' a.there la old) (λ _ z. kept z) (λ _. a.mine) fits

    -- it loads the word of the next cell that it changes
    pub keeps_load_frame : u.step ≡ user_step.LoadFrame → Now m h (user_took u (slice_index w.frame (frame_word u)) user_step.LoadFrame)
    keeps_load_frame ph =
        let o : UserPagesAt E c m log h ls d seat u user_step.LoadFrame = subst (UserPagesAt E c m log h ls d seat u) ph own.step in
        let x : UserState = record u { word = slice_index w.frame (frame_word u); step = user_step.StoreFrame } in
        page_quiet E c seat_of m log stable h ls d actors seat before mates (actor.User x)
        (record { there = own.there; apart = own.apart; within = own.within; ascending = own.ascending; are_bytes = own.are_bytes; loaded = own.loaded; closing = tt; step = (o.0, o.1, o.2, inl refl) })

    counted : (q : ℕ) (xs : List CellWrite) → same_word q xs ≤ length xs
    counted q [] = omega arith
    counted q (y ∷ ys) = few_by (eqb (y.at / 8) q) (counted q ys)
      where
        few_by : (b : Bool) → same_word q ys ≤ length ys → cond b (suc (same_word q ys)) 0 ≤ suc (length ys)
        few_by true le = omega arith
        few_by false le = omega arith

    -- how many of the next cells lie in its word: at least the next one
    counts : u.cell < length (cells_of u) → (0 < frame_count u) × (u.cell + frame_count u ≤ length (cells_of u))
    counts lt = by (drop u.cell (cells_of u)) (length-drop u.cell (cells_of u)) (get_or-drop u.cell (cells_of u) 0 (record { at = 0; value = 0 }) ∙ ap (λ (i : ℕ). get_or (cells_of u) i (record { at = 0; value = 0 })) (let e : u.cell + 0 ≡ u.cell = omega arith in e))
      where
        by : (xs : List CellWrite) → length xs ≡ length (cells_of u) - u.cell → ◌≡◌ {A = CellWrite} (get_or xs 0 (record { at = 0; value = 0 })) (put_of u) → (0 < same_word (frame_word u) xs) × (u.cell + same_word (frame_word u) xs ≤ length (cells_of u))
        by [] e f = absurd (omega arith)
        by (y ∷ ys) e f = (some_of (eqb (y.at / 8) (frame_word u)) (eq-eqb (y.at / 8) (frame_word u) (ap (λ (z : CellWrite). z.at / 8) f)), (let k = counted (frame_word u) (y ∷ ys) in omega arith))
          where
            some_of : (b : Bool) → b ≡ true → 0 < cond b (suc (same_word (frame_word u) ys)) 0
            some_of true e = omega arith
            some_of false e = absurd (cc)

    -- it stores that word
    pub keeps_store_frame : IsPageSize c.page_size → length m.page_words ≡ c.pages → ((q : ℕ) → q < c.pages → length (page_words_at m.page_words q).frame ≡ frame_words c.page_size) → u.step ≡ user_step.StoreFrame → Now (with_page_words m p (record w { frame = slice_set w.frame (frame_word u) (stored_word u) })) h (user_took u 0 user_step.StoreFrame)
    keeps_store_frame size long sizes ph =
        let o : UserPagesAt E c m log h ls d seat u user_step.StoreFrame = subst (UserPagesAt E c m log h ls d seat u) ph own.step in
        let work = o.0 in let near = o.1 in let lt = o.2 in let word_is = o.3 in
        let a = work.here near.1 in
        let n : ℕ = frame_count u in
        let some_cells = counts lt in
        let w' : PageWords = record w { frame = slice_set w.frame (frame_word u) (stored_word u) } in
        let b0 : List ℕ = applied_all p (take work.at log) (c.opened p).bytes in
        let cells = (mine_cells near.1).0 in
        let old : framed_page c.page_size w.frame ≡ write_cells (take u.cell (cells_of u)) b0 = a.page.frame ∙ ap (λ (l : List CellWrite). write_cells (take u.cell l) b0) cells in
        let there : frame_word u < length w.frame = within_word (sizes p a.there) (frame_fills c.page_size size) (own.within u.k u.page u.cell near.1) in
        let in_word : InWord (frame_word u) (next_puts u) = counted_in_word (frame_word u) (drop u.cell (cells_of u)) (λ i. subst (λ (z : CellWrite). z.value < 256) (sym (get_or-drop u.cell (cells_of u) i (record { at = 0; value = 0 }))) (own.are_bytes u.k u.page (u.cell + i))) in
        let new : framed_page c.page_size (slice_set w.frame (frame_word u) (stored_word u)) ≡ write_cells (take (u.cell + n) (cells_on p (changes u))) b0 =
        ap (λ (l : List ℕ). framed_page c.page_size (slice_set w.frame (frame_word u) (packed 0 l))) (same_lanes in_word word_is)
        ∙ word_stored c.page_size w.frame (frame_word u) (next_puts u) there in_word ∙ ap (write_cells (next_puts u)) old ∙ sym (writes_next (cells_of u) u.cell n b0)
        ∙ ap (λ (l : List CellWrite). write_cells (take (u.cell + n) l) b0) (sym cells) in
        let x : UserState = record u { cell = u.cell + n; word = 0; step = cond (eqb (u.cell + n) (length (cells_of u))) user_step.StoreNewest (word_step (cells_of u) (u.cell + n)) } in
        let old_ok : 0 < w'.oldest → StartsAt p log w'.oldest = (before.paged.each_page p a.there).oldest in
        own_step long near.1 (Cells u.cell) Before AgreeBelow work w' a.latched old_ok (λ z. z) x
        (record {
          there = own.there;
          apart = own.apart;
          within = own.within;
          ascending = own.ascending;
          are_bytes = own.are_bytes;
          loaded = own.loaded;
          closing = word_closing E c (with_page_words m p w') log h ls d seat u.advance (eqb (u.cell + n) (length (cells_of u))) (cells_of u) (u.cell + n);
          step = framed (with_page_words m p w') h ls x
              (own_leaf long near.1 (Cells u.cell) Before AgreeBelow work w' a.latched old_ok (λ z. z) (Cells (u.cell + n)) Before AgreeBelow (record { frame = new; newest = a.page.newest; listing = a.page.listing }))
              near some_cells.1 (eqb (u.cell + n) (length (cells_of u))) refl;
        })
      where
        same_lanes : InWord (frame_word u) (next_puts u) → (u.word ≡ slice_index w.frame (frame_word u)) ⊎ (is_whole (cells_of u) u.cell ≡ true) → put_lanes (next_puts u) (lanes 0 8 u.word) ≡ put_lanes (next_puts u) (lanes 0 8 (slice_index w.frame (frame_word u)))
        same_lanes in_word = ⊎_elim (λ e. ap (λ (k : ℕ). put_lanes (next_puts u) (lanes 0 8 k)) e)
            (λ e. whole_word_put (frame_word u) (next_puts u) (lanes 0 8 u.word) (lanes 0 8 (slice_index w.frame (frame_word u))) in_word up (eight (leb-true 8 (frame_count u) e)) (lanes_long 0 8 u.word) (lanes_long 0 8 (slice_index w.frame (frame_word u))))
          where
            rest : List CellWrite
            rest = drop u.cell (cells_of u)

            few : frame_count u ≤ length (drop u.cell (cells_of u))
            few = counted (frame_word u) (drop u.cell (cells_of u))

            eight : 8 ≤ frame_count u → 8 ≤ length (next_puts u)
            eight le = let l = length-take-le (frame_count u) (drop u.cell (cells_of u)) few in omega arith

            up : Ascend (next_puts u)
            up a b lt below =
                let l = length-take-le (frame_count u) (drop u.cell (cells_of u)) few in
                let k = length-drop u.cell (cells_of u) in
                let f = few in
                let at_a : ◌≡◌ {A = CellWrite} (cell_at (next_puts u) a) (cell_at (cells_of u) (u.cell + a)) = get_or-take (frame_count u) (drop u.cell (cells_of u)) a (record { at = 0; value = 0 }) (omega arith) ∙ get_or-drop u.cell (cells_of u) a (record { at = 0; value = 0 }) in
                let at_b : ◌≡◌ {A = CellWrite} (cell_at (next_puts u) b) (cell_at (cells_of u) (u.cell + b)) = get_or-take (frame_count u) (drop u.cell (cells_of u)) b (record { at = 0; value = 0 }) (omega arith) ∙ get_or-drop u.cell (cells_of u) b (record { at = 0; value = 0 }) in
                let z = own.ascending u.k u.page (u.cell + a) (u.cell + b) (omega arith) (omega arith) in
                let ea : (cell_at (next_puts u) a).at ≡ (cell_at (cells_of u) (u.cell + a)).at = ap (λ (x : CellWrite). x.at) at_a in
                let eb : (cell_at (next_puts u) b).at ≡ (cell_at (cells_of u) (u.cell + b)).at = ap (λ (x : CellWrite). x.at) at_b in
                omega arith

        within_word : length w.frame ≡ frame_words c.page_size → 8 * frame_words c.page_size ≡ c.page_size → (put_of u).at < c.page_size → frame_word u < length w.frame
        within_word long room lt = omega arith

    -- it stores NEWEST
    pub keeps_store_newest : length m.page_words ≡ c.pages → u.step ≡ user_step.StoreNewest → Now (with_page_words m p (record w { newest = lsn (group_end u) })) h (user_took u 0 user_step.StoreNewest)
    keeps_store_newest long ph =
        let o : UserPagesAt E c m log h ls d seat u user_step.StoreNewest = subst (UserPagesAt E c m log h ls d seat u) ph own.step in
        let work = o.0 in let near = o.1 in
        let a = work.here near.1 in
        let w' : PageWords = record w { newest = lsn (group_end u) } in
        let b0 : List ℕ = applied_all p (take work.at log) (c.opened p).bytes in
        let k = mine_cells near.1 in
        let later : (i : ℕ) (e : Entry) → get_elem? log i ≡ some e → work.at < i → is_changed_page p e.changes ≡ false = λ i e is l. work.last i e is l u.page near.1 in
        let all : framed_page c.page_size w.frame ≡ applied_all p log (c.opened p).bytes = a.page.frame ∙ ap (λ (l : List CellWrite). write_cells (take (length (cells_of u)) l) b0) k.0 ∙ ap (λ (l : List CellWrite). write_cells l b0) (take_all (cells_of u)) ∙ ap (λ (l : List CellWrite). write_cells l b0) (sym k.0)
        ∙ sym (whole_after p log work.at g (c.opened p).bytes work.is later) in
        let old_ok : 0 < w'.oldest → StartsAt p log w'.oldest = (before.paged.each_page p a.there).oldest in
        own_step long near.1 (Cells (length (cells_of u))) Before AgreeBelow work w' a.latched old_ok (λ z. z) (record u { step = user_step.LoadOldest })
        (record {
          there = own.there;
          apart = own.apart;
          within = own.within;
          ascending = own.ascending;
          are_bytes = own.are_bytes;
          loaded = own.loaded;
          closing = tt;
          step = (own_leaf long near.1 (Cells (length (cells_of u))) Before AgreeBelow work w' a.latched old_ok (λ z. z) All Last AgreeBelow (record { frame = all; newest = sym (last_after p log work.at g 0 work.is k.1 later); listing = a.page.listing }), near);
        })

    -- it loads OLDEST
    pub keeps_load_oldest : u.step ≡ user_step.LoadOldest → Now m h (user_took u w.oldest user_step.LoadOldest)
    keeps_load_oldest ph = by (eqb w.oldest 0) refl (subst (UserPagesAt E c m log h ls d seat u) ph own.step)
      where
        by : (b : Bool) → eqb w.oldest 0 ≡ b → UserPagesAt E c m log h ls d seat u user_step.LoadOldest → Now m h (cond b (record u { step = user_step.AddToList }) (to_next_page u))
        by true e o = let a = o.0.here o.1.1 in let s0 = a.page.listing.0 in let z = eqb-true w.oldest 0 e in
            page_quiet E c seat_of m log stable h ls d actors seat before mates (actor.User (record u { step = user_step.AddToList }))
            (record {
              there = own.there;
              apart = own.apart;
              within = own.within;
              ascending = own.ascending;
              are_bytes = own.are_bytes;
              loaded = own.loaded;
              closing = tt;
              step = (
                record { at = o.0.at; is = o.0.is; not_closed = o.0.not_closed; last = o.0.last; before = o.0.before; here = λ l. record { there = a.there; latched = a.latched; mine = a.mine; page = record { frame = a.page.frame; newest = a.page.newest; listing = (z, (omega arith)) } }; after = o.0.after },
                o.1,
              );
            })
        by false e o = let a = o.0.here o.1.1 in let s0 = a.page.listing.0 in let s1 = a.page.listing.1 in let z = eqb-false w.oldest 0 e in
            page_quiet E c seat_of m log stable h ls d actors seat before mates (actor.User (to_next_page u))
            (record {
              there = own.there;
              apart = own.apart;
              within = own.within;
              ascending = own.ascending;
              are_bytes = own.are_bytes;
              loaded = own.loaded;
              closing = turned_closing E c m log h ls d seat u.advance u;
              step = turned_fits m h ls
                  (record { at = o.0.at; is = o.0.is; not_closed = o.0.not_closed; last = o.0.last; before = o.0.before; here = λ l. record { there = a.there; latched = a.latched; mine = a.mine; page = record { frame = a.page.frame; newest = a.page.newest; listing = (s0, (omega arith), (omega arith)) } }; after = o.0.after })
                  o.1 (eqb (u.page + 1) (length (changes u))) refl;
            })

    -- it stores OLDEST
    pub keeps_store_oldest : length m.page_words ≡ c.pages → u.step ≡ user_step.StoreOldest → Now (with_page_words m p (record w { oldest = lsn u.start })) h (user_took u 0 user_step.StoreOldest)
    keeps_store_oldest long ph =
        let o : UserPagesAt E c m log h ls d seat u user_step.StoreOldest = subst (UserPagesAt E c m log h ls d seat u) ph own.step in
        let work = o.0 in let near = o.1 in
        let a = work.here near.1 in
        let w' : PageWords = record w { oldest = lsn u.start } in
        let old_ok : 0 < w'.oldest → StartsAt p log w'.oldest = λ _. (work.at, g, work.is, (mine_cells near.1).1, refl) in
        let st = a.page.listing.1 in
        let pos = lsn_some u.start in
        own_step long near.1 All Last InListOnly work w' a.latched old_ok (λ _. pos) (record u { step = user_step.GiveList })
        (record {
          there = own.there;
          apart = own.apart;
          within = own.within;
          ascending = own.ascending;
          are_bytes = own.are_bytes;
          loaded = own.loaded;
          closing = tt;
          step = (own_leaf long near.1 All Last InListOnly work w' a.latched old_ok (λ _. pos) All Last IsListed (record { frame = a.page.frame; newest = a.page.newest; listing = (sym st, (omega arith), (omega arith)) }), near, o.2);
        })

    -- it gives the list back
    pub keeps_give_list : length m.lists ≡ 4 → u.step ≡ user_step.GiveList → Now (record m { lists = slice_set m.lists (p % 4) 0 }) h (user_took u 0 user_step.GiveList)
    keeps_give_list long ph =
        let o : UserPagesAt E c m log h ls d seat u user_step.GiveList = subst (UserPagesAt E c m log h ls d seat u) ph own.step in
        let m' : SharedWords = record m { lists = slice_set m.lists (p % 4) 0 } in
        let same = list_at E c seat_of m log stable h ls d actors seat before mates (p % 4) 0 h.list_holder ls long (omega arith) (inr o.2.1) (λ _ _. refl) in
        let work = o.0 in
        list_step E c seat_of m log stable h ls d actors seat before mates (p % 4) 0 h.list_holder ls long (omega arith) (inr o.2.1) (λ _ _. refl) (actor.User (to_next_page u)) before.paged.lists before.paged.each_page (λ _ _ _. refl)
        (record {
          there = own.there;
          apart = own.apart;
          within = own.within;
          ascending = own.ascending;
          are_bytes = own.are_bytes;
          loaded = own.loaded;
          closing = turned_closing E c m' log h ls d seat u.advance u;
          step = turned_fits m' h ls
              (record { at = work.at; is = work.is; not_closed = work.not_closed; last = work.last; before = λ k a b. same _ _ All Last IsListed refl (work.before k a b); here = λ l. same _ _ All Last IsListed refl (work.here l); after = λ k a b. same _ _ (Cells 0) Before AgreeBelow refl (work.after k a b) })
              o.1 (eqb (u.page + 1) (length (changes u))) refl;
        })

    -- it takes the latch of its next page, if that is free
    pub keeps_take_latch : length m.page_words ≡ c.pages → u.step ≡ user_step.TakeLatch → w.latch ≡ 0
        → (k : PageGhost) × PageHalf E c (with_page_words m p (record w { latch = 1 })) log stable k ls d (set actors seat (actor.User (user_took u 0 user_step.TakeLatch))) × Grows m h k
    keeps_take_latch long ph free =
        let o : UserPagesAt E c m log h ls d seat u user_step.TakeLatch = subst (UserPagesAt E c m log h ls d seat u) ph own.step in
        let holders : ℕ → ℕ = changed h.holder p seat in
        let h' : PageGhost = record h { holder = holders } in
        let w' : PageWords = record w { latch = 1 } in
        let m' : SharedWords = with_page_words m p w' in
        let there = own.there u.k u.page o.1 in
        let S = before.paged.each_page p there in
        let same : (q : ℕ) → q ≢ p → holders q ≡ h.holder q = λ q n. changed_else h.holder p seat q n in
        let is : PageIs c p log none_in_hand w' (listed_lsn ls p) All Last Agree = (let f = S.free free in record { frame = f.frame; newest = f.newest; listing = f.listing }) in
        let held : (k : ℕ) → k < u.page + 1 → At E c m' log h' ls d seat (change_at (changes u) k).page none_in_hand All Last Agree = λ k l. elim (ℕ_discrete k u.page) [
          | yes e ↦ subst (λ (i : ℕ). At E c m' log h' ls d seat (change_at (changes u) i).page none_in_hand All Last Agree) (sym e)
              (at_here E c seat_of m log stable h ls d actors seat before mates p w' holders there long (inl free) same none_in_hand All Last Agree refl (changed_here h.holder p seat p refl) is)
          | no n ↦ at_else E c seat_of m log stable h ls d actors seat before mates p w' holders there long (inl free) same ((change_at (changes u) k).page) none_in_hand All Last Agree (own.apart u.k k u.page (omega arith) o.1) (o.0 k (omega arith) (omega arith))
        ] in
        let next : (b : Bool) → eqb (u.page + 1) (length (changes u)) ≡ b → UserPagesAt E c m' log h' ls d seat (record u { page = u.page + 1; step = cond b user_step.Reserve user_step.TakeLatch }) (cond b user_step.Reserve user_step.TakeLatch) = λ b. elim b as (λ (x : Bool). eqb (u.page + 1) (length (changes u)) ≡ x → UserPagesAt E c m' log h' ls d seat (record u { page = u.page + 1; step = cond x user_step.Reserve user_step.TakeLatch }) (cond x user_step.Reserve user_step.TakeLatch)) [
          | true ↦ (λ e. let z = eqb-true (u.page + 1) (length (changes u)) e in λ k _ l. held k (omega arith))
          | false ↦ (λ e. let z = eqb-false (u.page + 1) (length (changes u)) e in let l = o.1 in ((λ k _ l. held k l), (omega arith)))
        ] in (
          h',
          leaf_step E c seat_of m log stable h ls d actors seat before mates p w' holders there long (inl free) same (actor.User (user_took u 0 user_step.TakeLatch))
              (latched_sheet E c seat_of m log stable h ls d actors seat before mates p w' there refl S.oldest) (λ _ z. z) (λ _. changed_here h.holder p seat p refl)
              (record { there = own.there; apart = own.apart; within = own.within; ascending = own.ascending; are_bytes = own.are_bytes; loaded = own.loaded; closing = closing_by E c m' log h' ls d seat u.advance (eqb (u.page + 1) (length (changes u))) user_step.Reserve user_step.TakeLatch tt tt; step = next (eqb (u.page + 1) (length (changes u))) refl }),
          record { given = omega arith; closed = λ x z. z; holder = λ q la. same q (λ e. let one : (page_words_at m.page_words p).latch ≡ 1 = subst (λ (x : ℕ). (page_words_at m.page_words x).latch ≡ 1) e la in absurd (omega arith)) },
        )

    -- nothing is said of the pages of a user whose commit is answered or awaited
    pub tied_fits : (m' : SharedWords) (h' : PageGhost) (ls' : ℕ → List Listed) → u.loaded.ctail ≤ m'.ctail → (b : Bool) → eqb (mode u) 0 ≡ b → UserPageFits E c m' log h' ls' d seat (cond b (answered u) (record u { step = user_step.AwaitMark }))
    tied_fits m' h' ls' lo false e = record { there = own.there; apart = own.apart; within = own.within; ascending = own.ascending; are_bytes = own.are_bytes; loaded = lo; closing = tt; step = tt }
    tied_fits m' h' ls' lo true e = record { there = own.there; apart = own.apart; within = own.within; ascending = own.ascending; are_bytes = own.are_bytes; loaded = lo; closing = closing_by E c m' log h' ls' d seat u.advance (eqb (u.k + 1) (length u.lines)) user_step.Done user_step.LoadCheckpoint tt tt; step = by (eqb (u.k + 1) (length u.lines)) }
      where
        by : (b : Bool) → UserPagesAt E c m' log h' ls' d seat (record u { k = u.k + 1; checks = cond b false true; step = cond b user_step.Done user_step.LoadCheckpoint }) (cond b user_step.Done user_step.LoadCheckpoint)
        by true = tt
        by false = tt

    -- it frees a latch
    pub keeps_release_latch : length m.page_words ≡ c.pages → u.step ≡ user_step.ReleaseLatch → Now (with_page_words m p (record w { latch = 0 })) h (user_took u 0 user_step.ReleaseLatch)
    keeps_release_latch long ph = by (eqb (u.page + 1) (length (changes u))) refl (subst (UserPagesAt E c m log h ls d seat u) ph own.step)
      where
        leaf_step_by : (o : UserPagesAt E c m log h ls d seat u user_step.ReleaseLatch) (x : UserState) → UserPageFits E c (with_page_words m p (record w { latch = 0 })) log h ls d seat x → Now (with_page_words m p (record w { latch = 0 })) h x
        leaf_step_by o x fits = let a = o.0 u.page (omega arith) o.1 in
            leaf_step E c seat_of m log stable h ls d actors seat before mates p (record w { latch = 0 }) h.holder a.there long (inr a.mine) (λ _ _. refl) (actor.User x)
            (freed_sheet E c seat_of m log stable h ls d actors seat before mates p (record w { latch = 0 }) a.there refl (before.paged.each_page p a.there).oldest (record { frame = a.page.frame; newest = a.page.newest; listing = a.page.listing }))
            (λ _ z. z) (λ _. a.mine) fits

        by : (b : Bool) → eqb (u.page + 1) (length (changes u)) ≡ b → UserPagesAt E c m log h ls d seat u user_step.ReleaseLatch → Now (with_page_words m p (record w { latch = 0 })) h (cond b (after_link u) (record u { page = u.page + 1; step = user_step.ReleaseLatch }))
        by true e o = leaf_step_by o (after_link u) (tied_fits (with_page_words m p (record w { latch = 0 })) h ls own.loaded (eqb (mode u) 0) refl)
        by false e o = let a = o.0 u.page (omega arith) o.1 in let z = eqb-false (u.page + 1) (length (changes u)) e in let l = o.1 in leaf_step_by o (record u { page = u.page + 1; step = user_step.ReleaseLatch })
            (record {
              there = own.there;
              apart = own.apart;
              within = own.within;
              ascending = own.ascending;
              are_bytes = own.are_bytes;
              loaded = own.loaded;
              closing = tt;
              step = (
                (λ k lo hi. at_else E c seat_of m log stable h ls d actors seat before mates p (record w { latch = 0 }) h.holder a.there long (inr a.mine) (λ _ _. refl) ((change_at (changes u) k).page) none_in_hand All Last Agree (λ y. own.apart u.k u.page k (omega arith) hi (sym y)) (o.0 k (omega arith) hi)),
                (omega arith),
              );
            })
