-- A list is taken, and a page added, removed, or its first lsn read.
use Rattle.std.proofs.Common.{List, [], ap, arith, false, get_or-set_same, inl, inr, length, refl, set, subst, sym, ℕ, ⊎_elim, ◌%◌, ◌+◌, ◌<◌, ◌∙◌, ◌∷◌, ◌≡◌, ◌≢◌, ◌≤◌}
use Rattle.std.specs.Prelude.{slice_index, slice_set}
use lib.ListN.{get_elem?}
use mathlib.Core.Option.{some}
use native.Mathlib.Decide.{dec_le, ℕ_discrete}
use Rattle.model_core.proofs.Groups.{changed, changed_else, changed_here, some_same}
use Rattle.model_core.proofs.Lsns.{lsn_some}
use Rattle.model_core.specs.{Actor, appended, BatchPage, CheckpointerState, CleanerState, current_page, Each, Entry, entry, first_of_batch, line, Listed, lowered, lsn, oldest_end, oldest_of, page_words_at, Relaxed, SharedWords, user_took, UserState, without, DataSide, Setup}
use Rattle.model_pagecore.proofs.PageHistory.{each_joined, each_more, each_without, joined_else, joined_here, last_most, oldest_after, relaxed_joined, relaxed_without, without_else, without_here}
use Rattle.model_pagecore.proofs.PageStep.{list_at, list_mem, list_sheet, list_step, work_here}
use Rattle.model_pagecore.specs.PageFacts.{Grows, PageGhost, listed_lsn}
use Rattle.model_pagecore.specs.PageHalf.{At, CleanerAt, CleanerFits, InBatch, PageHalf, CheckpointerPagesAt, CheckpointerPageFits, UserPagesAt, UserPageFits, rests, runs}
use Rattle.model_pagecore.specs.Pages.{InListOnly, All, InWordOnly, Laid, Last, Unlisted, OnePage, Agree, none_in_hand, last_end, start_lsn}
use Rattle.model_core.specs.declared.steps.UserStep.TheVariants as user_step
use Rattle.model_core.specs.declared.steps.CleanerStep.TheVariants as cleaner_step
use Rattle.model_core.specs.declared.steps.CheckpointerStep.TheVariants as checkpointer_step
use Rattle.model_core.specs.States as actor
use Rattle.model_core.specs.declared.limits.TheConstants.{CLOSED_LINKS}

-- an lsn lowered by a list's first
pub lowered_le : (x : ℕ) (l : List Listed) → lowered x (oldest_end l) ≤ x
lowered_le x [] = omega arith
lowered_le x (y ∷ ys) = omega arith

-- below it, whatever starts isn't listed since before
pub lowered_passes : (x a p : ℕ) (l : List Listed) → Relaxed l → 0 < oldest_of p l → oldest_of p l ≤ a → a < lowered x (oldest_end l) → ⊥
lowered_passes x a p [] r o le lt = omega arith
lowered_passes x a p (y ∷ ys) r o le lt = let z = oldest_after y ys p r o in omega arith

module _ (E : DataSide) (c : Setup) (seat_of : ℕ → ℕ) (m : SharedWords) (log : List Entry) (stable : ℕ) (h : PageGhost) (ls : ℕ → List Listed) (d : E.Part) (actors : List Actor) (seat : ℕ) (before : PageHalf E c m log stable h ls d actors)
    (mates : (j : ℕ) (u : UserState) → get_elem? actors j ≡ some (actor.User u) → seat_of u.user ≡ j) (W : Laid (lsn c.base) (lsn m.sn) log) where
  -- a user adds the page that it is at, with its group's start
  pub keeps_add : (u : UserState) → get_elem? actors seat ≡ some (actor.User u) → (ls' : ℕ → List Listed) → ls' (current_page u % 4) ≡ appended (ls (current_page u % 4)) (current_page u) (lsn u.start) → ((i : ℕ) → i ≢ current_page u % 4 → ls' i ≡ ls i)
      → length m.lists ≡ 4 → slice_index m.lists (current_page u % 4) ≡ 0 → u.checks ≡ false → u.step ≡ user_step.AddToList
      → (k : PageGhost) × PageHalf E c (record m { lists = slice_set m.lists (current_page u % 4) 1 }) log stable k ls' d (set actors seat (actor.User (user_took u 0 user_step.AddToList))) × Grows m h k
  keeps_add u at ls' ls_here ls_else long free checks ph =
      let F : UserPageFits E c m log h ls d seat u = before.each seat (actor.User u) at in
      let o : UserPagesAt E c m log h ls d seat u user_step.AddToList = subst (UserPagesAt E c m log h ls d seat u) ph F.step in
      let work = o.0 in let near = o.1 in let pl = near.1 in
      let p : ℕ = current_page u in
      let i : ℕ = p % 4 in
      let x : ℕ = lsn u.start in
      let here = work.here pl in
      let off = here.page.listing in
      let off0 = off.0 in let off1 = off.1 in
      let P = before.paged in
      let C = P.closed_links in
      let L = P.lists in
      let turns : ℕ → ℕ = changed h.list_holder i seat in
      let h' : PageGhost = record h { list_holder = turns } in
      let tail_low : h.tail ≤ x = elim (dec_le h.tail x) [ yes z ↦ z | no z ↦ (let y = C.below work.at _ work.is (omega arith) in let un = work.not_closed in absurd (cc)) ] in
      let ord = C.order in
      let n0 = near.0 in
      let same_turn : (j : ℕ) → j ≢ i → turns j ≡ h.list_holder j = λ j n. changed_else h.list_holder i seat j n in
      let listed_here : listed_lsn ls' p ≡ x = ap (oldest_of p) ls_here ∙ joined_here (ls i) p x (L.real i) off1 in
      let listed_else : (q : ℕ) → q ≢ p → listed_lsn ls' q ≡ listed_lsn ls q = λ q n. elim (ℕ_discrete (q % 4) i) [
        | yes e ↦ ap (λ (j : ℕ). oldest_of q (ls' j)) e ∙ ap (oldest_of q) ls_here ∙ joined_else (ls i) p x q n ∙ ap (λ (j : ℕ). oldest_of q (ls j)) (sym e)
        | no k ↦ ap (oldest_of q) (ls_else (q % 4) k)
      ] in
      let raised = list_step E c seat_of m log stable h ls d actors seat before mates i 1 turns ls' long (omega arith) (inl free) same_turn in
      let else = list_at E c seat_of m log stable h ls d actors seat before mates i 1 turns ls' long (omega arith) (inl free) same_turn in (
        h',
        raised (actor.User (user_took u 0 user_step.AddToList))
            (record {
              relaxed = λ j. elim (ℕ_discrete j i) [
                | yes e ↦ subst (λ (r : ℕ). Relaxed (ls' r)) (sym e) (subst Relaxed (sym ls_here) (relaxed_joined (ls i) p x (L.relaxed i) (each_more (λ y. y.oldest < m.ctail + CLOSED_LINKS) (λ y. y.oldest < x + CLOSED_LINKS) (ls i) (λ y z. omega arith) (L.near i))))
                | no n ↦ subst Relaxed (sym (ls_else j n)) (L.relaxed j)
              ];
              near = λ j. elim (ℕ_discrete j i) [
                | yes e ↦ subst (λ (r : ℕ). Each (λ y. y.oldest < m.ctail + CLOSED_LINKS) (ls' r)) (sym e) (subst (Each (λ y. y.oldest < m.ctail + CLOSED_LINKS)) (sym ls_here) (each_joined (λ y. y.oldest < m.ctail + CLOSED_LINKS) (ls i) p x (L.near i) n0))
                | no n ↦ subst (Each (λ y. y.oldest < m.ctail + CLOSED_LINKS)) (sym (ls_else j n)) (L.near j)
              ];
              real = λ j. elim (ℕ_discrete j i) [
                | yes e ↦ subst (λ (r : ℕ). Each (λ y. 0 < y.oldest) (ls' r)) (sym e) (subst (Each (λ y. 0 < y.oldest)) (sym ls_here) (each_joined (λ y. 0 < y.oldest) (ls i) p x (L.real i) (lsn_some u.start)))
                | no n ↦ subst (Each (λ y. 0 < y.oldest)) (sym (ls_else j n)) (L.real j)
              ];
            })
            (λ q t. elim (ℕ_discrete q p) [
              | yes e ↦ subst (λ (r : ℕ). OnePage c r log h.closed h.given stable (page_words_at m.page_words r) (listed_lsn ls' r) (h.kept_page r)) (sym e)
                  (let S = P.each_page p here.there in let la = here.latched in record {
                    latch = S.latch;
                    free = λ z. absurd (omega arith);
                    oldest = S.oldest;
                    fold = S.fold;
                    ends = S.ends;
                    early = S.early;
                    behind = S.behind;
                    change = λ j y is tc cl. ⊎_elim (λ z. let z0 = z.0 in absurd (omega arith)) (λ z. inr z) (S.change j y is tc cl);
                    passed = S.passed;
                  })
              | no n ↦ list_sheet E c seat_of m log stable h ls d actors seat before mates i 1 turns ls' long (omega arith) (inl free) same_turn q t (listed_else q n)
            ])
            (λ q la ho. listed_else q (λ e. ho (ap h.holder e ∙ here.mine)))
            (record {
              there = F.there;
              apart = F.apart;
              within = F.within;
              ascending = F.ascending;
              are_bytes = F.are_bytes;
              loaded = F.loaded;
              closing = tt;
              step = (
                work_here E c seat_of m log stable h ls d actors seat before mates (list_mem E c seat_of m log stable h ls d actors seat before mates i 1 turns ls' long (omega arith) (inl free) same_turn) h' ls' d (entry u.user u.k u.start (line u)) u.page (F.apart u.k) pl All All Last Last Unlisted InListOnly work work.not_closed
                    (λ q k f n t ne a. else q k f n t (listed_else q ne) a)
                    (record { there = here.there; latched = here.latched; mine = here.mine; page = record { frame = here.page.frame; newest = here.page.newest; listing = (off0, listed_here) } }),
                near,
                (get_or-set_same m.lists i 1 0 (omega arith), changed_here h.list_holder i seat i refl),
              );
            }),
        record { given = omega arith; closed = λ x z. z; holder = λ _ _. refl },
      )

  -- the cleaner takes the first page of its batch off its list
  pub keeps_remove : (v : CleanerState) → get_elem? actors seat ≡ some (actor.Cleaner v) → (ls' : ℕ → List Listed) → ls' (first_of_batch v % 4) ≡ without (first_of_batch v) (ls (first_of_batch v % 4)) → ((i : ℕ) → i ≢ first_of_batch v % 4 → ls' i ≡ ls i)
      → length m.lists ≡ 4 → slice_index m.lists (first_of_batch v % 4) ≡ 0 → v.step ≡ cleaner_step.RemoveFromList
      → (x : BatchPage) → get_elem? v.batch 0 ≡ some x → first_of_batch v ≡ x.page
      → (k : PageGhost) × PageHalf E c (record m { lists = slice_set m.lists (first_of_batch v % 4) 1 }) log stable k ls' d (set actors seat (actor.Cleaner (record v { step = cleaner_step.ClearOldest }))) × Grows m h k
  keeps_remove v at ls' ls_here ls_else long free ph x x_is x_page =
      let F : CleanerFits E c m log h ls d seat v = before.each seat (actor.Cleaner v) at in
      let o : CleanerAt E c m log h ls d seat v cleaner_step.RemoveFromList = subst (CleanerAt E c m log h ls d seat v) ph F.step in
      let p : ℕ = first_of_batch v in
      let i : ℕ = p % 4 in
      let first = o.0.2 x x_is in
      let held : At E c m log h ls d seat p none_in_hand All Last Agree = subst (λ (q : ℕ). At E c m log h ls d seat q none_in_hand All Last Agree) (sym x_page) first.held in
      let pos : 0 < (page_words_at m.page_words p).oldest = subst (λ (q : ℕ). 0 < (page_words_at m.page_words q).oldest) (sym x_page) (o.1 x x_is) in
      let kept = o.0.0 0 x x_is in
      let P = before.paged in
      let L = P.lists in
      let S = P.each_page p held.there in
      let turns : ℕ → ℕ = changed h.list_holder i seat in
      let h' : PageGhost = record h { list_holder = turns } in
      let same_turn : (j : ℕ) → j ≢ i → turns j ≡ h.list_holder j = λ j n. changed_else h.list_holder i seat j n in
      let listed_here : listed_lsn ls' p ≡ 0 = ap (oldest_of p) ls_here ∙ without_here (ls i) p in
      let listed_else : (q : ℕ) → q ≢ p → listed_lsn ls' q ≡ listed_lsn ls q = λ q n. elim (ℕ_discrete (q % 4) i) [
        | yes e ↦ ap (λ (j : ℕ). oldest_of q (ls' j)) e ∙ ap (oldest_of q) ls_here ∙ without_else (ls i) p q n ∙ ap (λ (j : ℕ). oldest_of q (ls j)) (sym e)
        | no k ↦ ap (oldest_of q) (ls_else (q % 4) k)
      ] in
      let was_last : (h.kept_page p).lsn ≡ last_end p log 0 = ap (λ (q : ℕ). (h.kept_page q).lsn) x_page ∙ kept.0 ∙ first.newest ∙ ap (λ (q : ℕ). (page_words_at m.page_words q).newest) (sym x_page) ∙ held.page.newest in
      let else = list_at E c seat_of m log stable h ls d actors seat before mates i 1 turns ls' long (omega arith) (inl free) same_turn in (
        h',
        list_step E c seat_of m log stable h ls d actors seat before mates i 1 turns ls' long (omega arith) (inl free) same_turn (actor.Cleaner (record v { step = cleaner_step.ClearOldest }))
            (record {
              relaxed = λ j. elim (ℕ_discrete j i) [
                | yes e ↦ subst (λ (r : ℕ). Relaxed (ls' r)) (sym e) (subst Relaxed (sym ls_here) (relaxed_without (ls i) p (L.relaxed i)))
                | no n ↦ subst Relaxed (sym (ls_else j n)) (L.relaxed j)
              ];
              near = λ j. elim (ℕ_discrete j i) [
                | yes e ↦ subst (λ (r : ℕ). Each (λ y. y.oldest < m.ctail + CLOSED_LINKS) (ls' r)) (sym e) (subst (Each (λ y. y.oldest < m.ctail + CLOSED_LINKS)) (sym ls_here) (each_without (λ y. y.oldest < m.ctail + CLOSED_LINKS) (ls i) p (L.near i)))
                | no n ↦ subst (Each (λ y. y.oldest < m.ctail + CLOSED_LINKS)) (sym (ls_else j n)) (L.near j)
              ];
              real = λ j. elim (ℕ_discrete j i) [
                | yes e ↦ subst (λ (r : ℕ). Each (λ y. 0 < y.oldest) (ls' r)) (sym e) (subst (Each (λ y. 0 < y.oldest)) (sym ls_here) (each_without (λ y. 0 < y.oldest) (ls i) p (L.real i)))
                | no n ↦ subst (Each (λ y. 0 < y.oldest)) (sym (ls_else j n)) (L.real j)
              ];
            })
            (λ q t. elim (ℕ_discrete q p) [
              | yes e ↦ subst (λ (r : ℕ). OnePage c r log h.closed h.given stable (page_words_at m.page_words r) (listed_lsn ls' r) (h.kept_page r)) (sym e)
                  (let la = held.latched in record {
                    latch = S.latch;
                    free = λ z. absurd (omega arith);
                    oldest = S.oldest;
                    fold = S.fold;
                    ends = S.ends;
                    early = S.early;
                    behind = S.behind;
                    change = λ j y is tc cl. inr (let z = (last_most (lsn c.base) (lsn m.sn) p log j y W is tc).0 in omega arith);
                    passed = S.passed;
                  })
              | no n ↦ list_sheet E c seat_of m log stable h ls d actors seat before mates i 1 turns ls' long (omega arith) (inl free) same_turn q t (listed_else q n)
            ])
            (λ q la ho. listed_else q (λ e. ho (ap h.holder e ∙ held.mine)))
            (record {
              alone = F.alone;
              pages = F.pages;
              page_size = F.page_size;
              slots = F.slots;
              page = F.page;
              flushed = F.flushed;
              sound = λ z. F.sound (ap runs ph);
              apart = F.apart;
              few = F.few;
              cause = λ z. absurd (cc);
              step = (
                (
                  o.0.0,
                  (λ j y lo is. let r = o.0.1 j y lo is in let ne : y.page ≢ p = (λ e. F.apart 0 j x y x_is is (omega arith) (sym x_page ∙ sym e)) in
                      (record { held = else y.page none_in_hand All Last Agree (listed_else y.page ne) r.0.held; newest = r.0.newest; bytes = r.0.bytes; low = r.0.low }, r.1)),
                  (λ y is. let same = some_same v.batch 0 x y x_is is in subst (λ (z : BatchPage). InBatch E c (record m { lists = slice_set m.lists i 1 }) log h' ls' d seat v.flushed z InWordOnly) same
                      (record {
                        held = subst (λ (q : ℕ). At E c (record m { lists = slice_set m.lists i 1 }) log h' ls' d seat q none_in_hand All Last InWordOnly) x_page
                            (record { there = held.there; latched = held.latched; mine = held.mine; page = record { frame = held.page.frame; newest = held.page.newest; listing = (pos, listed_here) } });
                        newest = first.newest;
                        bytes = first.bytes;
                        low = first.low;
                      })),
                  o.0.3,
                ),
                (get_or-set_same m.lists i 1 0 (omega arith), changed_here h.list_holder i seat i refl),
              );
            }),
        record { given = omega arith; closed = λ x z. z; holder = λ _ _. refl },
      )

  -- the checkpointer reads a list's first lsn
  pub keeps_oldest_end : (t : CheckpointerState) → get_elem? actors seat ≡ some (actor.Checkpointer t) → (ls' : ℕ → List Listed) → ((i : ℕ) → ls' i ≡ ls i) → length m.lists ≡ 4 → slice_index m.lists t.list ≡ 0 → t.step ≡ checkpointer_step.ReadList
      → (k : PageGhost) × PageHalf E c (record m { lists = slice_set m.lists t.list 1 }) log stable k ls' d (set actors seat (actor.Checkpointer (record t { to = lowered t.to (oldest_end (ls t.list)); step = checkpointer_step.GiveList }))) × Grows m h k
  keeps_oldest_end t at ls' ls_same long free ph =
      let F : CheckpointerPageFits E c m log h ls d seat t = before.each seat (actor.Checkpointer t) at in
      let o : CheckpointerPagesAt E c m log h ls d seat t checkpointer_step.ReadList = subst (CheckpointerPagesAt E c m log h ls d seat t) ph F.step in
      let P = before.paged in
      let L = P.lists in
      let C = P.closed_links in
      let ord = C.order in
      let x' : ℕ = lowered t.to (oldest_end (ls t.list)) in
      let down : x' ≤ t.to = lowered_le t.to (ls t.list) in
      let o0 = o.0 in
      let turns : ℕ → ℕ = changed h.list_holder t.list seat in
      let same_turn : (j : ℕ) → j ≢ t.list → turns j ≡ h.list_holder j = λ j n. changed_else h.list_holder t.list seat j n in
      let listed_same : (q : ℕ) → listed_lsn ls' q ≡ listed_lsn ls q = λ q. ap (oldest_of q) (ls_same (q % 4)) in (
        record h { list_holder = turns },
        list_step E c seat_of m log stable h ls d actors seat before mates t.list 1 turns ls' long o.2 (inl free) same_turn (actor.Checkpointer (record t { to = x'; step = checkpointer_step.GiveList }))
            (record { relaxed = λ j. subst Relaxed (sym (ls_same j)) (L.relaxed j); near = λ j. subst (Each (λ y. y.oldest < m.ctail + CLOSED_LINKS)) (sym (ls_same j)) (L.near j); real = λ j. subst (Each (λ y. 0 < y.oldest)) (sym (ls_same j)) (L.real j) })
            (λ q there. list_sheet E c seat_of m log stable h ls d actors seat before mates t.list 1 turns ls' long o.2 (inl free) same_turn q there (listed_same q))
            (λ q _ _. listed_same q)
            (record {
              alone = F.alone;
              with_pages = F.with_pages;
              loaded = F.loaded;
              given = λ z. F.given (ap rests ph);
              step = (
                (omega arith),
                (λ p there lt i e is tc l. elim (ℕ_discrete (p % 4) t.list) [
                  | yes k ↦ ⊎_elim
                      (λ z. let z0 = z.0 in let z1 = z.1 in absurd (lowered_passes t.to (start_lsn e) p (ls t.list) (L.relaxed t.list) (subst (λ (r : ℕ). 0 < oldest_of p (ls r)) k z0) (subst (λ (r : ℕ). oldest_of p (ls r) ≤ start_lsn e) k z1) l))
                      (λ z. z)
                      ((P.each_page p there).change i e is tc (C.below i e is (omega arith)))
                  | no k ↦ o.1 p there (omega arith) i e is tc (omega arith)
                ]),
                o.2,
                (get_or-set_same m.lists t.list 1 0 (let l = o.2 in omega arith), changed_here h.list_holder t.list seat t.list refl),
              );
            }),
        record { given = omega arith; closed = λ x z. z; holder = λ _ _. refl },
      )
