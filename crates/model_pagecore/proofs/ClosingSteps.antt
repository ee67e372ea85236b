-- A group is closed: its user stores its link.
use Rattle.std.proofs.Common.{Bool, List, ap, arith, get_or-set_other, get_or-set_same, inl, length, refl, set, subst, sym, true, ℕ, ◌%◌, ◌-◌, ◌<◌, ◌∙◌, ◌≡◌, ◌≢◌, ◌≤◌}
use Rattle.std.specs.Prelude.{slice_index, slice_set}
use lib.ListN.{get_elem?}
use mathlib.Core.Option.{some}
use native.Mathlib.Decide.{dec_le, ℕ_discrete}
use Rattle.model_core.proofs.Groups.{changed, changed_else, changed_here, some_same}
use Rattle.model_core.specs.{Actor, change_at, changes, Entry, entry, group_end, line, Listed, lsn, SharedWords, user_took, UserState, DataSide, Setup}
use Rattle.model_pagecore.proofs.PageStep.{named, ring_step}
use Rattle.model_pagecore.specs.PageFacts.{Grows, PageGhost, ClosedLink, listed_lsn}
use Rattle.model_pagecore.specs.PageHalf.{At, PageHalf, UserPagesAt, UserPageFits, group_in_hand}
use Rattle.model_pagecore.specs.Pages.{All, Laid, Last, IsListed, start_lsn, is_changed_page}
use Rattle.model_core.specs.declared.steps.UserStep.TheVariants as user_step
use Rattle.model_core.specs.States as actor
use Rattle.model_core.specs.declared.limits.TheConstants.{CLOSED_LINKS}

-- a start is one group's
pub same_start : (from top : ℕ) (log : List Entry) (i j : ℕ) (e f : Entry) → Laid from top log → get_elem? log i ≡ some e → get_elem? log j ≡ some f → e.start ≡ f.start → (i ≡ j) × ◌≡◌ {A = Entry} e f
same_start from top log i j e f W ei fj s =
    let lows : start_lsn e ≡ start_lsn f = ap lsn s in
    let we = W.wide i e ei in let wf = W.wide j f fj in
    let equal : i ≡ j = elim (ℕ_discrete i j) [
      | yes z ↦ z
      | no z ↦ elim (dec_le i j) [
        | yes l ↦ (let a = W.apart i j e f ei fj (omega arith) in absurd (omega arith))
        | no l ↦ (let a = W.apart j i f e fj ei (omega arith) in absurd (omega arith))
      ]
    ] in (equal, some_same log j e f (subst (λ (k : ℕ). get_elem? log k ≡ some e) equal ei) fj)

module _ (E : DataSide) (c : Setup) (seat_of : ℕ → ℕ) (m : SharedWords) (log : List Entry) (stable : ℕ) (h : PageGhost) (ls : ℕ → List Listed) (d : E.Part) (actors : List Actor) (seat : ℕ) (before : PageHalf E c m log stable h ls d actors)
    (mates : (j : ℕ) (u : UserState) → get_elem? actors j ≡ some (actor.User u) → seat_of u.user ≡ j) (W : Laid (lsn c.base) (lsn m.sn) log) where
  -- a user stores its closed link
  pub keeps_close : (u : UserState) → get_elem? actors seat ≡ some (actor.User u) → length m.clinks ≡ CLOSED_LINKS → u.step ≡ user_step.StoreClosedLink
      → (k : PageGhost) × PageHalf E c (record m { clinks = slice_set m.clinks (lsn u.start % CLOSED_LINKS) (lsn (group_end u) - lsn u.start) }) log stable k ls d (set actors seat (actor.User (user_took u 0 user_step.StoreClosedLink))) × Grows m h k
  keeps_close u at long ph =
      let F : UserPageFits E c m log h ls d seat u = before.each seat (actor.User u) at in
      let o : UserPagesAt E c m log h ls d seat u user_step.StoreClosedLink = subst (UserPagesAt E c m log h ls d seat u) ph F.step in
      let work = o.0 in let near = o.1 in let all = o.2 in
      let g : Entry = entry u.user u.k u.start (line u) in
      let P = before.paged in
      let C = P.closed_links in
      let i : ℕ = lsn u.start % CLOSED_LINKS in
      let v : ℕ = lsn (group_end u) - lsn u.start in
      let links : List ℕ = slice_set m.clinks i v in
      let closed : ℕ → Bool = changed h.closed u.start true in
      let here : (x : ℕ) → x ≡ u.start → closed x ≡ true = λ x e. changed_here h.closed u.start true x e in
      let else : (x : ℕ) → x ≢ u.start → closed x ≡ h.closed x = λ x n. changed_else h.closed u.start true x n in
      let grows : (x : ℕ) → h.closed x ≡ true → closed x ≡ true = λ x z. elim (ℕ_discrete x u.start) [ yes e ↦ here x e | no n ↦ else x n ∙ z ] in
      let w = W.wide work.at g work.is in
      let un = W.under work.at g work.is in
      let tail_low : h.tail ≤ lsn u.start = elim (dec_le h.tail (lsn u.start)) [ yes z ↦ z | no z ↦ (let y = C.below work.at g work.is (omega arith) in let un = work.not_closed in absurd (cc)) ] in
      let done : (k : ℕ) → k < length (changes u) → At E c m log h ls d seat (change_at (changes u) k).page (group_in_hand E c m log h ls d g work.at) All Last IsListed = λ k l. work.before k (omega arith) l in (
        record h { closed = closed },
        ring_step E c seat_of m log stable h ls d actors seat before mates links m.ctail m.cheld h.tail h.advancer closed (actor.User (user_took u 0 user_step.StoreClosedLink))
            (record {
              order = C.order;
              free = C.free;
              bound = C.bound;
              known = λ x z. elim (ℕ_discrete x u.start) [ yes e ↦ (let y : lsn x ≡ lsn u.start = ap lsn e in omega arith) | no n ↦ C.known x (sym (else x n) ∙ z) ];
              below = λ j e is lt. grows e.start (C.below j e is lt);
              window = λ j e is z. elim (ℕ_discrete e.start u.start) [ yes s ↦ (let y : start_lsn e ≡ lsn u.start = ap lsn s in omega arith) | no n ↦ C.window j e is (sym (else e.start n) ∙ z) ];
              links_are = λ j l pos. elim (ℕ_discrete j i) [
                | yes e ↦ (let value : slice_index links j ≡ v = subst (λ (y : ℕ). slice_index links y ≡ v) (sym e) (get_or-set_same m.clinks i v 0 (omega arith)) in
                    subst (λ (y : ℕ). ClosedLink log closed h.tail j y) (sym value) (record { at = work.at; group = g; is = work.is; slot = e; size = omega arith; since = tail_low; done = here u.start refl }))
                | no n ↦ (let value : slice_index links j ≡ slice_index m.clinks j = get_or-set_other m.clinks i j v 0 n in
                    let s = C.links_are j l (omega arith) in
                    subst (λ (y : ℕ). ClosedLink log closed h.tail j y) (sym value) (record { at = s.at; group = s.group; is = s.is; slot = s.slot; size = s.size; since = s.since; done = grows s.group.start s.done }))
              ];
              standing = λ j e is z since. elim (ℕ_discrete (start_lsn e % CLOSED_LINKS) i) [
                | yes s ↦ (let value : slice_index links (start_lsn e % CLOSED_LINKS) ≡ v = subst (λ (y : ℕ). slice_index links y ≡ v) (sym s) (get_or-set_same m.clinks i v 0 (omega arith)) in omega arith)
                | no s ↦ (let value : slice_index links (start_lsn e % CLOSED_LINKS) ≡ slice_index m.clinks (start_lsn e % CLOSED_LINKS) = get_or-set_other m.clinks i (start_lsn e % CLOSED_LINKS) v 0 s in
                    elim (ℕ_discrete e.start u.start) [
                      | yes y ↦ absurd (s (ap (λ (k : ℕ). lsn k % CLOSED_LINKS) y))
                      | no n ↦ (let stands = C.standing j e is (sym (else e.start n) ∙ z) since in omega arith)
                    ])
              ];
            })
            (omega arith)
            (λ q t. let S = P.each_page q t in record {
              latch = S.latch;
              free = S.free;
              oldest = S.oldest;
              fold = S.fold;
              ends = S.ends;
              early = S.early;
              behind = S.behind;
              change = λ j e is tc z. elim (ℕ_discrete e.start u.start) [
                | yes s ↦ (let same = (same_start (lsn c.base) (lsn m.sn) log j work.at e g W is work.is s).1 in
                    let mine = named q (changes u) (ap (λ (y : Entry). is_changed_page q y.changes) (sym same) ∙ tc) in
                    let st = (done mine.0 mine.1).page.listing in
                    let st' : (0 < listed_lsn ls q) × (listed_lsn ls q ≤ lsn u.start) = subst (λ (y : ℕ). (0 < listed_lsn ls y) × (listed_lsn ls y ≤ lsn u.start)) mine.2 (st.1, st.2) in
                    let a = st'.0 in let b = st'.1 in
                    let lows : start_lsn e ≡ lsn u.start = ap lsn s in
                    inl (a, omega arith))
                | no n ↦ S.change j e is tc (sym (else e.start n) ∙ z)
              ];
              passed = S.passed;
            })
            (λ j e is other. else e.start (λ s. other (ap (λ (y : Entry). seat_of y.user) (same_start (lsn c.base) (lsn m.sn) log j work.at e g W is work.is s).1 ∙ mates seat u at)))
            grows
            (λ o _. (o, refl, refl, refl))
            (record {
              there = F.there;
              apart = F.apart;
              within = F.within;
              ascending = F.ascending;
              are_bytes = F.are_bytes;
              loaded = F.loaded;
              closing = tt;
              step = (
                (λ k _ l. let a = done k l in record { there = a.there; latched = a.latched; mine = a.mine; page = record { frame = a.page.frame; newest = a.page.newest; listing = a.page.listing.0 } }),
                o.3,
              );
            }),
        record { given = omega arith; closed = grows; holder = λ _ _. refl },
      )
