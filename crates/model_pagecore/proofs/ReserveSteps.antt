-- A user with latched pages reserves its group.
use Rattle.std.proofs.Common.{Bool, List, [], ap, arith, false, inl, inr, length, refl, set, subst, sym, take, true, ℕ, ⊎_elim, ◌++◌, ◌+◌, ◌<◌, ◌∙◌, ◌∷◌, ◌≡◌, ◌≢◌}
use Rattle.std.proofs.Math.Seq.{take-append_seam}
use lib.ListN.{get_elem?}
use mathlib.Core.Option.{some}
use native.Mathlib.Decide.{dec_le}
use Rattle.model_core.proofs.Lists.{at_last}
use Rattle.model_core.proofs.Groups.{at_end, at_less}
use Rattle.model_core.proofs.Lsns.{lsn_less, lsn_some}
use Rattle.model_core.specs.{Actor, change_at, changes, Entry, entry, group_bytes, line, Listed, lsn, page_words_at, SharedWords, user_took, UserState, DataSide, Setup}
use Rattle.model_pagecore.proofs.PageHistory.{upto_snoc}
use Rattle.model_pagecore.proofs.PageFrame.{log_snoc, longer_snoc, page_moved, page_others, one_page_later}
use Rattle.model_pagecore.proofs.PageStep.{mate, named}
use Rattle.model_pagecore.proofs.Unfinished.{unfinished_later}
use Rattle.model_pagecore.specs.PageFacts.{PageGhost, listed_lsn}
use Rattle.model_pagecore.specs.PageHalf.{At, PageHalf, UserPagesAt, UserPageFits, group_in_hand}
use Rattle.model_pagecore.specs.Pages.{All, Before, AgreeBelow, Cells, Laid, Last, OnePage, Agree, none_in_hand, last_end, start_lsn, is_changed_page, applied_upto, applied_all}
use Rattle.model_core.specs.declared.steps.UserStep.TheVariants as user_step
use Rattle.model_core.specs.States as actor

module _ (E : DataSide) (c : Setup) (seat_of : ℕ → ℕ) (m : SharedWords) (log : List Entry) (stable : ℕ) (h : PageGhost) (ls : ℕ → List Listed) (d : E.Part) (actors : List Actor) (seat : ℕ) (before : PageHalf E c m log stable h ls d actors)
    (mates : (j : ℕ) (u : UserState) → get_elem? actors j ≡ some (actor.User u) → seat_of u.user ≡ j) (W : Laid (lsn c.base) (lsn m.sn) log) where
  pub keeps_page_reserve : (u : UserState) → get_elem? actors seat ≡ some (actor.User u) → u.step ≡ user_step.Reserve → 0 < length (group_bytes u)
      → PageHalf E c (record m { sn = m.sn + length (group_bytes u) }) (log ++ entry u.user u.k m.sn (line u) ∷ []) stable h ls d (set actors seat (actor.User (user_took u m.sn user_step.Reserve)))
  keeps_page_reserve u at ph pos =
      let F : UserPageFits E c m log h ls d seat u = before.each seat (actor.User u) at in
      let o : UserPagesAt E c m log h ls d seat u user_step.Reserve = subst (UserPagesAt E c m log h ls d seat u) ph F.step in
      let g : Entry = entry u.user u.k m.sn (line u) in
      let m' : SharedWords = record m { sn = m.sn + length (group_bytes u) } in
      let log' : List Entry = log ++ g ∷ [] in
      let P = before.paged in
      let C = P.closed_links in
      let ord = C.order in let bound = C.bound in let within = P.within in let st = P.stable_top in
      let up : lsn m.sn < lsn m'.sn = lsn_less m.sn m'.sn (omega arith) in
      let open_here : h.closed m.sn ≡ true → ⊥ = λ z. let y = C.known m.sn z in omega arith in
      let shut : (b : Bool) → h.closed m.sn ≡ b → b ≡ false = λ b. elim b as (λ (x : Bool). h.closed m.sn ≡ x → x ≡ false) [ true ↦ (λ z. absurd (open_here z)) | false ↦ (λ z. refl) ] in
      let longer = longer_snoc log g in
      let seam : ◌≡◌ {A = List Entry} (take (length log) log') log = take-append_seam log (g ∷ []) in
      let own_page : (q : ℕ) → is_changed_page q g.changes ≡ true → At E c m log h ls d seat q none_in_hand All Last Agree = λ q t. let k = named q g.changes t in subst (λ (y : ℕ). At E c m log h ls d seat y none_in_hand All Last Agree) k.2 (o k.0 (omega arith) k.1) in
      let not_own : (q : ℕ) → (page_words_at m.page_words q).latch ≡ 1 → h.holder q ≢ seat → (b : Bool) → is_changed_page q g.changes ≡ b → b ≡ false = λ q la ho b. elim b as (λ (x : Bool). is_changed_page q g.changes ≡ x → x ≡ false) [ true ↦ (λ z. absurd (ho (own_page q z).mine)) | false ↦ (λ z. refl) ] in
      let held : (k : ℕ) → k < length (changes u) → At E c m' log' h ls d seat (change_at (changes u) k).page (group_in_hand E c m' log' h ls d g (length log)) (Cells 0) Before AgreeBelow = λ k l.
      let a = o k (omega arith) l in
      let S = P.each_page ((change_at (changes u) k).page) a.there in
      let p : ℕ = (change_at (changes u) k).page in
      let tied = a.page.listing in
      record {
        there = a.there;
        latched = a.latched;
        mine = a.mine;
        page = record {
          frame = a.page.frame ∙ ap (λ (x : List Entry). applied_all p x (c.opened p).bytes) (sym seam);
          newest = a.page.newest ∙ ap (λ (x : List Entry). last_end p x 0) (sym seam);
          listing = (
            tied,
            elim (dec_le (listed_lsn ls p) 0) [
              | yes z ↦ (let y = lsn_some m.sn in omega arith)
              | no z ↦ (let y = S.oldest (omega arith) in let w = W.wide y.0 y.1 y.2 in let n = W.under y.0 y.1 y.2 in let y4 = y.4 in omega arith)
            ],
          );
        };
      } in
      page_moved E c m m' log log' stable stable h h ls ls d d actors seat (actor.User (user_took u m.sn user_step.Reserve))
      (record {
        closed_links = record {
          order = C.order;
          free = C.free;
          bound = omega arith;
          known = λ x z. let y = C.known x z in omega arith;
          below = λ i e is lt. ⊎_elim (λ z. C.below i e z lt) (λ z. let y : start_lsn e ≡ lsn m.sn = ap start_lsn (sym z.1) in absurd (omega arith)) (at_end log g e i is);
          window = λ i e is cl. ⊎_elim (λ z. C.window i e z cl) (λ z. absurd (open_here (ap (λ (y : Entry). h.closed y.start) z.1 ∙ cl))) (at_end log g e i is);
          links_are = λ i l n. let s = C.links_are i l n in record { at = s.at; group = s.group; is = longer.old s.at s.group s.is; slot = s.slot; size = s.size; since = s.since; done = s.done };
          standing = λ i e is cl low. ⊎_elim (λ z. C.standing i e z cl low) (λ z. absurd (open_here (ap (λ (y : Entry). h.closed y.start) z.1 ∙ cl))) (at_end log g e i is);
        };
        lists = P.lists;
        each_page = λ q t. let S = P.each_page q t in let be = S.behind in
            let same_upto : applied_upto q (h.kept_page q).lsn log' (c.opened q).bytes ≡ applied_upto q (h.kept_page q).lsn log (c.opened q).bytes = upto_snoc q (h.kept_page q).lsn log g (c.opened q).bytes (omega arith) in
            let by : (b : Bool) → is_changed_page q g.changes ≡ b → OnePage c q log' h.closed h.given stable (page_words_at m.page_words q) (listed_lsn ls q) (h.kept_page q) = λ b. elim b as (λ (x : Bool). is_changed_page q g.changes ≡ x → OnePage c q log' h.closed h.given stable (page_words_at m.page_words q) (listed_lsn ls q) (h.kept_page q)) [
              | true ↦ (λ z. let a = own_page q z in let la = a.latched in record {
                latch = S.latch;
                free = λ y. absurd (omega arith);
                oldest = λ y. let r = S.oldest y in (r.0, r.1, longer.old r.0 r.1 r.2, r.3, r.4);
                fold = S.fold ∙ sym same_upto;
                ends = ⊎_elim (λ y. inl y) (λ r. inr (r.0, r.1, longer.old r.0 r.1 r.2, r.3, r.4)) S.ends;
                early = S.early;
                behind = S.behind;
                change = λ i e is tc cl. ⊎_elim (λ y. S.change i e y tc cl) (λ y. absurd (open_here (ap (λ (r : Entry). h.closed r.start) y.1 ∙ cl))) (at_end log g e i is);
                passed = λ i e is tc lt. ⊎_elim (λ y. S.passed i e y tc lt) (λ y. let r : start_lsn e ≡ lsn m.sn = ap start_lsn (sym y.1) in absurd (omega arith)) (at_end log g e i is);
              })
              | false ↦ (λ z. one_page_later c q log log' h.closed h.closed h.given stable stable (page_words_at m.page_words q) (page_words_at m.page_words q) (listed_lsn ls q) (listed_lsn ls q) (h.kept_page q) (h.kept_page q) longer (log_snoc q log g z) same_upto (λ _ _ _ _ y. y) refl refl refl (omega arith) S)
            ] in by (is_changed_page q g.changes) refl;
        within = P.within;
        flushed = P.flushed;
        stable_top = omega arith;
        stored = P.stored;
        unfinished = unfinished_later c.pages c.opened h.kept_page log log' stable stable h.unfinished longer (λ q n b low. upto_snoc q n log g b (omega arith)) (omega arith) P.unfinished;
        alone = P.alone;
      })
      (record {
        there = F.there;
        apart = F.apart;
        within = F.within;
        ascending = F.ascending;
        are_bytes = F.are_bytes;
        loaded = F.loaded;
        closing = tt;
        step = (
          record {
            at = length log;
            is = at_last log g (length log) refl;
            not_closed = shut (h.closed m.sn) refl;
            last = λ i e is l k lk. ⊎_elim (λ z. let y = at_less log i e z in absurd (omega arith)) (λ z. let y = z.0 in absurd (omega arith)) (at_end log g e i is);
            before = λ k a b. absurd (omega arith);
            here = λ l. held 0 l;
            after = λ k a b. held k b;
          },
          refl,
          refl,
        );
      })
      (λ j a n z. page_others E c seat_of m m' log log' h h ls ls d d seat j n
      (record {
        longer = longer;
        logs = λ q la ho. log_snoc q log g (by_own q (not_own q la ho));
        page_words = λ q _ _. refl;
        holders = λ q _ _. refl;
        listeds = λ q _ _. refl;
        taken = λ q la _. (la, refl);
        opens = λ _ _ _ _. refl;
        lists = λ i y _. (y, refl);
        closes = λ _ y. y;
        held = λ y _. (y, refl, refl, refl);
        ctail = omega arith;
        flushed = omega arith;
      })
      (λ _. record { kept_page = λ _. refl; oldest = λ q y. y; store = refl; unfinished = refl })
      (λ _. record { given = refl; passed = λ p x _ le y i w is tc lt. ⊎_elim (λ r. y i w r tc lt) (λ r. let k : start_lsn w ≡ lsn m.sn = ap start_lsn (sym r.1) in absurd (omega arith)) (at_end log g w i is) })
      a (mate E c seat_of m log stable h ls d actors seat before mates j a z) (before.each j a z))
    where
      by_own : (q : ℕ) → ((b : Bool) → is_changed_page q (changes u) ≡ b → b ≡ false) → is_changed_page q (changes u) ≡ false
      by_own q f = f (is_changed_page q (changes u)) refl
