-- The cleaner's batch is written, or fails.
use Rattle.std.proofs.Common.{Bool, List, [], ap, arith, cond, eqb, eqb-true, false, inl, inr, length, refl, set, subst, suc, sym, true, zero, ℕ, ⊎_elim, ◌<◌, ◌∙◌, ◌∷◌, ◌≡◌, ◌≢◌, ◌≤◌, ◌⊎◌}
use Rattle.std.proofs.lemmas.Bool.{eqb-false}
use lib.ListN.{get_elem?}
use mathlib.Core.Option.{some, some-injective, some-ne-none}
use native.Mathlib.Decide.{dec_le, ℕ_discrete}
use Rattle.model_base.specs.{IsPageSize}
use Rattle.model_base.specs.declared.limits.TheConstants.{LSN_LIMIT}
use Rattle.model_core.proofs.Groups.{some_same}
use Rattle.model_core.specs.{Actor, BatchPage, CleanerState, Entry, frame_words, framed_page, KeptPage, Listed, lsn, page_words_at, SharedWords, UserState, DataSide, Setup}
use Rattle.model_pagecore.proofs.PageHistory.{last_most, upto_whole}
use Rattle.model_pagecore.proofs.PageFrame.{page_moved, page_others, pages_same}
use Rattle.model_pagecore.proofs.PageStep.{mate}
use Rattle.model_pagecore.specs.DataLaws.{CanBatch, kept_in, renewed}
use Rattle.model_pagecore.proofs.Unfinished.{none_unfinished}
use Rattle.model_pagecore.specs.PageFacts.{Grows, AreUnfinished, PageGhost, listed_lsn}
use Rattle.model_pagecore.specs.PageHalf.{At, CleanerAt, CleanerFits, InBatch, IsBatchKept, PageHalf, runs}
use Rattle.model_pagecore.specs.Pages.{All, EndsAt, FrameStage, GroupInHand, Laid, Last, NewestStage, OnePage, ListingStage, Agree, none_in_hand, applied_upto}
use Rattle.model_core.specs.declared.steps.CleanerStep.TheVariants as cleaner_step
use Rattle.model_core.specs.States as actor
use Rattle.model_core.proofs.FrameWords.{framed_long}

-- a page with a batch is the batch's, or as it was
pub kept_cases : (batch : List BatchPage) (q : ℕ) (k : KeptPage) → ((i : ℕ) × (x : BatchPage) × (get_elem? batch i ≡ some x) × (x.page ≡ q) × ◌≡◌ {A = KeptPage} (kept_in batch q k) (record { lsn = x.lsn; bytes = x.bytes })) ⊎ (((i : ℕ) (x : BatchPage) → get_elem? batch i ≡ some x → x.page ≢ q) × ◌≡◌ {A = KeptPage} (kept_in batch q k) k)
kept_cases [] q k = inr ((λ i x is. absurd (some-ne-none x (sym is))), refl)
kept_cases (y ∷ ys) q k = at (eqb y.page q) refl (kept_cases ys q k)
  where
    at : (b : Bool) → eqb y.page q ≡ b → ((i : ℕ) × (x : BatchPage) × (get_elem? ys i ≡ some x) × (x.page ≡ q) × ◌≡◌ {A = KeptPage} (kept_in ys q k) (record { lsn = x.lsn; bytes = x.bytes })) ⊎ (((i : ℕ) (x : BatchPage) → get_elem? ys i ≡ some x → x.page ≢ q) × ◌≡◌ {A = KeptPage} (kept_in ys q k) k)
        → ((i : ℕ) × (x : BatchPage) × (get_elem? (y ∷ ys) i ≡ some x) × (x.page ≡ q) × ◌≡◌ {A = KeptPage} (cond b (record { lsn = y.lsn; bytes = y.bytes }) (kept_in ys q k)) (record { lsn = x.lsn; bytes = x.bytes })) ⊎ (((i : ℕ) (x : BatchPage) → get_elem? (y ∷ ys) i ≡ some x → x.page ≢ q) × ◌≡◌ {A = KeptPage} (cond b (record { lsn = y.lsn; bytes = y.bytes }) (kept_in ys q k)) k)
    at true e r = inl (zero, y, refl, eqb-true y.page q e, refl)
    at false e (inl r) = inl (suc r.0, r.1, r.2, r.3, r.4)
    at false e (inr r) = inr (none, r.1)
      where
        none : (i : ℕ) (x : BatchPage) → get_elem? (y ∷ ys) i ≡ some x → x.page ≢ q
        none zero x is z = eqb-false y.page q e (ap (λ (t : BatchPage). t.page) (some-injective y x is) ∙ z)
        none (suc i) x is z = r.0 i x is z

module _ (E : DataSide) (c : Setup) (seat_of : ℕ → ℕ) (m : SharedWords) (log : List Entry) (stable : ℕ) (h : PageGhost) (ls : ℕ → List Listed) (d : E.Part) (actors : List Actor) (seat : ℕ) (before : PageHalf E c m log stable h ls d actors)
    (mates : (j : ℕ) (u : UserState) → get_elem? actors j ≡ some (actor.User u) → seat_of u.user ≡ j) (W : Laid (lsn c.base) (lsn m.sn) log) where
  -- what the cleaner knows of a page that it holds, with its lsn and bytes
  pub held_facts : (p : ℕ) → At E c m log h ls d seat p none_in_hand All Last Agree → 0 < (page_words_at m.page_words p).oldest
      → ((h.kept_page p).lsn ≤ (page_words_at m.page_words p).newest) × EndsAt p log (page_words_at m.page_words p).newest × (framed_page c.page_size (page_words_at m.page_words p).frame ≡ applied_upto p (page_words_at m.page_words p).newest log (c.opened p).bytes)
  held_facts p o pos =
      let S = before.paged.each_page p o.there in
      let st = S.oldest pos in
      let most = last_most (lsn c.base) (lsn m.sn) p log st.0 st.1 W st.2 st.3 in
      let nw = o.page.newest in
      let w = W.wide st.0 st.1 st.2 in let ov = W.over st.0 st.1 st.2 in let m0 = most.0 in
      let early = S.early in (
        ⊎_elim (λ z. omega arith) (λ z. let r = (last_most (lsn c.base) (lsn m.sn) p log z.0 z.1 W z.2 z.3).0 in let z4 = z.4 in omega arith) S.ends,
        subst (EndsAt p log) (sym nw) most.1,
        o.page.frame ∙ sym (upto_whole p (page_words_at m.page_words p).newest log (c.opened p).bytes (λ i e is t. let r = (last_most (lsn c.base) (lsn m.sn) p log i e W is t).0 in omega arith)),
      )

  module _ (v : CleanerState) (at : get_elem? actors seat ≡ some (actor.Cleaner v)) (ph : v.step ≡ cleaner_step.WriteBatch) where
    own : CleanerFits E c m log h ls d seat v
    own = before.each seat (actor.Cleaner v) at

    now : CleanerAt E c m log h ls d seat v cleaner_step.WriteBatch
    now = subst (CleanerAt E c m log h ls d seat v) ph own.step

    pub can_batch : IsPageSize c.page_size → ((p : ℕ) → p < c.pages → length (page_words_at m.page_words p).frame ≡ frame_words c.page_size) → m.flushed < LSN_LIMIT → CanBatch E c h.kept_page v.batch d
    can_batch size frames small = record {
      sound = (own.sound (ap runs ph)).0;
      some_pages = now.1;
      few = own.few;
      each = λ i x is. let o = now.0 i x (omega arith) is in let low = o.0.low in let of = own.flushed in record {
        there = o.0.held.there;
        whole = ap length o.0.bytes ∙ framed_long c.page_size (page_words_at m.page_words x.page).frame size (frames x.page o.0.held.there);
        small = omega arith;
      };
      newer = λ i x is. let o = now.0 i x (omega arith) is in let f = held_facts x.page o.0.held o.1 in let f0 = f.0 in let nw = o.0.newest in
          (omega arith, (λ e. (before.paged.each_page x.page o.0.held.there).fold ∙ ap (λ (q : ℕ). applied_upto x.page q log (c.opened x.page).bytes) (e ∙ nw) ∙ sym f.2 ∙ sym o.0.bytes));
      apart = own.apart;
    }

    -- it is written: each page of the batch is kept as the batch has it
    pub keeps_written : (e : E.Part) → E.failed e ≡ false → E.Holds (renewed h.kept_page v.batch) [] e
        → (k : PageGhost) × PageHalf E c m log stable k ls e (set actors seat (actor.Cleaner (record v { code = 0; step = cleaner_step.RemoveFromList }))) × Grows m h k
    keeps_written e sound holds =
        let P = before.paged in
        let kept_page : ℕ → KeptPage = renewed h.kept_page v.batch in
        let h' : PageGhost = record h { kept_page = kept_page; unfinished = [] } in
        let lows = own.flushed in let fl = P.flushed in
        let more : (q : ℕ) → (h.kept_page q).lsn ≤ (kept_page q).lsn = λ q. ⊎_elim
        (λ r. let o = now.0 r.0 r.1 (omega arith) r.2 in let f0 = (held_facts r.1.page o.0.held o.1).0 in let nw = o.0.newest in
        let f1 : (h.kept_page q).lsn ≤ r.1.lsn = subst (λ (y : ℕ). (h.kept_page y).lsn ≤ r.1.lsn) r.3 (omega arith) in
        let z : (kept_page q).lsn ≡ r.1.lsn = ap (λ (y : KeptPage). y.lsn) r.4 in omega arith)
        (λ r. let z : (kept_page q).lsn ≡ (h.kept_page q).lsn = ap (λ (y : KeptPage). y.lsn) r.1 in omega arith)
        (kept_cases v.batch q (h.kept_page q)) in
        let kept : IsBatchKept E c m log h' ls e v = λ i x is. ⊎_elim
        (λ r. let same : i ≡ r.0 = elim (ℕ_discrete i r.0) [
          | yes z ↦ z
          | no z ↦ elim (dec_le i r.0) [
            | yes l ↦ absurd (own.apart i r.0 x r.1 is r.2 (omega arith) (sym r.3))
            | no l ↦ absurd (own.apart r.0 i r.1 x r.2 is (omega arith) r.3)
          ]
        ] in
        let one : ◌≡◌ {A = BatchPage} r.1 x = some_same v.batch i r.1 x (subst (λ (j : ℕ). get_elem? v.batch j ≡ some r.1) (sym same) r.2) is in
        (ap (λ (y : KeptPage). y.lsn) r.4 ∙ ap (λ (y : BatchPage). y.lsn) one, ap (λ (y : KeptPage). y.bytes) r.4 ∙ ap (λ (y : BatchPage). y.bytes) one))
        (λ r. absurd (r.0 i x is refl))
        (kept_cases v.batch x.page (h.kept_page x.page)) in
        let at_same : (q : ℕ) (k : GroupInHand) (f : FrameStage) (n : NewestStage) (t : ListingStage) → At E c m log h ls d seat q k f n t → At E c m log h' ls e seat q k f n t = λ q k f n t o. record { there = o.there; latched = o.latched; mine = o.mine; page = o.page } in
        let in_same : (x : BatchPage) → InBatch E c m log h ls d seat v.flushed x Agree → InBatch E c m log h' ls e seat v.flushed x Agree = λ x o. record { held = at_same x.page none_in_hand All Last Agree o.held; newest = o.newest; bytes = o.bytes; low = o.low } in (
          h',
          page_moved E c m m log log stable stable h h' ls ls d e actors seat (actor.Cleaner (record v { code = 0; step = cleaner_step.RemoveFromList }))
              (record {
                closed_links = P.closed_links;
                lists = P.lists;
                each_page = λ q t. let S = P.each_page q t in let mo = more q in ⊎_elim
                    (λ r. let o = now.0 r.0 r.1 (omega arith) r.2 in
                    let f = held_facts r.1.page o.0.held o.1 in
                    let nw = o.0.newest in let lo = o.0.low in
                    let zl : (kept_page q).lsn ≡ r.1.lsn = ap (λ (y : KeptPage). y.lsn) r.4 in
                    let zb : (kept_page q).bytes ≡ r.1.bytes = ap (λ (y : KeptPage). y.bytes) r.4 in
                    let fold : r.1.bytes ≡ applied_upto q r.1.lsn log (c.opened q).bytes = subst (λ (y : ℕ). r.1.bytes ≡ applied_upto y r.1.lsn log (c.opened y).bytes) r.3 (o.0.bytes ∙ f.2 ∙ ap (λ (y : ℕ). applied_upto r.1.page y log (c.opened r.1.page).bytes) (sym nw)) in
                    record {
                      latch = S.latch;
                      free = S.free;
                      oldest = S.oldest;
                      fold = zb ∙ fold ∙ ap (λ (y : ℕ). applied_upto q y log (c.opened q).bytes) (sym zl);
                      ends = inr (subst (EndsAt q log) (sym (zl ∙ nw)) (subst (λ (y : ℕ). EndsAt y log (page_words_at m.page_words r.1.page).newest) r.3 f.1));
                      early = S.early;
                      behind = omega arith;
                      change = λ j y is tc cl. ⊎_elim (λ z. inl z) (λ z. inr (omega arith)) (S.change j y is tc cl);
                      passed = λ j y is tc lt. let z = S.passed j y is tc lt in omega arith;
                    })
                    (λ r. subst (λ (y : KeptPage). OnePage c q log h.closed h.given stable (page_words_at m.page_words q) (listed_lsn ls q) y) (sym r.1) S)
                    (kept_cases v.batch q (h.kept_page q));
                within = P.within;
                flushed = P.flushed;
                stable_top = P.stable_top;
                stored = holds;
                unfinished = none_unfinished c.pages c.opened kept_page log stable;
                alone = P.alone;
              })
              (record {
                alone = own.alone;
                pages = own.pages;
                page_size = own.page_size;
                slots = own.slots;
                page = own.page;
                flushed = own.flushed;
                sound = λ _. (sound, refl);
                apart = own.apart;
                few = own.few;
                cause = λ z. absurd (cc);
                step = (
                  (kept, (λ i x l is. let o = now.0 i x (omega arith) is in (in_same x o.0, o.1)), (λ x is. in_same x (now.0 0 x (omega arith) is).0), now.1),
                  (λ x is. (now.0 0 x (omega arith) is).1),
                );
              })
              (λ j a n z. page_others E c seat_of m m log log h h' ls ls d e seat j n
              (pages_same refl refl refl refl (omega arith))
              (λ other. absurd (other own.alone))
              (λ _. record { given = refl; passed = λ p x _ _ y i w is tc lt. let k = y i w is tc lt in let mo = more p in omega arith })
              a (mate E c seat_of m log stable h ls d actors seat before mates j a z) (before.each j a z)),
          record { given = omega arith; closed = λ x z. z; holder = λ _ _. refl },
        )

    -- what the batch has of its pages may be kept
    left : AreUnfinished c.pages c.opened h.kept_page log stable v.batch
    left = record {
      each = λ i x is.
          let o = now.0 i x (omega arith) is in
          let f = held_facts x.page o.0.held o.1 in
          let f0 = f.0 in
          let nw = o.0.newest in
          let low = o.0.low in
          let of = own.flushed in
          let fl = before.paged.flushed in
          record {
            there = o.0.held.there;
            fold = o.0.bytes ∙ f.2 ∙ ap (λ (q : ℕ). applied_upto x.page q log (c.opened x.page).bytes) (sym nw);
            ends = subst (EndsAt x.page log) (sym nw) f.1;
            no_older = omega arith;
            behind = omega arith;
          };
      apart = own.apart;
    }

    -- it fails: nothing is known but that each page is as it was or as the batch has it
    pub keeps_unwritten : (code : ℕ) (e : E.Part) → E.Cause e code → E.Holds h.kept_page v.batch e
        → (k : PageGhost) × PageHalf E c m log stable k ls e (set actors seat (actor.Cleaner (record v { code = code; step = cleaner_step.StoreFailed }))) × Grows m h k
    keeps_unwritten code e cause holds =
        let P = before.paged in
        let h' : PageGhost = record h { unfinished = v.batch } in
        let held : (i : ℕ) (x : BatchPage) → 0 ≤ i → get_elem? v.batch i ≡ some x → InBatch E c m log h' ls e seat v.flushed x Agree × (0 < (page_words_at m.page_words x.page).oldest) = (λ i x l is.
        let o = now.0 i x l is in (record { held = record { there = o.0.held.there; latched = o.0.held.latched; mine = o.0.held.mine; page = o.0.held.page }; newest = o.0.newest; bytes = o.0.bytes; low = o.0.low }, o.1)) in (
          h',
          page_moved E c m m log log stable stable h h' ls ls d e actors seat (actor.Cleaner (record v { code = code; step = cleaner_step.StoreFailed }))
              (record { closed_links = P.closed_links; lists = P.lists; each_page = P.each_page; within = P.within; flushed = P.flushed; stable_top = P.stable_top; stored = holds; unfinished = left; alone = P.alone })
              (record { alone = own.alone; pages = own.pages; page_size = own.page_size; slots = own.slots; page = own.page; flushed = own.flushed; sound = λ z. absurd (cc); apart = own.apart; few = own.few; cause = λ _. cause; step = held })
              (λ j a n z. page_others E c seat_of m m log log h h' ls ls d e seat j n
              (pages_same refl refl refl refl (omega arith))
              (λ other. absurd (other own.alone))
              (λ _. record { given = refl; passed = λ p x _ _ y. y })
              a (mate E c seat_of m log stable h ls d actors seat before mates j a z) (before.each j a z)),
          record { given = omega arith; closed = λ x z. z; holder = λ _ _. refl },
        )
