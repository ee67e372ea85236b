-- How NEWEST and the frame of a page stand to the history, between any two turns, whoever holds the page.
use Rattle.std.proofs.Common.{List, [], arith, length, refl, subst, suc, sym, take, zero, ℕ, ⊎_elim, inl, inr, ◌<◌, ◌∷◌, ◌≡◌, ◌≢◌, ◌≤◌, ◌⊎◌, true, false}
use lib.ListN.{get_elem?}
use mathlib.Core.Option.{some, some-ne-none}
use native.Mathlib.Decide.{dec_le, ℕ_discrete}
use Rattle.model_core.specs.{Actor, BatchPage, change_at, changes, CleanerState, Entry, entry, framed_page, line, Listed, lsn, page_words_at, PageWords, SharedWords, UserState, DataSide, LogSide, Setup}
use Rattle.model_core.specs.States as actor
use Rattle.model_core.specs.declared.steps.CleanerStep.{CleanerStep}
use Rattle.model_core.specs.declared.steps.CleanerStep.TheVariants as cleaner_step
use Rattle.model_core.specs.declared.steps.UserStep.{UserStep}
use Rattle.model_core.specs.declared.steps.UserStep.TheVariants as user_step
use Rattle.model_logcore.specs.{LogGhost}
use Rattle.model_pagecore.proofs.PageHistory.{last_after, last_some}
use Rattle.model_pagecore.proofs.PageStep.{cells_mine}
use Rattle.model_pagecore.specs.{applied_all, CleanerHasLatch, CleanerHolds, end_lsn, HasLatch, IsAmong, is_changed_page, IsInBatch, Laid, none_in_hand, PageFits, PageGhost, PageIs, UserHasLatch, UserHolds, UserPageFits, UserPagesAt, CleanerAt}
use Rattle.model_pagecore.specs.PageHalf.{AreIn, AreLatched, At, group_in_hand, InBatch, PagesInHand, Unlisting}
use Rattle.model_pagecore.specs.Pages.{All, AgreeBelow, Agree, Before, Cells, FrameStage, GroupInHand, IsListed, Last, last_end, ListingStage, NewestStage, Unlisted, InWordOnly}
use Rattle.model_running.proofs.PageTurn.{laid_of}
use Rattle.model_running.specs.Watermarks.{BothHalves}

-- NEWEST is at most the end of the last group on the page; where it is that, the frame has all groups.
pub record Stands (c : Setup) (q : ℕ) (log : List Entry) (w : PageWords) : Type 0 where
  pub low : w.newest ≤ last_end q log 0
  pub whole : w.newest ≡ last_end q log 0 → framed_page c.page_size w.frame ≡ applied_all q log (c.opened q).bytes

pub whole_stands : (c : Setup) (q : ℕ) (log : List Entry) (k : GroupInHand) (w : PageWords) (l : ℕ) (t : ListingStage)
    → PageIs c q log k w l All Last t → Stands c q log w
whole_stands c q log k w l t o = record { low = (let e = o.newest in omega arith); whole = λ _. o.frame }

-- what stands among the first of a list stands in it there
at_take : (log : List Entry) (n i : ℕ) (e : Entry) → get_elem? (take n log) i ≡ some e
    → (i < n) × (get_elem? log i ≡ some e)
at_take log zero i e is = absurd (some-ne-none e (sym is))
at_take [] (suc n) i e is = absurd (some-ne-none e (sym is))
at_take (x ∷ xs) (suc n) zero e is = (omega arith, is)
at_take (x ∷ xs) (suc n) (suc i) e is = let r = at_take xs n i e is in let low = r.0 in (omega arith, r.1)

-- the last group on a page before another group ends below that one's end
last_before : (from top q : ℕ) (log : List Entry) (at : ℕ) (g : Entry) → Laid from top log
    → get_elem? log at ≡ some g → last_end q (take at log) 0 < end_lsn g
last_before from top q log at g W is = ⊎_elim
    (λ none. let wide = W.wide at g is in let zero_end = none.1 in omega arith)
    (λ l. let there = at_take log at l.0 l.1 l.2 in let apart = W.apart l.0 at l.1 g there.1 is there.0 in
    let wide = W.wide at g is in let last = l.4 in omega arith)
    (last_some q (take at log) 0)

-- so a page whose last group isn't in NEWEST yet has an older one there
before_stands : (c : Setup) (from top q : ℕ) (log : List Entry) (at : ℕ) (g : Entry) (w : PageWords)
    → Laid from top log → get_elem? log at ≡ some g → is_changed_page q g.changes ≡ true
    → ((i : ℕ) (e : Entry) → get_elem? log i ≡ some e → at < i → is_changed_page q e.changes ≡ false)
    → w.newest ≡ last_end q (take at log) 0 → Stands c q log w
before_stands c from top q log at g w W is on later newest =
    let last = last_after q log at g 0 is on later in
    let below = last_before from top q log at g W is in
    record { low = omega arith; whole = λ same. absurd (omega arith) }

-- a frame and NEWEST that have the group in hand, or NEWEST that hasn't
abbrev IsFine : FrameStage → NewestStage → Type 0
IsFine f n = ((f ≡ All) × (n ≡ Last)) ⊎ (n ≡ Before)

module _ (D : LogSide) (E : DataSide) (c : Setup) (m : SharedWords) (g : LogGhost) (h : PageGhost)
    (ls : ℕ → List Listed) (p : D.Part) (d : E.Part) (actors : List Actor)
    (both : BothHalves D E c m g h ls p d actors) where
  abbrev words_of : ℕ → PageWords
  words_of q = page_words_at m.page_words q

  abbrev StandsAt : ℕ → Type 0
  StandsAt q = Stands c q g.log (words_of q)

  W : Laid (lsn c.base) (lsn m.sn) g.log
  W = laid_of both

  at_whole : (seat q : ℕ) (k : GroupInHand) (t : ListingStage) → At E c m g.log h ls d seat q k All Last t → StandsAt q
  at_whole seat q k t a = whole_stands c q g.log k (words_of q) _ t a.page

  -- the pages of a group in hand
  module _ (seat : ℕ) (x : Entry) (page : ℕ) (f : FrameStage) (n : NewestStage) (t : ListingStage)
      (o : PagesInHand E c m g.log h ls d seat x page f n t)
      (apart : (i k : ℕ) → i < k → k < length x.changes → (change_at x.changes i).page ≢ (change_at x.changes k).page)
      (fine : IsFine f n) where
    abbrev at_k : ℕ → ℕ
    at_k k = (change_at x.changes k).page

    abbrev Its : ℕ → FrameStage → NewestStage → ListingStage → Type 0
    Its k s n v = At E c m g.log h ls d seat (at_k k) (group_in_hand E c m g.log h ls d x o.at) s n v

    not_yet : (k : ℕ) → k < length x.changes → (s : FrameStage) (v : ListingStage)
        → At E c m g.log h ls d seat (at_k k) (group_in_hand E c m g.log h ls d x o.at) s Before v → StandsAt (at_k k)
    not_yet k low s v a = before_stands c (lsn c.base) (lsn m.sn) (at_k k) g.log o.at x (words_of (at_k k)) W o.is
        (cells_mine x.changes k low (λ i less. apart i k less low)).1 (λ i e is late. o.last i e is late k low)
        a.page.newest

    here : (k : ℕ) → k < length x.changes → k ≡ page
        → At E c m g.log h ls d seat (at_k k) (group_in_hand E c m g.log h ls d x o.at) f n t → StandsAt (at_k k)
    here k low same a = ⊎_elim
        (λ done. at_whole seat (at_k k) (group_in_hand E c m g.log h ls d x o.at) t
        (subst (λ (z : FrameStage). Its k z Last t)
        done.0
        (subst (λ (z : NewestStage). Its k f z t)
        done.1 a)))
        (λ yet. not_yet k low f t
        (subst (λ (z : NewestStage). Its k f z t)
        yet a))
        fine

    pub hand_stands : (k : ℕ) → k < length x.changes → StandsAt (at_k k)
    hand_stands k low = elim (ℕ_discrete k page) [
      | yes same ↦ here k low same (subst (λ (z : ℕ). z < length x.changes → At E c m g.log h ls d seat (at_k z)
          (group_in_hand E c m g.log h ls d x o.at) f n t) (sym same) o.here low)
      | no other ↦ elim (dec_le k page) [
        | yes less ↦ at_whole seat (at_k k) (group_in_hand E c m g.log h ls d x o.at) IsListed
            (o.before k (omega arith) low)
        | no more ↦ not_yet k low (Cells 0) AgreeBelow (o.after k (omega arith) low)
      ]
    ]

  module _ (q seat : ℕ) where
    -- a user that holds the page's latch
    module _ (u : UserState) (F : UserPageFits E c m g.log h ls d seat u) where
      abbrev Hand : FrameStage → NewestStage → ListingStage → Type 0
      Hand f n t = PagesInHand E c m g.log h ls d seat (entry u.user u.k u.start (line u)) u.page f n t

      abbrev IsOwn : Type 0
      IsOwn = IsAmong (changes u) 0 (length (changes u)) q

      among : (f : FrameStage) (n : NewestStage) (t : ListingStage) → IsFine f n → Hand f n t → IsOwn → StandsAt q
      among f n t fine o one = subst StandsAt one.3
          (hand_stands seat (entry u.user u.k u.start (line u)) u.page f n t o (F.apart u.k) fine one.0 one.2)

      -- NEWEST isn't stored yet; and it is
      older : (f : FrameStage) → Hand f Before AgreeBelow → IsOwn → StandsAt q
      older f o one = among f Before AgreeBelow (inr refl) o one

      stored : (t : ListingStage) → Hand All Last t → IsOwn → StandsAt q
      stored t o one = among All Last t (inl (refl, refl)) o one

      latched : (lo hi : ℕ) → AreLatched E c m g.log h ls d seat u lo hi → IsAmong (changes u) lo hi q → StandsAt q
      latched lo hi o one = subst StandsAt one.3
          (at_whole seat (change_at (changes u) one.0).page none_in_hand Agree (o one.0 one.1 one.2))

      user_stands : (f : UserStep) → UserHolds E c m g.log h ls d seat u f → UserHasLatch u f q → StandsAt q
      user_stands user_step.LoadCheckpoint o one = absurd one
      user_stands user_step.LoadSn o one = absurd one
      user_stands user_step.TakeLatch o one = latched 0 u.page o.0 one
      user_stands user_step.Reserve o one = latched 0 (length (changes u)) o one
      user_stands user_step.LoadWrite o one = older (Cells 0) o.0 one
      user_stands user_step.AddCell o one = older (Cells 0) o.0 one
      user_stands user_step.StoreFirst o one = older (Cells 0) o.0 one
      user_stands user_step.LoadWtail o one = older (Cells 0) o.0 one
      user_stands (user_step.AdvanceWritten s) o one = older (Cells 0) o.0 one
      user_stands user_step.ReloadWtail o one = older (Cells 0) o.0 one
      user_stands user_step.StoreLink o one = older (Cells 0) o.0 one
      user_stands user_step.LoadCtail o one = older (Cells 0) o.0.0 one
      user_stands (user_step.AdvanceClosed s) o one = older (Cells 0) o.0.0 one
      user_stands user_step.ReloadCtail o one = older (Cells 0) o.0.0 one
      user_stands user_step.LoadFrame o one = older _ o.0 one
      user_stands user_step.StoreFrame o one = older _ o.0 one
      user_stands user_step.StoreNewest o one = older _ o.0 one
      user_stands user_step.LoadOldest o one = stored AgreeBelow o.0 one
      user_stands user_step.AddToList o one = stored _ o.0 one
      user_stands user_step.StoreOldest o one = stored _ o.0 one
      user_stands user_step.GiveList o one = stored _ o.0 one
      user_stands user_step.StoreClosedLink o one = stored _ o.0 one
      user_stands user_step.ReleaseLatch o one = latched u.page (length (changes u)) o.0 one
      user_stands user_step.AwaitMark o one = absurd one
      user_stands user_step.Done o one = absurd one
      user_stands user_step.Failed o one = absurd one

      -- one that has failed holds what it held
      by_user : (f : UserStep) → UserPagesAt E c m g.log h ls d seat u f → (f ≡ user_step.Failed) ⊎ UserHasLatch u f q
          → q < c.pages → (words_of q).latch ≡ 1 → h.holder q ≡ seat → StandsAt q
      by_user user_step.Failed o held there latched mine = user_stands o.0 o.1 (o.2 q there latched mine)
      by_user f o held there latched mine = ⊎_elim (λ z. absurd (cc)) (λ one. user_stands f o one) held

    -- the cleaner
    module _ (v : CleanerState) where
      batch_stands : (flushed : ℕ) (x : BatchPage) (t : ListingStage) → InBatch E c m g.log h ls d seat flushed x t
          → x.page ≡ q → StandsAt q
      batch_stands flushed x t o same = subst StandsAt same (at_whole seat x.page none_in_hand t o.held)

      in_batch : AreIn E c m g.log h ls d seat v.flushed v.batch 0 → IsInBatch v.batch q → StandsAt q
      in_batch o one = batch_stands v.flushed one.1 Agree (o one.0 one.1 (omega arith) one.2).0 one.3

      in_unlisted : (t : ListingStage) → Unlisting E c m g.log h ls d seat v t → IsInBatch v.batch q → StandsAt q
      in_unlisted t o one = elim (ℕ_discrete one.0 0) [
        | yes first ↦ batch_stands v.flushed one.1 t
            (o.2 one.1 (subst (λ (i : ℕ). get_elem? v.batch i ≡ some one.1) first one.2)) one.3
        | no later ↦ batch_stands v.flushed one.1 Agree (o.1 one.0 one.1 (omega arith) one.2).0 one.3
      ]

      here_or : AreIn E c m g.log h ls d seat v.flushed v.batch 0
          → At E c m g.log h ls d seat v.page none_in_hand All Last Agree → (v.page ≡ q) ⊎ IsInBatch v.batch q
          → StandsAt q
      here_or o a one = ⊎_elim (λ same. subst StandsAt same (at_whole seat v.page none_in_hand Agree a))
          (λ other. in_batch o other) one

      cleaner_stands : (f : CleanerStep) → CleanerHolds E c m g.log h ls d seat v f → CleanerHasLatch v f q → StandsAt q
      cleaner_stands cleaner_step.LoadFlushed o one = absurd one
      cleaner_stands cleaner_step.LoadOldest o one = in_batch o.held one
      cleaner_stands cleaner_step.TakeLatch o one = in_batch o.0.held one
      cleaner_stands cleaner_step.LoadNewest o one = here_or o.0.held o.1.0 one
      cleaner_stands cleaner_step.ReleaseSkipped o one = here_or o.0.held o.1.0 one
      cleaner_stands cleaner_step.LoadFrame o one = here_or o.0.held o.1.0 one
      cleaner_stands cleaner_step.WriteBatch o one = in_batch o.0 one
      cleaner_stands cleaner_step.RemoveFromList o one = in_unlisted Agree o.0 one
      cleaner_stands cleaner_step.ClearOldest o one = in_unlisted InWordOnly o.0 one
      cleaner_stands cleaner_step.GiveList o one = in_unlisted Unlisted o.0 one
      cleaner_stands cleaner_step.ReleaseLatch o one = in_unlisted Unlisted o one
      cleaner_stands cleaner_step.StoreFailed o one = in_batch o one
      cleaner_stands cleaner_step.Failed o one = absurd one

      by_cleaner : (f : CleanerStep) → CleanerAt E c m g.log h ls d seat v f
          → (f ≡ cleaner_step.Failed) ⊎ CleanerHasLatch v f q → q < c.pages → (words_of q).latch ≡ 1
          → h.holder q ≡ seat → StandsAt q
      by_cleaner cleaner_step.Failed o held there latched mine = cleaner_stands o.0 o.1 (o.2 q there latched mine)
      by_cleaner f o held there latched mine = ⊎_elim (λ z. absurd (cc)) (λ one. cleaner_stands f o one) held

  by_holder : (q : ℕ) → q < c.pages → (words_of q).latch ≡ 1 → (a : Actor) → HasLatch a q
      → PageFits E c m g.log h ls d (h.holder q) a → StandsAt q
  by_holder q there latched (actor.User u) held fits =
      by_user q (h.holder q) u fits u.step fits.step held there latched refl
  by_holder q there latched (actor.Cleaner v) held fits =
      by_cleaner q (h.holder q) v v.step fits.step held there latched refl
  by_holder q there latched _ held fits = absurd held

  -- EACH PAGE STANDS SO
  pub stands : (q : ℕ) → q < c.pages → StandsAt q
  stands q there = elim (ℕ_discrete (words_of q).latch 0) [
    | yes free ↦ whole_stands c q g.log none_in_hand (words_of q) _ Agree
        ((both.paged.paged.each_page q there).free free)
    | no held ↦ (let most = (both.paged.paged.each_page q there).latch in
        let one : (words_of q).latch ≡ 1 = omega arith in
        let r = both.latches q there one in by_holder q there one r.0 r.2 (both.paged.each (h.holder q) r.0 r.1))
  ]

  -- and where its latch is free NEWEST is the end of the last group on it
  pub free_stands : (q : ℕ) → q < c.pages → (words_of q).latch ≡ 0 → (words_of q).newest ≡ last_end q g.log 0
  free_stands q there free = ((both.paged.paged.each_page q there).free free).newest
