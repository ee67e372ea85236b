-- The pages' half of a user that takes lines behind those that it has done, in a run that goes on.
use Rattle.std.proofs.Common.{Bool, List, length, subst, true, ℕ, ⊎_elim, ◌<◌, ◌≡◌, ◌≢◌, set}
use Rattle.std.specs.Prelude.{get_or}
use lib.ListN.{get_elem?}
use Rattle.model_core.proofs.Lists.{at_set}
use Rattle.model_core.specs.{Actor, Advance, BatchPage, change_at, CleanerState, Entry, KeptPage, Line, line_at, Listed, PageWords, SharedWords, UserState, DataSide, Setup}
use Rattle.model_core.specs.declared.steps.AdvanceStep.{AdvanceStep}
use Rattle.model_core.specs.declared.steps.CleanerStep.{CleanerStep}
use Rattle.model_core.specs.declared.steps.CloserStep.{CloserStep}
use Rattle.model_core.specs.declared.steps.UserStep.{UserStep}
use Rattle.model_core.specs.declared.steps.AdvanceStep.TheVariants as advance_step
use Rattle.model_core.specs.declared.steps.CleanerStep.TheVariants as cleaner_step
use Rattle.model_core.specs.declared.steps.CloserStep.TheVariants as closer_step
use Rattle.model_core.specs.declared.steps.UserStep.TheVariants as user_step
use Rattle.model_core.specs.States as actor
use Rattle.model_pagecore.specs.PageFacts.{PageFacts, PageGhost}
use Rattle.model_pagecore.specs.PageHalf.{AreIn, CleanerAt, CleanerHolds, ClosingAt, CloserAt, HoldsCtail, InBatch, IsHeldAt, Looks, PageFits, PageHalf, PagesInHand, UserClosingAt, UserHolds, UserPagesAt}
use Rattle.model_pagecore.specs.Pages.{FrameStage, GroupInHand, ListingStage, NewestStage, OnePage, PageIs}
use mathlib.Core.Option as maybe

-- the user goes on with these lines
abbrev pub taking : UserState → List Line → UserState
taking u ls = record u { lines = ls; checks = true; step = user_step.LoadCheckpoint }

-- the lines name pages that there are, each once, and bytes of them, ascending
pub record NamePages (c : Setup) (ls : List Line) : Type 0 where
  pub there : (j k : ℕ) → k < length (line_at ls j).changes → (change_at (line_at ls j).changes k).page < c.pages
  pub apart : (j i k : ℕ) → i < k → k < length (line_at ls j).changes
      → (change_at (line_at ls j).changes i).page ≢ (change_at (line_at ls j).changes k).page
  pub within : (j k i : ℕ) → k < length (line_at ls j).changes
      → (get_or (change_at (line_at ls j).changes k).cells i (record { at = 0; value = 0 })).at < c.page_size
  pub ascending : (j k a b : ℕ) → a < b → b < length (change_at (line_at ls j).changes k).cells
      → (get_or (change_at (line_at ls j).changes k).cells a (record { at = 0; value = 0 })).at
      < (get_or (change_at (line_at ls j).changes k).cells b (record { at = 0; value = 0 })).at
  pub are_bytes : (j k i : ℕ)
      → (get_or (change_at (line_at ls j).changes k).cells i (record { at = 0; value = 0 })).value < 256

module _ (c : Setup) (script : ℕ → List Line) (log : List Entry) where
  abbrev c' : Setup
  c' = record c { script = script }

  -- a page, held or free, whatever the script
  is_page : (p : ℕ) (k : GroupInHand) (w : PageWords) (l : ℕ) (f : FrameStage) (n : NewestStage) (t : ListingStage)
      → PageIs c p log k w l f n t → PageIs c' p log k w l f n t
  is_page p k w l f n t x = record { frame = x.frame; newest = x.newest; listing = x.listing }

  held : (seat p : ℕ) (w : PageWords) (holder l : ℕ) (k : GroupInHand) (f : FrameStage) (n : NewestStage)
      (t : ListingStage) → IsHeldAt c log seat p w holder l k f n t → IsHeldAt c' log seat p w holder l k f n t
  held seat p w holder l k f n t x = record {
    there = x.there;
    latched = x.latched;
    mine = x.mine;
    page = is_page p k w l f n t x.page;
  }

  one : (p : ℕ) (closed : ℕ → Bool) (given stable : ℕ) (w : PageWords) (l : ℕ) (k : KeptPage)
      → OnePage c p log closed given stable w l k → OnePage c' p log closed given stable w l k
  one p closed given stable w l k x = record {
    latch = x.latch;
    free = λ z. is_page p _ w l _ _ _ (x.free z);
    oldest = x.oldest;
    fold = x.fold;
    ends = x.ends;
    early = x.early;
    behind = x.behind;
    change = x.change;
    passed = x.passed;
  }

module _ (E : DataSide) (c : Setup) (script : ℕ → List Line) (m : SharedWords) (log : List Entry) (h : PageGhost)
    (ls : ℕ → List Listed) (d : E.Part) where
  abbrev later : Setup
  later = record c { script = script }

  in_hand : (seat : ℕ) (g : Entry) (page : ℕ) (f : FrameStage) (n : NewestStage) (t : ListingStage)
      → PagesInHand E c m log h ls d seat g page f n t → PagesInHand E later m log h ls d seat g page f n t
  in_hand seat g page f n t x = record {
    at = x.at;
    is = x.is;
    not_closed = x.not_closed;
    last = x.last;
    before = λ k a b. held c script log _ _ _ _ _ _ _ _ _ (x.before k a b);
    here = λ a. held c script log _ _ _ _ _ _ _ _ _ (x.here a);
    after = λ k a b. held c script log _ _ _ _ _ _ _ _ _ (x.after k a b);
  }

  user_holds : (seat : ℕ) (u : UserState) (s : UserStep)
      → UserHolds E c m log h ls d seat u s → UserHolds E later m log h ls d seat u s
  user_holds seat u user_step.TakeLatch x = (λ k a b. held c script log _ _ _ _ _ _ _ _ _ (x.0 k a b), x.1)
  user_holds seat u user_step.Reserve x = λ k a b. held c script log _ _ _ _ _ _ _ _ _ (x k a b)
  user_holds seat u user_step.LoadWrite x = (in_hand seat _ _ _ _ _ x.0, x.1, x.2)
  user_holds seat u user_step.AddCell x = (in_hand seat _ _ _ _ _ x.0, x.1, x.2)
  user_holds seat u user_step.StoreFirst x = (in_hand seat _ _ _ _ _ x.0, x.1, x.2)
  user_holds seat u user_step.LoadWtail x = (in_hand seat _ _ _ _ _ x.0, x.1, x.2)
  user_holds seat u user_step.ReloadWtail x = (in_hand seat _ _ _ _ _ x.0, x.1, x.2)
  user_holds seat u user_step.StoreLink x = (in_hand seat _ _ _ _ _ x.0, x.1, x.2)
  user_holds seat u (user_step.AdvanceWritten s) x = (in_hand seat _ _ _ _ _ x.0, x.1, x.2)
  user_holds seat u user_step.LoadCtail x = ((in_hand seat _ _ _ _ _ x.0.0, x.0.1, x.0.2), x.1)
  user_holds seat u (user_step.AdvanceClosed s) x = ((in_hand seat _ _ _ _ _ x.0.0, x.0.1, x.0.2), x.1)
  user_holds seat u user_step.ReloadCtail x = ((in_hand seat _ _ _ _ _ x.0.0, x.0.1, x.0.2), x.1)
  user_holds seat u user_step.LoadFrame x = (in_hand seat _ _ _ _ _ x.0, x.1, x.2)
  user_holds seat u user_step.StoreFrame x = (in_hand seat _ _ _ _ _ x.0, x.1, x.2, x.3)
  user_holds seat u user_step.StoreNewest x = (in_hand seat _ _ _ _ _ x.0, x.1)
  user_holds seat u user_step.LoadOldest x = (in_hand seat _ _ _ _ _ x.0, x.1)
  user_holds seat u user_step.AddToList x = (in_hand seat _ _ _ _ _ x.0, x.1)
  user_holds seat u user_step.StoreOldest x = (in_hand seat _ _ _ _ _ x.0, x.1, x.2)
  user_holds seat u user_step.GiveList x = (in_hand seat _ _ _ _ _ x.0, x.1, x.2)
  user_holds seat u user_step.StoreClosedLink x = (in_hand seat _ _ _ _ _ x.0, x.1, x.2, x.3)
  user_holds seat u user_step.ReleaseLatch x = (λ k a b. held c script log _ _ _ _ _ _ _ _ _ (x.0 k a b), x.1)
  user_holds seat u user_step.Failed x = absurd x
  user_holds seat u user_step.LoadCheckpoint x = tt
  user_holds seat u user_step.LoadSn x = tt
  user_holds seat u user_step.AwaitMark x = tt
  user_holds seat u user_step.Done x = tt

  user_pages : (seat : ℕ) (u : UserState) (s : UserStep)
      → UserPagesAt E c m log h ls d seat u s → UserPagesAt E later m log h ls d seat u s
  user_pages seat u user_step.Failed x = (x.0, user_holds seat u x.0 x.1, x.2)
  user_pages seat u user_step.LoadCheckpoint x = user_holds seat u user_step.LoadCheckpoint x
  user_pages seat u user_step.LoadSn x = user_holds seat u user_step.LoadSn x
  user_pages seat u user_step.TakeLatch x = user_holds seat u user_step.TakeLatch x
  user_pages seat u user_step.Reserve x = user_holds seat u user_step.Reserve x
  user_pages seat u user_step.LoadWrite x = user_holds seat u user_step.LoadWrite x
  user_pages seat u user_step.AddCell x = user_holds seat u user_step.AddCell x
  user_pages seat u user_step.StoreFirst x = user_holds seat u user_step.StoreFirst x
  user_pages seat u user_step.LoadWtail x = user_holds seat u user_step.LoadWtail x
  user_pages seat u user_step.ReloadWtail x = user_holds seat u user_step.ReloadWtail x
  user_pages seat u user_step.StoreLink x = user_holds seat u user_step.StoreLink x
  user_pages seat u user_step.LoadCtail x = user_holds seat u user_step.LoadCtail x
  user_pages seat u user_step.ReloadCtail x = user_holds seat u user_step.ReloadCtail x
  user_pages seat u user_step.LoadFrame x = user_holds seat u user_step.LoadFrame x
  user_pages seat u user_step.StoreFrame x = user_holds seat u user_step.StoreFrame x
  user_pages seat u user_step.StoreNewest x = user_holds seat u user_step.StoreNewest x
  user_pages seat u user_step.LoadOldest x = user_holds seat u user_step.LoadOldest x
  user_pages seat u user_step.AddToList x = user_holds seat u user_step.AddToList x
  user_pages seat u user_step.StoreOldest x = user_holds seat u user_step.StoreOldest x
  user_pages seat u user_step.GiveList x = user_holds seat u user_step.GiveList x
  user_pages seat u user_step.StoreClosedLink x = user_holds seat u user_step.StoreClosedLink x
  user_pages seat u user_step.ReleaseLatch x = user_holds seat u user_step.ReleaseLatch x
  user_pages seat u user_step.AwaitMark x = user_holds seat u user_step.AwaitMark x
  user_pages seat u user_step.Done x = user_holds seat u user_step.Done x
  user_pages seat u (user_step.AdvanceWritten s) x = user_holds seat u (user_step.AdvanceWritten s) x
  user_pages seat u (user_step.AdvanceClosed s) x = user_holds seat u (user_step.AdvanceClosed s) x

  ctail : (seat : ℕ) (v : Advance) → HoldsCtail E c m log h ls d seat v → HoldsCtail E later m log h ls d seat v
  ctail seat v x = record { held = x.held; mine = x.mine; tail = x.tail; place = x.place }

  closing : (seat : ℕ) (v : Advance) (s : AdvanceStep)
      → ClosingAt E c m log h ls d seat v s → ClosingAt E later m log h ls d seat v s
  closing seat v advance_step.LoadTail x = tt
  closing seat v advance_step.TakeTail x = tt
  closing seat v advance_step.LoadLink x = ctail seat v x
  closing seat v advance_step.ClearLink x = (ctail seat v x.0, x.1)
  closing seat v advance_step.FreeTail x = ctail seat v x

  user_closing : (seat : ℕ) (v : Advance) (s : UserStep)
      → UserClosingAt E c m log h ls d seat v s → UserClosingAt E later m log h ls d seat v s
  user_closing seat v (user_step.AdvanceClosed s) x = closing seat v s x
  user_closing seat v user_step.LoadCheckpoint x = tt
  user_closing seat v user_step.LoadSn x = tt
  user_closing seat v user_step.TakeLatch x = tt
  user_closing seat v user_step.Reserve x = tt
  user_closing seat v user_step.LoadWrite x = tt
  user_closing seat v user_step.AddCell x = tt
  user_closing seat v user_step.StoreFirst x = tt
  user_closing seat v user_step.LoadWtail x = tt
  user_closing seat v user_step.ReloadWtail x = tt
  user_closing seat v user_step.StoreLink x = tt
  user_closing seat v user_step.LoadCtail x = tt
  user_closing seat v user_step.ReloadCtail x = tt
  user_closing seat v user_step.LoadFrame x = tt
  user_closing seat v user_step.StoreFrame x = tt
  user_closing seat v user_step.StoreNewest x = tt
  user_closing seat v user_step.LoadOldest x = tt
  user_closing seat v user_step.AddToList x = tt
  user_closing seat v user_step.StoreOldest x = tt
  user_closing seat v user_step.GiveList x = tt
  user_closing seat v user_step.StoreClosedLink x = tt
  user_closing seat v user_step.ReleaseLatch x = tt
  user_closing seat v user_step.AwaitMark x = tt
  user_closing seat v user_step.Done x = tt
  user_closing seat v (user_step.AdvanceWritten s) x = tt
  user_closing seat v user_step.Failed x = tt

  closer_at : (seat : ℕ) (v : Advance) (s : CloserStep)
      → CloserAt E c m log h ls d seat v s → CloserAt E later m log h ls d seat v s
  closer_at seat v (closer_step.Advance s) x = closing seat v s x
  closer_at seat v closer_step.Failed x = tt

  in_batch : (seat flushed : ℕ) (b : BatchPage) (t : ListingStage)
      → InBatch E c m log h ls d seat flushed b t → InBatch E later m log h ls d seat flushed b t
  in_batch seat flushed b t x = record {
    held = held c script log _ _ _ _ _ _ _ _ _ x.held;
    newest = x.newest;
    bytes = x.bytes;
    low = x.low;
  }

  are_in : (seat flushed : ℕ) (batch : List BatchPage) (lo : ℕ)
      → AreIn E c m log h ls d seat flushed batch lo → AreIn E later m log h ls d seat flushed batch lo
  are_in seat flushed batch lo x = λ i b a is. let y = x i b a is in (in_batch seat flushed b _ y.0, y.1)

  looks : (seat flushed : ℕ) (batch : List BatchPage) (page left pages : ℕ)
      → Looks E c m log h ls d seat flushed batch page left pages
      → Looks E later m log h ls d seat flushed batch page left pages
  looks seat flushed batch page left pages x = record {
    held = are_in seat flushed batch 0 x.held;
    few = x.few;
    more = x.more;
    passed = x.passed;
    round = x.round;
  }

  cleaner_holds : (seat : ℕ) (v : CleanerState) (s : CleanerStep)
      → CleanerHolds E c m log h ls d seat v s → CleanerHolds E later m log h ls d seat v s
  cleaner_holds seat v cleaner_step.LoadFlushed x = tt
  cleaner_holds seat v cleaner_step.LoadOldest x = looks seat _ _ _ _ _ x
  cleaner_holds seat v cleaner_step.TakeLatch x = (looks seat _ _ _ _ _ x.0, x.1)
  cleaner_holds seat v cleaner_step.LoadNewest x =
      (looks seat _ _ _ _ _ x.0, (held c script log _ _ _ _ _ _ _ _ _ x.1.0, x.1.1))
  cleaner_holds seat v cleaner_step.ReleaseSkipped x =
      (looks seat _ _ _ _ _ x.0, (held c script log _ _ _ _ _ _ _ _ _ x.1.0, x.1.1))
  cleaner_holds seat v cleaner_step.LoadFrame x =
      (looks seat _ _ _ _ _ x.0, (held c script log _ _ _ _ _ _ _ _ _ x.1.0, x.1.1), x.2, x.3, x.4, x.5, x.6)
  cleaner_holds seat v cleaner_step.WriteBatch x = (are_in seat _ _ _ x.0, x.1)
  cleaner_holds seat v cleaner_step.RemoveFromList x =
      ((x.0.0, are_in seat _ _ _ x.0.1, (λ b is. in_batch seat _ b _ (x.0.2 b is)), x.0.3), x.1)
  cleaner_holds seat v cleaner_step.ClearOldest x =
      ((x.0.0, are_in seat _ _ _ x.0.1, (λ b is. in_batch seat _ b _ (x.0.2 b is)), x.0.3), x.1)
  cleaner_holds seat v cleaner_step.GiveList x =
      ((x.0.0, are_in seat _ _ _ x.0.1, (λ b is. in_batch seat _ b _ (x.0.2 b is)), x.0.3), x.1)
  cleaner_holds seat v cleaner_step.ReleaseLatch x =
      (x.0, are_in seat _ _ _ x.1, (λ b is. in_batch seat _ b _ (x.2 b is)), x.3)
  cleaner_holds seat v cleaner_step.StoreFailed x = are_in seat _ _ _ x
  cleaner_holds seat v cleaner_step.Failed x = absurd x

  cleaner_at : (seat : ℕ) (v : CleanerState) (s : CleanerStep)
      → CleanerAt E c m log h ls d seat v s → CleanerAt E later m log h ls d seat v s
  cleaner_at seat v cleaner_step.Failed x = (x.0, cleaner_holds seat v x.0 x.1, x.2)
  cleaner_at seat v cleaner_step.LoadFlushed x = cleaner_holds seat v cleaner_step.LoadFlushed x
  cleaner_at seat v cleaner_step.LoadOldest x = cleaner_holds seat v cleaner_step.LoadOldest x
  cleaner_at seat v cleaner_step.TakeLatch x = cleaner_holds seat v cleaner_step.TakeLatch x
  cleaner_at seat v cleaner_step.LoadNewest x = cleaner_holds seat v cleaner_step.LoadNewest x
  cleaner_at seat v cleaner_step.ReleaseSkipped x = cleaner_holds seat v cleaner_step.ReleaseSkipped x
  cleaner_at seat v cleaner_step.LoadFrame x = cleaner_holds seat v cleaner_step.LoadFrame x
  cleaner_at seat v cleaner_step.WriteBatch x = cleaner_holds seat v cleaner_step.WriteBatch x
  cleaner_at seat v cleaner_step.RemoveFromList x = cleaner_holds seat v cleaner_step.RemoveFromList x
  cleaner_at seat v cleaner_step.ClearOldest x = cleaner_holds seat v cleaner_step.ClearOldest x
  cleaner_at seat v cleaner_step.GiveList x = cleaner_holds seat v cleaner_step.GiveList x
  cleaner_at seat v cleaner_step.ReleaseLatch x = cleaner_holds seat v cleaner_step.ReleaseLatch x
  cleaner_at seat v cleaner_step.StoreFailed x = cleaner_holds seat v cleaner_step.StoreFailed x

  fits : (seat : ℕ) (a : Actor) → PageFits E c m log h ls d seat a → PageFits E later m log h ls d seat a
  fits seat (actor.User u) x = record {
    there = x.there;
    apart = x.apart;
    within = x.within;
    ascending = x.ascending;
    are_bytes = x.are_bytes;
    loaded = x.loaded;
    closing = user_closing seat u.advance u.step x.closing;
    step = user_pages seat u u.step x.step;
  }
  fits seat (actor.Writer s) x = tt
  fits seat (actor.Flusher f) x = tt
  fits seat (actor.Closer t) x = record {
    alone = x.alone;
    loaded = x.loaded;
    step = closer_at seat t.advance t.step x.step;
  }
  fits seat (actor.Cleaner v) x = record {
    alone = x.alone;
    pages = x.pages;
    page_size = x.page_size;
    slots = x.slots;
    page = x.page;
    flushed = x.flushed;
    sound = x.sound;
    apart = x.apart;
    few = x.few;
    cause = x.cause;
    step = cleaner_at seat v v.step x.step;
  }
  fits seat (actor.Checkpointer t) x = record {
    alone = x.alone;
    with_pages = x.with_pages;
    loaded = x.loaded;
    given = x.given;
    step = x.step;
  }
  fits seat (actor.Reader r) x = tt

  facts : (stable : ℕ) → PageFacts E c m log stable h ls d → PageFacts E later m log stable h ls d
  facts stable x = record {
    closed_links = x.closed_links;
    lists = x.lists;
    each_page = λ p l. one c script log p _ _ _ _ _ _ (x.each_page p l);
    within = x.within;
    flushed = x.flushed;
    stable_top = x.stable_top;
    stored = x.stored;
    unfinished = x.unfinished;
    alone = x.alone;
  }

  pub half_takes_lines : (stable : ℕ) (actors : List Actor) (seat : ℕ) (u : UserState) (more : List Line)
      → PageHalf E c m log stable h ls d actors → get_elem? actors seat ≡ maybe.some (actor.User u) → NamePages c more
      → PageHalf E later m log stable h ls d (set actors seat (actor.User (taking u more)))
  half_takes_lines stable actors seat u more k at names = record {
    paged = facts stable k.paged;
    each = λ j a e. ⊎_elim
        (λ t. subst (λ (z : Actor). PageFits E later m log h ls d j z) t.1 (own j))
        (λ t. fits j a (k.each j a t.1))
        (at_set actors seat j (actor.User (taking u more)) a e);
  }
    where
      own : (j : ℕ) → PageFits E later m log h ls d j (actor.User (taking u more))
      own j = record {
        there = names.there;
        apart = names.apart;
        within = names.within;
        ascending = names.ascending;
        are_bytes = names.are_bytes;
        loaded = (k.each seat (actor.User u) at).loaded;
        closing = tt;
        step = tt;
      }
