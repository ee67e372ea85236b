-- The page half of the invariant: what holds of the words of the pages, of the flush lists and of the data part.
-- What each turn leaves of what only the proof knows of the pages.
use Rattle.std.specs.Prelude.{Bool, List, false, slice_index, true, ℕ, ◌%◌, ◌+◌, ◌<◌, ◌≡◌, ◌≤◌}
use lib.ListN.{get_elem?}
use mathlib.Core.Option.{some}
use Rattle.model_core.specs.{DataSide, BatchPage, Each, Entry, KeptPage, Listed, lsn, oldest_of, page_words_at, Relaxed, SharedWords, Setup}
use Rattle.model_pagecore.specs.DataLaws.{AreApart}
use Rattle.model_pagecore.specs.Pages.{EndsAt, OnePage, applied_upto, end_lsn, start_lsn}
use Rattle.model_core.specs.declared.limits.TheConstants.{CLOSED_LINKS, FLUSH_LISTS}

-- What only the proof knows of the pages
pub record PageGhost : Type 0 where
  -- of a group, by its start's sn: its link in the recent-closed buffer was stored
  pub closed : ℕ → Bool
  -- who took a page's latch last, and a list
  pub holder : ℕ → ℕ
  pub list_holder : ℕ → ℕ
  -- an upper bound of the newest checkpoints
  pub given : ℕ
  -- the place to which closed links are cleared: that of the actor that holds CTAIL, else the tail; and who has held it last
  pub tail : ℕ
  pub advancer : ℕ
  -- each page as it was last written
  pub kept_page : ℕ → KeptPage
  -- the batch whose writing failed
  pub unfinished : List BatchPage

-- a link that stands in slot i with the distance n
pub record ClosedLink (log : List Entry) (closed : ℕ → Bool) (tail i n : ℕ) : Type 0 where
  pub at : ℕ
  pub group : Entry
  pub is : get_elem? log at ≡ some group
  pub slot : i ≡ start_lsn group % CLOSED_LINKS
  pub size : start_lsn group + n ≡ end_lsn group
  pub since : tail ≤ start_lsn group
  pub done : closed group.start ≡ true

pub record ClosedLinks (log : List Entry) (closed : ℕ → Bool) (ctail : ℕ) (cheld : Bool) (tail top : ℕ) (links : List ℕ) : Type 0 where
  pub order : ctail ≤ tail
  pub free : cheld ≡ false → tail ≡ ctail
  pub bound : tail ≤ top
  pub known : (x : ℕ) → closed x ≡ true → lsn x < top
  pub below : (i : ℕ) (e : Entry) → get_elem? log i ≡ some e → start_lsn e < tail → closed e.start ≡ true
  pub window : (i : ℕ) (e : Entry) → get_elem? log i ≡ some e → closed e.start ≡ true → start_lsn e < ctail + CLOSED_LINKS
  pub links_are : (i : ℕ) → i < CLOSED_LINKS → 0 < slice_index links i → ClosedLink log closed tail i (slice_index links i)
  pub standing : (i : ℕ) (e : Entry) → get_elem? log i ≡ some e → closed e.start ≡ true → tail ≤ start_lsn e → 0 < slice_index links (start_lsn e % CLOSED_LINKS)

pub record ListFacts (ls : ℕ → List Listed) (ctail : ℕ) : Type 0 where
  pub relaxed : (i : ℕ) → Relaxed (ls i)
  pub near : (i : ℕ) → Each (λ x. x.oldest < ctail + CLOSED_LINKS) (ls i)
  pub real : (i : ℕ) → Each (λ x. 0 < x.oldest) (ls i)

abbrev pub listed_lsn : (ℕ → List Listed) → ℕ → ℕ
listed_lsn ls p = oldest_of p (ls (p % FLUSH_LISTS))

-- A page of a batch whose writing failed: it may be kept as it was last written, or so. So too it is the opened page with
-- exactly the groups up to its lsn, which are stable, and no older than it was.
pub record UnfinishedPage (pages : ℕ) (opened kept_page : ℕ → KeptPage) (log : List Entry) (stable : ℕ) (x : BatchPage) : Type 0 where
  pub there : x.page < pages
  pub fold : x.bytes ≡ applied_upto x.page x.lsn log (opened x.page).bytes
  pub ends : EndsAt x.page log x.lsn
  pub no_older : (kept_page x.page).lsn ≤ x.lsn
  pub behind : x.lsn ≤ stable

pub record AreUnfinished (pages : ℕ) (opened kept_page : ℕ → KeptPage) (log : List Entry) (stable : ℕ) (batch : List BatchPage) : Type 0 where
  pub each : (i : ℕ) (x : BatchPage) → get_elem? batch i ≡ some x → UnfinishedPage pages opened kept_page log stable x
  pub apart : AreApart batch

-- `stable` is the log part's stable mark
pub record PageFacts (E : DataSide) (c : Setup) (m : SharedWords) (log : List Entry) (stable : ℕ) (h : PageGhost) (ls : ℕ → List Listed) (d : E.Part) : Type 0 where
  pub closed_links : ClosedLinks log h.closed m.ctail m.cheld h.tail (lsn m.sn) m.clinks
  pub lists : ListFacts ls m.ctail
  pub each_page : (p : ℕ) → p < c.pages → OnePage c p log h.closed h.given stable (page_words_at m.page_words p) (listed_lsn ls p) (h.kept_page p)
  pub within : h.given ≤ stable
  pub flushed : m.flushed ≤ stable
  pub stable_top : stable ≤ lsn m.sn
  pub stored : E.Holds h.kept_page h.unfinished d
  pub unfinished : AreUnfinished c.pages c.opened h.kept_page log stable h.unfinished
  -- with the log alone there is no checkpoint but that of the start
  pub alone : c.log_only ≡ true → h.given ≤ lsn c.base

-- the bound of the checkpoints doesn't fall, a group that is closed stays so, and so does who took a latch that was held
pub record Grows (m : SharedWords) (h k : PageGhost) : Type 0 where
  pub given : h.given ≤ k.given
  pub closed : (x : ℕ) → h.closed x ≡ true → k.closed x ≡ true
  pub holder : (p : ℕ) → (page_words_at m.page_words p).latch ≡ 1 → k.holder p ≡ h.holder p
