-- Each latch that is held has its holder.
-- Which groups are closed, as their users' states say.
-- Both halves of the invariant, over one list of actors.
-- The watermarks of a running store: what holds of its words, of both parts, of the flush lists and of the actors between
-- any two turns, by name. Those of the log stand in `LogWatermarks`. Places of pages and lists are lsns.
use Rattle.std.specs.Prelude.{List, ℕ, ◌<◌, ◌≡◌, Bool, length, true, ◌≤◌, ◌⊎◌, slice_index, ◌%◌, ◌+◌}
use lib.ListN.{get_elem?}
use mathlib.Core.Option.{some}
use Rattle.model_core.specs.{Actor, page_words_at, SharedWords, changes, Entry, UserState, archives, Core, flat, HasHolder, HasLost, IsScripted, layout_of, Listed, ReaderState, CheckpointerState, CleanerState, CloserState, Each, IsArchiveCode, IsDataCode, IsLogCode, lsn, Relaxed, DataSide, LogSide, Setup, start_checkpoint}
use Rattle.model_pagecore.specs.{HasLatch, PageGhost, Agree, All, applied_upto, AreUnfinished, CheckpointerPagesAt, CleanerHasLatch, CleanerHolds, ClosedLink, end_lsn, EndsAt, HoldsOnly, is_changed_page, Last, listed_lsn, none_in_hand, PageIs, Passed, start_lsn, StartsAt, UserHasLatch, UserHolds}
use Rattle.model_core.specs.declared.steps.UserStep.{UserStep}
use Rattle.model_core.specs.declared.steps.UserStep.TheVariants as user_step
use Rattle.model_core.specs.States as actor
use Rattle.model_logcore.specs.{LogGhost, LogWatermarks, TailWordIs, LogHalf}
use Rattle.model_pagecore.specs.PageHalf.{PageHalf}
use Rattle.model_running.specs.ReadHalf.{ArchiverHas, HaveRunBlocks, ReadHalf, StaysInRun}
use Rattle.model_core.specs.declared.words.Layout.{Layout}
use Rattle.model_core.specs.declared.words.LinkBuffer.TheVariants as link_buffer
use Rattle.model_core.specs.declared.limits.TheConstants.{CLOSED_LINKS}
use Rattle.model_core.specs.declared.steps.CleanerStep.{CleanerStep}
use Rattle.model_report.specs.declared.entry.Marks.{Marks}
use Rattle.model_core.specs.declared.steps.CleanerStep.TheVariants as cleaner_step

-- The actor that took it last: its step says that it holds it, or it has failed. `holder` gives that actor's seat.
abbrev pub LatchesAreHeld : ℕ → SharedWords → (ℕ → ℕ) → List Actor → Type 0
LatchesAreHeld pages m holder actors = (p : ℕ) → p < pages → (page_words_at m.page_words p).latch ≡ 1 → (a : Actor) × (get_elem? actors (holder p) ≡ some a) × HasLatch a p

-- the group in hand is closed from the store of its link on, if it changes a page
abbrev pub HandIsClosed : (ℕ → Bool) → UserState → UserStep → Type 0
HandIsClosed closed u user_step.ReleaseLatch = closed u.start ≡ true
HandIsClosed closed u user_step.AwaitMark = 0 < length (changes u) → closed u.start ≡ true
HandIsClosed closed u _ = Unit {0}

-- and so is each group whose commit is answered
pub record UserClosed (log : List Entry) (closed : ℕ → Bool) (u : UserState) : Type 0 where
  pub answered : (i : ℕ) (e : Entry) → get_elem? log i ≡ some e → e.user ≡ u.user → e.k < u.k → 0 < length e.changes → closed e.start ≡ true
  pub in_hand : HandIsClosed closed u u.step

abbrev pub UsersClosed : List Entry → (ℕ → Bool) → List Actor → Type 0
UsersClosed log closed actors = (seat : ℕ) (u : UserState) → get_elem? actors seat ≡ some (actor.User u) → UserClosed log closed u

pub record BothHalves (D : LogSide) (E : DataSide) (c : Setup) (m : SharedWords) (g : LogGhost) (h : PageGhost) (ls : ℕ → List Listed) (p : D.Part) (d : E.Part) (actors : List Actor) : Type 0 where
  pub script : IsScripted c
  -- a failure has a cause
  pub cause : 0 < m.failed → D.Cause p m.failed ⊎ E.Cause d m.failed ⊎ HasLost actors m.failed
  pub logged : LogHalf D c m g p actors
  -- no page lacks a change that starts below a checkpoint that was asked for, good or failed
  pub asked : D.asked p ≤ h.given
  -- with the log alone no checkpoint is taken
  pub stays : c.log_only ≡ true → m.ckpt ≡ start_checkpoint c
  pub latches : LatchesAreHeld c.pages m h.holder actors
  -- the users' states say which groups are closed
  pub closed : UsersClosed g.log h.closed actors
  -- who holds CTAIL
  pub advanced : m.cheld ≡ true → HasHolder link_buffer.Closed actors
  -- what the readers of the log have, as long as the log device tells what it means
  pub reading : D.Tells p → ReadHalf D c m g.log p actors
  pub blocks : D.Tells p → HaveRunBlocks D c g.log actors
  -- whatever it tells the archiver has what it needs to append,
  pub archiver : (seat : ℕ) (r : ReaderState) → get_elem? actors seat ≡ some (actor.Reader r) → archives r ≡ true → ArchiverHas c m g.log r
  -- and each names readers' words that there are, and reads blocks of the run
  pub in_run : (seat : ℕ) (a : Actor) → get_elem? actors seat ≡ some a → StaysInRun c a
  pub paged : PageHalf E c m g.log (D.stable p) h ls d actors

-- the same over the list of words
pub record RunningStore (D : LogSide) (E : DataSide) (c : Setup) (layout : Layout) (ws : List ℕ) (ls : ℕ → List Listed) (p : D.Part) (d : E.Part) (actors : List Actor) : Type 0 where
  pub shared : SharedWords
  pub log_ghost : LogGhost
  pub page_ghost : PageGhost
  pub layout_is : layout ≡ layout_of c
  pub flat_is : ws ≡ flat shared
  pub both : BothHalves D E c shared log_ghost page_ghost ls p d actors

-- the same of a store's whole state
abbrev pub IsRunning : (D : LogSide) (E : DataSide) → Setup → Core D E → Type 0
IsRunning D E c s = RunningStore D E c s.layout s.words s.lists s.log_part s.data_part s.actors

-- What a user holds is told by its step, or, where it has failed, by a step at which it met the failure: that step names each
-- page whose latch the user took last and that is held, and says how far its frame, NEWEST and OLDEST are.
pub record UserTells (E : DataSide) (c : Setup) (m : SharedWords) (log : List Entry) (h : PageGhost) (ls : ℕ → List Listed) (d : E.Part) (seat : ℕ) (u : UserState) (step : UserStep) : Type 0 where
  pub met : UserStep
  pub own : (step ≡ user_step.Failed → ⊥) → met ≡ step
  pub holds : UserHolds E c m log h ls d seat u met
  pub all : HoldsOnly E c m log h ls d seat (UserHasLatch u met)

-- The same of the cleaner.
pub record CleanerTells (E : DataSide) (c : Setup) (m : SharedWords) (log : List Entry) (h : PageGhost) (ls : ℕ → List Listed) (d : E.Part) (seat : ℕ) (v : CleanerState) (step : CleanerStep) : Type 0 where
  pub met : CleanerStep
  pub own : (step ≡ cleaner_step.Failed → ⊥) → met ≡ step
  pub holds : CleanerHolds E c m log h ls d seat v met
  pub all : HoldsOnly E c m log h ls d seat (CleanerHasLatch v met)

-- FRAMES ARE THE APPLIED PAGES. A free page's frame is the page as it was opened with all its groups applied; NEWEST is the
-- end of the last of them, and OLDEST what stands in its list. A page whose latch is held has a holder, the user or the cleaner
-- that took it last, and what its are is told by that one's step: for a user, all groups before the one in hand, and so many
-- of its cells; for the cleaner, all.
pub record FramesAreApplied (E : DataSide) (c : Setup) (m : SharedWords) (log : List Entry) (h : PageGhost) (ls : ℕ → List Listed) (d : E.Part) (actors : List Actor) : Type 0 where
  pub latch : (p : ℕ) → p < c.pages → (page_words_at m.page_words p).latch ≤ 1
  pub free : (p : ℕ) → p < c.pages → (page_words_at m.page_words p).latch ≡ 0 → PageIs c p log none_in_hand (page_words_at m.page_words p) (listed_lsn ls p) All Last Agree
  pub held : LatchesAreHeld c.pages m h.holder actors
  pub user_held : (seat : ℕ) (u : UserState) → get_elem? actors seat ≡ some (actor.User u) → UserTells E c m log h ls d seat u u.step
  pub cleaner_held : (seat : ℕ) (v : CleanerState) → get_elem? actors seat ≡ some (actor.Cleaner v) → CleanerTells E c m log h ls d seat v v.step

-- A CLOSED CHANGE IS LISTED OR KEPT: a group that is closed finds each page that it touches in the page's list since its
-- start or before, or kept up to its end. A closed link is a closed group past the place to which links are cleared, each such
-- group has its link standing, and below that place all is closed; and so is what the users' states say.
pub record ClosedChangesAreListedOrKept (c : Setup) (m : SharedWords) (log : List Entry) (h : PageGhost) (ls : ℕ → List Listed) (actors : List Actor) : Type 0 where
  pub change : (p : ℕ) → p < c.pages → (i : ℕ) (e : Entry) → get_elem? log i ≡ some e → is_changed_page p e.changes ≡ true → h.closed e.start ≡ true → ((0 < listed_lsn ls p) × (listed_lsn ls p ≤ start_lsn e)) ⊎ (end_lsn e ≤ (h.kept_page p).lsn)
  pub oldest : (p : ℕ) → p < c.pages → 0 < (page_words_at m.page_words p).oldest → StartsAt p log (page_words_at m.page_words p).oldest
  pub link : (i : ℕ) → i < CLOSED_LINKS → 0 < slice_index m.clinks i → ClosedLink log h.closed h.tail i (slice_index m.clinks i)
  pub below_tail : (i : ℕ) (e : Entry) → get_elem? log i ≡ some e → start_lsn e < h.tail → h.closed e.start ≡ true
  pub standing : (i : ℕ) (e : Entry) → get_elem? log i ≡ some e → h.closed e.start ≡ true → h.tail ≤ start_lsn e → (0 < slice_index m.clinks (start_lsn e % CLOSED_LINKS)) × (start_lsn e < m.ctail + CLOSED_LINKS)
  pub ctail_tail : m.ctail ≤ h.tail
  pub tail_sn : h.tail ≤ lsn m.sn
  pub word : TailWordIs link_buffer.Closed m.ctail m.cheld h.tail actors
  pub users : UsersClosed log h.closed actors
  pub loaded : (seat : ℕ) (u : UserState) → get_elem? actors seat ≡ some (actor.User u) → u.loaded.ctail ≤ m.ctail
  pub closer_loaded : (seat : ℕ) (t : CloserState) → get_elem? actors seat ≡ some (actor.Closer t) → t.advance.tail ≤ m.ctail

-- THE RELAXED ORDER OF THE FLUSH LISTS: an earlier number is below each later one plus 16,384, and each is below CTAIL plus
-- 16,384.
pub record ListsAreRelaxed (ls : ℕ → List Listed) (ctail : ℕ) : Type 0 where
  pub relaxed : (i : ℕ) → Relaxed (ls i)
  pub near : (i : ℕ) → Each (λ x. x.oldest < ctail + CLOSED_LINKS) (ls i)

-- KEPT PAGES ARE PREFIXES, AND NO CHECKPOINT PASSES A CHANGE. Each page as it was last written is the page as it was opened
-- with exactly the groups up to its lsn, which is stable; and it lacks no group that starts below a checkpoint that was asked
-- for, good or failed. What a batch has of its pages whose writing failed are prefixes too, no older than what was written
-- last. What the checkpointer's candidate so far may not pass is told by its step.
pub record KeptPagesArePrefixes (E : DataSide) (c : Setup) (m : SharedWords) (log : List Entry) (asked stable : ℕ) (h : PageGhost) (ls : ℕ → List Listed) (d : E.Part) (actors : List Actor) : Type 0 where
  pub stored : E.Holds h.kept_page h.unfinished d
  pub unfinished : AreUnfinished c.pages c.opened h.kept_page log stable h.unfinished
  pub prefix : (p : ℕ) → p < c.pages → (h.kept_page p).bytes ≡ applied_upto p (h.kept_page p).lsn log (c.opened p).bytes
  pub ends : (p : ℕ) → p < c.pages → ((h.kept_page p).lsn ≡ (c.opened p).lsn) ⊎ EndsAt p log (h.kept_page p).lsn
  pub stable_kept : (p : ℕ) → p < c.pages → (h.kept_page p).lsn ≤ stable
  pub passed : (p : ℕ) → p < c.pages → Passed p log (h.kept_page p).lsn asked
  pub candidate : (seat : ℕ) (t : CheckpointerState) → get_elem? actors seat ≡ some (actor.Checkpointer t) → CheckpointerPagesAt E c m log h ls d seat t t.step
  pub loaded : (seat : ℕ) (t : CheckpointerState) → get_elem? actors seat ≡ some (actor.Checkpointer t) → (t.ctail ≤ m.ctail) × (t.flushed ≤ m.flushed)
  pub cleaner_loaded : (seat : ℕ) (v : CleanerState) → get_elem? actors seat ≡ some (actor.Cleaner v) → v.flushed ≤ m.flushed

-- A FAILURE HAS A CAUSE: a code in FAILED is that of a call that failed, of the log part or of the data part, which has failed
-- then, or of an append of the archiver.
pub record FailureHasCause (D : LogSide) (E : DataSide) (failed : ℕ) (p : D.Part) (d : E.Part) (actors : List Actor) : Type 0 where
  pub cause : 0 < failed → D.Cause p failed ⊎ E.Cause d failed ⊎ HasLost actors failed
  pub of_log : D.Cause p failed → IsLogCode failed × (D.failed p ≡ true)
  pub of_data : E.Cause d failed → IsDataCode failed × (E.failed d ≡ true)
  pub of_archive : HasLost actors failed → IsArchiveCode failed

-- all of them, over the words by name
pub record Watermarks (D : LogSide) (E : DataSide) (c : Setup) (m : SharedWords) (ls : ℕ → List Listed) (p : D.Part) (d : E.Part) (actors : List Actor) : Type 0 where
  pub of_log : LogWatermarks D c m p actors
  -- of a group whether it is closed, who holds a page or a list, the place to which closed links are cleared, and each page as
  -- it was last written
  pub pages : PageGhost
  pub frames_are_applied : FramesAreApplied E c m of_log.log pages ls d actors
  pub closed_changes_are_listed_or_kept : ClosedChangesAreListedOrKept c m of_log.log pages ls actors
  pub lists_are_relaxed : ListsAreRelaxed ls m.ctail
  pub kept_pages_are_prefixes : KeptPagesArePrefixes E c m of_log.log (D.asked p) (D.stable p) pages ls d actors
  -- with the log alone CKPT stays as opening left it
  pub checkpoint_stays : c.log_only ≡ true → m.ckpt ≡ start_checkpoint c
  pub failure_has_cause : FailureHasCause D E m.failed p d actors

-- and of a store's whole state
abbrev pub HasWatermarks : (D : LogSide) (E : DataSide) → Setup → Core D E → Type 0
HasWatermarks D E c s = (m : SharedWords) × (s.words ≡ flat m) × Watermarks D E c m s.lists s.log_part s.data_part s.actors

-- each mark that an actor has loaded last, and its own that it has stored last, is at most the one that is left
abbrev pub HasMarksWithin : Marks → Actor → Type 0
HasMarksWithin m (actor.User u) = (u.loaded.wtail ≤ m.wtail) × (u.loaded.write ≤ m.write) × (u.loaded.flushed ≤ m.flushed) × (u.loaded.ckpt ≤ m.ckpt)
HasMarksWithin m (actor.Writer s) = (s.tail ≤ m.wtail) × (s.write ≤ m.write) × (s.ckpt ≤ m.ckpt)
HasMarksWithin m (actor.Flusher f) = (f.write ≤ m.write) × (f.last ≤ m.flushed)
HasMarksWithin m (actor.Cleaner v) = v.flushed ≤ m.flushed
HasMarksWithin m (actor.Checkpointer t) = (t.flushed ≤ m.flushed) × (t.own ≤ m.ckpt)
HasMarksWithin m _ = Unit {0}
