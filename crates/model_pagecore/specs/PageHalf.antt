-- The page half of the invariant: what holds of each actor, and the whole.
use Rattle.std.specs.Prelude.{Bool, List, [], false, get_or, length, slice_index, true, ℕ, ◌%◌, ◌+◌, ◌<◌, ◌≡◌, ◌≢◌, ◌≤◌, ◌⊎◌}
use lib.ListN.{get_elem?}
use mathlib.Core.Option.{some}
use Rattle.model_core.specs.{Actor, Advance, BatchPage, cells_of, change_at, changes, CheckpointerState, CleanerState, CloserState, current_page, Entry, entry, first_of_batch, frame_word, framed_page, is_whole, line, line_at, Listed, lsn, page_words_at, PageWords, SharedWords, UserState, DataSide, Setup}
use Rattle.model_core.specs.declared.steps.AdvanceStep.{AdvanceStep}
use Rattle.model_core.specs.declared.steps.CleanerStep.{CleanerStep}
use Rattle.model_core.specs.declared.steps.CloserStep.{CloserStep}
use Rattle.model_core.specs.declared.steps.UserStep.{UserStep}
use Rattle.model_core.specs.declared.steps.CheckpointerStep.{CheckpointerStep}
use Rattle.model_pagecore.specs.DataLaws.{AreApart}
use Rattle.model_pagecore.specs.Latches.{CleanerHasLatch, UserHasLatch}
use Rattle.model_pagecore.specs.PageFacts.{PageGhost, PageFacts, listed_lsn}
use Rattle.model_pagecore.specs.Pages.{InListOnly, All, Before, AgreeBelow, Cells, InWordOnly, FrameStage, GroupInHand, Last, NewestStage, Unlisted, PageIs, Passed, ListingStage, IsListed, Agree, end_lsn, none_in_hand, start_lsn, is_changed_page}
use Rattle.model_core.specs.declared.steps.AdvanceStep.TheVariants as advance_step
use Rattle.model_core.specs.declared.steps.UserStep.TheVariants as user_step
use Rattle.model_core.specs.declared.steps.CloserStep.TheVariants as closer_step
use Rattle.model_core.specs.declared.steps.CleanerStep.TheVariants as cleaner_step
use Rattle.model_core.specs.declared.steps.CheckpointerStep.TheVariants as checkpointer_step
use Rattle.model_core.specs.States as actor
use Rattle.model_base.specs.declared.limits.TheConstants.{BLOCK_SIZE}
use Rattle.model_core.specs.declared.limits.TheConstants.{CLOSED_LINKS, FLUSH_LISTS, WORD_LANES}

-- until the cleaner ends the data part hasn't failed
abbrev pub runs : CleanerStep → Bool
runs cleaner_step.StoreFailed = false
runs cleaner_step.Failed = false
runs _ = true

-- the checkpointer's `own` is the checkpoint word, and bounds the newest checkpoint of every image until the next call
abbrev pub rests : CheckpointerStep → Bool
rests checkpointer_step.Checkpoint = false
rests checkpointer_step.StoreCheckpoint = false
rests checkpointer_step.StoreFailed = false
rests checkpointer_step.GiveFailed = false
rests checkpointer_step.Failed = false
rests _ = true

-- The seat has page p's latch, and the page is so. It speaks of the page's words, of who took its latch last, and of what
-- stands in its list, and of nothing else.
pub record IsHeldAt (c : Setup) (log : List Entry) (seat p : ℕ) (w : PageWords) (holder l : ℕ) (k : GroupInHand) (f : FrameStage) (n : NewestStage) (t : ListingStage) : Type 0 where
  pub there : p < c.pages
  pub latched : w.latch ≡ 1
  pub mine : holder ≡ seat
  pub page : PageIs c p log k w l f n t

module _ (E : DataSide) (c : Setup) (m : SharedWords) (log : List Entry) (h : PageGhost) (ls : ℕ → List Listed) (d : E.Part) where
  -- the same of the page's words, its latch's holder and what stands in its list now
  abbrev pub At : ℕ → ℕ → GroupInHand → FrameStage → NewestStage → ListingStage → Type 0
  At seat p k f n t = IsHeldAt c log seat p (page_words_at m.page_words p) (h.holder p) (listed_lsn ls p) k f n t

  abbrev pub HasList : ℕ → ℕ → Type 0
  HasList seat i = (slice_index m.lists i ≡ 1) × (h.list_holder i ≡ seat)

  abbrev pub named_at : Entry → ℕ → ℕ
  named_at e k = (change_at e.changes k).page

  abbrev pub group_in_hand : Entry → ℕ → GroupInHand
  group_in_hand e at = record { at = at; from = start_lsn e; changes = e.changes }

  -- a group in hand isn't closed; its pages before the one that its user is at are done, those after are as before it.
  -- It is indexed by the group, and not by the user, so that a user's other fields are no matter
  pub record PagesInHand (seat : ℕ) (g : Entry) (page : ℕ) (f : FrameStage) (n : NewestStage) (t : ListingStage) : Type 0 where
    pub at : ℕ
    pub is : get_elem? log at ≡ some g
    pub not_closed : h.closed g.start ≡ false
    pub last : (i : ℕ) (e : Entry) → get_elem? log i ≡ some e → at < i → (k : ℕ) → k < length g.changes → is_changed_page (named_at g k) e.changes ≡ false
    pub before : (k : ℕ) → k < page → k < length g.changes → At seat (named_at g k) (group_in_hand g at) All Last IsListed
    pub here : page < length g.changes → At seat (named_at g page) (group_in_hand g at) f n t
    pub after : (k : ℕ) → page < k → k < length g.changes → At seat (named_at g k) (group_in_hand g at) (Cells 0) Before AgreeBelow

  abbrev pub HasPagesInHand : ℕ → UserState → FrameStage → NewestStage → ListingStage → Type 0
  HasPagesInHand seat u f n t = PagesInHand seat (entry u.user u.k u.start (line u)) u.page f n t

  abbrev pub HasUntouchedPages : ℕ → UserState → Type 0
  HasUntouchedPages seat u = HasPagesInHand seat u (Cells 0) Before AgreeBelow × (u.page ≡ 0) × (u.cell ≡ 0)

  abbrev pub IsNear : UserState → Type 0
  IsNear u = (lsn u.start < m.ctail + CLOSED_LINKS) × (u.page < length (changes u))

  -- the pages from lo to below hi are latched and whole
  abbrev pub AreLatched : ℕ → UserState → ℕ → ℕ → Type 0
  AreLatched seat u lo hi = (k : ℕ) → lo ≤ k → k < hi → At seat (change_at (changes u) k).page none_in_hand All Last Agree

  -- what it knows of the pages, and of those that it holds, before this step
  abbrev pub UserHolds : ℕ → UserState → UserStep → Type 0
  UserHolds seat u user_step.TakeLatch = AreLatched seat u 0 u.page × (u.page < length (changes u))
  UserHolds seat u user_step.Reserve = AreLatched seat u 0 (length (changes u))
  UserHolds seat u user_step.LoadWrite = HasUntouchedPages seat u
  UserHolds seat u user_step.AddCell = HasUntouchedPages seat u
  UserHolds seat u user_step.StoreFirst = HasUntouchedPages seat u
  UserHolds seat u user_step.LoadWtail = HasUntouchedPages seat u
  UserHolds seat u (user_step.AdvanceWritten s) = HasUntouchedPages seat u
  UserHolds seat u user_step.ReloadWtail = HasUntouchedPages seat u
  UserHolds seat u user_step.StoreLink = HasUntouchedPages seat u
  UserHolds seat u user_step.LoadCtail = HasUntouchedPages seat u × (0 < length (changes u))
  UserHolds seat u (user_step.AdvanceClosed s) = HasUntouchedPages seat u × (0 < length (changes u))
  UserHolds seat u user_step.ReloadCtail = HasUntouchedPages seat u × (0 < length (changes u))
  UserHolds seat u user_step.LoadFrame = HasPagesInHand seat u (Cells u.cell) Before AgreeBelow × IsNear u × (u.cell < length (cells_of u))
  UserHolds seat u user_step.StoreFrame = HasPagesInHand seat u (Cells u.cell) Before AgreeBelow × IsNear u × (u.cell < length (cells_of u)) × ((u.word ≡ slice_index (page_words_at m.page_words (current_page u)).frame (frame_word u)) ⊎ (is_whole (cells_of u) u.cell ≡ true))
  UserHolds seat u user_step.StoreNewest = HasPagesInHand seat u (Cells (length (cells_of u))) Before AgreeBelow × IsNear u
  UserHolds seat u user_step.LoadOldest = HasPagesInHand seat u All Last AgreeBelow × IsNear u
  UserHolds seat u user_step.AddToList = HasPagesInHand seat u All Last Unlisted × IsNear u
  UserHolds seat u user_step.StoreOldest = HasPagesInHand seat u All Last InListOnly × IsNear u × HasList seat (current_page u % FLUSH_LISTS)
  UserHolds seat u user_step.GiveList = HasPagesInHand seat u All Last IsListed × IsNear u × HasList seat (current_page u % FLUSH_LISTS)
  UserHolds seat u user_step.StoreClosedLink = HasPagesInHand seat u All Last IsListed × (lsn u.start < m.ctail + CLOSED_LINKS) × (u.page ≡ length (changes u)) × (0 < length (changes u))
  UserHolds seat u user_step.ReleaseLatch = AreLatched seat u u.page (length (changes u)) × (u.page < length (changes u))
  UserHolds seat u user_step.Failed = ⊥
  UserHolds seat u _ = Unit {0}

  -- each latch that the seat took last and that is held is one of these pages'
  abbrev pub HoldsOnly : ℕ → (ℕ → Type 0) → Type 0
  HoldsOnly seat named = (p : ℕ) → p < c.pages → (page_words_at m.page_words p).latch ≡ 1 → h.holder p ≡ seat → named p

  -- A user that has failed still holds what it held before the step at which it met the failure: that step tells of each page
  -- whose latch it still holds.
  abbrev pub UserPagesAt : ℕ → UserState → UserStep → Type 0
  UserPagesAt seat u user_step.Failed = (f : UserStep) × UserHolds seat u f × HoldsOnly seat (UserHasLatch u f)
  UserPagesAt seat u f = UserHolds seat u f

  -- an actor that holds CTAIL: it has loaded the tail, and links are cleared up to its place
  pub record HoldsCtail (seat : ℕ) (v : Advance) : Type 0 where
    pub held : m.cheld ≡ true
    pub mine : h.advancer ≡ seat
    pub tail : v.tail ≡ m.ctail
    pub place : v.place ≡ h.tail

  -- it has found the link of the closed group that starts at its place
  abbrev pub HasFound : Advance → Type 0
  HasFound v = (at : ℕ) × (e : Entry) × (get_elem? log at ≡ some e) × (h.closed e.start ≡ true) × (start_lsn e ≡ v.place) × (end_lsn e ≡ v.place + v.link)

  abbrev pub ClosingAt : ℕ → Advance → AdvanceStep → Type 0
  ClosingAt seat v advance_step.LoadTail = Unit {0}
  ClosingAt seat v advance_step.TakeTail = Unit {0}
  ClosingAt seat v advance_step.LoadLink = HoldsCtail seat v
  ClosingAt seat v advance_step.ClearLink = HoldsCtail seat v × HasFound v
  ClosingAt seat v advance_step.FreeTail = HoldsCtail seat v

  abbrev pub UserClosingAt : ℕ → Advance → UserStep → Type 0
  UserClosingAt seat v (user_step.AdvanceClosed s) = ClosingAt seat v s
  UserClosingAt seat v _ = Unit {0}

  abbrev pub CloserAt : ℕ → Advance → CloserStep → Type 0
  CloserAt seat v (closer_step.Advance s) = ClosingAt seat v s
  CloserAt seat v _ = Unit {0}

  -- the lines name pages that there are, each once, and bytes of them
  pub record UserPageFits (seat : ℕ) (u : UserState) : Type 0 where
    pub there : (j k : ℕ) → k < length (line_at u.lines j).changes → (change_at (line_at u.lines j).changes k).page < c.pages
    pub apart : (j i k : ℕ) → i < k → k < length (line_at u.lines j).changes → (change_at (line_at u.lines j).changes i).page ≢ (change_at (line_at u.lines j).changes k).page
    pub within : (j k i : ℕ) → k < length (line_at u.lines j).changes → (get_or (change_at (line_at u.lines j).changes k).cells i (record { at = 0; value = 0 })).at < c.page_size
    pub ascending : (j k a b : ℕ) → a < b → b < length (change_at (line_at u.lines j).changes k).cells → (get_or (change_at (line_at u.lines j).changes k).cells a (record { at = 0; value = 0 })).at < (get_or (change_at (line_at u.lines j).changes k).cells b (record { at = 0; value = 0 })).at
    pub are_bytes : (j k i : ℕ) → (get_or (change_at (line_at u.lines j).changes k).cells i (record { at = 0; value = 0 })).value < 256
    pub loaded : u.loaded.ctail ≤ m.ctail
    pub closing : UserClosingAt seat u.advance u.step
    pub step : UserPagesAt seat u u.step

  pub record CloserFits (seat : ℕ) (t : CloserState) : Type 0 where
    pub alone : seat ≡ c.closer
    pub loaded : t.advance.tail ≤ m.ctail
    pub step : CloserAt seat t.advance t.step

  -- a page of the batch, held, and as it was read with this flushed mark; `t` is how OLDEST and its list stand
  pub record InBatch (seat flushed : ℕ) (x : BatchPage) (t : ListingStage) : Type 0 where
    pub held : At seat x.page none_in_hand All Last t
    pub newest : x.lsn ≡ (page_words_at m.page_words x.page).newest
    pub bytes : x.bytes ≡ framed_page c.page_size (page_words_at m.page_words x.page).frame
    pub low : x.lsn ≤ flushed

  abbrev pub AreIn : ℕ → ℕ → List BatchPage → ℕ → Type 0
  AreIn seat flushed batch lo = (i : ℕ) (x : BatchPage) → lo ≤ i → get_elem? batch i ≡ some x → InBatch seat flushed x Agree × (0 < (page_words_at m.page_words x.page).oldest)

  abbrev pub AreBatch : ℕ → CleanerState → ℕ → Type 0
  AreBatch seat v lo = AreIn seat v.flushed v.batch lo

  -- it looks at a page with the batch so far
  pub record Looks (seat flushed : ℕ) (batch : List BatchPage) (page left pages : ℕ) : Type 0 where
    pub held : AreIn seat flushed batch 0
    pub few : length batch < c.slots
    pub more : 0 < left
    -- the pages still to come in the round aren't in the batch
    pub passed : (i : ℕ) (x : BatchPage) → get_elem? batch i ≡ some x → (page ≤ x.page → page + left ≤ x.page) × (page + left ≤ x.page + pages)
    pub round : left ≤ pages

  abbrev pub Looking : ℕ → CleanerState → Type 0
  Looking seat v = Looks seat v.flushed v.batch v.page v.left v.pages

  abbrev pub HasPage : ℕ → CleanerState → Type 0
  HasPage seat v = At seat v.page none_in_hand All Last Agree × (0 < (page_words_at m.page_words v.page).oldest)

  -- what the batch says is what a store keeps
  abbrev pub IsBatchKept : CleanerState → Type 0
  IsBatchKept v = (i : ℕ) (x : BatchPage) → get_elem? v.batch i ≡ some x → ((h.kept_page x.page).lsn ≡ x.lsn) × ((h.kept_page x.page).bytes ≡ x.bytes)

  abbrev pub Unlisting : ℕ → CleanerState → ListingStage → Type 0
  Unlisting seat v t = IsBatchKept v × AreBatch seat v 1 × ((x : BatchPage) → get_elem? v.batch 0 ≡ some x → InBatch seat v.flushed x t) × (0 < length v.batch)

  -- what it knows of the pages, and of those that it holds, before this step
  abbrev pub CleanerHolds : ℕ → CleanerState → CleanerStep → Type 0
  CleanerHolds seat v cleaner_step.LoadFlushed = Unit {0}
  CleanerHolds seat v cleaner_step.LoadOldest = Looking seat v
  CleanerHolds seat v cleaner_step.TakeLatch = Looking seat v × (0 < (page_words_at m.page_words v.page).oldest)
  CleanerHolds seat v cleaner_step.LoadNewest = Looking seat v × HasPage seat v
  CleanerHolds seat v cleaner_step.ReleaseSkipped = Looking seat v × HasPage seat v
  CleanerHolds seat v cleaner_step.LoadFrame = Looking seat v × HasPage seat v × (v.newest ≡ (page_words_at m.page_words v.page).newest) × (v.newest ≤ v.flushed) × (v.kept ≡ framed_page (length v.kept) (page_words_at m.page_words v.page).frame) × (length v.kept < c.page_size) × (length v.kept % WORD_LANES ≡ 0)
  CleanerHolds seat v cleaner_step.WriteBatch = AreBatch seat v 0 × (0 < length v.batch)
  CleanerHolds seat v cleaner_step.RemoveFromList = Unlisting seat v Agree × ((x : BatchPage) → get_elem? v.batch 0 ≡ some x → 0 < (page_words_at m.page_words x.page).oldest)
  CleanerHolds seat v cleaner_step.ClearOldest = Unlisting seat v InWordOnly × HasList seat (first_of_batch v % FLUSH_LISTS)
  CleanerHolds seat v cleaner_step.GiveList = Unlisting seat v Unlisted × HasList seat (first_of_batch v % FLUSH_LISTS)
  CleanerHolds seat v cleaner_step.ReleaseLatch = Unlisting seat v Unlisted
  CleanerHolds seat v cleaner_step.StoreFailed = AreBatch seat v 0
  CleanerHolds seat v cleaner_step.Failed = ⊥

  -- A cleaner that has failed still holds what it held before the step at which it met the failure: the pages of its batch. So
  -- that step tells of each page whose latch it still holds.
  abbrev pub CleanerAt : ℕ → CleanerState → CleanerStep → Type 0
  CleanerAt seat v cleaner_step.Failed = (f : CleanerStep) × CleanerHolds seat v f × HoldsOnly seat (CleanerHasLatch v f)
  CleanerAt seat v f = CleanerHolds seat v f

  pub record CleanerFits (seat : ℕ) (v : CleanerState) : Type 0 where
    pub alone : seat ≡ c.cleaner
    pub pages : v.pages ≡ c.pages
    pub page_size : v.page_size ≡ c.page_size
    pub slots : v.slots ≡ c.slots
    pub page : v.page < c.pages
    pub flushed : v.flushed ≤ m.flushed
    pub sound : runs v.step ≡ true → (E.failed d ≡ false) × (h.unfinished ≡ [])
    pub apart : AreApart v.batch
    pub few : length v.batch ≤ c.slots
    pub cause : v.step ≡ cleaner_step.StoreFailed → E.Cause d v.code
    pub step : CleanerAt seat v v.step

  -- the lists below this number lack nothing that starts below x
  abbrev pub ReadBelow : ℕ → ℕ → Type 0
  ReadBelow x n = (p : ℕ) → p < c.pages → p % FLUSH_LISTS < n → Passed p log (h.kept_page p).lsn x

  abbrev pub CanGive : CheckpointerState → Type 0
  CanGive t = ReadBelow t.to FLUSH_LISTS × (t.to ≤ m.ctail) × (t.to ≤ m.flushed) × (t.to % BLOCK_SIZE ≡ 0) × (t.own < t.to)

  abbrev pub CheckpointerPagesAt : ℕ → CheckpointerState → CheckpointerStep → Type 0
  CheckpointerPagesAt seat t checkpointer_step.LoadPlace = (t.to ≤ m.ctail) × (t.list ≡ 0)
  CheckpointerPagesAt seat t checkpointer_step.ReadList = (t.to ≤ m.ctail) × ReadBelow t.to t.list × (t.list < FLUSH_LISTS)
  CheckpointerPagesAt seat t checkpointer_step.GiveList = (t.to ≤ m.ctail) × ReadBelow t.to (t.list + 1) × (t.list < FLUSH_LISTS) × HasList seat t.list
  CheckpointerPagesAt seat t checkpointer_step.LoadFlushed = (t.to ≤ m.ctail) × ReadBelow t.to FLUSH_LISTS
  CheckpointerPagesAt seat t checkpointer_step.TakeDevice = CanGive t
  CheckpointerPagesAt seat t checkpointer_step.GiveBroken = CanGive t
  CheckpointerPagesAt seat t checkpointer_step.Checkpoint = CanGive t × (h.given ≡ t.to)
  CheckpointerPagesAt seat t checkpointer_step.StoreCheckpoint = h.given ≡ t.to
  CheckpointerPagesAt seat t _ = Unit {0}

  pub record CheckpointerPageFits (seat : ℕ) (t : CheckpointerState) : Type 0 where
    pub alone : seat ≡ c.checkpointer
    pub with_pages : c.log_only ≡ false
    pub loaded : (t.ctail ≤ m.ctail) × (t.flushed ≤ m.flushed)
    pub given : rests t.step ≡ true → t.own ≡ h.given
    pub step : CheckpointerPagesAt seat t t.step

  abbrev pub PageFits : ℕ → Actor → Type 0
  PageFits seat (actor.User u) = UserPageFits seat u
  PageFits seat (actor.Closer t) = CloserFits seat t
  PageFits seat (actor.Cleaner v) = CleanerFits seat v
  PageFits seat (actor.Checkpointer t) = CheckpointerPageFits seat t
  PageFits seat _ = Unit {0}

pub record PageHalf (E : DataSide) (c : Setup) (m : SharedWords) (log : List Entry) (stable : ℕ) (h : PageGhost) (ls : ℕ → List Listed) (d : E.Part) (actors : List Actor) : Type 0 where
  pub paged : PageFacts E c m log stable h ls d
  pub each : (seat : ℕ) (a : Actor) → get_elem? actors seat ≡ some a → PageFits E c m log h ls d seat a
