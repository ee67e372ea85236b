-- The log half of the invariant: what holds of each actor, and the whole.
use Rattle.std.specs.Prelude.{Bool, false, length, slice_index, true, ℕ, ◌%◌, ◌*◌, ◌+◌, ◌/◌, ◌<◌, ◌≡◌, ◌≢◌, ◌≤◌, ◌⊎◌, List, [], drop, ◌∷◌}
use lib.ListN.{get_elem?}
use mathlib.Core.Option.{some}
use Rattle.model_core.specs.{Actor, Advance, byte_at, ceiling, checkpointer_holds, CheckpointerState, CleanerState, entry, first_of, floor, flusher_holds, FlusherState, reader_holds, ReaderState, group_bytes, group_end, lane_of, left_in_word, line, line_at, LoadedMarks, lsn, mode, read_place, SharedWords, UserState, word_end, writer_holds, WriterState, ChecksWithoutTail, entries, Entry, HasHolder, holds, IsSized, layout_of, Line, sum_of, LogSide, Setup}
unfoldable use Rattle.model_core.specs.{lane}
use Rattle.model_core.specs.declared.steps.AdvanceStep.{AdvanceStep}
use Rattle.model_core.specs.declared.steps.UserStep.{UserStep}
use Rattle.model_core.specs.declared.steps.CheckpointerStep.{CheckpointerStep}
use Rattle.model_core.specs.declared.steps.WriterStep.{WriterStep}
use Rattle.model_core.specs.declared.steps.FlusherStep.{FlusherStep}
use Rattle.model_core.specs.declared.steps.ReaderStep.{ReaderStep}
use Rattle.model_core.specs.declared.steps.ReaderStep.TheVariants as reader_step
use Rattle.model_logcore.specs.LogFacts.{LogGhost, InHand, count_of, LogFacts, sum_over_actors}
use Rattle.model_core.specs.declared.steps.AdvanceStep.TheVariants as advance_step
use Rattle.model_core.specs.declared.steps.UserStep.TheVariants as user_step
use Rattle.model_core.specs.declared.steps.WriterStep.TheVariants as writer_step
use Rattle.model_core.specs.declared.steps.FlusherStep.TheVariants as flusher_step
use Rattle.model_core.specs.declared.steps.CloserStep.TheVariants as closer_step
use Rattle.model_core.specs.declared.steps.CleanerStep.TheVariants as cleaner_step
use Rattle.model_core.specs.declared.steps.CheckpointerStep.TheVariants as checkpointer_step
use Rattle.model_core.specs.States as actor
use Rattle.model_base.specs.declared.limits.TheConstants.{BLOCK_SIZE, MAX_GROUP, LSN_LIMIT}
use Rattle.model_log.specs.declared.layout.TheConstants.{BLOCK_DATA}
use Rattle.model_core.specs.declared.limits.TheConstants.{LOG_BUFFER, WRITTEN_LINKS}
use Rattle.model_core.specs.declared.words.LinkBuffer.TheVariants as link_buffer

-- each mark that a user has loaded is at most the word now
pub record AreBelow (l : LoadedMarks) (ckpt write wtail flushed : ℕ) : Type 0 where
  pub ckpt_below : l.ckpt ≤ ckpt
  pub write_below : l.write ≤ write
  pub wtail_below : l.wtail ≤ wtail
  pub flushed_below : l.flushed ≤ flushed

-- the actor at a seat holds WTAIL: it has loaded the tail, and links are cleared up to its place
pub record IsHolder (wheld : Bool) (advancer wtail cleared seat loaded at : ℕ) : Type 0 where
  pub held : wheld ≡ true
  pub mine : advancer ≡ seat
  pub tail : loaded ≡ wtail
  pub place : at ≡ lsn cleared

module _ (D : LogSide) (c : Setup) (m : SharedWords) (g : LogGhost) (p : D.Part) where
  abbrev pub Hand : ℕ → UserState → Type 0
  Hand seat u = InHand g.log g.place g.state seat u.user u.k u.start u.copied (line u)

  abbrev pub HasNextLine : UserState → Type 0
  HasNextLine u = (length u.starts ≡ u.k) × (u.k < length u.lines)

  -- its group in hand is linked, each of its places
  abbrev pub HasLinked : UserState → Type 0
  HasLinked u = (at : ℕ) × (get_elem? g.log at ≡ some (entry u.user u.k u.start (line u))) × ((x : ℕ) → u.start ≤ x → x < group_end u → g.state x ≡ 2)

  -- its group is linked and not answered
  abbrev pub IsLinked : UserState → Type 0
  IsLinked u = (length u.starts ≡ u.k + 1) × (u.k < length u.lines) × HasLinked u

  -- its group in hand ends below the block floor of WRITE plus the log buffer
  abbrev pub EndIsNear : UserState → Type 0
  EndIsNear u = lsn (group_end u) < floor m.write + LOG_BUFFER

  -- FIRST of the block in which it ends is stored, if it starts in another
  abbrev pub HasStoredFirst : UserState → Type 0
  HasStoredFirst u = u.start / BLOCK_DATA < group_end u / BLOCK_DATA → 0 < g.first (group_end u / BLOCK_DATA)

  -- that FIRST isn't stored yet
  abbrev pub LacksFirst : UserState → Type 0
  LacksFirst u = u.start / BLOCK_DATA < group_end u / BLOCK_DATA → g.first (group_end u / BLOCK_DATA) ≡ 0

  -- How far the group in hand came of a user that has ended by a failure: so many of its bytes are copied, none but where its
  -- end is near, and with all of them FIRST is stored; or it is linked.
  abbrev pub HasStoppedAt : ℕ → UserState → Type 0
  HasStoppedAt seat u = (Hand seat u × (u.copied ≤ length (group_bytes u)) × (0 < u.copied → EndIsNear u) × (u.copied < length (group_bytes u) → LacksFirst u) × (u.copied ≡ length (group_bytes u) → HasStoredFirst u)) ⊎ HasLinked u

  abbrev pub HoldsWtail : ℕ → Advance → Type 0
  HoldsWtail seat v = IsHolder m.wheld g.advancer m.wtail g.tail seat v.tail v.place

  abbrev pub AdvanceAt : ℕ → Advance → AdvanceStep → Type 0
  AdvanceAt seat v advance_step.LoadTail = Unit {0}
  AdvanceAt seat v advance_step.TakeTail = Unit {0}
  AdvanceAt seat v advance_step.LoadLink = HoldsWtail seat v
  AdvanceAt seat v advance_step.ClearLink = HoldsWtail seat v × (0 < v.link) × (slice_index m.wlinks (v.place % WRITTEN_LINKS) ≡ v.link)
  AdvanceAt seat v advance_step.FreeTail = HoldsWtail seat v

  -- its group in hand is copied, and not linked
  abbrev pub HasAllCopied : ℕ → UserState → Type 0
  HasAllCopied seat u = (length u.starts ≡ u.k + 1) × (u.k < length u.lines) × Hand seat u × (u.copied ≡ length (group_bytes u)) × HasStoredFirst u

  abbrev pub UserAt : ℕ → UserState → UserStep → Type 0
  UserAt seat u user_step.LoadCheckpoint = HasNextLine u
  UserAt seat u user_step.LoadSn = HasNextLine u
  UserAt seat u user_step.Reserve = HasNextLine u
  UserAt seat u user_step.LoadWrite = (length u.starts ≡ u.k + 1) × (u.k < length u.lines) × Hand seat u × (u.copied ≡ 0) × LacksFirst u
  UserAt seat u user_step.AddCell = (length u.starts ≡ u.k + 1) × (u.k < length u.lines) × Hand seat u × (u.copied < length (group_bytes u)) × EndIsNear u × LacksFirst u × (u.checks ≡ false)
  UserAt seat u user_step.StoreFirst = (length u.starts ≡ u.k + 1) × (u.k < length u.lines) × Hand seat u × (u.copied ≡ length (group_bytes u)) × EndIsNear u × (u.start / BLOCK_DATA < group_end u / BLOCK_DATA) × LacksFirst u × (u.checks ≡ false)
  UserAt seat u user_step.LoadWtail = HasAllCopied seat u
  UserAt seat u (user_step.AdvanceWritten s) = HasAllCopied seat u × AdvanceAt seat u.advance s
  UserAt seat u user_step.ReloadWtail = HasAllCopied seat u
  UserAt seat u user_step.StoreLink = (length u.starts ≡ u.k + 1) × (u.k < length u.lines) × Hand seat u × (u.copied ≡ length (group_bytes u)) × HasStoredFirst u × (lsn u.start < m.wtail + WRITTEN_LINKS)
  UserAt seat u user_step.TakeLatch = HasNextLine u
  UserAt seat u user_step.LoadCtail = IsLinked u
  UserAt seat u (user_step.AdvanceClosed s) = IsLinked u
  UserAt seat u user_step.ReloadCtail = IsLinked u
  UserAt seat u user_step.LoadFrame = IsLinked u
  UserAt seat u user_step.StoreFrame = IsLinked u
  UserAt seat u user_step.StoreNewest = IsLinked u
  UserAt seat u user_step.LoadOldest = IsLinked u
  UserAt seat u user_step.AddToList = IsLinked u
  UserAt seat u user_step.StoreOldest = IsLinked u
  UserAt seat u user_step.GiveList = IsLinked u
  UserAt seat u user_step.StoreClosedLink = IsLinked u
  UserAt seat u user_step.ReleaseLatch = IsLinked u
  UserAt seat u user_step.AwaitMark = (length u.starts ≡ u.k + 1) × (u.k < length u.lines) × HasLinked u × (mode u ≢ 0)
  UserAt seat u user_step.Done = (length u.starts ≡ u.k) × (u.k ≡ length u.lines) × (u.checks ≡ false)
  UserAt seat u user_step.Failed = (length u.starts ≤ u.k + 1) × (0 < m.failed) × (u.checks ≡ false) × (length u.starts ≡ u.k + 1 → HasStoppedAt seat u)

  pub record UserFits (seat : ℕ) (u : UserState) : Type 0 where
    pub own_seat : g.seat_of u.user ≡ seat
    pub blocks : u.blocks ≡ c.blocks
    pub lines : u.lines ≡ c.script u.user
    pub sound : (j : ℕ) → j < length u.lines → (0 < length (line_at u.lines j).bytes) × (length (line_at u.lines j).bytes ≤ MAX_GROUP) × ((line_at u.lines j).mode < 3)
    pub are_bytes : (j i : ℕ) → i < length (line_at u.lines j).bytes → slice_index (line_at u.lines j).bytes i < 256
    pub counted : count_of u.user g.log ≡ length u.starts
    pub answers : g.answered u.user ≡ u.k
    pub loaded : AreBelow u.loaded m.ckpt m.write m.wtail m.flushed
    pub step : UserAt seat u u.step

  -- the writer hasn't begun to load cells
  abbrev pub IsIdle : WriterState → Type 0
  IsIdle s = (g.read ≡ g.write) × (D.written p ≡ m.write)

  -- it goes on with a tail above WRITE, and loads cells or has loaded them
  abbrev pub IsBusy : WriterState → Type 0
  IsBusy s = (g.write < g.target) × (D.written p ≡ m.write)

  abbrev pub HasRingRoom : WriterState → Type 0
  HasRingRoom s = ceiling s.tail ≤ s.ckpt + BLOCK_SIZE * s.blocks

  -- it has loaded the word of its read place, which holds the stream's bytes
  abbrev pub HasWord : WriterState → Type 0
  HasWord s = (j : ℕ) → j < left_in_word (read_place s) → lane (lane_of (read_place s) + j) s.word ≡ byte_at c.base g.log (read_place s + j)

  abbrev pub WriterAt : ℕ → WriterState → WriterStep → Type 0
  WriterAt seat s (writer_step.Advance v) = IsIdle s × AdvanceAt seat s.advance v
  WriterAt seat s writer_step.LoadCheckpoint = IsBusy s × (g.read ≡ g.write)
  WriterAt seat s writer_step.LoadFirst = IsBusy s × (g.read < g.target) × HasRingRoom s × (length s.kept ≡ BLOCK_DATA * length s.firsts)
  WriterAt seat s writer_step.ClearFirst = IsBusy s × (g.read < g.target) × HasRingRoom s × (length s.kept ≡ BLOCK_DATA * length s.firsts) × (s.first ≡ first_of c.base g.log g.entered)
  WriterAt seat s writer_step.LoadCell = IsBusy s × (g.read < g.target) × HasRingRoom s × (length s.kept < BLOCK_DATA * length s.firsts)
  WriterAt seat s writer_step.ClearCell = IsBusy s × (g.read < g.target) × HasRingRoom s × (length s.kept < BLOCK_DATA * length s.firsts) × (word_end s ≤ g.target) × HasWord s
  WriterAt seat s writer_step.TakeDevice = IsBusy s × (g.read ≡ g.target) × HasRingRoom s
  WriterAt seat s writer_step.GiveBroken = IsBusy s × (g.read ≡ g.target) × HasRingRoom s
  WriterAt seat s writer_step.WriteTo = IsBusy s × (g.read ≡ g.target) × HasRingRoom s × (D.failed p ≡ false)
  WriterAt seat s writer_step.StoreWrite = (g.write < g.target) × (D.written p ≡ s.tail) × (g.read ≡ g.target)
  WriterAt seat s writer_step.GiveDevice = IsIdle s × (s.tail ≡ s.write)
  WriterAt seat s writer_step.StoreFailed = (0 < s.code) × D.Cause p s.code
  WriterAt seat s writer_step.GiveFailed = 0 < m.failed
  WriterAt seat s writer_step.Failed = 0 < m.failed

  pub record WriterFits (seat : ℕ) (s : WriterState) : Type 0 where
    pub alone : seat ≡ g.writer
    pub blocks : s.blocks ≡ c.blocks
    pub tail : s.tail ≡ lsn g.target
    pub write : s.write ≡ m.write
    pub from : s.from ≡ g.write / BLOCK_DATA * BLOCK_DATA
    pub long : s.from + length s.kept ≡ g.read
    pub kept : (j : ℕ) → j < length s.kept → slice_index s.kept j ≡ byte_at c.base g.log (s.from + j)
    pub wide : s.from + BLOCK_DATA * length s.firsts ≡ BLOCK_DATA * g.entered
    pub firsts : (i : ℕ) → i < length s.firsts → slice_index s.firsts i ≡ first_of c.base g.log (g.write / BLOCK_DATA + i)
    pub ckpt : s.ckpt ≤ m.ckpt
    pub no_device_while_checking : s.checks ≡ true → writer_holds s.step ≡ false
    pub step : WriterAt seat s s.step

  abbrev pub FlusherAt : FlusherState → FlusherStep → Type 0
  FlusherAt f flusher_step.Sync = D.failed p ≡ false
  FlusherAt f flusher_step.StoreFlushed = f.mark ≡ D.stable p
  FlusherAt f flusher_step.StoreFailed = (0 < f.code) × D.Cause p f.code
  FlusherAt f flusher_step.GiveFailed = 0 < m.failed
  FlusherAt f flusher_step.Failed = 0 < m.failed
  FlusherAt f _ = Unit {0}

  -- it sits after the writer
  pub record FlusherFits (seat : ℕ) (f : FlusherState) : Type 0 where
    pub alone : seat ≡ g.writer + 1
    pub last : f.last ≡ m.flushed
    pub write : f.write ≤ m.write
    pub no_device_while_checking : f.checks ≡ true → flusher_holds f.step ≡ false
    pub step : FlusherAt f f.step

  -- what the log half knows of a reader: of the log part, where it holds that, and what it stores in FAILED
  abbrev pub ReaderAt : ReaderState → ReaderStep → Type 0
  ReaderAt r reader_step.ReadBlock = D.failed p ≡ false
  ReaderAt r reader_step.StoreFailed = (0 < r.code) × D.Cause p r.code
  ReaderAt r reader_step.GiveFailed = 0 < m.failed
  ReaderAt r reader_step.StoreLost = 0 < r.lost
  ReaderAt r reader_step.Failed = 0 < m.failed
  ReaderAt r _ = Unit {0}

  pub record ReaderFits (seat : ℕ) (r : ReaderState) : Type 0 where
    pub no_device_while_checking : r.checks ≡ true → reader_holds r.step ≡ false
    pub step : ReaderAt r r.step

  -- of the page actors the log half says when they end, and what the checkpointer knows of the log part
  abbrev pub CleanerTold : CleanerState → Type 0
  CleanerTold v = (v.step ≡ cleaner_step.Failed → 0 < m.failed) × (v.step ≡ cleaner_step.StoreFailed → 0 < v.code)

  abbrev pub CheckpointerAt : CheckpointerState → CheckpointerStep → Type 0
  CheckpointerAt t checkpointer_step.Checkpoint = (D.ckpt p ≡ t.own) × (D.failed p ≡ false)
  CheckpointerAt t checkpointer_step.StoreCheckpoint = D.ckpt p ≡ t.to
  CheckpointerAt t checkpointer_step.StoreFailed = (0 < t.code) × D.Cause p t.code
  CheckpointerAt t checkpointer_step.GiveFailed = 0 < m.failed
  CheckpointerAt t checkpointer_step.Failed = 0 < m.failed
  CheckpointerAt t _ = D.ckpt p ≡ t.own

  pub record CheckpointerFits (seat : ℕ) (t : CheckpointerState) : Type 0 where
    pub alone : seat ≡ c.checkpointer
    pub own : t.own ≡ m.ckpt
    pub no_device_while_checking : t.checks ≡ true → checkpointer_holds t.step ≡ false
    pub step : CheckpointerAt t t.step

  abbrev pub LogFits : ℕ → Actor → Type 0
  LogFits seat (actor.User u) = UserFits seat u
  LogFits seat (actor.Writer s) = WriterFits seat s
  LogFits seat (actor.Flusher f) = FlusherFits seat f
  LogFits seat (actor.Closer t) = t.step ≡ closer_step.Failed → 0 < m.failed
  LogFits seat (actor.Cleaner v) = CleanerTold v
  LogFits seat (actor.Checkpointer t) = CheckpointerFits seat t
  LogFits seat (actor.Reader r) = ReaderFits seat r

-- the bytes that an actor may still reserve
abbrev pub lengths : List Line → ℕ
lengths [] = 0
lengths (l ∷ ls) = length l.bytes + lengths ls

abbrev pub left_to_reserve : Actor → ℕ
left_to_reserve (actor.User u) = lengths (drop (length u.starts) u.lines)
left_to_reserve _ = 0

-- the sum over all actors of what h gives their groups is that over the history
abbrev pub Counted : List Actor → List Entry → Type 0
Counted actors log = (h : Entry → ℕ) → sum_over_actors (λ a. sum_of h (entries a)) actors ≡ sum_of h log

abbrev pub HasTaker : List Actor → ℕ → Type 0
HasTaker actors seat = (a : Actor) × (get_elem? actors seat ≡ some a) × (holds a ≡ true)

pub record LogHalf (D : LogSide) (c : Setup) (m : SharedWords) (g : LogGhost) (p : D.Part) (actors : List Actor) : Type 0 where
  pub sized : IsSized (layout_of c) m
  pub global : LogFacts D c m g p
  pub each : (seat : ℕ) (a : Actor) → get_elem? actors seat ≡ some a → LogFits D c m g p seat a
  pub turns : (seat : ℕ) (a : Actor) → get_elem? actors seat ≡ some a → holds a ≡ true → (m.device ≡ 1) × (seat ≡ g.holder)
  pub taken : m.device ≡ 1 → HasTaker actors g.holder
  pub advanced : m.wheld ≡ true → HasHolder link_buffer.Written actors
  pub without_tail : (seat : ℕ) (a : Actor) → get_elem? actors seat ≡ some a → ChecksWithoutTail a
  pub counted : Counted actors g.log
  -- where all groups will end at most
  pub room : lsn (m.sn + sum_over_actors left_to_reserve actors) < LSN_LIMIT
