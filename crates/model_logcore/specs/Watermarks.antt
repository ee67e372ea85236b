-- The watermarks of the log: what holds of its words, of the log part and of the actors between any two turns. Places of
-- the stream are sns, counted as the groups' bytes.
use Rattle.std.specs.Prelude.{List, cond, length, slice_index, take, ℕ, ◌%◌, ◌*◌, ◌+◌, ◌/◌, ◌<◌, ◌==◌, ◌≡◌, ◌≤◌, ◌⊎◌, false}
use lib.ListN.{get_elem?}
use mathlib.Core.Option.{some}
use Rattle.model_base.specs.declared.limits.TheConstants.{BLOCK_SIZE}
use Rattle.model_core.specs.{Actor, ChecksWithoutTail, byte_at, byte_in, end_of, Entry, first_of, floor, group_bytes, group_end, IsBound, line_at, lsn, PageChange, read_place, SharedWords, Tiles, UserState, WriterState, LogSide, Setup}
use Rattle.model_core.specs.declared.limits.TheConstants.{BUFFER_BLOCKS, LOG_BUFFER, WORD_LANES, WRITTEN_LINKS}
use Rattle.model_log.specs.declared.layout.TheConstants.{BLOCK_DATA, BLOCK_HEADER}
use Rattle.model_logcore.specs.LogFacts.{HasZeroLane, WrittenLink, count_of}
use Rattle.model_logcore.specs.LogFits.{AreBelow, Counted}
use Rattle.model_logcore.specs.TailWord.{TailWordIs}
use Rattle.model_core.specs.declared.steps.UserStep.{UserStep}
use Rattle.model_core.specs.declared.steps.UserStep.TheVariants as user_step
use Rattle.model_core.specs.declared.words.LinkBuffer.TheVariants as link_buffer
use Rattle.model_core.specs.declared.steps.WriterStep.TheVariants as writer_step
use Rattle.model_core.specs.declared.steps.FlusherStep.TheVariants as flusher_step
use Rattle.model_core.specs.declared.steps.ReaderStep.TheVariants as reader_step
use Rattle.model_core.specs.declared.steps.CloserStep.TheVariants as closer_step
use Rattle.model_core.specs.declared.steps.CleanerStep.TheVariants as cleaner_step
use Rattle.model_core.specs.declared.steps.CheckpointerStep.TheVariants as checkpointer_step
use Rattle.model_core.specs.States as actor

-- How far a place of the stream has come: its group is reserved, its byte is copied, its group is linked.
abbrev pub IsCopied : (ℕ → ℕ) → ℕ → Type 0
IsCopied progress x = 0 < progress x

abbrev pub IsGroupLinked : (ℕ → ℕ) → Entry → Type 0
IsGroupLinked progress e = (x : ℕ) → e.start ≤ x → x < end_of e → progress x ≡ 2

-- of the group in hand of a user so many bytes are copied, and it isn't linked; or it is linked
pub record HasCopied (progress : ℕ → ℕ) (u : UserState) : Type 0 where
  pub copied : (x : ℕ) → u.start ≤ x → x < u.start + u.copied → progress x ≡ 1
  pub left : (x : ℕ) → u.start + u.copied ≤ x → x < group_end u → progress x ≡ 0

abbrev pub HasLinkedGroup : (ℕ → ℕ) → UserState → Type 0
HasLinkedGroup progress u = (x : ℕ) → u.start ≤ x → x < group_end u → progress x ≡ 2

-- what a user's step says of its group in hand, if it has one
abbrev pub HandAgrees : (ℕ → ℕ) → UserState → UserStep → Type 0
HandAgrees progress u user_step.LoadCheckpoint = length u.starts ≡ u.k
HandAgrees progress u user_step.LoadSn = length u.starts ≡ u.k
HandAgrees progress u user_step.TakeLatch = length u.starts ≡ u.k
HandAgrees progress u user_step.Reserve = length u.starts ≡ u.k
HandAgrees progress u user_step.LoadWrite = HasCopied progress u
HandAgrees progress u user_step.AddCell = HasCopied progress u
HandAgrees progress u user_step.StoreFirst = HasCopied progress u
HandAgrees progress u user_step.LoadWtail = HasCopied progress u
HandAgrees progress u (user_step.AdvanceWritten s) = HasCopied progress u
HandAgrees progress u user_step.ReloadWtail = HasCopied progress u
HandAgrees progress u user_step.StoreLink = HasCopied progress u
HandAgrees progress u user_step.Done = length u.starts ≡ u.k
HandAgrees progress u user_step.Failed = length u.starts ≡ u.k + 1 → HasCopied progress u ⊎ HasLinkedGroup progress u
HandAgrees progress u _ = HasLinkedGroup progress u

-- What FIRST is of the block in which the group in hand ends, if it starts in another and isn't linked: the end's offset from
-- the store on, and 0 before. A user that has ended by a failure has stored it where it has copied all bytes.
abbrev pub first_in_hand : UserState → UserStep → ℕ
first_in_hand u user_step.LoadWrite = 0
first_in_hand u user_step.AddCell = 0
first_in_hand u user_step.StoreFirst = 0
first_in_hand u user_step.Failed = cond (u.copied == length (group_bytes u)) (group_end u % BLOCK_DATA + BLOCK_HEADER) 0
first_in_hand u _ = group_end u % BLOCK_DATA + BLOCK_HEADER

-- HOW FAR A GROUP HAS COME IS WHAT ITS USER SAYS: each group whose commit is answered is linked, and of the group in hand so
-- much is copied, or it is linked, as its user's step says. A user that has ended by a failure has left it at one of these. A
-- user that has ended doesn't check for a failure.
pub record UsersAgree (log : List Entry) (progress : ℕ → ℕ) (actors : List Actor) : Type 0 where
  pub answered : (seat : ℕ) (u : UserState) → get_elem? actors seat ≡ some (actor.User u) → (i : ℕ) (e : Entry) → get_elem? log i ≡ some e → e.user ≡ u.user → e.k < u.k → IsGroupLinked progress e
  pub in_hand : (seat : ℕ) (u : UserState) → get_elem? actors seat ≡ some (actor.User u) → HandAgrees progress u u.step
  pub done : (seat : ℕ) (u : UserState) → get_elem? actors seat ≡ some (actor.User u) → u.step ≡ user_step.Done → u.checks ≡ false
  pub failed : (seat : ℕ) (u : UserState) → get_elem? actors seat ≡ some (actor.User u) → u.step ≡ user_step.Failed → u.checks ≡ false

-- RESERVED GROUPS TILE THE SEQUENCE NUMBERS, each number once. They are the groups that the actors have, each once; a
-- user's are of its lines, in order, with their bytes and with what they change.
pub record GroupsTile (c : Setup) (sn : ℕ) (actors : List Actor) (log : List Entry) : Type 0 where
  pub tile : Tiles c.base log sn
  pub are_of_actors : Counted actors log
  pub in_order : (i : ℕ) (e : Entry) → get_elem? log i ≡ some e → e.k ≡ count_of e.user (take i log)
  pub of_lines : (i : ℕ) (e : Entry) → get_elem? log i ≡ some e → (e.k < length (c.script e.user)) × (e.bytes ≡ (line_at (c.script e.user) e.k).bytes) × ◌≡◌ {A = List PageChange} e.changes (line_at (c.script e.user) e.k).changes

-- COPIED BYTES STAND IN THEIR LANES: from the block floor of WRITE to that plus the log buffer each lane holds the copied byte
-- of the one place that it stands for, or 0 where that byte isn't copied or its word was cleared. A word is cleared where all
-- its places are read; so each one below the block floor of WRITE was. So low are the place to which links are cleared, the end
-- of each linked group that isn't wholly read, and that of a user's group in hand once a byte of it is copied. A first offset
-- that was stored stands until the writer enters its block, and is the true one. The others are 0: that of a block into which a
-- group crosses that is reserved and hasn't come to its store, and that of each block into which no group crosses.
pub record CopiedBytesStand (base : ℕ) (m : SharedWords) (actors : List Actor) (log : List Entry) (progress first : ℕ → ℕ) (tail read entered : ℕ) : Type 0 where
  pub lane_stands : (x : ℕ) → lsn read / WORD_LANES ≤ lsn x / WORD_LANES → x < m.sn → IsCopied progress x → byte_in m.cells x ≡ byte_at base log x
  pub lane_bare : (x : ℕ) → floor m.write ≤ lsn x → lsn x < floor m.write + LOG_BUFFER → HasZeroLane m.sn progress read x → byte_in m.cells x ≡ 0
  pub cleared_below : (x : ℕ) → base ≤ x → lsn x < floor m.write → lsn x / WORD_LANES < lsn read / WORD_LANES
  pub below : (x : ℕ) → read ≤ x → x < m.sn → IsCopied progress x → lsn x < floor m.write + LOG_BUFFER
  pub tail_below : lsn tail < floor m.write + LOG_BUFFER
  pub end_below : (i : ℕ) (e : Entry) → get_elem? log i ≡ some e → read < end_of e → IsGroupLinked progress e → lsn (end_of e) < floor m.write + LOG_BUFFER
  pub hand_below : (seat : ℕ) (u : UserState) → get_elem? actors seat ≡ some (actor.User u) → length u.starts ≡ u.k + 1 → HasCopied progress u → 0 < u.copied → lsn (group_end u) < floor m.write + LOG_BUFFER
  pub first_stands : (q : ℕ) → entered ≤ q → q < entered + BUFFER_BLOCKS → slice_index m.firsts (q % BUFFER_BLOCKS) ≡ first q
  pub first_true : (q : ℕ) → 0 < first q → first q ≡ first_of base log q
  pub first_below : (q : ℕ) → 0 < first q → q * BLOCK_SIZE < floor m.write + LOG_BUFFER
  pub first_begun : 0 < first (base / BLOCK_DATA)
  pub first_of_hand : (seat : ℕ) (u : UserState) → get_elem? actors seat ≡ some (actor.User u) → length u.starts ≡ u.k + 1 → HasCopied progress u → u.start / BLOCK_DATA < group_end u / BLOCK_DATA → first (group_end u / BLOCK_DATA) ≡ first_in_hand u u.step
  pub first_bare : (q : ℕ) → first_of base log q ≡ 0 → first q ≡ 0

-- A WRITTEN LINK IS A WHOLE GROUP: it is the distance from the start to the end of one group past the place to which links are
-- cleared, all bytes of which are copied, and the first offset of the block that it ends in, if it starts in an earlier one.
-- And each group that is linked, from that place on, has its link standing.
pub record LinksAreGroups (m : SharedWords) (log : List Entry) (progress first : ℕ → ℕ) (tail : ℕ) : Type 0 where
  pub link : (i : ℕ) → i < WRITTEN_LINKS → 0 < slice_index m.wlinks i → WrittenLink log progress m.wtail tail i (slice_index m.wlinks i)
  pub first_stored : (i : ℕ) (e : Entry) → get_elem? log i ≡ some e → progress e.start ≡ 2 → e.start / BLOCK_DATA < end_of e / BLOCK_DATA → 0 < first (end_of e / BLOCK_DATA)
  pub standing : (i : ℕ) (e : Entry) → get_elem? log i ≡ some e → progress e.start ≡ 2 → tail ≤ e.start → (0 < slice_index m.wlinks (lsn e.start % WRITTEN_LINKS)) × (lsn e.start < m.wtail + WRITTEN_LINKS)

-- where the last block ends that the writer has entered: it keeps the first offset of each, from the block of WRITE on
abbrev pub entered_place : WriterState → ℕ
entered_place s = s.from + BLOCK_DATA * length s.firsts

-- each mark of the log that an actor has loaded is at most the word now
abbrev pub HasLoadedBelow : SharedWords → Actor → Type 0
HasLoadedBelow m (actor.User u) = AreBelow u.loaded m.ckpt m.write m.wtail m.flushed
HasLoadedBelow m (actor.Writer s) = (s.write ≤ m.write) × (s.ckpt ≤ m.ckpt)
HasLoadedBelow m (actor.Flusher f) = (f.write ≤ m.write) × (f.last ≤ m.flushed)
HasLoadedBelow m _ = Unit {0}

-- what an actor keeps as the last mark that it has stored is the word: it compares with it and loads nothing
abbrev pub OwnMarkIs : SharedWords → Actor → Type 0
OwnMarkIs m (actor.Writer s) = s.write ≡ m.write
OwnMarkIs m (actor.Flusher f) = f.last ≡ m.flushed
OwnMarkIs m (actor.Checkpointer t) = t.own ≡ m.ckpt
OwnMarkIs m _ = Unit {0}

-- THE ORDER OF THE LOG'S MARKS. All but the read place stand between groups. `tail` is the place of the actor that holds
-- WTAIL, else the tail itself; below it all is linked. `target` is the tail with which the writer goes on: it has entered each
-- block of which it has read a byte, and none that begins there or later.
pub record MarksAreOrdered (base : ℕ) (m : SharedWords) (actors : List Actor) (log : List Entry) (progress : ℕ → ℕ) (write wtail flushed tail target read entered : ℕ) : Type 0 where
  pub write_is : m.write ≡ lsn write
  pub wtail_is : m.wtail ≡ lsn wtail
  pub flushed_is : m.flushed ≡ lsn flushed
  pub write_read : write ≤ read
  pub read_target : read ≤ target
  pub target_wtail : target ≤ wtail
  pub wtail_tail : wtail ≤ tail
  pub word : TailWordIs link_buffer.Written m.wtail m.wheld (lsn tail) actors
  pub tail_sn : tail ≤ m.sn
  pub read_entered : read ≤ BLOCK_DATA * entered
  pub entered_target : BLOCK_DATA * entered < target + BLOCK_DATA
  pub linked_below : (x : ℕ) → base ≤ x → x < tail → progress x ≡ 2
  pub write_boundary : IsBound base log write
  pub wtail_boundary : IsBound base log wtail
  pub flushed_boundary : IsBound base log flushed
  pub tail_boundary : IsBound base log tail
  pub target_boundary : IsBound base log target
  pub writer : (seat : ℕ) (s : WriterState) → get_elem? actors seat ≡ some (actor.Writer s) → (s.tail ≡ lsn target) × (s.from ≡ write / BLOCK_DATA * BLOCK_DATA) × (read_place s ≡ read) × (entered_place s ≡ BLOCK_DATA * entered)
  pub loaded : (seat : ℕ) (a : Actor) → get_elem? actors seat ≡ some a → HasLoadedBelow m a
  pub own : (seat : ℕ) (a : Actor) → get_elem? actors seat ≡ some a → OwnMarkIs m a

-- THE DEVICE HOLDS THE FRAMED STREAM, and beyond the log's end nothing fits: what that says of each image is the log
-- part's own. The writer's kept bytes and first offsets are the stream's.
pub record DeviceHoldsStream (D : LogSide) (c : Setup) (p : D.Part) (actors : List Actor) (log : List Entry) : Type 0 where
  pub holds : D.Holds c.blocks c.base log p
  pub kept : (seat : ℕ) (s : WriterState) → get_elem? actors seat ≡ some (actor.Writer s) → (j : ℕ) → j < length s.kept → slice_index s.kept j ≡ byte_at c.base log (s.from + j)
  pub firsts : (seat : ℕ) (s : WriterState) → get_elem? actors seat ≡ some (actor.Writer s) → (i : ℕ) → i < length s.firsts → slice_index s.firsts i ≡ first_of c.base log (s.from / BLOCK_DATA + i)

-- MARKS AND CHECKPOINTS OF THE LOG PART.
pub record PartMarksAreOrdered (D : LogSide) (m : SharedWords) (p : D.Part) : Type 0 where
  pub write_written : m.write ≤ D.written p
  pub written_wtail : D.written p ≤ m.wtail
  pub given_wtail : D.given p ≤ m.wtail
  pub flushed_stable : m.flushed ≤ D.stable p
  pub stable_written : D.stable p ≤ D.written p
  pub written_given : D.written p ≤ D.given p
  pub ckpt_newest : m.ckpt ≤ D.ckpt p
  pub newest_asked : D.ckpt p ≤ D.asked p
  pub asked_stable : D.asked p ≤ D.stable p

-- the actor has loaded a nonzero code, or stored one
abbrev pub HasMetFailure : Actor → Type 0
HasMetFailure (actor.User u) = u.step ≡ user_step.Failed
HasMetFailure (actor.Writer s) = (s.step ≡ writer_step.GiveFailed) ⊎ (s.step ≡ writer_step.Failed)
HasMetFailure (actor.Flusher f) = (f.step ≡ flusher_step.GiveFailed) ⊎ (f.step ≡ flusher_step.Failed)
HasMetFailure (actor.Closer t) = t.step ≡ closer_step.Failed
HasMetFailure (actor.Cleaner v) = v.step ≡ cleaner_step.Failed
HasMetFailure (actor.Checkpointer t) = (t.step ≡ checkpointer_step.GiveFailed) ⊎ (t.step ≡ checkpointer_step.Failed)
HasMetFailure (actor.Reader r) = (r.step ≡ reader_step.GiveFailed) ⊎ (r.step ≡ reader_step.Failed)

-- A FAILURE SHOWS: an actor has loaded or stored a nonzero code only where FAILED has one
abbrev pub FailuresShow : ℕ → List Actor → Type 0
FailuresShow failed actors = (seat : ℕ) (a : Actor) → get_elem? actors seat ≡ some a → HasMetFailure a → 0 < failed

pub record LogWatermarks (D : LogSide) (c : Setup) (m : SharedWords) (p : D.Part) (actors : List Actor) : Type 0 where
  -- the reserved groups in the order of the log, how far each place has come, and the first offset that was stored for a block
  pub log : List Entry
  pub progress : ℕ → ℕ
  pub first : ℕ → ℕ
  -- the marks as places of the stream; the place to which links are cleared; the tail with which the writer goes on, its read
  -- place, and the first block that it hasn't entered
  pub write : ℕ
  pub wtail : ℕ
  pub flushed : ℕ
  pub tail : ℕ
  pub target : ℕ
  pub read : ℕ
  pub entered : ℕ
  pub groups_tile : GroupsTile c m.sn actors log
  pub users_agree : UsersAgree log progress actors
  pub copied_bytes_stand : CopiedBytesStand c.base m actors log progress first tail read entered
  pub links_are_groups : LinksAreGroups m log progress first tail
  pub marks_are_ordered : MarksAreOrdered c.base m actors log progress write wtail flushed tail target read entered
  pub device_holds_stream : DeviceHoldsStream D c p actors log
  pub part_marks_are_ordered : PartMarksAreOrdered D m p
  pub failures_show : FailuresShow m.failed actors
  -- NO ACTOR THAT IS IDLE OR CHECKS FOR A FAILURE HOLDS A TAIL, and so none that has ended
  pub no_tail_is_kept : (seat : ℕ) (a : Actor) → get_elem? actors seat ≡ some a → ChecksWithoutTail a
