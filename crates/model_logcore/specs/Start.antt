-- What stands at the start of a run, from which the invariant holds.
use Rattle.std.specs.Prelude.{[], length, slice_index, ℕ, ◌+◌, ◌<◌, ◌≡◌, ◌≤◌}
use Rattle.model_base.specs.declared.limits.TheConstants.{MAX_GROUP}
use Rattle.model_core.specs.{Actor, CheckpointerState, CleanerState, CloserState, FlusherState, line_at, lsn, ReaderState, new_checkpointer, new_cleaner, new_closer, new_flusher, new_reader, new_user, new_writer, UserState, WriterState, LogSide, Setup, start_checkpoint}
use Rattle.model_core.specs.States as actor

abbrev pub writer_start : Setup → WriterState
writer_start c = new_writer c.blocks (lsn c.base)

abbrev pub flusher_start : Setup → FlusherState
flusher_start c = new_flusher (lsn c.base)

abbrev pub closer_start : Setup → CloserState
closer_start c = new_closer

abbrev pub cleaner_start : Setup → CleanerState
cleaner_start c = new_cleaner c.pages c.page_size c.slots

abbrev pub checkpointer_start : Setup → CheckpointerState
checkpointer_start c = new_checkpointer (lsn c.base) c.first_reader c.last_reader

abbrev pub reader_start : Setup → ℕ → ReaderState
reader_start c number = new_reader number (lsn c.base)

-- a user that has done nothing; each of its lines, if it has some, has a group of bytes and a mode
pub record StartUser (c : Setup) (u : UserState) : Type 0 where
  pub is : ◌≡◌ {A = UserState} u (new_user u.user c.blocks (c.script u.user))
  pub sound : (j : ℕ) → j < length (c.script u.user) → (0 < length (line_at (c.script u.user) j).bytes) × (length (line_at (c.script u.user) j).bytes ≤ MAX_GROUP) × ((line_at (c.script u.user) j).mode < 3)
  pub are_bytes : (j i : ℕ) → i < length (line_at (c.script u.user) j).bytes → slice_index (line_at (c.script u.user) j).bytes i < 256

-- each user has one seat, and there is one of each other actor; the flusher sits after the writer
abbrev pub StartActor : Setup → (ℕ → ℕ) → ℕ → ℕ → Actor → Type 0
StartActor c seat_of writer seat (actor.User u) = (seat_of u.user ≡ seat) × StartUser c u
StartActor c seat_of writer seat (actor.Writer s) = (seat ≡ writer) × (s ≡ writer_start c)
StartActor c seat_of writer seat (actor.Flusher f) = (seat ≡ writer + 1) × (f ≡ flusher_start c)
StartActor c seat_of writer seat (actor.Closer t) = (seat ≡ c.closer) × ◌≡◌ {A = CloserState} t (closer_start c)
StartActor c seat_of writer seat (actor.Cleaner v) = (seat ≡ c.cleaner) × ◌≡◌ {A = CleanerState} v (cleaner_start c)
StartActor c seat_of writer seat (actor.Checkpointer t) = (seat ≡ c.checkpointer) × ◌≡◌ {A = CheckpointerState} t (checkpointer_start c)
StartActor c seat_of writer seat (actor.Reader r) = (seat ≡ c.reader_at r.number) × (c.first_reader ≤ r.number) × (r.number < c.last_reader) × ◌≡◌ {A = ReaderState} r (reader_start c r.number)

pub record StartPart (D : LogSide) (c : Setup) (p : D.Part) : Type 0 where
  pub holds : D.Holds c.blocks c.base [] p
  pub written : D.written p ≡ lsn c.base
  pub stable : D.stable p ≡ lsn c.base
  pub given : D.given p ≡ lsn c.base
  pub ckpt : D.ckpt p ≡ start_checkpoint c
  pub asked : D.asked p ≡ start_checkpoint c
