-- The log half of the invariant: what holds of the words of the log and of the log part.
use Rattle.std.specs.Prelude.{Bool, List, [], cond, false, length, slice_index, take, ℕ, ◌%◌, ◌*◌, ◌+◌, ◌/◌, ◌<◌, ◌==◌, ◌^◌, ◌∷◌, ◌≡◌, ◌≤◌, ◌⊎◌}
use lib.ListN.{get_elem?}
use mathlib.Core.Option.{some}
use Rattle.model_core.specs.{byte_at, byte_in, end_of, Entry, entry, first_of, floor, IsBound, Line, line_at, lsn, PageChange, SharedWords, sum_of, Tiles, LogSide, Setup}
use Rattle.model_base.specs.declared.limits.TheConstants.{BLOCK_SIZE}
use Rattle.model_log.specs.declared.layout.TheConstants.{BLOCK_DATA}
use Rattle.model_core.specs.declared.limits.TheConstants.{LOG_BUFFER, BUFFER_BLOCKS, WORD_LANES, WRITTEN_LINKS}

-- of a place of the stream: which seat reserved it, and where its group starts and ends
pub record Place : Type 0 where
  pub owner : ℕ
  pub start : ℕ
  pub end : ℕ

-- What only the proof knows. The marks here are sns.
pub record LogGhost : Type 0 where
  pub log : List Entry
  pub place : ℕ → Place
  -- of a place: 0 reserved, 1 copied, 2 linked
  pub state : ℕ → ℕ
  -- of a block: the first offset that stands, or stood, in FIRST, else 0
  pub first : ℕ → ℕ
  -- of a user: its seat, and how many commits are answered
  pub seat_of : ℕ → ℕ
  pub answered : ℕ → ℕ
  pub write : ℕ
  pub wtail : ℕ
  pub flushed : ℕ
  -- the place to which links are cleared: that of the actor that holds WTAIL, else the tail; and who has held it last
  pub tail : ℕ
  pub advancer : ℕ
  -- the tail with which the writer goes on, its read place, the first block that it hasn't entered, and its seat
  pub target : ℕ
  pub read : ℕ
  pub entered : ℕ
  pub writer : ℕ
  -- who has the log part while the turn word is 1
  pub holder : ℕ

-- how many of the groups are the user's
abbrev pub count_of : ℕ → List Entry → ℕ
count_of user log = sum_of (λ e. cond (e.user == user) 1 0) log

abbrev pub sum_over_actors : {V : Type 0} → (V → ℕ) → List V → ℕ
sum_over_actors f [] = 0
sum_over_actors f (v ∷ vs) = f v + sum_over_actors f vs

-- the reserved groups tile the sns, and each is of its user's next line
pub record Tiled (c : Setup) (sn : ℕ) (log : List Entry) (place : ℕ → Place) : Type 0 where
  pub tiles : Tiles c.base log sn
  pub placed : (i : ℕ) (e : Entry) → get_elem? log i ≡ some e → (x : ℕ) → e.start ≤ x → x < end_of e → ((place x).start ≡ e.start) × ((place x).end ≡ end_of e)
  pub lines : (i : ℕ) (e : Entry) → get_elem? log i ≡ some e → (e.k < length (c.script e.user)) × (e.bytes ≡ (line_at (c.script e.user) e.k).bytes) × ◌≡◌ {A = List PageChange} e.changes (line_at (c.script e.user) e.k).changes
  pub ranks : (i : ℕ) (e : Entry) → get_elem? log i ≡ some e → e.k ≡ count_of e.user (take i log)
  pub bytes : (x : ℕ) → c.base ≤ x → x < sn → byte_at c.base log x < 256

-- the marks stand in their order, and all are boundaries
pub record MarkOrder (base : ℕ) (log : List Entry) (sn write wtail : ℕ) (wheld : Bool) (flushed gwrite gwtail gflushed tail target read entered : ℕ) : Type 0 where
  pub base_even : base % BLOCK_DATA ≡ 0
  pub write_is : write ≡ lsn gwrite
  pub wtail_is : wtail ≡ lsn gwtail
  pub flushed_is : flushed ≡ lsn gflushed
  pub base_write : base ≤ gwrite
  pub write_read : gwrite ≤ read
  pub read_target : read ≤ target
  pub target_wtail : target ≤ gwtail
  pub wtail_tail : gwtail ≤ tail
  pub free : wheld ≡ false → tail ≡ gwtail
  pub tail_sn : tail ≤ sn
  pub near : lsn tail < floor write + LOG_BUFFER
  pub read_entered : read ≤ BLOCK_DATA * entered
  pub entered_target : BLOCK_DATA * entered < target + BLOCK_DATA
  pub write_bound : IsBound base log gwrite
  pub wtail_bound : IsBound base log gwtail
  pub tail_bound : IsBound base log tail
  pub target_bound : IsBound base log target
  pub flushed_bound : IsBound base log gflushed

-- The place's lane is 0: its word was cleared, as each one is all of whose places are read; or its byte isn't copied.
abbrev pub HasZeroLane : ℕ → (ℕ → ℕ) → ℕ → ℕ → Type 0
HasZeroLane sn state read x = (lsn x / WORD_LANES < lsn read / WORD_LANES) ⊎ (sn ≤ x) ⊎ (state x ≡ 0)

-- Copied bytes. In the window of the log buffer, from the block floor of WRITE to that plus 65,536, each lane holds the copied
-- byte of the one place that it stands for, or 0 where that byte isn't copied or its word was cleared.
pub record RingCells (base sn : ℕ) (cells : List ℕ) (write : ℕ) (log : List Entry) (state : ℕ → ℕ) (read : ℕ) : Type 0 where
  pub wide : (i : ℕ) → slice_index cells i < 2 ^ 64
  pub stands : (x : ℕ) → lsn read / WORD_LANES ≤ lsn x / WORD_LANES → x < sn → 0 < state x → (byte_in cells x ≡ byte_at base log x) × (lsn x < floor write + LOG_BUFFER)
  pub bare : (x : ℕ) → floor write ≤ lsn x → lsn x < floor write + LOG_BUFFER → HasZeroLane sn state read x → byte_in cells x ≡ 0

-- first offsets: FIRST of each block that the writer hasn't entered is what was stored there, or 0
pub record FirstOffsets (base : ℕ) (slots : List ℕ) (write : ℕ) (log : List Entry) (first state : ℕ → ℕ) (entered : ℕ) : Type 0 where
  pub slots_are : (q : ℕ) → entered ≤ q → q < entered + BUFFER_BLOCKS → slice_index slots (q % BUFFER_BLOCKS) ≡ first q
  pub near : (q : ℕ) → 0 < first q → q * BLOCK_SIZE < floor write + LOG_BUFFER
  pub true_first : (q : ℕ) → 0 < first q → first q ≡ first_of base log q
  pub stored : (i : ℕ) (e : Entry) → get_elem? log i ≡ some e → state e.start ≡ 2 → e.start / BLOCK_DATA < end_of e / BLOCK_DATA → 0 < first (end_of e / BLOCK_DATA)
  pub begun : 0 < first (base / BLOCK_DATA)

-- a written link that stands in slot i with the distance n
pub record WrittenLink (log : List Entry) (state : ℕ → ℕ) (wtail tail i n : ℕ) : Type 0 where
  pub at : ℕ
  pub group : Entry
  pub is : get_elem? log at ≡ some group
  pub slot : i ≡ lsn group.start % WRITTEN_LINKS
  pub size : lsn group.start + n ≡ lsn (end_of group)
  pub since : tail ≤ group.start
  pub near : lsn group.start < wtail + WRITTEN_LINKS
  pub whole : (x : ℕ) → group.start ≤ x → x < end_of group → state x ≡ 2

pub record WrittenLinks (base : ℕ) (links : List ℕ) (wtail : ℕ) (log : List Entry) (state : ℕ → ℕ) (tail : ℕ) : Type 0 where
  pub linked : (x : ℕ) → base ≤ x → x < tail → state x ≡ 2
  pub links_are : (i : ℕ) → i < WRITTEN_LINKS → 0 < slice_index links i → WrittenLink log state wtail tail i (slice_index links i)
  pub standing : (i : ℕ) (e : Entry) → get_elem? log i ≡ some e → state e.start ≡ 2 → tail ≤ e.start → (0 < slice_index links (lsn e.start % WRITTEN_LINKS)) × (lsn e.start < wtail + WRITTEN_LINKS)

-- the group of an answered commit is linked, and on the device as its mode asks
pub record Commits (c : Setup) (write flushed : ℕ) (log : List Entry) (state answered : ℕ → ℕ) : Type 0 where
  pub flush : (i : ℕ) (e : Entry) → get_elem? log i ≡ some e → e.k < answered e.user → (line_at (c.script e.user) e.k).mode ≡ 1 → lsn (end_of e) ≤ flushed
  pub wrote : (i : ℕ) (e : Entry) → get_elem? log i ≡ some e → e.k < answered e.user → (line_at (c.script e.user) e.k).mode ≡ 2 → lsn (end_of e) ≤ write
  pub linked : (i : ℕ) (e : Entry) → get_elem? log i ≡ some e → e.k < answered e.user → (x : ℕ) → e.start ≤ x → x < end_of e → state x ≡ 2
  -- at most one group of a user isn't answered
  pub last : (v : ℕ) → count_of v log ≤ answered v + 1

-- the log part holds the stream, and its marks stand in their order beside the words
pub record LogPartFacts (D : LogSide) (c : Setup) (write wtail flushed ckpt device : ℕ) (log : List Entry) (p : D.Part) : Type 0 where
  pub holds : D.Holds c.blocks c.base log p
  pub written : ℕ
  pub stable : ℕ
  pub written_is : D.written p ≡ lsn written
  pub stable_is : D.stable p ≡ lsn stable
  pub written_bound : IsBound c.base log written
  pub stable_bound : IsBound c.base log stable
  pub write_written : write ≤ D.written p
  pub written_wtail : D.written p ≤ wtail
  pub given_wtail : D.given p ≤ wtail
  pub flushed_stable : flushed ≤ D.stable p
  pub stable_written : D.stable p ≤ D.written p
  pub ckpt_part : ckpt ≤ D.ckpt p
  pub written_given : D.written p ≤ D.given p
  pub ckpt_asked : D.ckpt p ≤ D.asked p
  pub asked_stable : D.asked p ≤ D.stable p
  pub turn_word : device ≤ 1

-- what a user has done with the group in hand
pub record InHand (log : List Entry) (place : ℕ → Place) (state : ℕ → ℕ) (seat user k start copied : ℕ) (l : Line) : Type 0 where
  pub at : ℕ
  pub is : get_elem? log at ≡ some (entry user k start l)
  pub own : (x : ℕ) → start ≤ x → x < start + length l.bytes → (place x).owner ≡ seat
  pub done : (x : ℕ) → start ≤ x → x < start + copied → state x ≡ 1
  pub bare : (x : ℕ) → start + copied ≤ x → x < start + length l.bytes → state x ≡ 0

module _ (D : LogSide) (c : Setup) (m : SharedWords) (g : LogGhost) (p : D.Part) where
  -- each part by the words and ghosts that it speaks of, so that a step that leaves these hands it on as it is. Pages
  -- add a field
  pub record LogFacts : Type 0 where
    pub tiled : Tiled c m.sn g.log g.place
    pub order : MarkOrder c.base g.log m.sn m.write m.wtail m.wheld m.flushed g.write g.wtail g.flushed g.tail g.target g.read g.entered
    pub ring_cells : RingCells c.base m.sn m.cells m.write g.log g.state g.read
    pub first_offsets : FirstOffsets c.base m.firsts m.write g.log g.first g.state g.entered
    pub written_links : WrittenLinks c.base m.wlinks m.wtail g.log g.state g.tail
    pub commits : Commits c m.write m.flushed g.log g.state g.answered
    pub part : LogPartFacts D c m.write m.wtail m.flushed m.ckpt m.device g.log p
