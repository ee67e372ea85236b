-- The readers' part of the invariant: what holds of the places of the readers of the log, of each reader, and of the
-- checkpointer's candidate under those places.
use Rattle.std.specs.Prelude.{Bool, List, [], cond, drop, false, length, nat_le, slice_index, take, true, ℕ, ◌%◌, ◌++◌, ◌+◌, ◌-◌, ◌<◌, ◌∷◌, ◌≡◌, ◌≤◌}
use lib.ListN.{get_elem?}
use mathlib.Core.Option.{some}
use Rattle.model_base.specs.declared.limits.TheConstants.{BLOCK_SIZE, MAX_GROUP}
use Rattle.model_core.specs.{Actor, archives, block_end, CheckpointerState, end_of, Entry, floor, Given, IsBound, IsText, LostAt, lsn, next_piece, placed_at, read_to, ReaderState, SharedWords, stream, LogSide, Setup}
use Rattle.model_core.specs.States as actor
use Rattle.model_core.specs.declared.steps.CheckpointerStep.{CheckpointerStep}
use Rattle.model_core.specs.declared.steps.CheckpointerStep.TheVariants as checkpointer_step
use Rattle.model_core.specs.declared.steps.ReaderStep.{ReaderStep}
use Rattle.model_core.specs.declared.steps.ReaderStep.TheVariants as reader_step

-- a group as a follower hands it on, and those of a history that end at or below an sn, in its order
abbrev pub given_of : Entry → Given
given_of e = record { start = lsn e.start; end = lsn (end_of e); text = e.bytes }

abbrev pub groups_upto : ℕ → List Entry → List Given
groups_upto x [] = []
groups_upto x (e ∷ es) = cond (nat_le (end_of e) x) (given_of e ∷ groups_upto x es) (groups_upto x es)

-- what a follower hands on as its next Op is answered
abbrev pub handed_at : ReaderState → ReaderStep → List Given
handed_at r reader_step.GiveDevice = placed_at r.at r.texts
handed_at r _ = []

abbrev pub handed : ReaderState → List Given
handed r = cond r.checks [] (handed_at r r.step)

module _ (c : Setup) (m : SharedWords) (log : List Entry) where
  -- a place between groups up to which the log is flushed
  pub record IsFlushedTo (x : ℕ) : Type 0 where
    pub bound : IsBound c.base log x
    pub flushed : lsn x ≤ m.flushed

  -- a follower has not read up to the mark that it has loaded
  pub record HasMore (r : ReaderState) : Type 0 where
    pub to : ℕ
    pub mark : r.mark ≡ lsn to
    pub flushed : IsFlushedTo to
    pub more : read_to r < to

  -- what it takes from its block is the stream's
  abbrev pub HasPiece : ReaderState → Type 0
  HasPiece r = next_piece r ≡ take (block_end r - read_to r) (drop (read_to r - c.base) (stream log))

  abbrev pub FollowerAt : ReaderState → ReaderStep → Type 0
  FollowerAt r reader_step.TakeDevice = HasMore r
  FollowerAt r reader_step.GiveBroken = HasMore r
  FollowerAt r reader_step.ReadBlock = HasMore r
  FollowerAt r reader_step.GiveDevice = HasMore r × HasPiece r
  FollowerAt r _ = Unit {0}

  -- A follower's place stands between groups, and so does the one that it has stored. It keeps the stream's bytes from
  -- there on, among which no group is whole, and none of them is past what is flushed.
  pub record FollowerHas (r : ReaderState) : Type 0 where
    pub place : r.place ≡ lsn r.at
    pub bound : IsBound c.base log r.at
    pub kept : r.kept ≡ take (length r.kept) (drop (r.at - c.base) (stream log))
    pub no_more : (n : ℕ) → n ≤ length r.kept → n ≤ MAX_GROUP → IsText (take n r.kept) → ⊥
    pub to : ℕ
    pub read : IsFlushedTo to
    pub below : read_to r ≤ to
    pub stored : ℕ
    pub own : r.own ≡ lsn stored
    pub own_bound : IsBound c.base log stored
    pub step : FollowerAt r r.step

  abbrev pub ArchiverAt : ReaderState → ReaderStep → Type 0
  ArchiverAt r reader_step.TakeDevice = (r.mark ≤ m.flushed) × (r.place + BLOCK_SIZE ≤ floor r.mark)
  ArchiverAt r reader_step.GiveBroken = (r.mark ≤ m.flushed) × (r.place + BLOCK_SIZE ≤ floor r.mark)
  ArchiverAt r reader_step.ReadBlock = (r.mark ≤ m.flushed) × (r.place + BLOCK_SIZE ≤ floor r.mark)
  ArchiverAt r reader_step.GiveDevice = (r.mark ≤ m.flushed) × (r.place + BLOCK_SIZE ≤ floor r.mark)
  ArchiverAt r reader_step.Append = (r.mark ≤ m.flushed) × (r.place + BLOCK_SIZE ≤ floor r.mark)
  ArchiverAt r _ = Unit {0}

  -- the archiver has the log below a block, at most that of FLUSHED
  pub record ArchiverHas (r : ReaderState) : Type 0 where
    pub aligned : r.place % BLOCK_SIZE ≡ 0
    pub below : r.place ≤ floor m.flushed
    pub own_aligned : r.own % BLOCK_SIZE ≡ 0
    pub step : ArchiverAt r r.step

  abbrev pub HasByKind : Bool → ReaderState → Type 0
  HasByKind true r = ArchiverHas r
  HasByKind false r = FollowerHas r

  -- each reader has its seat and its word, and never goes back
  pub record ReaderHas (seat : ℕ) (r : ReaderState) : Type 0 where
    pub alone : seat ≡ c.reader_at r.number
    pub first : c.first_reader ≤ r.number
    pub last : r.number < c.last_reader
    pub word : r.own ≡ slice_index m.places r.number
    pub up : r.own ≤ r.place
    pub has : HasByKind (archives r) r

  -- the lsn is at most the place of each reader below number n
  abbrev pub IsUnderPlaces : ℕ → ℕ → Type 0
  IsUnderPlaces x n = (i : ℕ) → c.first_reader ≤ i → i < n → x ≤ slice_index m.places i

  abbrev pub CandidateAt : CheckpointerState → CheckpointerStep → Type 0
  CandidateAt t checkpointer_step.LoadPlace = (c.first_reader ≤ t.reader) × (t.reader < c.last_reader) × IsUnderPlaces t.to t.reader
  CandidateAt t checkpointer_step.ReadList = IsUnderPlaces t.to c.last_reader
  CandidateAt t checkpointer_step.GiveList = IsUnderPlaces t.to c.last_reader
  CandidateAt t checkpointer_step.LoadFlushed = IsUnderPlaces t.to c.last_reader
  CandidateAt t checkpointer_step.TakeDevice = IsUnderPlaces t.to c.last_reader
  CandidateAt t checkpointer_step.GiveBroken = IsUnderPlaces t.to c.last_reader
  CandidateAt t checkpointer_step.Checkpoint = IsUnderPlaces t.to c.last_reader
  CandidateAt t _ = Unit {0}

  -- the checkpointer knows the readers, and what it has loaded of their places bounds its candidate
  pub record CandidateFits (t : CheckpointerState) : Type 0 where
    pub first : t.first ≡ c.first_reader
    pub last : t.last ≡ c.last_reader
    pub step : CandidateAt t t.step

  abbrev pub ReadFits : ℕ → Actor → Type 0
  ReadFits seat (actor.Checkpointer t) = CandidateFits t
  ReadFits seat (actor.Reader r) = ReaderHas seat r
  ReadFits seat _ = Unit {0}

-- WHATEVER THE LOG DEVICE TELLS, the numbers of readers are those of words, the block that a reader needs next is one
-- of the run, and the archiver alone appends.
pub record ReadsInRun (c : Setup) (r : ReaderState) : Type 0 where
  pub first : c.first_reader ≤ r.number
  pub few : r.number < c.last_reader
  pub from : c.base ≤ r.at
  pub block : archives r ≡ true → (r.place % BLOCK_SIZE ≡ 0) × (floor (lsn c.base) ≤ r.place)
  pub lost : LostAt r r.step

abbrev pub NumberAt : CheckpointerState → CheckpointerStep → Type 0
NumberAt t checkpointer_step.LoadPlace = t.reader < t.last
NumberAt t _ = Unit {0}

abbrev pub StaysInRun : Setup → Actor → Type 0
StaysInRun c (actor.Reader r) = ReadsInRun c r
StaysInRun c (actor.Checkpointer t) = (t.first ≡ c.first_reader) × (t.last ≡ c.last_reader) × NumberAt t t.step
StaysInRun c _ = Unit {0}

-- no checkpoint, asked for or made, is above any reader's place
pub record ReadHalf (D : LogSide) (c : Setup) (m : SharedWords) (log : List Entry) (p : D.Part) (actors : List Actor) : Type 0 where
  pub asked : IsUnderPlaces c m log (D.asked p) c.last_reader
  pub each : (seat : ℕ) (a : Actor) → get_elem? actors seat ≡ some a → ReadFits c m log seat a

-- THE BLOCK THAT THE ARCHIVER HAS READ is the run's, by the groups that there were then; the log may have grown since.
pub record HasRunBlock (D : LogSide) (c : Setup) (log : List Entry) (r : ReaderState) : Type 0 where
  pub early : List Entry
  pub late : List Entry
  pub grown : log ≡ early ++ late
  pub block : D.IsRunBlock c.base early r.place r.block

-- it has it from its read up to its append
abbrev pub RunBlockAt : (D : LogSide) → Setup → List Entry → ReaderState → ReaderStep → Type 0
RunBlockAt D c log r reader_step.GiveDevice = HasRunBlock D c log r
RunBlockAt D c log r reader_step.Append = HasRunBlock D c log r
RunBlockAt D c log r _ = Unit {0}

abbrev pub HaveRunBlocks : (D : LogSide) → Setup → List Entry → List Actor → Type 0
HaveRunBlocks D c log actors = (seat : ℕ) (r : ReaderState) → get_elem? actors seat ≡ some (actor.Reader r)
    → archives r ≡ true → RunBlockAt D c log r r.step
