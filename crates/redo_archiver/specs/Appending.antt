-- One block that is appended to an archive: what is asked, what is answered, and what the archive then holds.
-- What a drive says of its archiver and of the archive beside it, from turn to turn.
-- After the run the blocks that the archive lacks are appended, one by one, the last with FLUSHED as its mark.
use Rattle.std.specs.Prelude.{ℕ, ◌≡◌, ◌≤◌, ◌<◌, ◌+◌, ◌++◌, List, None, Option, Some, ◌-◌, ◌*◌, cond, true, min}
use Rattle.model_archive.specs.{after_append, after_asking, archive_length, HasNextMark, IsArchivedBlock, next_mark_number, pages_end}
use Rattle.model_archive.specs.declared.marks.ArchMarks.{ArchMarks}
use Rattle.model_base.specs.{HasRisen}
use Rattle.model_base.specs.declared.limits.TheConstants.{BLOCK_SIZE, LSN_LIMIT}
use Rattle.model_core.specs.{archive_device_code, no_memory_code, archives, next_mark, old_of, ReaderState}
use Rattle.model_core.specs.declared.ops.Answer.{Answer}
use Rattle.model_core.specs.declared.ops.Answer.TheVariants as answer
use Rattle.model_log.specs.{block_of, IsAtDataStart, IsDataLsn, IsRunOf, IsBoundary, IsBoundaryBlock, spans_of}
use Rattle.model_log.specs.declared.group.Whole.{Whole}
use Rattle.model_page.specs.declared.content.Content.{Content}
use Rattle.redo_archive.specs.Part.{blocks_write, mark_write, Part, PartArchives}
use Rattle.redo_disk.specs.{put_requests, Request, Seen}
use Rattle.redo_disk.specs.declared.error.DevError.{DevError}
use Rattle.redo_disk.specs.declared.error.DevError.TheVariants.{Failed, NoMemory}
use Rattle.model_core.specs.declared.steps.ReaderStep.{ReaderStep}
use Rattle.model_core.specs.declared.steps.ReaderStep.TheVariants as reader_step
use Rattle.model_log.specs.declared.layout.TheConstants.{BLOCK_HEADER}
use Rattle.model_parts.specs.Marks.{NEXT_DATA}

-- what FAILED gets where a call of the archive's device answered this error, or 0
abbrev pub append_code : Option DevError → ℕ
append_code None = 0
append_code (Some Failed) = archive_device_code
append_code (Some NoMemory) = no_memory_code

-- the answer to an append after which the archive part tells this
abbrev pub append_answer : Option DevError → Answer
append_answer None = answer.Called 0
append_answer (Some error) = answer.Failed (append_code (Some error))

-- Up to which mark one block may be appended: the newest mark stands at the first data byte of a block, and this one is
-- the place of a later byte, at most the first data byte of the next block. The device has room for the block.
pub record MayAppendBlock {A : Type 0} (seen : A → Seen) (part : Part A) (mark : ℕ) : Type 0 where
  pub live : part.failed ≡ None
  pub start : IsAtDataStart part.start
  pub at_start : IsAtDataStart part.marks.mark
  pub place : IsDataLsn mark
  pub later : part.marks.mark < mark
  pub near : mark ≤ part.marks.mark + BLOCK_SIZE
  pub small : mark < LSN_LIMIT
  pub room : archive_length part.shape part.start mark ≤ (seen part.dev).size

-- the marks after an append after which the part tells this
abbrev pub marks_after : ℕ → Option DevError → ArchMarks → ArchMarks
marks_after mark None marks = after_append mark marks
marks_after mark (Some error) marks = after_asking mark marks

-- what an append leaves of an archive part, and its answer
pub record IsAppended {A : Type 0} (seen : A → Seen) (old : Part A) (mark : ℕ) (answer : Answer)
    (new : Part A) : Type 0 where
  pub answer_is : answer ≡ append_answer new.failed
  pub marks : new.marks ≡ marks_after mark new.failed old.marks
  pub shape : new.shape ≡ old.shape
  pub start : new.start ≡ old.start
  pub size : (seen new.dev).size ≡ (seen old.dev).size
  pub later : (seen old.dev).faults ≤ (seen new.dev).faults
  pub risen : new.failed ≡ Some Failed → HasRisen (seen old.dev).faults (seen new.dev).faults

-- what an append asks of the device: to put the block, and then the next mark
abbrev pub append_requests : {A : Type 0} → Part A → ℕ → List ℕ → List Request
append_requests part mark block =
    put_requests (blocks_write part.shape part.start part.marks.mark block)
    ++ put_requests (mark_write (next_mark_number part.marks.number) mark)

-- what is archived of a run after an append, whatever it answered, if the block is the run's: until the number of marks
-- goes round
abbrev pub KeepsBlock : {A : Type 0} → (A → Seen) → Part A → ℕ → List ℕ → Part A → Type 0
KeepsBlock seen old mark block new =
    HasNextMark old.marks → (pages : List Content) (wholes : List Whole) → IsRunOf old.start wholes
    → IsArchivedBlock old.start wholes mark (block_of old.marks.mark) block
    → PartArchives seen pages wholes old → PartArchives seen pages wholes new

-- the device has room for each block up to that of the lsn
abbrev pub HasRoomTo : {A : Type 0} → (A → Seen) → ℕ → Part A → Type 0
HasRoomTo seen limit part =
    pages_end part.shape + (block_of limit + BLOCK_SIZE - block_of part.start) ≤ (seen part.dev).size

-- every mark so far stands a block after the one before
abbrev pub IsCounted : {A : Type 0} → Part A → Type 0
IsCounted part = part.start + BLOCK_SIZE * part.marks.number ≡ part.marks.mark

-- its block is full below the mark that it has loaded, and no append of it has failed
abbrev pub IsInRound : ReaderState → Type 0
IsInRound r = (r.lost ≡ 0) × (next_mark r ≤ r.mark)

abbrev pub RoundAt : ReaderState → ReaderStep → Type 0
RoundAt r reader_step.LoadFlushed = r.lost ≡ 0
RoundAt r reader_step.TakeDevice = IsInRound r
RoundAt r reader_step.GiveBroken = IsInRound r
RoundAt r reader_step.ReadBlock = IsInRound r
RoundAt r reader_step.GiveDevice = IsInRound r
RoundAt r reader_step.Append = IsInRound r
RoundAt r reader_step.StorePlace = r.lost ≡ 0
RoundAt r _ = Unit {0}

-- THE ARCHIVE IS AS FAR AS THE ARCHIVER: its newest mark stands at the first data byte of the archiver's block, and its
-- part has failed exactly where the archiver's append has. `flushed` is some value that FLUSHED has had: the newest mark
-- and what the archiver has loaded of FLUSHED are at most that. The device has room up to the limit.
pub record KeepsPace {A : Type 0} (seen : A → Seen) (limit flushed : ℕ) (r : ReaderState)
    (part : Part A) : Type 0 where
  pub kind : archives r ≡ true
  pub start : IsAtDataStart part.start
  pub mark : part.marks.mark ≡ r.place + BLOCK_HEADER
  pub counted : IsCounted part
  pub lost : r.lost ≡ append_code part.failed
  pub round : RoundAt r r.step
  pub loaded : r.mark ≤ flushed
  pub up_to : part.marks.mark ≤ flushed
  pub within : flushed ≤ limit
  pub small : limit < LSN_LIMIT
  pub room : HasRoomTo seen limit part

-- AN ARCHIVE BESIDE ITS ARCHIVER: it is as far, and it archives the run's groups so far over the pages with which the
-- run was opened.
pub record HasArchived {A : Type 0} (seen : A → Seen) (limit flushed : ℕ) (pages : List Content) (wholes : List Whole)
    (r : ReaderState) (part : Part A) : Type 0 where
  pub pace : KeepsPace seen limit flushed r part
  pub archives : PartArchives seen pages wholes part

-- the bytes are the block at x of a run: that for a boundary no earlier than the first data byte of the next block
pub record IsFullBlock (s : ℕ) (wholes : List Whole) (x : ℕ) (bytes : List ℕ) : Type 0 where
  pub m : ℕ
  pub boundary : IsBoundary s (spans_of wholes) m
  pub enough : x + NEXT_DATA ≤ m
  pub block : IsBoundaryBlock s wholes m x bytes

-- what a load of FLUSHED tells: the place of a byte, at most `flushed`
abbrev pub heard_at : ℕ → ℕ → ReaderStep → Type 0
heard_at flushed n reader_step.LoadFlushed = (n ≤ flushed) × IsDataLsn n
heard_at flushed n _ = Unit {0}

abbrev pub HearsFlushed : ℕ → ReaderState → Answer → Type 0
HearsFlushed flushed r answer = cond r.checks (Unit {0}) (heard_at flushed (old_of answer) r.step)

-- the Op of its step is an append
abbrev pub appends_at : ReaderStep → Type 0
appends_at reader_step.Append = ⊥
appends_at _ = Unit {0}

-- its next Op is no append
abbrev pub AppendsNothing : ReaderState → Type 0
AppendsNothing r = cond r.checks (Unit {0}) (appends_at r.step)

-- An archive that lacks what is flushed above its newest mark, or nothing. What it lacks begins with a block.
pub record IsToFinish {A : Type 0} (seen : A → Seen) (flushed : ℕ) (part : Part A) : Type 0 where
  pub start : IsAtDataStart part.start
  pub place : IsDataLsn flushed
  pub small : flushed < LSN_LIMIT
  pub up_to : part.marks.mark ≤ flushed
  pub counted : part.marks.mark < flushed → IsCounted part
  pub room : HasRoomTo seen flushed part

-- the mark of its next block
abbrev pub finishing_mark : {A : Type 0} → ℕ → Part A → ℕ
finishing_mark flushed part = min (part.marks.mark + BLOCK_SIZE) flushed
