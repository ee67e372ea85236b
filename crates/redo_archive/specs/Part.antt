-- What a few device calls in a row do to an archive device.
-- What callers see of an archive part, and what its calls ask for and keep.
use Rattle.std.specs.Prelude.{ℕ, ◌+◌, ◌*◌, ◌⊎◌, List, [], ◌∷◌, ◌++◌, map, replicate, ◌≡◌, ◌≤◌, ◌<◌, length, Option, None, Result, IfSome}
use Rattle.model_base.specs.declared.limits.TheConstants.{BLOCK_SIZE, LSN_LIMIT}
use Rattle.model_base.specs.declared.shape.Shape.{Shape}
use Rattle.model_device.specs.{IsPutOrNot, synced, written, Disk}
use Rattle.model_device.specs.declared.write.Write.{Write}
use Rattle.model_log.specs.{block_of, blocks_between, IsAtDataStart, IsDataLsn, last_span_end, spans_of}
use Rattle.model_archive.specs.{archive_head_text, archive_place, mark_place, mark_text, ArchiveHolds, archive_length, AreArchivedBlocks, begun_marks, HasNextMark, IsRunStart, IsSteadyArchive, pages_end}
use Rattle.model_archive.specs.declared.layout.TheConstants.{ARCHIVE_HEADER}
use Rattle.model_page.specs.{page_text}
use Rattle.model_page.specs.declared.content.Content.{Content}
use Rattle.redo_disk.specs.{put_requests, Request, ToWrite, write_at, Call, error_of, HasCause, MakesCalls, Serve, Seen}
use Rattle.model_base.specs.{HasRisen, IsWithinLimits}
use Rattle.model_log.specs.declared.group.Whole.{Whole}
use Rattle.model_archive.specs.declared.marks.ArchMarks.{ArchMarks}
use Rattle.redo_archive.specs.declared.fault.BeginFault.{BeginFault}
use Rattle.redo_archive.specs.declared.fault.BeginFault.TheVariants.{Small, Dev, NoMemory}
use Rattle.redo_disk.specs.declared.error.DevError.{DevError}

-- two writes, each with a sync after it
abbrev pub after_two : Write → Write → Disk → Disk
after_two first second old = synced (written (synced (written old first)) second)

-- one of these calls failed
abbrev pub FailsTwo : Write → Write → Disk → Disk → Type 0
FailsTwo first second old new = IsPutOrNot first old new ⊎ IsPutOrNot second (synced (written old first)) new

-- the write of the blocks from that of the mark on, and that of the next mark
abbrev pub blocks_write : Shape → ℕ → ℕ → List ℕ → Write
blocks_write shape start mark blocks = write_at (archive_place shape start (block_of mark)) blocks

abbrev pub mark_write : ℕ → ℕ → Write
mark_write number lsn = write_at (BLOCK_SIZE * mark_place number) (mark_text number lsn)

-- the write of a page with which a run was opened, and those of such pages side by side, the first with this number
abbrev pub page_write : Shape → ℕ → Content → Write
page_write shape p page =
    write_at (ARCHIVE_HEADER + p * shape.page_size) (page_text p shape.space page.lsn page.user)

abbrev pub base_writes : Shape → ℕ → List Content → List Write
base_writes shape p [] = []
base_writes shape p (page ∷ pages) = page_write shape p page ∷ base_writes shape (p + 1) pages

-- what beginning an archive asks of the device: to put zeros over the head and the marks, then to write the pages and to
-- put the first mark after them, and then to put the head
abbrev pub begin_requests : Shape → ℕ → List Content → List Request
begin_requests shape start pages =
    put_requests (write_at 0 (replicate ARCHIVE_HEADER 0))
    ++ map ToWrite (base_writes shape 0 pages)
    ++ put_requests (mark_write 0 start)
    ++ put_requests (write_at 0 (archive_head_text start shape))

-- an archive part, over a device of any type
pub record Part (A : Type 0) : Type 0 where
  pub dev : A
  pub shape : Shape
  -- where the run starts
  pub start : ℕ
  pub marks : ArchMarks
  -- what the call answered that failed
  pub failed : Option DevError

-- what holds of each part, whatever its device tells
pub record IsSoundArchive (size : ℕ) (shape : Shape) (start : ℕ) (marks : ArchMarks) : Type 0 where
  pub limits : IsWithinLimits shape
  pub run_start : IsRunStart start
  pub place : IsDataLsn marks.mark
  pub from : start ≤ marks.mark
  pub small : marks.mark < LSN_LIMIT
  pub long : archive_length shape start marks.mark ≤ size

-- what the device of a part archives of a run: more as long as no call has failed
pub record DiskArchives (size : ℕ) (shape : Shape) (start : ℕ) (pages : List Content) (wholes : List Whole)
    (marks : ArchMarks) (failed : Option DevError) (disk : Disk) : Type 0 where
  pub size_is : length disk.base ≡ size
  pub holds : ArchiveHolds shape start pages wholes marks disk
  pub live : failed ≡ None → IsSteadyArchive start marks disk

-- the same, where the device tells what it means
abbrev pub PartArchives : {A : Type 0} → (A → Seen) → List Content → List Whole → Part A → Type 0
PartArchives seen pages wholes part =
    IfSome (seen part.dev).tells
    (DiskArchives (seen part.dev).size part.shape part.start pages wholes part.marks part.failed)

-- What may be given to `append`, whose newest mark stands at the first data byte of a block: the place of a byte from
-- that mark on, and as many bytes as the blocks have that hold a byte between the two. The device has room for them.
pub record MayAppend {A : Type 0} (seen : A → Seen) (part : Part A) (mark : ℕ) (blocks : List ℕ) : Type 0 where
  pub live : part.failed ≡ None
  pub at_start : IsAtDataStart part.marks.mark
  pub place : IsDataLsn mark
  pub later : part.marks.mark ≤ mark
  pub small : mark < LSN_LIMIT
  pub count : length blocks ≡ BLOCK_SIZE * blocks_between part.marks.mark mark
  pub room : archive_length part.shape part.start mark ≤ (seen part.dev).size

-- What each call leaves, whatever it answers: the shape, the start and the device's size are as before, the device
-- failed if the call says so, and the part tells what the call answered.
pub record Stays {A : Type 0} (seen : A → Seen) (old : Part A) (result : Result (Unit {0}) DevError)
    (new : Part A) : Type 0 where
  pub shape : new.shape ≡ old.shape
  pub start : new.start ≡ old.start
  pub size : (seen new.dev).size ≡ (seen old.dev).size
  pub cause : HasCause (seen old.dev).faults (seen new.dev).faults result
  pub failed : new.failed ≡ error_of result

-- What a part's device archives after `append`, Ok or not, if what was given is of the run: until the number of marks
-- goes round.
abbrev pub KeepsArchive : {A : Type 0} → (A → Seen) → Part A → ℕ → List ℕ → Part A → Type 0
KeepsArchive seen old mark blocks new =
    HasNextMark old.marks → (pages : List Content) (wholes : List Whole) → PartArchives seen pages wholes old
    → mark ≤ last_span_end old.start (spans_of wholes) → AreArchivedBlocks old.start wholes old.marks.mark mark blocks
    → PartArchives seen pages wholes new

-- why no archive was begun: the device is too short, which is judged before any call of it, so that it is left as it
-- was; it failed; or memory ran out
abbrev pub IsBeginFault : {A : Type 0} → (A → Seen) → Shape → A → A → BeginFault → Type 0
IsBeginFault seen shape old new (Small n) = ((seen old).size < n) × (n ≡ pages_end shape) × (new ≡ old)
IsBeginFault seen shape old new Dev =
    (pages_end shape ≤ (seen old).size) × HasRisen (seen old).faults (seen new).faults
IsBeginFault seen shape old new NoMemory = pages_end shape ≤ (seen old).size

-- An archive was begun: of this shape, from this start on, and with these pages its device archives a run of no group
-- yet. These calls were made of the device, and none of them answered an error.
pub record IsBegun {A : Type 0} (seen : A → Seen) (gives : A → Call → A → Type 0) (shape : Shape) (start : ℕ)
    (pages : List Content) (dev : A) (part : Part A) : Type 0 where
  pub shape_is : part.shape ≡ shape
  pub start_is : part.start ≡ start
  pub marks_are : part.marks ≡ begun_marks start
  pub live : part.failed ≡ None
  pub holds : PartArchives seen pages [] part
  pub size : (seen part.dev).size ≡ (seen dev).size
  pub later : (seen dev).faults ≤ (seen part.dev).faults
  pub calls : MakesCalls gives dev part.dev (Serve (begin_requests shape start pages) None)

-- None was begun, for this cause. Nothing is said of what stands on a device that is long enough.
pub record IsNotBegun {A : Type 0} (seen : A → Seen) (shape : Shape) (dev : A) (fault : BeginFault)
    (left : A) : Type 0 where
  pub cause : IsBeginFault seen shape dev left fault
  pub size : (seen left).size ≡ (seen dev).size
  pub later : (seen dev).faults ≤ (seen left).faults
