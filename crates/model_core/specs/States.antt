-- The reserved groups of a run, as a user's line and the history have them; the state of each actor: what contracts see of it;
-- the actors, and what they hand to a device call. All places of groups are sns, counted from the run's first, which is a multiple
-- of 496.
use Rattle.std.specs.Prelude.{List, length, ℕ, ◌+◌, Bool}
use Rattle.model_core.specs.declared.steps.CleanerStep.{CleanerStep}
use Rattle.model_core.specs.declared.steps.CloserStep.{CloserStep}
use Rattle.model_core.specs.declared.steps.UserStep.{UserStep}
use Rattle.model_core.specs.declared.steps.CheckpointerStep.{CheckpointerStep}
use Rattle.model_core.specs.declared.steps.WriterStep.{WriterStep}
use Rattle.model_core.specs.declared.steps.FlusherStep.{FlusherStep}
use Rattle.model_core.specs.declared.steps.ReaderStep.{ReaderStep}

-- a cell of a page that a group changes, and its value then
pub record CellWrite : Type 0 where
  pub at : ℕ
  pub value : ℕ

-- a page as a store keeps it: the end of the last group that it has, and its bytes
pub record KeptPage : Type 0 where
  pub lsn : ℕ
  pub bytes : List ℕ

-- a page that a group touches, and the cells that it changes there, each once
pub record PageChange : Type 0 where
  pub page : ℕ
  pub cells : List CellWrite

-- a reserved group: the user's number, the index of its line, where it starts, its bytes, and the pages that it touches
pub record Entry : Type 0 where
  pub user : ℕ
  pub k : ℕ
  pub start : ℕ
  pub bytes : List ℕ
  pub changes : List PageChange

-- the place after its last byte
abbrev pub end_of : Entry → ℕ
end_of e = e.start + length e.bytes

-- An advance of a tail: the tail that it has loaded, the place to which it has followed links, and the link that it has found
-- there.
pub record Advance : Type 0 where
  pub tail : ℕ
  pub place : ℕ
  pub link : ℕ

abbrev pub no_advance : Advance
no_advance = record { tail = 0; place = 0; link = 0 }

-- a user's line: the text of its group, the pages that the group changes, and what its commit waits for: the flush (1),
-- the write (2), or nothing (0)
pub record Line : Type 0 where
  pub mode : ℕ
  pub bytes : List ℕ
  pub changes : List PageChange

-- the marks that a user has loaded last; of the two tails without whether they are held
pub record LoadedMarks : Type 0 where
  pub ckpt : ℕ
  pub write : ℕ
  pub wtail : ℕ
  pub ctail : ℕ
  pub flushed : ℕ

abbrev pub none_loaded : LoadedMarks
none_loaded = record { ckpt = 0; write = 0; wtail = 0; ctail = 0; flushed = 0 }

-- A user with its number and lines. `k` commits are answered; a group is reserved at each of `starts`, in sns, and where these
-- are more than k the last is in hand: it starts at `start`, and so many of its bytes are copied. Where the user checks, its
-- next Op is a load of FAILED, and then that of its step; so of each actor. `code` is the failure that ended it. A user that
-- keeps all can tell the text and the start of each of its groups, any other those of the line in hand alone.
pub record UserState : Type 0 where
  pub user : ℕ
  pub blocks : ℕ
  pub keeps : Bool
  pub lines : List Line
  pub starts : List ℕ
  pub k : ℕ
  pub start : ℕ
  pub copied : ℕ
  -- its place among the group's pages, and among the changed cells of that page
  pub page : ℕ
  pub cell : ℕ
  -- the word of that page's frame that it has loaded
  pub word : ℕ
  pub loaded : LoadedMarks
  pub advance : Advance
  pub code : ℕ
  pub checks : Bool
  pub step : UserStep

-- The writer. `tail`, with which it goes on, and `write`, its last stored mark, are lsns; `kept` are the stream's bytes from
-- the sn `from`, the start of a block, up to its read place, and `firsts` the first offsets of the blocks from there on that it
-- has entered. `first`, `word` and `ckpt` are what it has loaded last.
pub record WriterState : Type 0 where
  pub blocks : ℕ
  pub tail : ℕ
  pub write : ℕ
  pub from : ℕ
  pub kept : List ℕ
  pub firsts : List ℕ
  pub advance : Advance
  pub first : ℕ
  pub word : ℕ
  pub ckpt : ℕ
  pub code : ℕ
  pub checks : Bool
  pub step : WriterStep

-- The flusher. `last` is its last stored mark, `write` the mark WRITE that it has loaded last, `mark` what its sync answered.
pub record FlusherState : Type 0 where
  pub last : ℕ
  pub write : ℕ
  pub mark : ℕ
  pub code : ℕ
  pub checks : Bool
  pub step : FlusherStep

pub record CloserState : Type 0 where
  pub advance : Advance
  pub code : ℕ
  pub checks : Bool
  pub step : CloserStep

-- a page of the cleaner's batch: its number, its lsn, and the cells of its frame
pub record BatchPage : Type 0 where
  pub page : ℕ
  pub lsn : ℕ
  pub bytes : List ℕ

-- The cleaner. A batch has at most `slots` pages. `flushed` is the round's loaded FLUSHED; `page` is looked at now, and `left` pages with it are left in the
-- round; of the page latched now, `newest` is loaded and `kept` are its first bytes.
pub record CleanerState : Type 0 where
  pub pages : ℕ
  pub page_size : ℕ
  pub slots : ℕ
  pub flushed : ℕ
  pub page : ℕ
  pub left : ℕ
  pub newest : ℕ
  pub kept : List ℕ
  pub batch : List BatchPage
  pub code : ℕ
  pub checks : Bool
  pub step : CleanerStep

-- The checkpointer. `own` is its last stored checkpoint, `to` its candidate so far, `list` the list that it reads;
-- `ctail` and `flushed` are the marks that it has loaded last. The readers of the log have the numbers from `first` to
-- below `last`, and `reader` is the one whose place it loads next.
pub record CheckpointerState : Type 0 where
  pub own : ℕ
  pub ctail : ℕ
  pub flushed : ℕ
  pub to : ℕ
  pub list : ℕ
  pub first : ℕ
  pub last : ℕ
  pub reader : ℕ
  pub code : ℕ
  pub checks : Bool
  pub step : CheckpointerStep

-- a group that a follower hands on: its start, its end, its text
pub record Given : Type 0 where
  pub start : ℕ
  pub end : ℕ
  pub text : List ℕ

-- A reader of the log. `number` is that of its place word: 0 is the archiver, the others are followers. `place` is up
-- to where it has the log, as an lsn, and `own` the place that it has stored last; `mark` is the FLUSHED that it has
-- loaded last, and `block` the 512 bytes that it has read last. Of a follower, `at` is its place as an sn, `kept` are
-- the stream's bytes from there up to its read place, and `texts` the whole groups in front of what it has, while a
-- turn hands them on. Of the archiver, `lost` is the code with which its append failed, or 0: from then on it archives
-- nothing, whatever ends the run.
pub record ReaderState : Type 0 where
  pub number : ℕ
  pub own : ℕ
  pub place : ℕ
  pub mark : ℕ
  pub block : List ℕ
  pub at : ℕ
  pub kept : List ℕ
  pub texts : List (List ℕ)
  pub lost : ℕ
  pub code : ℕ
  pub checks : Bool
  pub step : ReaderStep

pub data Actor : Type 0 where
  User : UserState → Actor
  Writer : WriterState → Actor
  Flusher : FlusherState → Actor
  Closer : CloserState → Actor
  Cleaner : CleanerState → Actor
  Checkpointer : CheckpointerState → Actor
  Reader : ReaderState → Actor

-- what a device call takes beside its numbers: the log's bytes with their blocks' first offsets, or a batch of pages,
-- or room for a block, with the bytes that the call puts there
pub data Lent : Type 0 where
  Nothing : Lent
  Blocks : List ℕ → List ℕ → Lent
  Batch : List BatchPage → Lent
  Room : List ℕ → Lent
