-- What a running store stands for at any moment.
-- What a running store keeps of its pages, in the words of a closed run.
-- What the parts of a running store hold, their devices hold.
use Rattle.std.specs.Prelude.{List, ℕ, ◌<◌, ◌≡◌, ◌≤◌, ◌⊎◌, slice_index, Option, Some, slice_get}
use lib.ListN.{get_elem?}
use mathlib.Core.Option.{some}
use Rattle.model_base.specs.declared.limits.TheConstants.{LSN_LIMIT}
use Rattle.model_core.specs.{DataSide, LogSide, Actor, Core, Entry, HasLost, sn_at, Tiles, UserState, BatchPage, KeptPage, lsn, Setup}
use Rattle.model_running.specs.History.{marks_in}
use Rattle.model_running.specs.Histories.{AreWholesOf, history_of}
use Rattle.model_report.specs.{wholes_of}
use Rattle.model_report.specs.declared.entry.Marks.{Marks}
use Rattle.model_logcore.specs.{Counted}
use Rattle.model_script.specs.declared.script.ScriptLine.{ScriptLine}
use Rattle.model_theorem.specs.{IsRun, Opened, Ran, IsBatchPrefix, IsKeptPrefix, DataHolds}
use Rattle.model_core.specs.States as actor
use Rattle.model_running.specs.OpenedPages.{content_in, contents_of}
use Rattle.model_page.specs.declared.content.Content.{Content}
use Rattle.model_pagecore.specs.{AreApart}
use Rattle.model_log.specs.declared.group.Whole.{Whole}
use Rattle.model_base.specs.declared.shape.Shape.{Shape}
use Rattle.model_device.specs.{Disk}
use Rattle.model_parts.specs.{LogHolds}
use Rattle.model_parts.specs.declared.marks.LogMarks.{LogMarks}

-- a cause means that a call failed, of which so many did
pub record CausesAreFailures (D : LogSide) (E : DataSide) (failures : ℕ) (p : D.Part) (d : E.Part) (actors : List Actor) : Type 0 where
  pub log : (code : ℕ) → D.Cause p code → 0 < failures
  pub data_part : (code : ℕ) → E.Cause d code → 0 < failures
  pub archive : (code : ℕ) → HasLost actors code → 0 < failures

-- The run that a store's state stands for: it is a run of the script with the words' marks, its groups are those that the
-- actors have, the log part holds them, and its marks are no further than those of the log part.
pub record StandsForRun (D : LogSide) (E : DataSide) (c : Setup) (script : List ScriptLine) (opened : Opened) (s : Core D E) : Type 0 where
  pub run : Ran
  pub marks : ◌≡◌ {A = Marks} run.marks (marks_in s.words)
  pub is_run : IsRun script opened run
  -- the groups of the actors, each once, follow each other from the run's start to the word SN
  pub log : List Entry
  pub tiles : Tiles c.base log (slice_index s.words sn_at)
  pub are_of_actors : Counted s.actors log
  -- of each user so many commits are answered; so each group has its entry, by whether its commit is and by the marks
  pub answered : ℕ → ℕ
  pub answers : (seat : ℕ) (u : UserState) → get_elem? s.actors seat ≡ some (actor.User u) → answered u.user ≡ u.k
  pub entries : run.entries ≡ history_of answered (marks_in s.words) log
  pub holds : D.Holds c.blocks c.base log s.log_part
  pub groups : AreWholesOf log (wholes_of script opened.shape.space run.entries)
  pub flushed : run.marks.flushed ≤ D.stable s.log_part
  pub ckpt : run.marks.ckpt ≤ D.ckpt s.log_part
  pub small : D.given s.log_part < LSN_LIMIT

-- a call of a part has failed, or an append
abbrev pub HasFailedPart : (D : LogSide) (E : DataSide) → D.Part → E.Part → List Actor → Type 0
HasFailedPart D E p d actors = (code : ℕ) × (D.Cause p code ⊎ E.Cause d code ⊎ HasLost actors code)

-- Each page as it was last written is a prefix of the run that lacks no group that starts below the checkpoint; and what the
-- batch at hand has for it, if it has it, is a prefix too, and no older.
pub record ArePrefixes (opened : List Content) (wholes : List Whole) (stable ckpt : ℕ) (was : ℕ → Content) (batch : ℕ → Option Content) : Type 0 where
  pub last : (p : ℕ) (page : Content) → slice_get opened p ≡ Some page → IsKeptPrefix page wholes stable ckpt p (was p)
  pub next : (p : ℕ) (page : Content) → slice_get opened p ≡ Some page → IsBatchPrefix page wholes stable p (was p) (batch p)

-- The data part holds the pages as prefixes of the run, up to the stable mark of the log part, which lack nothing below the
-- checkpoint that was last asked for: as they were last written, or as the batch has them whose writing failed.
pub record FinishedPages (D : LogSide) (E : DataSide) (script : List ScriptLine) (opened : Opened) (run : Ran) (s : Core D E) : Type 0 where
  pub kept_page : ℕ → KeptPage
  pub unfinished : List BatchPage
  pub holds : E.Holds kept_page unfinished s.data_part
  pub apart : AreApart unfinished
  pub prefixes : ArePrefixes opened.pages (wholes_of script opened.shape.space run.entries) (D.stable s.log_part) (D.asked s.log_part) (contents_of kept_page) (content_in unfinished)

-- What the log part holds of a run's groups its device does, by these marks of the part; and while it holds a run, the
-- checkpoint's number isn't below this.
pub record LogTells (D : LogSide) (c : Setup) (shape : Shape) (number : ℕ) (part : D.Part) (disk : Disk) : Type 0 where
  pub marks : LogMarks
  pub stable : marks.stable ≡ D.stable part
  pub given : marks.given ≡ D.given part
  pub ckpt : marks.ckpt ≡ D.ckpt part
  pub asked : marks.asked ≡ D.asked part
  pub number_kept : (log : List Entry) → D.Holds c.blocks c.base log part → number ≤ marks.number
  pub holds : (log : List Entry) (wholes : List Whole) → D.Holds c.blocks c.base log part → AreWholesOf log wholes → LogHolds shape (lsn c.base) wholes marks disk

-- What the data part holds of a run's pages its device does.
pub record DataTells (E : DataSide) (opened : Opened) (part : E.Part) (disk : Disk) : Type 0 where
  pub holds : (kept_page : ℕ → KeptPage) (unfinished : List BatchPage) (wholes : List Whole) (stable ckpt : ℕ) → E.Holds kept_page unfinished part → AreApart unfinished
      → ArePrefixes opened.pages wholes stable ckpt (contents_of kept_page) (content_in unfinished) → DataHolds opened.shape opened.pages wholes stable ckpt disk
