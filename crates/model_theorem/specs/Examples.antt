-- Runs that the promise is tried on: what its parts refuse, and what they admit together.
use Rattle.std.specs.Prelude.{ℕ, false, ◌≡◌, ◌≢◌, ◌≤◌, ◌<◌, ◌⊎◌, List, [], ◌∷◌, codes, Option, Some, None, Ok, IfSome}
use Rattle.std.specs.List.{AllByRecursion}
use Rattle.model_base.specs.{default_shape}
use Rattle.model_base.specs.declared.limits.TheConstants.{FIRST_DATA_LSN, LSN_LIMIT}
use Rattle.model_base.specs.declared.shape.Shape.{Shape}
use Rattle.model_page.specs.{blank_pages}
use Rattle.model_device.specs.{Crashes, settled, Disk}
use Rattle.model_device.specs.declared.write.Write.{Write}
use Rattle.model_log.specs.{head_of, layout_of, newest_checkpoint, run_layout, start_after, run_format}
use Rattle.model_log.specs.declared.head.Format.{Format}
use Rattle.model_log.specs.declared.head.Format.TheVariants.{One}
use Rattle.model_log.specs.declared.head.Head.TheVariants.{Good}
use Rattle.model_log.specs.declared.layout.TheConstants.{HEADER_BYTES}
use Rattle.model_script.specs.{script_end, script_of}
use Rattle.model_script.specs.declared.item.Item.TheVariants.{Num}
use Rattle.model_script.specs.declared.script.ScriptLine.{ScriptLine}
use Rattle.model_store.specs.{HasOldCopies, IsReading, Reading}
use Rattle.model_report.specs.{IsLeft}
use Rattle.model_report.specs.declared.entry.Entry.{Entry}
use Rattle.model_report.specs.declared.entry.State.TheVariants.{Lost, Flushed}
use Rattle.model_theorem.specs.Older.{HeldOlder}
use Rattle.model_theorem.specs.Run.{IsOpenedBefore, IsPrefixRead, IsRun, LosesOnlyByFailure, misfit_on, Opened, Ran, entries_of}

-- REFUSED.

-- the only group was printed as flushed, and what was read afterwards ends below it
pub record LacksFlushedGroup (run : Ran) (reading : Reading) : Type 0 where
  pub entry : Entry
  pub only : run.entries ≡ entry ∷ []
  pub flushed : entry.state ≡ Flushed
  pub lacks : reading.end < entry.end

-- two groups were printed, of which the second doesn't start where the first ends
pub record HasGap (run : Ran) : Type 0 where
  pub first : Entry
  pub second : Entry
  pub both : run.entries ≡ first ∷ second ∷ []
  pub gap : second.start ≢ first.end

-- at the log device's last good sync its header and its newest checkpoint were those that were found
pub record IsStillUnopened (shape : Shape) (armed_from crashed_from : Disk) : Type 0 where
  pub head : head_of crashed_from.base ≡ head_of armed_from.base
  pub unmoved : (format : Format) → newest_checkpoint (layout_of format shape) crashed_from.base
      ≡ newest_checkpoint (layout_of format shape) armed_from.base

-- at the log device's last good sync its header was that of a run, and another was found; or that was found, and the
-- newest checkpoint was another
abbrev pub WasOpened : Shape → (armed_from crashed_from : Disk) → Type 0
WasOpened shape armed_from crashed_from =
    ((head_of crashed_from.base ≡ Good (run_format shape) shape)
    × (head_of crashed_from.base ≢ head_of armed_from.base))
    ⊎ ((head_of armed_from.base ≡ Good (run_format shape) shape)
    × (newest_checkpoint (run_layout shape) crashed_from.base ≢ newest_checkpoint (run_layout shape) armed_from.base))

-- ADMITTED.

-- The devices hold these bytes after a run that logged nothing: they are read as the store that was
-- opened, and the log ends where the run starts.
pub record ReadsAsOpened (log data_bytes : List ℕ) (opened : Opened) (reading : Reading) : Type 0 where
  pub room : script_end opened.shape (start_after opened.end) [] < LSN_LIMIT
  pub is_read : IsReading log data_bytes reading
  pub old_copies : HasOldCopies data_bytes reading
  pub shape : reading.shape ≡ opened.shape
  pub pages : reading.pages ≡ opened.pages
  pub end : reading.end ≡ start_after opened.end

-- The log device held these bytes when its fuse was armed, with an older checkpoint than is read, which
-- isn't one of format 1.
pub record MovedCheckpoint (found : List ℕ) (opened : Opened) (reading : Reading) : Type 0 where
  pub older : HeldOlder opened.shape reading.number (settled found)
  pub format : reading.format ≢ One

-- the writes are of log blocks, past the header and the checkpoints
abbrev pub AreOfBlocks : List Write → Type 0
AreOfBlocks writes = AllByRecursion (λ (write : Write). HEADER_BYTES ≤ write.at) writes

-- A crash that is tried: this text was read, and it is this script; this store was opened, and this run was told, of which so
-- much is left; so many calls failed. The log device was found so, met the crash so, and kept this; the data device meant
-- these bytes all the time; and this was read.
pub record Tried : Type 0 where
  pub text : List ℕ
  pub script : List ScriptLine
  pub opened : Opened
  pub run : Option Ran
  pub left : List (ℕ × ℕ)
  pub failures : ℕ
  pub found : List ℕ
  pub met : Disk
  pub log : List ℕ
  pub data_bytes : List ℕ
  pub reading : Reading

-- What the crash theorem promises of a run, and of what is read after it, holds of such a one.
pub record IsAdmitted (tried : Tried) : Type 0 where
  pub is_script : script_of tried.text ≡ Ok tried.script
  pub fits : IfSome tried.run (λ run. misfit_on false None tried.opened tried.script ≡ None)
  pub left_is : IsLeft tried.script (entries_of tried.run) tried.left
  pub in_lsn_order : IfSome tried.run (IsRun tried.script tried.opened)
  pub opened_first : IsOpenedBefore tried.opened.shape (settled tried.found) tried.met tried.run
  pub kept : Crashes tried.met (settled tried.log) × Crashes (settled tried.data_bytes) (settled tried.data_bytes)
  pub read_from_devices : IsReading tried.log tried.data_bytes tried.reading
  pub old_copies : HasOldCopies tried.data_bytes tried.reading
  pub first_groups_whole : IsPrefixRead tried.script tried.opened tried.run tried.reading
  pub lost_only_by_failure : LosesOnlyByFailure tried.failures tried.run tried.left

-- a run that starts there and logs nothing
abbrev pub empty_run : ℕ → ℕ → Ran
empty_run start ckpt = record {
  start = start;
  entries = [];
  marks = record { wtail = start; write = start; flushed = start; ckpt = ckpt };
}

-- a line of user 1 that waits for the flush, and writes a byte of page 3
abbrev pub line_of_value : ℕ → ScriptLine
line_of_value value = record { user = 1; mode = 1; items = Num 1 3 100 value ∷ [] }

abbrev pub two_lines : List ScriptLine
two_lines = line_of_value 7 ∷ line_of_value 8 ∷ []

abbrev pub text_of_two : List ℕ
text_of_two = codes "1 f b1 3 100 7\n1 f b1 3 100 8"

abbrev pub text_of_one : List ℕ
text_of_one = codes "1 f b1 3 100 7"

-- a store that was just formatted with the default sizes
abbrev pub new_store : Opened
new_store = record { shape = default_shape; pages = blank_pages default_shape; end = FIRST_DATA_LSN }

-- On a new store, the group of the first of two lines was written, and the sync after it failed: the group is lost, and
-- one line is left.
abbrev pub lost_run : Ran
lost_run = record {
  start = 8204;
  entries = (record { user = 1; k = 0; start = 8204; end = 8210; state = Lost }) ∷ [];
  marks = record { wtail = 8210; write = 8210; flushed = 8204; ckpt = 8192 };
}

abbrev pub lost_crash : (found log : List ℕ) → List Write → (reads data_bytes : List ℕ) → Reading → Tried
lost_crash found log writes reads data_bytes reading = record {
  text = text_of_two;
  script = two_lines;
  opened = new_store;
  run = Some lost_run;
  left = (1, 1) ∷ [];
  failures = 1;
  found = found;
  met = record { base = log; writes = writes; reads = reads };
  log = log;
  data_bytes = data_bytes;
  reading = reading;
}

-- Opening was stopped at the log device's first call.
abbrev pub stopped_crash : (log data_bytes : List ℕ) → Reading → Tried
stopped_crash log data_bytes reading = record {
  text = text_of_one;
  script = line_of_value 7 ∷ [];
  opened = new_store;
  run = None;
  left = (1, 1) ∷ [];
  failures = 1;
  found = log;
  met = settled log;
  log = log;
  data_bytes = data_bytes;
  reading = reading;
}

-- The script is empty, and no call failed.
abbrev pub empty_crash : (found log data_bytes : List ℕ) → Opened → Reading → Tried
empty_crash found log data_bytes opened reading = record {
  text = [];
  script = [];
  opened = opened;
  run = Some (empty_run (start_after opened.end) reading.ckpt);
  left = [];
  failures = 0;
  found = found;
  met = settled log;
  log = log;
  data_bytes = data_bytes;
  reading = reading;
}
