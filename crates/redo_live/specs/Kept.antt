-- A commit in the history that a store leaves, and among the groups that are read after it.
use Rattle.std.specs.Prelude.{List, Some, map, slice_get, take, ℕ, ◌≡◌, ◌≢◌, ◌≤◌}
use Rattle.model_log.specs.declared.group.Whole.{Whole}
use Rattle.model_report.specs.{entries_of_user, whole_of, wholes_of}
use Rattle.model_report.specs.declared.entry.Entry.{Entry}
use Rattle.model_report.specs.declared.entry.State.TheVariants.{Copied, Flushed, Lost}
use Rattle.model_script.specs.{record_of}
use Rattle.model_script.specs.declared.item.Item.{Item}
use Rattle.model_script.specs.declared.script.ScriptLine.{ScriptLine}
use Rattle.model_store.specs.{Reading}
use Rattle.model_theorem.specs.{Ran}
use Rattle.model_theorem.specs.Run.{first_count}

-- THE COMMIT IS KEPT: the history has it as the k-th one of the user, with the records of these operations as its group
-- and with this end, and it isn't lost; one that waits for the flush (mode 1) is flushed, and one that waits for the
-- write (2) is written.
pub record IsKeptCommit (script : List ScriptLine) (space : ℕ) (history : List Entry) (user k mode : ℕ)
    (items : List Item) (end : ℕ) : Type 0 where
  pub entry : Entry
  pub is : slice_get (entries_of_user user history) k ≡ Some entry
  pub group_is : (whole_of script space entry).group ≡ map (record_of space) items
  pub end_is : entry.end ≡ end
  pub kept : entry.state ≢ Lost
  pub flushed : mode ≡ 1 → entry.state ≡ Flushed
  pub written : mode ≡ 2 → entry.state ≢ Copied

-- THE COMMIT IS READ: it is one of the run's groups that end within what is read, which the pages that are read have
-- applied whole, with the records of these operations as its group and with this end.
pub record IsReadCommit (script : List ScriptLine) (space : ℕ) (run : Ran) (reading : Reading) (items : List Item)
    (end : ℕ) : Type 0 where
  pub place : ℕ
  pub whole : Whole
  pub is : slice_get (take (first_count (Some run) reading.end) (wholes_of script space run.entries)) place ≡ Some whole
  pub group_is : whole.group ≡ map (record_of space) items
  pub end_is : whole.end ≡ end
  pub reached : end ≤ reading.end
