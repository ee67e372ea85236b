-- What is known of every store and of every run.
use Rattle.std.specs.Prelude.{ℕ, ◌≡◌, List, Option, Some, None}
use Rattle.model_base.specs.{IsWithinLimits}
use Rattle.model_base.specs.declared.shape.Shape.{Shape}
use Rattle.model_device.specs.{Disk}
use Rattle.model_parts.specs.{formatted_store, IsFormatted, IsOpenable, KeepsOpened}
use Rattle.model_script.specs.{ArchiveFits, first_misfit, ScriptFits}
use Rattle.model_script.specs.declared.script.ScriptLine.{ScriptLine}
use Rattle.model_store.specs.{IsFair, IsFairLog, IsReading, Refuses, Reading}
use Rattle.model_store.specs.declared.refusal.Refusal.{Refusal}
use Rattle.model_theorem.specs.{HeldOlder, IsHeld, IsOpenedBefore, ReadsPrefix}
use Rattle.model_theorem.specs.Closed.{Held}

pub record Laws : Type 0 where
  -- two devices that are read aren't refused, and are read in one way
  pub one_answer : (log store : List ℕ) (reading : Reading) (refusal : Refusal) → IsReading log store reading → Refuses log store refusal → ⊥
  pub one_reading : (log store : List ℕ) (first second : Reading) → IsReading log store first → IsReading log store second → first ≡ second
  -- a store that can be opened is read with its pages; so is one just formatted
  pub openable : (reading : Reading) (log store : Disk) → IsOpenable reading log store → KeepsOpened reading log store
  pub formatted : (shape : Shape) (log store : Disk) → IsWithinLimits shape → IsFormatted shape log store → IsOpenable (formatted_store shape) log store
  -- devices that hold a run are read as a prefix of it, and tell that opening came to its end
  pub held_reads : (held : Held) (log store : List ℕ) → IsHeld held → IsFairLog held.log_disk log → IsFair held.opened.shape held.data_disk store
      → ReadsPrefix held.script held.opened (Some held.run) log store
  pub held_opened : (held : Held) (armed_from : Disk) → IsHeld held → HeldOlder held.opened.shape held.number armed_from
      → IsOpenedBefore held.opened.shape armed_from held.log_disk (Some held.run)
  -- a script that fits has no misfit
  pub no_misfit : (shape : Shape) (start : ℕ) (room_end archive : Option ℕ) (script : List ScriptLine) → ScriptFits shape start room_end script
      → ArchiveFits shape start archive script → first_misfit shape start room_end archive script ≡ None
  -- what stood on a data device at its last good sync is fair
  pub base_fair : (shape : Shape) (disk : Disk) → IsFair shape disk disk.base
