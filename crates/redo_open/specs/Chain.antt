-- Both devices on the way of a store to the format of runs, link by link.
use Rattle.std.specs.Prelude.{ℕ, List, Option, Some, None, Result, OnOk, OnErr, IfErr, IfSome, IsErrOf}
use Rattle.model_base.specs.{HasRisen}
use Rattle.model_log.specs.declared.head.Format.{Format}
use Rattle.model_log.specs.declared.head.Format.TheVariants.{One, Two, Three}
use Rattle.model_parts.specs.{KeepsOpened}
use Rattle.model_store.specs.{Reading}
use Rattle.redo_disk.specs.{Seen}
use Rattle.redo_open.specs.Devices.{IsNotOpened, IsOpenFault, WhereBothTell, IsReadyAt}
use Rattle.redo_recover.specs.declared.fault.RecFault.{RecFault}
use Rattle.redo_recover.specs.declared.fault.RecFault.TheVariants.{LogDev, DataDev}

-- the format that comes after this one
abbrev pub next_format : Format → Option Format
next_format One = Some Two
next_format Two = Some Three
next_format Three = None

-- how many formats come after this one
abbrev pub formats_after : Format → ℕ
formats_after One = 2
formats_after Two = 1
formats_after Three = 0

-- What is done to a store that is ready by one format, to take it to another. At each exit whatever a crash leaves is
-- read
-- with the opened pages, and after Ok the store is ready by the other. Until then what stands on the log device tells
-- that it isn't opened.
pub record LinkStep (from to : Format) (opened : Reading) (log_old data_old : Seen) (result : Result
    (Unit {0}) RecFault)
    (log_new data_new : Seen) : Type 0 where
  pub keeps : (log_bytes data_bytes : List ℕ) → IsReadyAt from opened log_old data_old log_bytes data_bytes
      → WhereBothTell log_new.tells data_new.tells (KeepsOpened opened)
  pub ok : (log_bytes data_bytes : List ℕ) → IsReadyAt from opened log_old data_old log_bytes data_bytes
      → OnOk result (IsReadyAt to opened log_new data_new log_bytes data_bytes)
  pub unmoved : (log_bytes data_bytes : List ℕ) → IsReadyAt from opened log_old data_old log_bytes data_bytes
      → OnErr result (IfSome log_new.tells (IsNotOpened opened))
  pub fault : IfErr result IsOpenFault
  pub log_failed : IsErrOf result LogDev → HasRisen log_old.faults log_new.faults
  pub data_failed : IsErrOf result DataDev → HasRisen data_old.faults data_new.faults
