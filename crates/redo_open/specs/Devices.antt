-- Both devices of a store that is ready by a format: opening has put its checkpoint, and each page is in its place.
-- Both devices while a store that was recovered is opened.
use Rattle.std.specs.Prelude.{ℕ, ◌≡◌, ◌+◌, List, Option, IfSome, ◌≤◌, Result, OnOk, OnErr, IfErr, IsErrOf}
use Rattle.model_base.specs.{run_shape, HasRisen}
use Rattle.model_base.specs.declared.shape.Shape.{Shape}
use Rattle.model_device.specs.{sector, settled, Disk}
use Rattle.model_log.specs.{checkpoint_text, place_of}
use Rattle.model_log.specs.declared.head.Format.{Format}
use Rattle.model_log.specs.declared.head.Format.TheVariants.{One, Two, Three}
use Rattle.model_parts.specs.{found_layout, IsCleared, IsFresh, IsPut, numbers_taken, start_block, start_of, IsAtRest, IsUnopened, KeepsOpened}
use Rattle.model_store.specs.{AreFoundIn, IsOrderly, Reading}
use Rattle.model_store.specs.declared.tail.Tail.{Tail}
use Rattle.redo_disk.specs.{Seen, Call, MakesCalls}
use Rattle.redo_open.specs.Places.{HoldsPlaces, IsPageFault}
use Rattle.redo_recover.specs.declared.fault.RecFault.{RecFault}
use Rattle.redo_recover.specs.declared.fault.RecFault.TheVariants.{LogDev, DataDev}

-- the sizes of the store by a format: those that were found, and by format 3 those of a run
abbrev pub shape_by : Format → Shape → Shape
shape_by One shape = shape
shape_by Two shape = shape
shape_by Three shape = run_shape shape

-- a run by these sizes can start on the log device
abbrev pub IsFreshBy : Shape → Reading → Disk → Type 0
IsFreshBy shape opened disk = IsFresh shape (start_of opened) (opened.number + numbers_taken opened.format) disk

-- these bytes of a store of format 1, whose two header blocks are alike, were cleared, and the next checkpoint was put
-- by the
-- layout of that format
pub record IsMarkedFirst (opened : Reading) (log_bytes : List ℕ) (disk : Disk) : Type 0 where
  pub format_is : opened.format ≡ One
  pub alike : sector 2 log_bytes ≡ sector 0 log_bytes
  pub tail : Option Tail
  pub found : AreFoundIn (found_layout opened) log_bytes opened.ckpt opened.views tail
  pub old_log : List ℕ
  pub cleared : IsCleared (found_layout opened) opened.ckpt (start_of opened) tail log_bytes old_log
  pub put : IsPut (place_of (opened.number + 1)) (checkpoint_text (opened.number + 1) (start_block opened)
      (found_layout opened))
      old_log disk.base
  pub nothing_pending : disk ≡ settled disk.base

-- the log device is ready by a format
abbrev pub IsReadyLog : Format → Reading → List ℕ → Disk → Type 0
IsReadyLog One opened log_bytes disk = IsMarkedFirst opened log_bytes disk
IsReadyLog Two opened log_bytes disk = IsFreshBy (shape_by Two opened.shape) opened disk
IsReadyLog Three opened log_bytes disk = IsFreshBy (shape_by Three opened.shape) opened disk

-- Both devices held this store, which was in order, and are ready by a format, where they tell.
pub record IsReadyAt (format : Format) (opened : Reading) (log data_device : Seen)
    (log_bytes data_bytes : List ℕ) : Type 0 where
  pub orderly : IsOrderly log_bytes data_bytes opened
  pub log_ready : IfSome log.tells (IsReadyLog format opened log_bytes)
  pub data_ready : IfSome data_device.tells (HoldsPlaces (shape_by format opened.shape) opened)

-- the device is at rest, and this is what reads give
pub record IsFrom (content : List ℕ) (disk : Disk) : Type 0 where
  pub rests : IsAtRest disk
  pub reads : disk.reads ≡ content

-- where both devices tell what they mean, this holds of the two
abbrev pub WhereBothTell : Option Disk → Option Disk → (Disk → Disk → Type 0) → Type 0
WhereBothTell log data_told R = IfSome log (λ log_disk. IfSome data_told (λ data_disk. R log_disk data_disk))

-- what stood on the log device at its last good sync tells that opening hasn't come to its end
abbrev pub IsNotOpened : Reading → Disk → Type 0
IsNotOpened opened disk = IsUnopened opened.shape opened.number opened.ckpt disk.base

-- the device has its size, and its count of faults hasn't fallen
pub record IsSameDevice (old new : Seen) : Type 0 where
  pub size : new.size ≡ old.size
  pub later : old.faults ≤ new.faults

-- what is so of the two devices whatever is answered: they are the same ones, and got such calls
pub record AreCalled {L D : Type 0} (log_seen : L → Seen) (data_seen : D → Seen) (log_gives : L → Call → L → Type 0) (data_gives : D → Call → D → Type 0)
    (LogCalls DataCalls : List Call → Type 0) (log_old log_new : L) (data_old data_new : D) : Type 0 where
  pub log : IsSameDevice (log_seen log_old) (log_seen log_new)
  pub data_device : IsSameDevice (data_seen data_old) (data_seen data_new)
  pub log_calls : MakesCalls log_gives log_old log_new LogCalls
  pub data_calls : MakesCalls data_gives data_old data_new DataCalls

-- opening ends early after the reading of the store where a device fails or memory runs out, and for nothing else
abbrev pub IsOpenFault : RecFault → Type 0
IsOpenFault LogDev = Unit {0}
IsOpenFault fault = IsPageFault fault

-- The two devices hold a store that is in order and read as this, the last block of its log stands in that tail block or in
-- its place, its two header blocks are alike, and nothing is pending on the data device.
pub record OpensFrom (opened : Reading) (tail : Option Tail) (log data_device : Seen) (log_bytes data_bytes : List ℕ) : Type 0 where
  pub orderly : IsOrderly log_bytes data_bytes opened
  pub found : AreFoundIn (found_layout opened) log_bytes opened.ckpt opened.views tail
  pub alike : sector 2 log_bytes ≡ sector 0 log_bytes
  pub log_from : IfSome log.tells (IsFrom log_bytes)
  pub data_from : IfSome data_device.tells (λ disk. disk ≡ settled data_bytes)

-- At each exit whatever a crash leaves is read with the opened pages, and after Ok the store is ready by the format
-- that was
-- found; where both devices told at first a store that is in order. Until then what stands on the log device tells that
-- it
-- isn't opened.
pub record DevicesStep (opened : Reading) (tail : Option Tail) (log_old data_old : Seen) (result : Result (Unit {0}) RecFault) (log_new data_new : Seen) : Type 0 where
  pub keeps : (log_bytes data_bytes : List ℕ) → OpensFrom opened tail log_old data_old log_bytes data_bytes
      → WhereBothTell log_new.tells data_new.tells (KeepsOpened opened)
  pub ready : (log_bytes data_bytes : List ℕ) → OpensFrom opened tail log_old data_old log_bytes data_bytes
      → OnOk result (IsReadyAt opened.format opened log_new data_new log_bytes data_bytes)
  pub unmoved : (log_bytes data_bytes : List ℕ) → OpensFrom opened tail log_old data_old log_bytes data_bytes
      → OnErr result (IfSome log_new.tells (IsNotOpened opened))
  pub fault : IfErr result IsOpenFault
  pub log_failed : IsErrOf result LogDev → HasRisen log_old.faults log_new.faults
  pub data_failed : IsErrOf result DataDev → HasRisen data_old.faults data_new.faults
