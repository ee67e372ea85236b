-- What recovery says of the devices that it reads, and of the ways in which it may end.
-- A device that is read and not written, and the error that it may have answered.
use Rattle.std.specs.Prelude.{ℕ, ◌≡◌, ◌≤◌, ◌<◌, List, Option, Some, None, IfSome, length, Result, Ok, Err}
use Rattle.model_device.specs.{Disk}
use Rattle.model_log.specs.declared.layout.Layout.{Layout}
use Rattle.model_store.specs.{Refuses, Source, taken}
use Rattle.model_store.specs.declared.refusal.Refusal.{Refusal}
use Rattle.model_store.specs.declared.refusal.Refusal.TheVariants as refusal
use Rattle.redo_disk.specs.{Seen, StillTells, Call, MakesCalls, ReadsMayEndWith}
use Rattle.redo_disk.specs.declared.error.DevError.{DevError}
use Rattle.redo_disk.specs.declared.error.DevError.TheVariants as device
use Rattle.redo_recover.specs.declared.fault.RecFault.{RecFault}
use Rattle.redo_recover.specs.declared.fault.RecFault.TheVariants.{SmallLog, NotFormatted, BadFormat, SmallData, NoCheckpoint, BadRecord, PageLost, PageAhead, LogDev, DataDev, NoMemory}
use Rattle.model_base.specs.{HasRisen}
use Rattle.model_log.specs.declared.layout.TheConstants.{HEADER_BYTES}

-- The device tells what it told before, if it still tells, and of its last crash what it told; its count of faults hasn't fallen.
pub record IsUnchanged (old new : Seen) : Type 0 where
  pub tells : StillTells old.tells new.tells
  pub crashed_from : new.crashed_from ≡ old.crashed_from
  pub size : new.size ≡ old.size
  pub later : old.faults ≤ new.faults

-- a device as it was, with what it tells after it was read
abbrev pub reread : Seen → Seen → Seen
reread old new = record old { tells = new.tells }

-- what reads of the device give has this property, where it tells
abbrev pub OnContent : Option Disk → (List ℕ → Type 0) → Type 0
OnContent told P = IfSome told (λ disk. P disk.reads)

-- what the scan takes of it has this property
abbrev pub OnSource : Layout → Option Disk → (Source → Type 0) → Type 0
OnSource layout told P = OnContent told (λ content. P (taken layout content))

-- what reads of the two devices give has this property, where both tell
abbrev pub OnContents : Option Disk → Option Disk → (List ℕ → List ℕ → Type 0) → Type 0
OnContents log data_told P = OnContent log (λ log_bytes. OnContent data_told (λ data_bytes. P log_bytes data_bytes))

-- the cause for which a store is refused, unless a device failed or memory ran out
abbrev pub refusal_of : RecFault → Option Refusal
refusal_of (SmallLog n) = Some (refusal.SmallLog n)
refusal_of NotFormatted = Some refusal.NotFormatted
refusal_of (BadFormat n) = Some (refusal.BadFormat n)
refusal_of (SmallData n) = Some (refusal.SmallData n)
refusal_of NoCheckpoint = Some refusal.NoCheckpoint
refusal_of (BadRecord lsn) = Some (refusal.BadRecord lsn)
refusal_of (PageLost p) = Some (refusal.PageLost p)
refusal_of (PageAhead p lsn) = Some (refusal.PageAhead p lsn)
refusal_of LogDev = None
refusal_of DataDev = None
refusal_of NoMemory = None

-- a fault that names a cause has it: the contents are refused for that cause, where both devices tell
abbrev pub HasCauseIn : Option Disk → Option Disk → RecFault → Type 0
HasCauseIn log data_told fault =
    IfSome (refusal_of fault) (λ cause. OnContents log data_told (λ log_bytes data_bytes. Refuses log_bytes data_bytes cause))

-- a device that is answered to be too short is so, whatever the devices tell
abbrev pub HasLengthCause : ℕ → ℕ → RecFault → Type 0
HasLengthCause log_size data_size (SmallLog n) = log_size < n
HasLengthCause log_size data_size (SmallData n) = data_size < n
HasLengthCause log_size data_size _ = Unit {0}

-- the fault of a program whose log device answered this
abbrev pub log_fault_of : DevError → RecFault
log_fault_of device.Failed = LogDev
log_fault_of device.NoMemory = NoMemory

-- the same of the data device
abbrev pub data_fault_of : DevError → RecFault
data_fault_of device.Failed = DataDev
data_fault_of device.NoMemory = NoMemory

-- the device means what it meant, such calls were made of it, and a failure is counted
pub record IsReadBy {D : Type 0} (Are : List Call → Type 0) (seen : D → Seen) (gives : D → Call → D → Type 0) (old : D) (error : Option DevError) (new : D) : Type 0 where
  pub unchanged : IsUnchanged (seen old) (seen new)
  pub calls : MakesCalls gives old new Are
  pub failed : error ≡ Some device.Failed → HasRisen (seen old).faults (seen new).faults

-- THE DEVICE WAS READ AND NOTHING ELSE. All calls but the last answered Ok, and the last one answered this error, if any did;
-- where memory ran out they may all have answered Ok.
abbrev pub IsOnlyRead : {D : Type 0} → (D → Seen) → (D → Call → D → Type 0) → D → Option DevError → D → Type 0
IsOnlyRead seen gives old error new = IsReadBy (ReadsMayEndWith error) seen gives old error new

-- the calls of a log device of this size: where it has room for a header, there is at least one
pub record ReadsLog (size : ℕ) (error : Option DevError) (calls : List Call) : Type 0 where
  pub reads : ReadsMayEndWith error calls
  pub begun : HEADER_BYTES ≤ size → 0 < length calls

-- the same of a log device
abbrev pub IsLogRead : {D : Type 0} → (D → Seen) → (D → Call → D → Type 0) → D → Option DevError → D → Type 0
IsLogRead seen gives old error new = IsReadBy (ReadsLog (seen old).size error) seen gives old error new

-- the error that the log device may have answered where this is the fault
abbrev pub log_error : RecFault → Option DevError
log_error LogDev = Some device.Failed
log_error NoMemory = Some device.NoMemory
log_error fault = None

-- the same of the data device
abbrev pub data_error : RecFault → Option DevError
data_error DataDev = Some device.Failed
data_error NoMemory = Some device.NoMemory
data_error fault = None

abbrev pub log_error_of : {T : Type 0} → Result T RecFault → Option DevError
log_error_of (Ok value) = None
log_error_of (Err fault) = log_error fault

abbrev pub data_error_of : {T : Type 0} → Result T RecFault → Option DevError
data_error_of (Ok value) = None
data_error_of (Err fault) = data_error fault
