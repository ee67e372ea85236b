-- Formatting both devices: how it may end.
-- Opening a store off two devices that are handed in: what is opened, and what is left of the devices.
use Rattle.std.specs.Prelude.{ℕ, ◌≡◌, ◌≤◌, ◌<◌, ◌⊎◌, Option, Some, None, Result, Ok, Err, ◌≢◌, ◌+◌, ◌%◌, ◌^◌, List, length, IfOk, IfErr, IfSome}
use Rattle.model_base.specs.{HasRisen, run_shape}
use Rattle.model_base.specs.declared.shape.Shape.{Shape}
use Rattle.model_device.specs.{IsWithin, Disk}
use Rattle.model_log.specs.{log_device_length}
use Rattle.model_page.specs.{data_device_length}
use Rattle.redo_disk.specs.{Call, EndWith, MakesCalls, AreReads, MayEndWith, Seen}
use Rattle.redo_disk.specs.declared.error.DevError.{DevError}
use Rattle.redo_disk.specs.declared.error.DevError.TheVariants as device
use Rattle.redo_open.specs.Puts.{ArePuts}
use Rattle.redo_recover.specs.{IsLengthFault, data_error, HasLengthCause, log_error, OnContents, refusal_of}
use Rattle.redo_recover.specs.declared.fault.RecFault.{RecFault}
use Rattle.redo_recover.specs.declared.fault.RecFault.TheVariants.{SmallLog, SmallData, LogDev, DataDev, NoMemory}
use Rattle.model_base.specs.declared.limits.TheConstants.{LSN_LIMIT}
use Rattle.model_parts.specs.{first_marks, first_tails, IsAtRest, IsReady, KeepsOpened, numbers_taken, start_of}
use Rattle.model_store.specs.{IsReading, RefusesToOpen, Reading}
use Rattle.model_store.specs.declared.refusal.Refusal.{Refusal}
use Rattle.model_store.specs.declared.tail.Tail.{Tail}
use Rattle.model_log.specs.declared.layout.TheConstants.{HEADER_BYTES}
use Rattle.redo_open.specs.Devices.{IsNotOpened, IsOpenFault, OpensFrom, WhereBothTell}
use Rattle.redo_store.specs.{IsRunnable}
use Rattle.redo_store.specs.declared.opened.Opened.{Opened}
use Rattle.redo_recover.specs.Devices.{IsUnchanged}
use Rattle.redo_recover.specs.declared.recovered.Recovered.{Recovered}

-- Both devices are as long as the shape asks, or the one that isn't is answered; the log device is judged first.
pub record JudgesLengths (shape : Shape) (log_size data_size : ℕ) (result : Result (Unit {0}) RecFault) : Type 0 where
  pub small_log : log_size < log_device_length shape → result ≡ Err (SmallLog (log_device_length shape))
  pub small_data : log_device_length shape ≤ log_size → data_size < data_device_length shape
      → result ≡ Err (SmallData (data_device_length shape))

-- A fault has its cause, and there are no others than these.
abbrev pub HasFormatCause : Shape → (log data_device log_after data_after : Seen) → RecFault → Type 0
HasFormatCause shape log data_device log_after data_after LogDev = HasRisen log.faults log_after.faults
HasFormatCause shape log data_device log_after data_after DataDev = HasRisen data_device.faults data_after.faults
HasFormatCause shape log data_device log_after data_after NoMemory = Unit {0}
HasFormatCause shape log data_device log_after data_after fault = IsLengthFault shape log.size data_device.size fault

-- the calls of both devices, each up to and with this error
pub record MakesBoth {L D : Type 0} (log_gives : L → Call → L → Type 0) (data_gives : D → Call → D → Type 0) (log_old log_new : L) (data_old data_new : D)
    (log_error data_error : Option DevError) : Type 0 where
  pub log : MakesCalls log_gives log_old log_new (EndWith log_error)
  pub data_device : MakesCalls data_gives data_old data_new (EndWith data_error)

-- None of the calls is a read, and no write reaches beyond the lengths that a store of this shape has.
pub record WritesInside {L D : Type 0} (log_gives : L → Call → L → Type 0) (data_gives : D → Call → D → Type 0) (shape : Shape) (log_old log_new : L) (data_old data_new : D) : Type 0 where
  pub log : MakesCalls log_gives log_old log_new (ArePuts (IsWithin (log_device_length shape)))
  pub data_device : MakesCalls data_gives data_old data_new (ArePuts (IsWithin (data_device_length shape)))

-- Every call answered Ok but the one for which formatting ended, which was the last. Where a device is too short there is
-- no call.
abbrev pub FormatCalls : {L D : Type 0} → (L → Call → L → Type 0) → (D → Call → D → Type 0) → L → L → D → D → Result (Unit {0}) RecFault → Type 0
FormatCalls log_gives data_gives log_old log_new data_old data_new (Ok done) = MakesBoth log_gives data_gives log_old log_new data_old data_new None None
FormatCalls log_gives data_gives log_old log_new data_old data_new (Err LogDev) =
    MakesBoth log_gives data_gives log_old log_new data_old data_new (Some device.Failed) None
FormatCalls log_gives data_gives log_old log_new data_old data_new (Err DataDev) =
    MakesBoth log_gives data_gives log_old log_new data_old data_new None (Some device.Failed)
FormatCalls log_gives data_gives log_old log_new data_old data_new (Err NoMemory) =
    MakesBoth log_gives data_gives log_old log_new data_old data_new (Some device.NoMemory) None
    ⊎ MakesBoth log_gives data_gives log_old log_new data_old data_new None (Some device.NoMemory)
FormatCalls log_gives data_gives log_old log_new data_old data_new (Err fault) = (log_new ≡ log_old) × (data_new ≡ data_old)

-- what opening answers: the opened store, or a fault and the two devices
abbrev pub OpenResult : Type 0 → Type 0 → Type 0
OpenResult L D = Result (Opened L D) (RecFault × L × D)

-- the devices that are left: in the parts of the opened store, or handed back
abbrev pub log_device_left : {L D : Type 0} → OpenResult L D → L
log_device_left (Ok store) = store.log.dev
log_device_left (Err error) = error.1

abbrev pub data_device_left : {L D : Type 0} → OpenResult L D → D
data_device_left (Ok store) = store.store.dev
data_device_left (Err error) = error.2

-- The store is opened as it was read: with the shape of a run on it and its pages, past its log's end, and under the number of the last
-- checkpoint of opening.
pub record IsOpenedAs {L D : Type 0} (reading : Reading) (store : Opened L D) : Type 0 where
  pub shape : store.shape ≡ run_shape reading.shape
  pub start : store.start ≡ start_of reading
  pub pages : store.pages ≡ reading.pages
  pub number : store.log.marks.number ≡ (reading.number + numbers_taken reading.format) % 2 ^ 64

-- what these bytes are read as, where the data device has room for a run on it
pub record IsOpeningOf {L D : Type 0} (log_bytes data_bytes : List ℕ) (store : Opened L D) : Type 0 where
  pub reading : Reading
  pub is_read : IsReading log_bytes data_bytes reading
  pub opened : IsOpenedAs reading store
  pub room : data_device_length store.shape ≤ length data_bytes

-- A store that was in order: its number hasn't gone round, its run starts below the lsn limit, and where both devices tell, both are ready for it.
pub record IsOpenedReady {L D : Type 0} (log_seen : L → Seen) (data_seen : D → Seen) (reading : Reading) (store : Opened L D) : Type 0 where
  pub opened : IsOpenedAs reading store
  pub number : store.log.marks.number ≡ reading.number + numbers_taken reading.format
  pub small : store.start < LSN_LIMIT
  pub ready : WhereBothTell (log_seen store.log.dev).tells (data_seen store.store.dev).tells (IsReady reading)

-- this is so where both devices tell, and what reads give is refused
abbrev pub WhereRefused : Seen → Seen → Type 0 → Type 0
WhereRefused log data_device P = (refusal : Refusal)
    → OnContents log.tells data_device.tells (λ log_bytes data_bytes. RefusesToOpen log_bytes data_bytes refusal → P)

-- this is so where both devices still tell
abbrev pub WhereStillTold : Option Disk → Option Disk → Type 0 → Type 0
WhereStillTold log data_told P = log ≢ None → data_told ≢ None → P

-- a fault that names a cause has it: what the devices hold isn't opened for that cause, where both tell
abbrev pub HasOpeningCauseIn : Option Disk → Option Disk → RecFault → Type 0
HasOpeningCauseIn log data_told fault =
    IfSome (refusal_of fault) (λ cause. OnContents log data_told (λ log_bytes data_bytes. RefusesToOpen log_bytes data_bytes cause))

-- A fault has its cause: the store is refused for it, a device is too short, or that device has failed. A store that is refused
-- is as it was, whatever is answered.
pub record HasFaultCause (log data_device log_after data_after : Seen) (fault : RecFault) : Type 0 where
  pub refused : WhereStillTold log_after.tells data_after.tells (HasOpeningCauseIn log.tells data_device.tells fault)
  pub lengths : HasLengthCause log.size data_device.size fault
  pub kept : WhereStillTold log_after.tells data_after.tells (WhereRefused log data_device (IsUnchanged log log_after × IsUnchanged data_device data_after))
  pub log_failed : fault ≡ LogDev → HasRisen log.faults log_after.faults
  pub data_failed : fault ≡ DataDev → HasRisen data_device.faults data_after.faults

-- A run was started on both devices, with the shape that it has, or memory ran out and they are handed back.
pub record IsRunOn {L D : Type 0} (log : L) (data_device : D) (recovered : Recovered) (start : ℕ)
    (opened : Opened L D) : Type 0 where
  pub shape : opened.shape ≡ run_shape recovered.shape
  pub start_is : opened.start ≡ start
  pub pages : opened.pages ≡ recovered.pages
  pub log_part : opened.log ≡ record {
    dev = log;
    shape = run_shape recovered.shape;
    marks = first_marks start
        ((recovered.number + numbers_taken recovered.format) % 2 ^ 64);
    tails = first_tails start;
    failed = None;
  }
  pub data_part : opened.store ≡ record { dev = data_device; shape = run_shape recovered.shape; failed = None }

abbrev pub IsStarted : {L D : Type 0} → L → D → Recovered → ℕ → OpenResult L D → Type 0
IsStarted log data_device recovered start (Ok opened) = IsRunOn log data_device recovered start opened
IsStarted log data_device recovered start (Err error) = (error.0 ≡ NoMemory) × (error.1 ≡ log) × (error.2 ≡ data_device)

-- the device isn't as it was handed in any more, or nothing was unsynced in it then
abbrev pub IsSyncedSince : Disk → Disk → Type 0
IsSyncedSince entry now = now ≡ entry → IsAtRest entry

-- An orderly store is opened, off devices that were handed in like this. Once both are synced, whatever a crash leaves
-- is read with the opened pages; after Ok a run can start, and until then what stands on the log device tells that it
-- isn't opened.
pub record OpensSafely {L D : Type 0} (log_seen : L → Seen) (data_seen : D → Seen) (opened : Reading)
    (log_entry data_entry : Disk) (result : OpenResult L D) : Type 0 where
  pub keeps : WhereBothTell (log_seen (log_device_left result)).tells (data_seen (data_device_left result)).tells
      (λ l d. IsSyncedSince log_entry l → IsSyncedSince data_entry d → KeepsOpened opened l d)
  pub unmoved : IfErr result (λ error. error.0 ≢ NoMemory → IfSome (log_seen error.1).tells
      (λ l. IsSyncedSince log_entry l → IsNotOpened opened l))
  pub ready : IfOk result (IsOpenedReady log_seen data_seen opened)

-- A store that was recovered as this is opened, however its devices were handed in.
pub record OpensRecovered {L D : Type 0} (log_seen : L → Seen) (data_seen : D → Seen) (opened : Reading) (tail : Option Tail) (log_old data_old : Seen) (result : OpenResult L D) : Type 0 where
  pub safely : (log_bytes data_bytes : List ℕ) → OpensFrom opened tail log_old data_old log_bytes data_bytes
      → (log_entry data_entry : Disk) → OpensSafely log_seen data_seen opened log_entry data_entry result
  pub opened_as : IfOk result (IsOpenedAs opened)
  pub runnable : IfOk result IsRunnable
  pub fault : IfErr result (λ error. IsOpenFault error.0)
  pub log_failed : IfErr result (λ error. error.0 ≡ LogDev → HasRisen log_old.faults (log_seen error.1).faults)
  pub data_failed : IfErr result (λ error. error.0 ≡ DataDev → HasRisen data_old.faults (data_seen error.2).faults)

-- the error that the log device may have answered, and the data device
abbrev pub log_error_in : {L D : Type 0} → OpenResult L D → Option DevError
log_error_in (Ok store) = None
log_error_in (Err error) = log_error error.0

abbrev pub data_error_in : {L D : Type 0} → OpenResult L D → Option DevError
data_error_in (Ok store) = None
data_error_in (Err error) = data_error error.0

-- The calls of a log device of this size: they end so, and where it has room for a header, there is at least one.
pub record OpensLog (size : ℕ) (error : Option DevError) (calls : List Call) : Type 0 where
  pub ends : MayEndWith error calls
  pub begun : HEADER_BYTES ≤ size → 0 < length calls

-- Both devices are read, and after that no call is a read, and no write reaches beyond the lengths that a store of this
-- shape has.
pub record ReadsThenWrites {L D : Type 0} (log_gives : L → Call → L → Type 0) (data_gives : D → Call → D → Type 0) (shape : Shape) (log_old log_new : L) (data_old data_new : D) : Type 0 where
  pub log_read : L
  pub data_read : D
  pub log : MakesCalls log_gives log_old log_read AreReads
  pub data_device : MakesCalls data_gives data_old data_read AreReads
  pub inside : WritesInside log_gives data_gives shape log_read log_new data_read data_new

-- NOTHING OUTSIDE THE STORE IS WRITTEN, by the shape of a run on what reads give, and by the one that is opened.
pub record OpensInside {L D : Type 0} (log_gives : L → Call → L → Type 0) (data_gives : D → Call → D → Type 0) (log_told data_told log_now data_now : Option Disk) (log : L) (data_device : D)
    (result : OpenResult L D) : Type 0 where
  pub read : WhereStillTold log_now data_now ((reading : Reading) → OnContents log_told data_told (λ log_bytes data_bytes. IsReading log_bytes data_bytes reading
      → ReadsThenWrites log_gives data_gives (run_shape reading.shape) log (log_device_left result) data_device (data_device_left result)))
  pub opened : IfOk result (λ store. ReadsThenWrites log_gives data_gives store.shape log store.log.dev data_device store.store.dev)
