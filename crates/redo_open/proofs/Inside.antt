-- Writes that lie within the lengths of a store.
use Rattle.std.proofs.Common.{◌≡◌, ◌≤◌, ◌+◌, ℕ, length, replicate, Option, Some, None, Ok, Err, sym, ap, subst, ⊎_elim, arith}
use Rattle.std.specs.Prelude.{IfOk}
use Rattle.std.proofs.Math.Nat.{mul-le-mul_right}
use Rattle.model_base.specs.{IsWithinLimits, run_shape}
use Rattle.model_base.specs.declared.shape.Shape.{Shape}
use Rattle.model_device.specs.{IsWithin, Disk}
use Rattle.model_page.specs.{data_device_length}
use Rattle.model_device.specs.declared.write.Write.{Write}
use Rattle.model_log.proofs.Several.{one_group}
use Rattle.model_store.proofs.OneReading.{same_reading}
use Rattle.model_store.specs.{IsReading, Reading}
use Rattle.redo_disk.proofs.Made.{joined_calls, weaker_calls}
use Rattle.redo_disk.specs.{AreReads, Call, EndWith, MakesCalls, ReadsMayEndWith}
use Rattle.redo_disk.specs.declared.error.DevError.{DevError}
use Rattle.redo_open.proofs.Erases.{zeros_write}
use Rattle.redo_open.proofs.Puts.{put-weaker, puts-append}
use Rattle.redo_open.proofs.Rows.{length-zeros}
use Rattle.redo_logdev.specs.Part.{Part as Log}
use Rattle.redo_open.specs.Opening.{WritesInside, OpenResult, IsOpenedAs, IsStarted, OpensInside, ReadsThenWrites, log_device_left, data_device_left, WhereStillTold}
use Rattle.redo_open.specs.Puts.{ArePuts, PutsWhere}
use Rattle.redo_recover.specs.{OnContents, ReadsLog}
use Rattle.redo_recover.specs.declared.fault.RecFault.{RecFault}
use Rattle.redo_recover.specs.declared.recovered.Recovered.{Recovered}
use Rattle.redo_store.specs.Part.{Part}

-- what lies within some bytes lies within more
pub within-longer : (few many : ℕ) → few ≤ many → (write : Write) → IsWithin few write → IsWithin many write
within-longer few many more write inside = omega (arith, more, inside)

-- a write of zeros lies within so many bytes
pub zeros-within : (end at count : ℕ) → at + count ≤ end → IsWithin end (zeros_write at count)
zeros-within end at count inside =
    let long : length (replicate {A = ℕ} count 0) ≡ count = length-zeros count in omega (arith, long, inside)

-- what is told of such calls apart: which they are, and how they end
pub puts_of : {D : Type 0} {gives : D → Call → D → Type 0} {old new : D} {IsSuch : Write → Type 0} {error : Option DevError}
    → MakesCalls gives old new (PutsWhere IsSuch error) → MakesCalls gives old new (ArePuts IsSuch)
puts_of = weaker_calls (λ calls are. are.puts)

-- such calls, and others after them
pub puts_behind : {D : Type 0} {gives : D → Call → D → Type 0} {old middle new : D} {IsSuch : Write → Type 0}
    → MakesCalls gives old middle (ArePuts IsSuch) → MakesCalls gives middle new (ArePuts IsSuch) → MakesCalls gives old new (ArePuts IsSuch)
puts_behind {IsSuch = IsSuch} = joined_calls (puts-append IsSuch)

pub ends_of : {D : Type 0} {gives : D → Call → D → Type 0} {old new : D} {IsSuch : Write → Type 0} {error : Option DevError}
    → MakesCalls gives old new (PutsWhere IsSuch error) → MakesCalls gives old new (EndWith error)
ends_of = weaker_calls (λ calls are. are.ends)

-- OPENING.

-- a store's own slots and places lie within the length that a run asks for
shape-room : (shape : Shape) → IsWithinLimits shape → data_device_length shape ≤ data_device_length (run_shape shape)
shape-room shape limits =
    mul-le-mul_right shape.page_size
    (⊎_elim (λ slots. omega (arith, slots)) (λ early. omega (arith, early.slots)) limits.slots)

-- what lies within them does so too
pub inside_run : {L D : Type 0} {log_gives : L → Call → L → Type 0} {data_gives : D → Call → D → Type 0}
    {log_old log_new : L} {data_old data_new : D} (shape : Shape)
    → IsWithinLimits shape → WritesInside log_gives data_gives shape log_old log_new data_old data_new
    → WritesInside log_gives data_gives (run_shape shape) log_old log_new data_old data_new
inside_run shape limits made = record {
  log = made.log;
  data_device = weaker_calls
      (put-weaker (IsWithin (data_device_length shape)) (IsWithin (data_device_length (run_shape shape)))
      (within-longer (data_device_length shape) (data_device_length (run_shape shape)) (shape-room shape limits)))
      made.data_device;
}

-- calls of both devices, and others after them
pub inside_behind : {L D : Type 0} {log_gives : L → Call → L → Type 0} {data_gives : D → Call → D → Type 0}
    {shape : Shape} {log_old log_mid log_new : L} {data_old data_mid data_new : D}
    → WritesInside log_gives data_gives shape log_old log_mid data_old data_mid
    → WritesInside log_gives data_gives shape log_mid log_new data_mid data_new
    → WritesInside log_gives data_gives shape log_old log_new data_old data_new
inside_behind first then = record {
  log = puts_behind first.log then.log;
  data_device = puts_behind first.data_device
      then.data_device;
}

-- a run that was started makes no call
pub started_inside : {L D : Type 0} {log_gives : L → Call → L → Type 0} {data_gives : D → Call → D → Type 0}
    {shape : Shape} {log_old : L} {data_old : D} (log : L) (data_device : D)
    (recovered : Recovered) (start : ℕ) (result : OpenResult L D) → IsStarted log data_device recovered start result
    → WritesInside log_gives data_gives shape log_old log data_old data_device
    → WritesInside log_gives data_gives shape log_old (log_device_left result) data_old (data_device_left result)
started_inside {log_gives = log_gives} {data_gives = data_gives} {shape = shape} {log_old = log_old}
    {data_old = data_old} log data_device recovered start (Ok run) is made =
    subst (λ dev. WritesInside log_gives data_gives shape log_old dev data_old run.store.dev) (sym (ap (λ (part : Log _). part.dev) is.log_part))
    (subst (λ dev. WritesInside log_gives data_gives shape log_old log data_old dev) (sym (ap (λ (part : Part _). part.dev) is.data_part)) made)
started_inside {log_gives = log_gives} {data_gives = data_gives} {shape = shape} {log_old = log_old}
    {data_old = data_old} log data_device recovered start (Err error) (none, log_is, data_is) made =
    subst (λ dev. WritesInside log_gives data_gives shape log_old dev data_old error.2) (sym log_is)
    (subst (λ dev. WritesInside log_gives data_gives shape log_old log data_old dev) (sym data_is) made)

-- the calls of recovery are reads
pub log_reads : {D : Type 0} {gives : D → Call → D → Type 0} {old new : D} {size : ℕ} {error : Option DevError}
    → MakesCalls gives old new (ReadsLog size error) → MakesCalls gives old new AreReads
log_reads = weaker_calls (λ calls are. are.reads.reads)

pub data_reads : {D : Type 0} {gives : D → Call → D → Type 0} {old new : D} {error : Option DevError}
    → MakesCalls gives old new (ReadsMayEndWith error) → MakesCalls gives old new AreReads
data_reads = weaker_calls (λ calls are. are.reads)

-- what holds whatever the store is read as
whatever-read : (log_told data_told : Option Disk) (reading : Reading) (Q : Shape → Type 0) → Q reading.shape
    → OnContents log_told data_told (λ log_bytes data_bytes. IsReading log_bytes data_bytes reading → Q reading.shape)
whatever-read None data_told reading Q holds = tt
whatever-read (Some l) None reading Q holds = tt
whatever-read (Some l) (Some d) reading Q holds = λ is. holds

-- what holds of the one reading of the store
as-read : (log_told data_told : Option Disk) (reading read : Reading) (Q : Shape → Type 0) → OnContents log_told data_told (λ log_bytes data_bytes. IsReading log_bytes data_bytes read)
    → Q read.shape → OnContents log_told data_told (λ log_bytes data_bytes. IsReading log_bytes data_bytes reading → Q reading.shape)
as-read None data_told reading read Q reads holds = tt
as-read (Some l) None reading read Q reads holds = tt
as-read (Some l) (Some d) reading read Q reads holds =
    λ is. subst (λ (one : Reading). Q one.shape) (sym (same_reading one_group l.reads d.reads reading read is reads)) holds

-- the store wasn't opened, and by any shape nothing was written
pub unopened-inside : {L D : Type 0} (log_gives : L → Call → L → Type 0) (data_gives : D → Call → D → Type 0) (log_told data_told log_now data_now : Option Disk) (log : L) (data_device : D)
    (error : RecFault × L × D) → ((shape : Shape) → ReadsThenWrites log_gives data_gives shape log error.1 data_device error.2)
    → OpensInside log_gives data_gives log_told data_told log_now data_now log data_device (Err error)
unopened-inside log_gives data_gives log_told data_told log_now data_now log data_device error inside = record {
  read = λ log_still data_still reading. whatever-read log_told data_told reading
      (λ shape. ReadsThenWrites log_gives data_gives (run_shape shape) log error.1 data_device error.2)
      (inside (run_shape reading.shape));
  opened = tt;
}

opened-inside : {L D : Type 0} (log_gives : L → Call → L → Type 0) (data_gives : D → Call → D → Type 0) (log : L) (data_device : D) (result : OpenResult L D) (read : Reading)
    → IfOk result (IsOpenedAs read) → ReadsThenWrites log_gives data_gives (run_shape read.shape) log
    (log_device_left result) data_device (data_device_left result)
    → IfOk result (λ store. ReadsThenWrites log_gives data_gives store.shape log store.log.dev data_device store.store.dev)
opened-inside log_gives data_gives log data_device (Ok store) read opened inside =
    subst (λ shape. ReadsThenWrites log_gives data_gives shape log store.log.dev data_device store.store.dev) (sym opened.shape) inside
opened-inside log_gives data_gives log data_device (Err error) read opened inside = tt

-- the store was read, and what was written then lies inside by the shape of a run on it
pub read-inside : {L D : Type 0} (log_gives : L → Call → L → Type 0) (data_gives : D → Call → D → Type 0) (log_told data_told log_now data_now : Option Disk) (log : L) (data_device : D)
    (result : OpenResult L D) (read : Reading) → WhereStillTold log_now data_now (OnContents log_told data_told (λ log_bytes data_bytes. IsReading log_bytes data_bytes read)) → IfOk result (IsOpenedAs read)
    → ReadsThenWrites log_gives data_gives (run_shape read.shape) log (log_device_left result) data_device
    (data_device_left result)
    → OpensInside log_gives data_gives log_told data_told log_now data_now log data_device result
read-inside log_gives data_gives log_told data_told log_now data_now log data_device result read reads opened inside = record {
  read = λ log_still data_still reading. as-read log_told data_told reading read
      (λ shape. ReadsThenWrites log_gives data_gives (run_shape shape) log (log_device_left result) data_device
      (data_device_left result))
      (reads log_still data_still) inside;
  opened = opened-inside log_gives data_gives log data_device result read opened inside;
}
