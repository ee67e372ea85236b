-- The calls of both devices, as they end.
use Rattle.std.proofs.Common.{◌≡◌, ◌∙◌, ℕ, Option, Some, None, Ok, Err, sym, ap, subst, arith, length-append}
use Rattle.redo_disk.specs.{Call, EndWith, MakesCalls, MayEndWith, ReadsMayEndWith, Seen}
use Rattle.redo_disk.specs.declared.error.DevError.{DevError}
use Rattle.redo_disk.specs.declared.error.DevError.TheVariants as device
use Rattle.redo_disk.proofs.Calls.{MayEndWith-append}
use Rattle.redo_disk.proofs.Made.{joined_calls, may_end, out_of_memory, weaker_calls}
use Rattle.redo_logdev.specs.Part.{Part as Log}
use Rattle.redo_open.specs.Opening.{OpenResult, IsStarted, OpensLog, log_device_left, data_device_left, log_error_in, data_error_in}
use Rattle.redo_open.specs.Places.{IsPageFault}
use Rattle.redo_recover.specs.{ReadsLog, data_error, data_fault_of, log_error, log_fault_of}
use Rattle.redo_recover.specs.declared.fault.RecFault.{RecFault}
use Rattle.redo_recover.specs.declared.fault.RecFault.TheVariants.{DataDev, NoMemory}
use Rattle.redo_recover.specs.declared.recovered.Recovered.{Recovered}
use Rattle.redo_store.specs.Part.{Part}
use Rattle.redo_open.specs.Devices.{AreCalled, IsSameDevice}

-- an error of the data device, as its fault
pub data_ends : {D : Type 0} {gives : D → Call → D → Type 0} {old new : D} (error : DevError) (fault : RecFault) → fault ≡ data_fault_of error
    → MakesCalls gives old new (EndWith (Some error)) → MakesCalls gives old new (MayEndWith (data_error fault))
data_ends {gives = gives} {old = old} {new = new} device.Failed fault is made =
    subst (λ (f : RecFault). MakesCalls gives old new (MayEndWith (data_error f))) (sym is) (may_end made)
data_ends {gives = gives} {old = old} {new = new} device.NoMemory fault is made =
    subst (λ (f : RecFault). MakesCalls gives old new (MayEndWith (data_error f))) (sym is) (may_end made)

pub log_ends : {D : Type 0} {gives : D → Call → D → Type 0} {old new : D} (error : DevError) (fault : RecFault) → fault ≡ log_fault_of error
    → MakesCalls gives old new (EndWith (Some error)) → MakesCalls gives old new (MayEndWith (log_error fault))
log_ends {gives = gives} {old = old} {new = new} device.Failed fault is made =
    subst (λ (f : RecFault). MakesCalls gives old new (MayEndWith (log_error f))) (sym is) (may_end made)
log_ends {gives = gives} {old = old} {new = new} device.NoMemory fault is made =
    subst (λ (f : RecFault). MakesCalls gives old new (MayEndWith (log_error f))) (sym is) (may_end made)

-- calls that went well, beside a fault of the other device
pub beside_log : {D : Type 0} {gives : D → Call → D → Type 0} {old new : D} (error : DevError) (fault : RecFault) → fault ≡ log_fault_of error
    → MakesCalls gives old new (MayEndWith None) → MakesCalls gives old new (MayEndWith (data_error fault))
beside_log {gives = gives} {old = old} {new = new} device.Failed fault is made =
    subst (λ (f : RecFault). MakesCalls gives old new (MayEndWith (data_error f))) (sym is) made
beside_log {gives = gives} {old = old} {new = new} device.NoMemory fault is made =
    subst (λ (f : RecFault). MakesCalls gives old new (MayEndWith (data_error f))) (sym is) (out_of_memory made)

-- beside a fault of the pages
pub beside_pages : {D : Type 0} {gives : D → Call → D → Type 0} {old new : D} (fault : RecFault) → IsPageFault fault
    → MakesCalls gives old new (MayEndWith None) → MakesCalls gives old new (MayEndWith (log_error fault))
beside_pages DataDev own made = made
beside_pages NoMemory own made = out_of_memory made
beside_pages _ own made = absurd own

-- a run that was started makes no call
started_log : {L D : Type 0} {gives : L → Call → L → Type 0} {old log : L} (data_device : D) (recovered : Recovered)
    (start : ℕ) (result : OpenResult L D)
    → IsStarted log data_device recovered start result → MakesCalls gives old log (MayEndWith None)
    → MakesCalls gives old (log_device_left result) (MayEndWith (log_error_in result))
started_log {gives = gives} {old = old} data_device recovered start (Ok run) is made =
    subst (λ dev. MakesCalls gives old dev (MayEndWith None)) (sym (ap (λ (part : Log _). part.dev) is.log_part)) made
started_log {gives = gives} {old = old} data_device recovered start (Err error) (none, log_is, data_is) made =
    subst (λ (f : RecFault). MakesCalls gives old error.1 (MayEndWith (log_error f))) (sym none)
    (subst (λ dev. MakesCalls gives old dev (MayEndWith (Some device.NoMemory))) (sym log_is) (out_of_memory made))

started_data : {L D : Type 0} {gives : D → Call → D → Type 0} {old : D} (log : L) (data_device : D)
    (recovered : Recovered) (start : ℕ) (result : OpenResult L D)
    → IsStarted log data_device recovered start result → MakesCalls gives old data_device (MayEndWith None)
    → MakesCalls gives old (data_device_left result) (MayEndWith (data_error_in result))
started_data {gives = gives} {old = old} log data_device recovered start (Ok run) is made =
    subst (λ dev. MakesCalls gives old dev (MayEndWith None)) (sym (ap (λ (part : Part _). part.dev) is.data_part)) made
started_data {gives = gives} {old = old} log data_device recovered start (Err error) (none, log_is, data_is) made =
    subst (λ (f : RecFault). MakesCalls gives old error.2 (MayEndWith (data_error f))) (sym none)
    (subst (λ dev. MakesCalls gives old dev (MayEndWith (Some device.NoMemory))) (sym data_is) (out_of_memory made))

-- and has the devices that were handed in
started-log : {L D : Type 0} (log : L) (data_device : D) (recovered : Recovered) (start : ℕ) (result : OpenResult L D)
    → IsStarted log data_device recovered start result → log_device_left result ≡ log
started-log log data_device recovered start (Ok run) is = ap (λ (part : Log _). part.dev) is.log_part
started-log log data_device recovered start (Err error) is = is.1

started-data : {L D : Type 0} (log : L) (data_device : D) (recovered : Recovered) (start : ℕ) (result : OpenResult L D)
    → IsStarted log data_device recovered start result → data_device_left result ≡ data_device
started-data log data_device recovered start (Ok run) is = ap (λ (part : Part _). part.dev) is.data_part
started-data log data_device recovered start (Err error) is = is.2

pub started_called : {L D : Type 0} {log_gives : L → Call → L → Type 0} {data_gives : D → Call → D → Type 0} (log_seen : L → Seen) (data_seen : D → Seen) (log_old : L) (data_old : D)
    (log : L) (data_device : D) (recovered : Recovered) (start : ℕ) (result : OpenResult L D)
    → IsStarted log data_device recovered start result
    → AreCalled log_seen data_seen log_gives data_gives (MayEndWith None) (MayEndWith None) log_old log data_old
    data_device
    → AreCalled log_seen data_seen log_gives data_gives (MayEndWith (log_error_in result)) (MayEndWith (data_error_in result)) log_old (log_device_left result) data_old (data_device_left result)
started_called log_seen data_seen log_old data_old log data_device recovered start result is called = record {
  log = subst (λ dev. IsSameDevice (log_seen log_old) (log_seen dev))
      (sym (started-log log data_device recovered start result is)) called.log;
  data_device = subst (λ dev. IsSameDevice (data_seen data_old) (data_seen dev))
      (sym (started-data log data_device recovered start result is)) called.data_device;
  log_calls = started_log data_device recovered start result is called.log_calls;
  data_calls = started_data log data_device recovered start result is called.data_calls;
}

-- calls, and others after them that may run out of memory
pub may_end_then : {D : Type 0} {gives : D → Call → D → Type 0} {old middle new : D} {error : Option DevError}
    → MakesCalls gives old middle (MayEndWith None) → MakesCalls gives middle new (MayEndWith error) → MakesCalls gives old new (MayEndWith error)
may_end_then {error = error} = joined_calls (MayEndWith-append error)

-- calls of both devices that went well, and others after them
pub called_then : {L D : Type 0} {log_seen : L → Seen} {data_seen : D → Seen} {log_gives : L → Call → L → Type 0}
    {data_gives : D → Call → D → Type 0} {log_error data_error : Option DevError}
    {log_old log_mid log_new : L} {data_old data_mid data_new : D}
    → AreCalled log_seen data_seen log_gives data_gives (MayEndWith None) (MayEndWith None) log_old log_mid data_old
    data_mid
    → AreCalled log_seen data_seen log_gives data_gives (MayEndWith log_error) (MayEndWith data_error) log_mid log_new
    data_mid data_new
    → AreCalled log_seen data_seen log_gives data_gives (MayEndWith log_error) (MayEndWith data_error) log_old log_new
    data_old data_new
called_then first then = record {
  log = record { size = then.log.size ∙ first.log.size; later = omega (arith, first.log.later, then.log.later) };
  data_device = record {
    size = then.data_device.size ∙ first.data_device.size;
    later = omega
        (arith, first.data_device.later, then.data_device.later);
  };
  log_calls = may_end_then first.log_calls then.log_calls;
  data_calls = may_end_then first.data_calls then.data_calls;
}

-- recovery read the device, and this is how it may have ended
pub reads_end : {D : Type 0} {gives : D → Call → D → Type 0} {old new : D} {error : Option DevError}
    → MakesCalls gives old new (ReadsMayEndWith error) → MakesCalls gives old new (MayEndWith error)
reads_end = weaker_calls (λ calls are. are.ends)

-- THE LOG DEVICE, which was read first.

pub opens_log : {D : Type 0} {gives : D → Call → D → Type 0} {old new : D} {size : ℕ} {error : Option DevError}
    → MakesCalls gives old new (ReadsLog size error) → MakesCalls gives old new (OpensLog size error)
opens_log = weaker_calls (λ calls are. record { ends = are.reads.ends; begun = are.begun })

pub opens_then : {D : Type 0} {gives : D → Call → D → Type 0} {old middle new : D} {size : ℕ} {error : Option DevError}
    → MakesCalls gives old middle (ReadsLog size None) → MakesCalls gives middle new (MayEndWith error) → MakesCalls gives old new (OpensLog size error)
opens_then {error = error} = joined_calls (λ xs ys one other. record {
  ends = MayEndWith-append error xs ys one.reads.ends other;
  begun = λ room. (let some = one.begun room in omega (arith, length-append xs ys, some));
})
