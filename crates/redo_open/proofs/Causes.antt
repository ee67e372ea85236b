-- The faults of opening and formatting, with their causes.
use Rattle.std.proofs.Common.{◌≡◌, ℕ, inl, inr, Some, None, Err, refl, sym, ap, subst, arith}
use Rattle.std.specs.Prelude.{IsErrOf}
use Rattle.model_base.specs.{HasRisen}
use Rattle.model_base.specs.declared.shape.Shape.{Shape}
use Rattle.redo_disk.specs.{Call, HasCause, Seen}
use Rattle.redo_disk.specs.declared.error.DevError.{DevError}
use Rattle.redo_disk.specs.declared.error.DevError.TheVariants as device
use Rattle.redo_open.specs.Devices.{IsOpenFault}
use Rattle.redo_open.specs.Opening.{FormatCalls, HasFormatCause, JudgesLengths, MakesBoth}
use Rattle.redo_open.specs.Places.{IsPageFault}
use Rattle.redo_recover.specs.{data_fault_of, IsLengthFault, log_fault_of}
use Rattle.redo_recover.specs.declared.fault.RecFault.{RecFault}
use Rattle.redo_recover.specs.declared.fault.RecFault.TheVariants.{SmallLog, NotFormatted, BadFormat, SmallData, NoCheckpoint, BadRecord, PageLost, PageAhead, LogDev, DataDev, NoMemory}

-- a device that is too short is a cause of its own
pub length-cause : (shape : Shape) (log data_device log_after data_after : Seen) (fault : RecFault) → IsLengthFault shape log.size data_device.size fault
    → HasFormatCause shape log data_device log_after data_after fault
length-cause shape log data_device log_after data_after (SmallLog n) is = is
length-cause shape log data_device log_after data_after (SmallData n) is = is
length-cause shape log data_device log_after data_after NotFormatted is = absurd is
length-cause shape log data_device log_after data_after (BadFormat n) is = absurd is
length-cause shape log data_device log_after data_after NoCheckpoint is = absurd is
length-cause shape log data_device log_after data_after (BadRecord lsn) is = absurd is
length-cause shape log data_device log_after data_after (PageLost p) is = absurd is
length-cause shape log data_device log_after data_after (PageAhead p lsn) is = absurd is
length-cause shape log data_device log_after data_after LogDev is = absurd is
length-cause shape log data_device log_after data_after DataDev is = absurd is
length-cause shape log data_device log_after data_after NoMemory is = absurd is

pub judges-fault : (shape : Shape) (log_size data_size : ℕ) (fault : RecFault) → IsLengthFault shape log_size data_size fault
    → JudgesLengths shape log_size data_size (Err fault)
judges-fault shape log_size data_size (SmallLog n) is = record {
  small_log = λ short. ap (λ (k : ℕ). Err (SmallLog k)) is.1;
  small_data = λ long short. absurd (omega (arith, is.0, long));
}
judges-fault shape log_size data_size (SmallData n) is = record {
  small_log = λ short. absurd (omega (arith, is.0, short));
  small_data = λ long short. ap (λ (k : ℕ). Err (SmallData k)) is.2;
}
judges-fault shape log_size data_size NotFormatted is = absurd is
judges-fault shape log_size data_size (BadFormat n) is = absurd is
judges-fault shape log_size data_size NoCheckpoint is = absurd is
judges-fault shape log_size data_size (BadRecord lsn) is = absurd is
judges-fault shape log_size data_size (PageLost p) is = absurd is
judges-fault shape log_size data_size (PageAhead p lsn) is = absurd is
judges-fault shape log_size data_size LogDev is = absurd is
judges-fault shape log_size data_size DataDev is = absurd is
judges-fault shape log_size data_size NoMemory is = absurd is

-- THE FAULTS OF THE DEVICES.

pub log-cause : (error : DevError) (fault : RecFault) → fault ≡ log_fault_of error → IsOpenFault fault
log-cause device.Failed fault is = subst IsOpenFault (sym is) tt
log-cause device.NoMemory fault is = subst IsOpenFault (sym is) tt

pub places-cause : (fault : RecFault) → IsPageFault fault → IsOpenFault fault
places-cause LogDev own = absurd own
places-cause DataDev own = own
places-cause NoMemory own = own
places-cause (PageLost p) own = absurd own
places-cause (SmallLog n) own = absurd own
places-cause (SmallData n) own = absurd own
places-cause NotFormatted own = absurd own
places-cause (BadFormat n) own = absurd own
places-cause NoCheckpoint own = absurd own
places-cause (BadRecord lsn) own = absurd own
places-cause (PageAhead p lsn) own = absurd own

pub log-risen : (before now : ℕ) (error : DevError) (fault : RecFault) → fault ≡ log_fault_of error → HasCause {T = Unit {0}} before now (Err error)
    → IsErrOf {T = Unit {0}} (Err fault) LogDev → HasRisen before now
log-risen before now device.Failed fault is cause failed = cause.failed refl
log-risen before now device.NoMemory fault is cause failed = absurd cc

pub log-not_data : {P : Type 0} (error : DevError) (fault : RecFault) → fault ≡ log_fault_of error → IsErrOf {T = Unit {0}} (Err fault) DataDev → P
log-not_data device.Failed fault is failed = absurd cc
log-not_data device.NoMemory fault is failed = absurd cc

pub places-not_log : {P : Type 0} (fault : RecFault) → IsPageFault fault → IsErrOf {T = Unit {0}} (Err fault) LogDev → P
places-not_log fault own failed = (
    let same : fault ≡ LogDev = cc in
    let none : IsPageFault LogDev = subst IsPageFault same own in
    absurd none)

pub data-cause : (error : DevError) (fault : RecFault) → fault ≡ data_fault_of error → IsOpenFault fault
data-cause device.Failed fault is = subst IsOpenFault (sym is) tt
data-cause device.NoMemory fault is = subst IsOpenFault (sym is) tt

pub data-risen : (before now : ℕ) (error : DevError) (fault : RecFault) → fault ≡ data_fault_of error
    → HasCause {T = Unit {0}} before now (Err error)
    → IsErrOf {T = Unit {0}} (Err fault) DataDev → HasRisen before now
data-risen before now device.Failed fault is cause failed = cause.failed refl
data-risen before now device.NoMemory fault is cause failed = absurd cc

pub data-not_log : {P : Type 0} (error : DevError) (fault : RecFault) → fault ≡ data_fault_of error
    → IsErrOf {T = Unit {0}} (Err fault) LogDev → P
data-not_log device.Failed fault is failed = absurd cc
data-not_log device.NoMemory fault is failed = absurd cc

-- THE FAULTS OF FORMATTING.

pub format-log : (shape : Shape) (log data_device log_after data_after : Seen) (error : DevError) (fault : RecFault) → fault ≡ log_fault_of error
    → HasCause {T = Unit {0}} log.faults log_after.faults (Err error) → HasFormatCause shape log data_device log_after data_after fault
format-log shape log data_device log_after data_after device.Failed fault is cause =
    subst (HasFormatCause shape log data_device log_after data_after) (sym is) (cause.failed refl)
format-log shape log data_device log_after data_after device.NoMemory fault is cause = subst (HasFormatCause shape log data_device log_after data_after) (sym is) tt

pub format-data : (shape : Shape) (log data_device log_after data_after : Seen) (error : DevError) (fault : RecFault) → fault ≡ data_fault_of error
    → HasCause {T = Unit {0}} data_device.faults data_after.faults (Err error) → HasFormatCause shape log data_device log_after data_after fault
format-data shape log data_device log_after data_after device.Failed fault is cause =
    subst (HasFormatCause shape log data_device log_after data_after) (sym is) (cause.failed refl)
format-data shape log data_device log_after data_after device.NoMemory fault is cause = subst (HasFormatCause shape log data_device log_after data_after) (sym is) tt

pub calls-log : {L D : Type 0} (log_gives : L → Call → L → Type 0) (data_gives : D → Call → D → Type 0) (log_old log_new : L) (data_old data_new : D)
    (error : DevError) (fault : RecFault) → fault ≡ log_fault_of error → MakesBoth log_gives data_gives log_old log_new data_old data_new (Some error) None
    → FormatCalls log_gives data_gives log_old log_new data_old data_new (Err fault)
calls-log log_gives data_gives log_old log_new data_old data_new device.Failed fault is made =
    subst (λ (f : RecFault). FormatCalls log_gives data_gives log_old log_new data_old data_new (Err f)) (sym is) made
calls-log log_gives data_gives log_old log_new data_old data_new device.NoMemory fault is made =
    subst (λ (f : RecFault). FormatCalls log_gives data_gives log_old log_new data_old data_new (Err f)) (sym is) (inl made)

pub calls-data : {L D : Type 0} (log_gives : L → Call → L → Type 0) (data_gives : D → Call → D → Type 0) (log_old log_new : L) (data_old data_new : D)
    (error : DevError) (fault : RecFault) → fault ≡ data_fault_of error → MakesBoth log_gives data_gives log_old log_new data_old data_new None (Some error)
    → FormatCalls log_gives data_gives log_old log_new data_old data_new (Err fault)
calls-data log_gives data_gives log_old log_new data_old data_new device.Failed fault is made =
    subst (λ (f : RecFault). FormatCalls log_gives data_gives log_old log_new data_old data_new (Err f)) (sym is) made
calls-data log_gives data_gives log_old log_new data_old data_new device.NoMemory fault is made =
    subst (λ (f : RecFault). FormatCalls log_gives data_gives log_old log_new data_old data_new (Err f)) (sym is) (inr made)

-- no call was made where a device is too short
pub length-calls : {L D : Type 0} (log_gives : L → Call → L → Type 0) (data_gives : D → Call → D → Type 0) (log : L) (data_device : D) (shape : Shape) (log_size data_size : ℕ)
    (fault : RecFault) → IsLengthFault shape log_size data_size fault → FormatCalls log_gives data_gives log log data_device data_device (Err fault)
length-calls log_gives data_gives log data_device shape log_size data_size (SmallLog n) is = (refl, refl)
length-calls log_gives data_gives log data_device shape log_size data_size (SmallData n) is = (refl, refl)
length-calls log_gives data_gives log data_device shape log_size data_size NotFormatted is = absurd is
length-calls log_gives data_gives log data_device shape log_size data_size (BadFormat n) is = absurd is
length-calls log_gives data_gives log data_device shape log_size data_size NoCheckpoint is = absurd is
length-calls log_gives data_gives log data_device shape log_size data_size (BadRecord lsn) is = absurd is
length-calls log_gives data_gives log data_device shape log_size data_size (PageLost p) is = absurd is
length-calls log_gives data_gives log data_device shape log_size data_size (PageAhead p lsn) is = absurd is
length-calls log_gives data_gives log data_device shape log_size data_size LogDev is = absurd is
length-calls log_gives data_gives log data_device shape log_size data_size DataDev is = absurd is
length-calls log_gives data_gives log data_device shape log_size data_size NoMemory is = absurd is
