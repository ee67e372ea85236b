-- A store that is opened, from what its devices told at first.
use Rattle.std.proofs.Common.{◌≡◌, ◌∙◌, ◌≤◌, ◌<◌, ℕ, inl, inr, List, length, Option, Some, None, Ok, Err, refl, sym, ap, subst, ⊎_elim, arith}
use Rattle.std.specs.Prelude.{IfErr, IfOk, IfSome}
use Rattle.model_base.specs.{HasRisen, run_shape}
use Rattle.model_base.specs.declared.shape.Shape.{Shape}
use Rattle.model_device.specs.{settled, synced, Disk}
use Rattle.model_parts.specs.{KeepsOpened}
use Rattle.model_log.specs.{log_device_length}
use Rattle.model_page.specs.{data_device_length}
use Rattle.model_log.proofs.Several.{one_group}
use Rattle.model_store.specs.{IsOrderly, IsReading, Refuses, RefusesToOpen, Reading}
use Rattle.model_store.specs.declared.refusal.Refusal.{Refusal}
use Rattle.model_store.specs.declared.refusal.Refusal.TheVariants as refusal
use Rattle.model_store.proofs.OneReading.{same_reading}
use Rattle.model_store.proofs.OneAnswer.{read-not_refused}
use Rattle.redo_disk.specs.{HasCause, HasSize, OnTold, Seen}
use Rattle.redo_disk.specs.declared.error.DevError.{DevError}
use Rattle.redo_disk.specs.declared.error.DevError.TheVariants as device
use Rattle.redo_open.specs.Devices.{IsNotOpened, IsOpenFault, IsSameDevice, WhereBothTell}
use Rattle.redo_open.specs.Opening.{OpenResult, HasFaultCause, HasOpeningCauseIn, IsOpenedAs, IsOpeningOf, OpensSafely, WhereRefused, WhereStillTold, log_device_left, data_device_left}
use Rattle.redo_disk.proofs.Told.{told-step}
use Rattle.redo_open.proofs.Entry.{keeps-anyway, unmoved-anyway}
use Rattle.redo_open.proofs.Told.{risen-since}
use Rattle.redo_recover.specs.{data_error, data_fault_of, HasCauseIn, HasLengthCause, IsLengthFault, IsUnchanged, log_error, log_fault_of, OnContents, refusal_of}
use Rattle.redo_recover.specs.Devices.{OnContent}
use Rattle.redo_recover.specs.declared.fault.RecFault.{RecFault}
use Rattle.redo_recover.specs.declared.fault.RecFault.TheVariants.{SmallLog, NotFormatted, BadFormat, SmallData, NoCheckpoint, BadRecord, PageLost, PageAhead, LogDev, DataDev, NoMemory}

-- A STORE THAT ISN'T OPENED, of which it is known that the pages are kept.

pub err-safely : {L D : Type 0} (log_seen : L → Seen) (data_seen : D → Seen) (opened : Reading)
    (log data_told : Option Disk) (error : RecFault × L × D)
    → WhereBothTell log data_told (λ l d. IsOrderly l.reads d.reads opened
    → WhereBothTell (log_seen error.1).tells (data_seen error.2).tells (KeepsOpened opened))
    → WhereBothTell log data_told (λ l d. IsOrderly l.reads d.reads opened
    → IfSome (log_seen error.1).tells (IsNotOpened opened))
    → WhereBothTell log data_told (λ l d. IsOrderly l.reads d.reads opened
    → OpensSafely log_seen data_seen opened l d (Err error))
err-safely log_seen data_seen opened None data_told error keeps unmoved = tt
err-safely log_seen data_seen opened (Some l) None error keeps unmoved = tt
err-safely log_seen data_seen opened (Some l) (Some d) error keeps unmoved = λ orderly. record {
  keeps = keeps-anyway opened l d (log_seen error.1).tells (data_seen error.2).tells (keeps orderly);
  unmoved = λ other. unmoved-anyway opened l (log_seen error.1).tells (unmoved orderly);
  ready = tt;
}

-- ONCE THE STORE IS READ, and its devices synced.

pub tells-synced : (told mid : Option Disk) (l : Disk) → told ≡ Some l → OnTold told mid (λ old new. new ≡ synced old)
    → mid ≡ Some (settled l.reads)
tells-synced told mid l is synced_as =
    let there : OnTold (Some l) mid (λ old new. new ≡ synced old) =
    subst (λ (o : Option Disk). OnTold o mid (λ old new. new ≡ synced old)) is synced_as in
    there.1 ∙ ap (λ (disk : Disk). Some disk) there.2

pub synced-from : (told mid : Option Disk) (d : Disk) → told ≡ Some d → OnTold told mid (λ old new. new ≡ synced old) → IfSome mid (λ disk. disk ≡ settled d.reads)
synced-from told mid d is synced_as =
    let there : OnTold (Some d) mid (λ old new. new ≡ synced old) = subst (λ (o : Option Disk). OnTold o mid (λ old new. new ≡ synced old)) is synced_as in
    subst (λ (o : Option Disk). IfSome o (λ disk. disk ≡ settled d.reads)) (sym there.1) there.2

-- what reads gave stands on the device then
pub synced-holds : (P : List ℕ → Type 0) (told read mid : Option Disk) → OnContent told P → read ≡ told → OnTold read mid (λ old new. new ≡ synced old)
    → IfSome mid (λ disk. P disk.base)
synced-holds P told read mid holds same is_synced =
    told-step read mid (λ disk. P disk.reads) (λ disk. P disk.base) (λ (old new : Disk). new ≡ synced old)
    (λ a b reads is. subst P (sym (ap (λ (disk : Disk). disk.base) is)) reads)
    (subst (λ (o : Option Disk). IfSome o (λ disk. P disk.reads)) (sym same) holds) is_synced

-- THE CAUSE OF A FAULT.

-- a store that was read isn't refused, so that of its refusal anything is so
pub unrefused : (fault : RecFault) (P : Refusal → Type 0) → IsOpenFault fault → IfSome (refusal_of fault) P
unrefused LogDev P own = tt
unrefused DataDev P own = tt
unrefused NoMemory P own = tt
unrefused (PageLost p) P own = absurd own
unrefused (SmallLog n) P own = absurd own
unrefused (SmallData n) P own = absurd own
unrefused NotFormatted P own = absurd own
unrefused (BadFormat n) P own = absurd own
unrefused NoCheckpoint P own = absurd own
unrefused (BadRecord lsn) P own = absurd own
unrefused (PageAhead p lsn) P own = absurd own

no-length : (log_size data_size : ℕ) (fault : RecFault) → IsOpenFault fault → HasLengthCause log_size data_size fault
no-length log_size data_size (SmallLog n) own = absurd own
no-length log_size data_size (SmallData n) own = absurd own
no-length log_size data_size NotFormatted own = tt
no-length log_size data_size (BadFormat n) own = tt
no-length log_size data_size NoCheckpoint own = tt
no-length log_size data_size (BadRecord lsn) own = tt
no-length log_size data_size (PageLost p) own = tt
no-length log_size data_size (PageAhead p lsn) own = tt
no-length log_size data_size LogDev own = tt
no-length log_size data_size DataDev own = tt
no-length log_size data_size NoMemory own = tt

on-contents : (log data_told : Option Disk) {P Q : List ℕ → List ℕ → Type 0} → ((log_bytes data_bytes : List ℕ) → P log_bytes data_bytes → Q log_bytes data_bytes)
    → OnContents log data_told P → OnContents log data_told Q
on-contents None data_told leads holds = tt
on-contents (Some l) None leads holds = tt
on-contents (Some l) (Some d) leads holds = leads l.reads d.reads holds

all-contents : (log data_told : Option Disk) {P : List ℕ → List ℕ → Type 0} → ((log_bytes data_bytes : List ℕ) → P log_bytes data_bytes) → OnContents log data_told P
all-contents None data_told each = tt
all-contents (Some l) None each = tt
all-contents (Some l) (Some d) each = each l.reads d.reads

-- a cause for which contents are refused is one for which they aren't opened
also-unopened : (cause : Option Refusal) (log data_told : Option Disk)
    → IfSome cause (λ one. OnContents log data_told (λ log_bytes data_bytes. Refuses log_bytes data_bytes one))
    → IfSome cause (λ one. OnContents log data_told (λ log_bytes data_bytes. RefusesToOpen log_bytes data_bytes one))
also-unopened None log data_told known = tt
also-unopened (Some one) log data_told known = on-contents log data_told (λ log_bytes data_bytes refuses. inl refuses) known

pub also-opening : (fault : RecFault) (log data_told : Option Disk) → HasCauseIn log data_told fault
    → HasOpeningCauseIn log data_told fault
also-opening fault = also-unopened (refusal_of fault)

-- what is so anyway is so of a store that is refused
pub also-refused : (log data_device : Seen) {P Q : Type 0} → P → Q → WhereRefused log data_device (P × Q)
also-refused log data_device first second refusal = all-contents log.tells data_device.tells (λ log_bytes data_bytes refused. (first, second))

-- the store is read as this, and its data device has room for a run
pub record IsReadWithRoom (reading : Reading) (log_bytes data_bytes : List ℕ) : Type 0 where
  pub is_read : IsReading log_bytes data_bytes reading
  pub room : data_device_length (run_shape reading.shape) ≤ length data_bytes

-- and of one that was read so anything, since it isn't refused
with-room_not_refused : (log_bytes data_bytes : List ℕ) (reading : Reading) (refusal : Refusal)
    → IsReadWithRoom reading log_bytes data_bytes
    → RefusesToOpen log_bytes data_bytes refusal → ⊥
with-room_not_refused log_bytes data_bytes reading refusal read refused =
    ⊎_elim (λ refuses. read-not_refused one_group log_bytes data_bytes reading refusal read.is_read refuses)
    (λ none. (
    let same : none.reading ≡ reading = same_reading one_group log_bytes data_bytes none.reading reading none.is_read
    read.is_read in
    let short : length data_bytes < data_device_length (run_shape reading.shape) =
    subst (λ (r : Reading). length data_bytes < data_device_length (run_shape r.shape)) same none.short in
    absurd (omega (arith, short, read.room)))) refused

pub read-unrefused : (log data_device : Seen) (P : Type 0) (reading : Reading)
    → OnContents log.tells data_device.tells (IsReadWithRoom reading) → WhereRefused log data_device P
read-unrefused log data_device P reading reads refusal =
    on-contents log.tells data_device.tells
    (λ log_bytes data_bytes read refused. absurd
    (with-room_not_refused log_bytes data_bytes reading refusal read refused)) reads

-- a device of that size has it
pub read-roomy : (log data_told : Option Disk) (size : ℕ) (reading : Reading)
    → data_device_length (run_shape reading.shape) ≤ size → IfSome data_told (HasSize size)
    → OnContents log data_told (λ log_bytes data_bytes. IsReading log_bytes data_bytes reading)
    → OnContents log data_told (IsReadWithRoom reading)
read-roomy None data_told size reading room sized reads = tt
read-roomy (Some l) None size reading room sized reads = tt
read-roomy (Some l) (Some d) size reading room sized reads =
    record { is_read = reads; room = omega (arith, sized.reads, room) }

-- A STORE THAT HAS NO ROOM for a run.

-- the store is read as this, on a data device of that size
pub record IsReadWithSize (reading : Reading) (size : ℕ) (log_bytes data_bytes : List ℕ) : Type 0 where
  pub is_read : IsReading log_bytes data_bytes reading
  pub sized : length data_bytes ≡ size

pub read-sized : (log data_told : Option Disk) (size : ℕ) (reading : Reading) → IfSome data_told (HasSize size)
    → OnContents log data_told (λ log_bytes data_bytes. IsReading log_bytes data_bytes reading)
    → OnContents log data_told (IsReadWithSize reading size)
read-sized None data_told size reading sized reads = tt
read-sized (Some l) None size reading sized reads = tt
read-sized (Some l) (Some d) size reading sized reads = record { is_read = reads; sized = sized.reads }

short-cause : (log data_device log_after data_after : Seen) (n : ℕ) (reading : Reading)
    → data_device.size < data_device_length (run_shape reading.shape)
    → n ≡ data_device_length (run_shape reading.shape)
    → WhereStillTold log_after.tells data_after.tells
    (OnContents log.tells data_device.tells (IsReadWithSize reading data_device.size))
    → IsUnchanged log log_after → IsUnchanged data_device data_after
    → HasFaultCause log data_device log_after data_after (SmallData n)
short-cause log data_device log_after data_after n reading short n_is reads log_same data_same = record {
  refused = λ log_still data_still. on-contents log.tells data_device.tells
      (λ log_bytes data_bytes read. inr (record {
        reading = reading;
        is_read = read.is_read;
        short = omega (arith, short, read.sized);
        refusal_is = ap (λ (k : ℕ). refusal.SmallData k) n_is;
      })) (reads log_still data_still);
  lengths = omega (arith, short, n_is);
  kept = λ log_still data_still. also-refused log data_device log_same data_same;
  log_failed = λ is. absurd cc;
  data_failed = λ is. absurd cc;
}

-- the log device is as long as the store's own shape asks, and so as that of a run
pub room-cause : (log data_device log_after data_after : Seen) (fault : RecFault) (reading : Reading)
    → log_device_length reading.shape ≤ log.size
    → IsLengthFault (run_shape reading.shape) log.size data_device.size fault
    → WhereStillTold log_after.tells data_after.tells
    (OnContents log.tells data_device.tells (IsReadWithSize reading data_device.size))
    → IsUnchanged log log_after → IsUnchanged data_device data_after
    → HasFaultCause log data_device log_after data_after fault
room-cause log data_device log_after data_after (SmallData n) reading long is reads log_same data_same =
    short-cause log data_device log_after data_after n reading is.1 is.2 reads log_same data_same
room-cause log data_device log_after data_after (SmallLog n) reading long is reads log_same data_same = absurd
    (omega (arith, long, is.0))
room-cause log data_device log_after data_after NotFormatted reading long is reads log_same data_same = absurd is
room-cause log data_device log_after data_after (BadFormat n) reading long is reads log_same data_same = absurd is
room-cause log data_device log_after data_after NoCheckpoint reading long is reads log_same data_same = absurd is
room-cause log data_device log_after data_after (BadRecord lsn) reading long is reads log_same data_same = absurd is
room-cause log data_device log_after data_after (PageLost p) reading long is reads log_same data_same = absurd is
room-cause log data_device log_after data_after (PageAhead p lsn) reading long is reads log_same data_same = absurd is
room-cause log data_device log_after data_after LogDev reading long is reads log_same data_same = absurd is
room-cause log data_device log_after data_after DataDev reading long is reads log_same data_same = absurd is
room-cause log data_device log_after data_after NoMemory reading long is reads log_same data_same = absurd is

-- such a fault is none of a device's calls
pub length-ends : (shape : Shape) (log_size data_size : ℕ) (fault : RecFault)
    → IsLengthFault shape log_size data_size fault
    → (log_error fault ≡ None) × (data_error fault ≡ None)
length-ends shape log_size data_size (SmallData n) is = (refl, refl)
length-ends shape log_size data_size (SmallLog n) is = (refl, refl)
length-ends shape log_size data_size NotFormatted is = absurd is
length-ends shape log_size data_size (BadFormat n) is = absurd is
length-ends shape log_size data_size NoCheckpoint is = absurd is
length-ends shape log_size data_size (BadRecord lsn) is = absurd is
length-ends shape log_size data_size (PageLost p) is = absurd is
length-ends shape log_size data_size (PageAhead p lsn) is = absurd is
length-ends shape log_size data_size LogDev is = absurd is
length-ends shape log_size data_size DataDev is = absurd is
length-ends shape log_size data_size NoMemory is = absurd is

-- WHATEVER FAILED AFTER THAT.

pub opening-cause : {L D : Type 0} (log_seen : L → Seen) (data_seen : D → Seen) (log data_device log_mid data_mid : Seen) (result : OpenResult L D) (reading : Reading)
    → WhereStillTold (log_seen (log_device_left result)).tells (data_seen (data_device_left result)).tells
    (OnContents log.tells data_device.tells (IsReadWithRoom reading))
    → log.faults ≤ log_mid.faults → data_device.faults ≤ data_mid.faults → IfErr result (λ error. IsOpenFault error.0)
    → IfErr result (λ error. error.0 ≡ LogDev → HasRisen log_mid.faults (log_seen error.1).faults)
    → IfErr result (λ error. error.0 ≡ DataDev → HasRisen data_mid.faults (data_seen error.2).faults)
    → IfErr result (λ error. IsSameDevice log_mid (log_seen error.1) × IsSameDevice data_mid (data_seen error.2))
    → IfErr result (λ error. HasFaultCause log data_device (log_seen error.1) (data_seen error.2) error.0)
opening-cause log_seen data_seen log data_device log_mid data_mid (Ok store) reading reads log_later data_later fault log_failed data_failed same = tt
opening-cause log_seen data_seen log data_device log_mid data_mid (Err error) reading reads log_later data_later fault log_failed data_failed same = record {
  refused = λ log_still data_still. unrefused error.0 _ fault;
  lengths = no-length log.size data_device.size error.0 fault;
  kept = λ log_still data_still. read-unrefused log data_device _ reading (reads log_still data_still);
  log_failed = λ failed. risen-since _ _ _ log_later same.0.later (log_failed failed);
  data_failed = λ failed. risen-since _ _ _ data_later same.1.later (data_failed failed);
}

pub both-err : {L D : Type 0} (log_seen : L → Seen) (data_seen : D → Seen) (log data_device : Seen) (result : OpenResult L D)
    → IsSameDevice log (log_seen (log_device_left result)) → IsSameDevice data_device (data_seen (data_device_left result))
    → IfErr result (λ error. IsSameDevice log (log_seen error.1) × IsSameDevice data_device (data_seen error.2))
both-err log_seen data_seen log data_device (Ok store) first second = tt
both-err log_seen data_seen log data_device (Err error) first second = (first, second)

-- the sync of the data device failed
pub sync-cause : (log data_device log_after data_after : Seen) (error : DevError) (fault : RecFault) (reading : Reading) → fault ≡ data_fault_of error
    → WhereStillTold log_after.tells data_after.tells (OnContents log.tells data_device.tells (IsReadWithRoom reading))
    → HasCause {T = Unit {0}} data_device.faults data_after.faults (Err error) → HasFaultCause log data_device log_after data_after fault
sync-cause log data_device log_after data_after device.Failed fault reading is reads cause =
    subst (HasFaultCause log data_device log_after data_after) (sym is)
    (record { refused = λ log_still data_still. tt; lengths = tt; kept = λ log_still data_still. read-unrefused log data_device _ reading (reads log_still data_still); log_failed = λ other. absurd cc; data_failed = λ same. cause.failed refl })
sync-cause log data_device log_after data_after device.NoMemory fault reading is reads cause =
    subst (HasFaultCause log data_device log_after data_after) (sym is)
    (record { refused = λ log_still data_still. tt; lengths = tt; kept = λ log_still data_still. read-unrefused log data_device _ reading (reads log_still data_still); log_failed = λ other. absurd cc; data_failed = λ other. absurd cc })

-- the two header blocks weren't read, or not made alike
pub heads-cause : (log data_device log_after data_after : Seen) (error : DevError) (fault : RecFault) (reading : Reading) → fault ≡ log_fault_of error
    → WhereStillTold log_after.tells data_after.tells (OnContents log.tells data_device.tells (IsReadWithRoom reading))
    → HasCause {T = Unit {0}} log.faults log_after.faults (Err error) → HasFaultCause log data_device log_after data_after fault
heads-cause log data_device log_after data_after device.Failed fault reading is reads cause =
    subst (HasFaultCause log data_device log_after data_after) (sym is)
    (record { refused = λ log_still data_still. tt; lengths = tt; kept = λ log_still data_still. read-unrefused log data_device _ reading (reads log_still data_still); log_failed = λ same. cause.failed refl; data_failed = λ other. absurd cc })
heads-cause log data_device log_after data_after device.NoMemory fault reading is reads cause =
    subst (HasFaultCause log data_device log_after data_after) (sym is)
    (record { refused = λ log_still data_still. tt; lengths = tt; kept = λ log_still data_still. read-unrefused log data_device _ reading (reads log_still data_still); log_failed = λ other. absurd cc; data_failed = λ other. absurd cc })

-- WHAT IS OPENED is what was read.

pub opening-of : {L D : Type 0} (log data_told : Option Disk) (result : OpenResult L D) (log_seen : L → Seen)
    (data_seen : D → Seen) (reading : Reading)
    → WhereStillTold (log_seen (log_device_left result)).tells (data_seen (data_device_left result)).tells
    (OnContents log data_told (IsReadWithRoom reading))
    → IfOk result (IsOpenedAs reading)
    → IfOk result (λ store. WhereStillTold (log_seen store.log.dev).tells (data_seen store.store.dev).tells
    (OnContents log data_told (λ log_bytes data_bytes. IsOpeningOf log_bytes data_bytes store)))
opening-of log data_told (Ok store) log_seen data_seen reading reads opened = λ log_still data_still.
    on-contents log data_told (λ log_bytes data_bytes read. record {
      reading = reading;
      is_read = read.is_read;
      opened = opened;
      room = subst (λ (s : Shape). data_device_length s ≤ length data_bytes) (sym opened.shape) read.room;
    }) (reads log_still data_still)
opening-of log data_told (Err error) log_seen data_seen reading reads opened = tt
