-- The two devices while a run prepares them.
use Rattle.std.proofs.Common.{ℕ, ◌≡◌, ◌≤◌, ◌<◌, ◌↔◌, List, true, false, IsTrue, length, Option, Some, Ok, IfSome, refl, ap, subst, ◌∙◌, inl, inr, ⊎_elim, arith, ◌≢◌, None}
use Rattle.std.proofs.lemmas.Bool.{cases_lt, false≢true}
use Rattle.model_base.specs.{default_shape}
use Rattle.model_base.specs.declared.shape.Shape.{Shape}
use Rattle.model_device.specs.{Disk}
use Rattle.model_log.specs.{log_device_length}
use Rattle.model_log.specs.declared.layout.TheConstants.{HEADER_BYTES}
use Rattle.model_page.specs.{data_device_length}
use Rattle.model_parts.specs.{IsFormatted, KeepsNoStore}
use Rattle.model_report.specs.declared.fault.Fault.TheVariants as fault
use Rattle.model_script.specs.declared.asked.Command.{Command}
use Rattle.model_script.specs.declared.asked.Drive.{Drive}
use Rattle.model_script.specs.declared.script.ScriptLine.{ScriptLine}
use Rattle.model_store.specs.{IsUnused}
use Rattle.model_store.specs.declared.refusal.Refusal.{Refusal}
use Rattle.model_store.specs.declared.refusal.Refusal.TheVariants as refusal
use Rattle.redo_disk.specs.{Call, failures, HasSize, MakesCalls, StillTells, Seen}
use Rattle.redo_disk.specs.declared.error.DevError.{DevError}
use Rattle.redo_disk.specs.declared.error.DevError.TheVariants as device
use Rattle.redo_disk.proofs.Calls.{MayEndWith-ends}
use Rattle.redo_disk.proofs.Made.{weaker_calls}
use Rattle.redo_memdisk.proofs.Behind.{counts-calls}
use Rattle.redo_memdisk.specs.{before_arming, CallsThrough, counted, fresh, fuse_of, inner_of}
use Rattle.redo_memdisk.specs.declared.fuse.Fuse.{Fuse}
use Rattle.redo_memdisk.specs.declared.fused.Fused.{Fused}
use Rattle.redo_open.specs.{JudgesLengths, WhereBothTell}
use Rattle.redo_recover.specs.{log_fault_of}
use Rattle.redo_lab.specs.declared.outcome.Outcome.TheVariants as outcome
use Rattle.redo_lab.proofs.Alone.{IsLeftAlone, leaves-alone, tells-alone, unfailed-alone}
use Rattle.redo_lab.proofs.Ends.{AreTelling, at-some, ends-refused, leaves-unprepared, unprepared-data, unprepared-log, unprepared-memory}
use Rattle.redo_lab.proofs.Formats.{BothUnarmed, FormatsTo}
use Rattle.redo_lab.proofs.Fuses.{unarmed-calls, unarmed-fresh}
use Rattle.redo_lab.proofs.Telling.{reads-keep}
use Rattle.redo_disk.proofs.Told.{still-same}
use Rattle.redo_lab.proofs.Told.{both-told, still-equal}
use Rattle.redo_lab.specs.Call.{BothDevices, Guarded, HaveSameContents, LabCall, WhereToldAtEntry, WhereToldNow, guarded}
use Rattle.redo_lab.specs.Cause.{AreLongEnough, CanPlay, IsUnprepared, EndsWith}
use Rattle.redo_lab.specs.Devices.{ArePrepared, IsFirstRead, IsUnarmed, to_be_armed}
use Rattle.redo_lab.proofs.Found.{unused-unread}
use Rattle.redo_lab.specs.Laws.{Laws}
use Rattle.redo_lab.specs.Runs.{CommandRuns, fault_of}
use Rattle.redo_lab.specs.Told.{IsTooShort}

-- The log device after its first read, which answered this; and the data device, of which no call was made.
pub record IsReadFirst (failed : ℕ) (log store : Guarded) : Type 0 where
  pub unarmed : BothUnarmed log store failed 0
  pub log_kept : StillTells log.entry.tells log.now.tells
  pub data_kept : StillTells store.entry.tells store.now.tells
  pub log_calls : log.fuse.early_calls ≡ 1
  pub data_calls : store.fuse.early_calls ≡ 0

pub read-first : {L D : Type 0} {log_seen : L → Seen} {gives : L → Call → L → Type 0} (data_seen : D → Seen) {log_old log : Fused L} (store : Fused D) {error : Option DevError}
    → fuse_of log_old ≡ fresh → fuse_of store ≡ fresh → MakesCalls (CallsThrough log_seen gives) log_old log (IsFirstRead error)
    → IsReadFirst (failures error) (guarded log_seen (inner_of log_old) log) (guarded data_seen (inner_of store) store)
read-first {log_seen = log_seen} {gives = gives} data_seen {log_old = log_old} {log = log} store {error = error} log_fresh data_fresh made =
    let counts = counts-calls log_seen gives log_old log made.calls made.made in
    record {
      unarmed = (
        unarmed-calls (unarmed-fresh log_seen (inner_of log_old) log_old refl log_fresh) (weaker_calls (λ calls block. MayEndWith-ends error calls block.reads.ends) made),
        unarmed-fresh data_seen (inner_of store) store refl data_fresh,
      );
      log_kept = (reads-keep log_seen gives log_old log made.calls made.are.reads.reads made.made).tells;
      data_kept = still-same _ _ refl;
      log_calls = counts.early_calls
          ∙ ap (λ stage. counted (before_arming stage (length made.calls)) log_old.fuse.early_calls) (ap (λ (fuse : Fuse). fuse.stage) log_fresh)
          ∙ ap (λ n. counted n log_old.fuse.early_calls) made.are.one ∙ ap (counted 1) (ap (λ (fuse : Fuse). fuse.early_calls) log_fresh);
      data_calls = ap (λ (fuse : Fuse). fuse.early_calls) data_fresh;
    }

-- THE LOG DEVICE IS IN USE.
pub prepared-in-use : (call : LabCall) → HEADER_BYTES ≤ call.log.entry.size → IsReadFirst 0 call.log call.store
    → IfSome call.log.now.tells (λ disk. IsTrue false ↔ IsUnused disk.reads) → BothDevices (IsUnarmed 0) call × ArePrepared (to_be_armed call)
prepared-in-use call header first used = (
  first.unarmed,
  record {
    header = header;
    which = inr (record {
      used = λ log_disk data_disk log_is data_is log_on data_on unused.
          false≢true ((at-some call.log.now.tells (λ disk. IsTrue false ↔ IsUnused disk.reads) log_disk used (still-equal _ _ first.log_kept log_on ∙ log_is)).1 unused);
      kept = (still-equal _ _ first.log_kept, still-equal _ _ first.data_kept);
      log_calls = omega (arith, first.log_calls);
      data_calls = first.data_calls;
    });
  },
)

was-unused : (call : LabCall) (met : Option Disk) → (call.log.now.tells ≢ None → met ≡ call.log.entry.tells) → IfSome met (λ disk. IsTrue true ↔ IsUnused disk.reads)
    → WhereToldAtEntry call (λ log store. IsUnused log.reads)
was-unused call met same unused log_disk data_disk log_is data_is log_on data_on =
    (at-some met (λ disk. IsTrue true ↔ IsUnused disk.reads) log_disk unused (same log_on ∙ log_is)).0 refl

judged-long : (log store : Guarded) (done : Unit {0}) → BothUnarmed log store 0 0 → JudgesLengths default_shape log.now.size store.now.size (Ok done)
    → AreLongEnough default_shape log.entry.size store.entry.size
judged-long log store done was judged =
    let log_same = was.0.same.size in
    let data_same = was.1.same.size in
    let log_long : log_device_length default_shape ≤ log.now.size =
    ⊎_elim (λ short. let wrong = judged.small_log short in cc) (λ long. long) (cases_lt log.now.size (log_device_length default_shape)) in
    let data_long : data_device_length default_shape ≤ store.now.size =
    ⊎_elim (λ short. let wrong = judged.small_data log_long short in cc) (λ long. long) (cases_lt store.now.size (data_device_length default_shape)) in
    record { log_long = omega arith; data_long = omega arith }

-- BOTH WERE FORMATTED, after that read.
pub prepared-formatted : (call : LabCall) (log store : Guarded) (done : Unit {0}) → HEADER_BYTES ≤ call.log.entry.size → BothUnarmed log store 0 0
    → log.entry.size ≡ call.log.entry.size → store.entry.size ≡ call.store.entry.size → (call.log.now.tells ≢ None → log.now.tells ≡ call.log.entry.tells)
    → IfSome log.now.tells (λ disk. IsTrue true ↔ IsUnused disk.reads) → BothUnarmed call.log call.store 0 0
    → JudgesLengths default_shape log.now.size store.now.size (Ok done) → WhereBothTell call.log.now.tells call.store.now.tells (IsFormatted default_shape)
    → BothDevices (IsUnarmed 0) call × ArePrepared (to_be_armed call)
prepared-formatted call log store done header was log_same data_same same unused now judged formatted =
    let long = judged-long log store done was judged in (
      now,
      record {
        header = header;
        which = inl (record {
          unused = was-unused call log.now.tells same unused;
          long = record { log_long = omega (arith, long.log_long); data_long = omega (arith, long.data_long) };
          formatted = both-told call.log.now.tells call.store.now.tells (IsFormatted default_shape) formatted;
        });
      },
    )

-- a device that is long enough isn't too short
long-not-short : (log_size data_size : ℕ) (cause : Refusal) → AreLongEnough default_shape log_size data_size
    → IsTooShort default_shape log_size data_size cause → ⊥
long-not-short log_size data_size (refusal.SmallLog n) long short = absurd (omega (arith, long.log_long, short.0))
long-not-short log_size data_size (refusal.SmallData n) long short = absurd (omega (arith, long.data_long, short.1))
long-not-short log_size data_size cause long short = absurd short

-- where the log device is unused, a run is made on a new store
long-unused : {call : LabCall} {drive : Drive} {script : List ScriptLine} → Laws → (can : CanPlay call drive script) → IsUnused can.log.reads
    → AreLongEnough default_shape call.log.entry.size call.store.entry.size
long-unused {call = call} laws can unused = ⊎_elim
    (λ new. subst (λ (shape : Shape). AreLongEnough shape call.log.entry.size call.store.entry.size) new.shape_is can.long)
    (λ orderly. absurd (unused-unread laws can.log.reads can.store.reads orderly.reading unused orderly.orderly.reads))
    can.opens

has-header : {call : LabCall} {drive : Drive} {script : List ScriptLine} → CanPlay call drive script → IfSome call.log.entry.tells (HasSize call.log.entry.size)
    → HEADER_BYTES ≤ call.log.entry.size
has-header {call = call} can sized = ⊎_elim
    (λ unused. let long = can.long.log_long in omega (arith, long))
    (λ orderly.
    let size = at-some call.log.entry.tells (HasSize call.log.entry.size) can.log sized can.log_tells in
    let header = orderly.orderly.reads.scan.devices.head.long in
    omega (arith, size.reads, header))
    can.opens

-- what formatting keeps of devices that were read before
pub kept-no-store : (call : LabCall) (shape : Shape) (log_met data_met : Option Disk)
    → (call.log.now.tells ≢ None → log_met ≡ call.log.entry.tells) → (call.store.now.tells ≢ None → data_met ≡ call.store.entry.tells)
    → WhereBothTell log_met data_met (λ log store. WhereBothTell call.log.now.tells call.store.now.tells (KeepsNoStore shape log store))
    → WhereToldAtEntry call (λ log store. WhereToldNow call (KeepsNoStore shape log store))
kept-no-store call shape log_met data_met log_same data_same keeps log data_disk log_is data_is log_on data_on =
    both-told call.log.now.tells call.store.now.tells (KeepsNoStore shape log data_disk)
    (both-told log_met data_met (λ log store. WhereBothTell call.log.now.tells call.store.now.tells (KeepsNoStore shape log store)) keeps
    log data_disk (log_same log_on ∙ log_is) (data_same data_on ∙ data_is))

-- THEY WEREN'T PREPARED.
module _ (call : LabCall) (command : Command) (drive : Drive) (script : List ScriptLine)
    (running : CommandRuns call.source call.source_now command drive script) (laws : Laws) where
  -- the log device is too short for a header, and none was called
  pub unprepared-small : BothDevices IsLeftAlone call → call.log.entry.size < HEADER_BYTES → IfSome call.log.entry.tells (HasSize call.log.entry.size)
      → EndsWith call command (outcome.Fault (fault.Store (refusal.SmallLog HEADER_BYTES)))
  unprepared-small alone small sized = ends-refused call command drive script running laws (refusal.SmallLog HEADER_BYTES) (tells-alone call alone) (leaves-alone call alone laws)
      (unfailed-alone call alone)
      (inl (small, refl), λ log data_disk log_is data_is log_on data_on. (ap (λ (seen : Seen). seen.tells) alone.0.seen, ap (λ (seen : Seen). seen.tells) alone.1.seen))
      (λ can. let header = has-header can sized in omega arith)

  kept-first : {failed : ℕ} → IsReadFirst failed call.log call.store → HaveSameContents call
  kept-first first log data_disk log_is data_is log_on data_on = (still-equal _ _ first.log_kept log_on, still-equal _ _ first.data_kept data_on)

  unprepared-first : {failed : ℕ} → IsReadFirst failed call.log call.store → IsUnprepared call
  unprepared-first first = ((first.unarmed.0.stage, first.unarmed.1.stage), inl (kept-first first))

  abbrev telling : {log_failed data_failed : ℕ} → BothUnarmed call.log call.store log_failed data_failed → AreTelling call
  telling was = (was.0.same.tells, was.1.same.tells)

  -- the first read failed
  pub unprepared-read : (error : DevError) → IsReadFirst (failures (Some error)) call.log call.store → EndsWith call command (outcome.Fault (fault_of (log_fault_of error)))
  unprepared-read device.Failed first = unprepared-log call command drive script running laws (telling first.unarmed) (unprepared-first first)
      (first.unarmed.0.risen (omega arith)) (omega (arith, first.unarmed.0.early))
  unprepared-read device.NoMemory first = unprepared-memory call command drive script running laws (telling first.unarmed) (unprepared-first first)

  unprepared-after : {log_failed data_failed : ℕ} (met : Option Disk) → (call.log.now.tells ≢ None → met ≡ call.log.entry.tells) → IfSome met (λ disk. IsTrue true ↔ IsUnused disk.reads)
      → WhereToldAtEntry call (λ log store. WhereToldNow call (KeepsNoStore default_shape log store)) → BothUnarmed call.log call.store log_failed data_failed → IsUnprepared call
  unprepared-after met same unused keeps was =
      ((was.0.stage, was.1.stage), inr (λ log data_disk log_is data_is log_on data_on. (was-unused call met same unused log data_disk log_is data_is log_on data_on, keeps log data_disk log_is data_is log_on data_on)))

  -- formatting ended early
  pub unprepared-formatted : {Same : Type 0} → HEADER_BYTES ≤ call.log.entry.size → (Same → IsReadFirst 0 call.log call.store)
      → (met : Option Disk) → (call.log.now.tells ≢ None → met ≡ call.log.entry.tells) → IfSome met (λ disk. IsTrue true ↔ IsUnused disk.reads)
      → WhereToldAtEntry call (λ log store. WhereToldNow call (KeepsNoStore default_shape log store))
      → FormatsTo default_shape call.log.entry.size call.store.entry.size Same (BothUnarmed call.log call.store) (λ f. EndsWith call command (outcome.Fault f))
  unprepared-formatted header first met met_same unused keeps =
      record {
        short = λ cause short same.
            (let was = first same in
            ends-refused call command drive script running laws cause (telling was.unarmed) (leaves-unprepared call laws (unprepared-first was))
            ((was.unarmed.0.early, was.unarmed.0.mid, was.unarmed.0.late), (was.unarmed.1.early, was.unarmed.1.mid, was.unarmed.1.late))
            (inr (header, λ log data_disk log_is data_is log_on data_on. inl (was-unused call met met_same unused log data_disk log_is data_is log_on data_on, short)), kept-first was)
            (λ can. long-not-short call.log.entry.size call.store.entry.size cause (long-unused laws can
            (was-unused call met met_same unused can.log can.store can.log_tells can.store_tells can.log_still can.store_still)) short));
        log_fails = λ was. unprepared-log call command drive script running laws (telling was) (unprepared-after met met_same unused keeps was) (was.0.risen (omega arith)) (omega (arith, was.0.early));
        data_fails = λ was. unprepared-data call command drive script running laws (telling was) (unprepared-after met met_same unused keeps was) (was.1.risen (omega arith)) (omega (arith, was.1.early));
        memory = λ was. unprepared-memory call command drive script running laws (telling was) (unprepared-after met met_same unused keeps was);
      }
