-- Two devices from the arming of their fuses on, while a store is opened on them.
use Rattle.std.proofs.Common.{ℕ, ◌≡◌, ◌+◌, ◌<◌, ◌≤◌, ◌⊎◌, arith, cond, length, List, Option, Some, None, IfSome, sym, ap, subst, ◌∙◌, inl, inr, ⊎_elim, ◌≢◌, refl, true}
use Rattle.std.proofs.lemmas.Bool.{eq-eqb}
use Rattle.model_base.proofs.ShapeLimits.{default_within}
use Rattle.model_base.specs.declared.shape.Shape.{Shape}
use Rattle.model_base.specs.{default_shape, HasRisen, run_shape}
use Rattle.model_base.specs.declared.limits.TheConstants.{BLOCK_SIZE}
use Rattle.model_device.specs.{Disk}
use Rattle.model_log.specs.{block_of, IsAtDataStart, start_after}
use Rattle.model_log.specs.declared.layout.TheConstants.{BLOCK_HEADER}
use Rattle.model_parts.specs.{formatted_store, IsOpenable, KeepsOpened}
use Rattle.model_report.specs.declared.fault.Fault.TheVariants as fault
use Rattle.model_script.specs.declared.asked.Command.{Command}
use Rattle.model_script.specs.declared.asked.Drive.{Drive}
use Rattle.model_script.specs.declared.misfit.Misfit.{Misfit}
use Rattle.model_script.specs.declared.script.ScriptLine.{ScriptLine}
use Rattle.model_page.specs.{data_device_length}
use Rattle.model_store.specs.{IsReading, IsUnused, RefusesToOpen, Reading}
use Rattle.model_store.specs.declared.refusal.Refusal.{Refusal}
use Rattle.model_store.specs.declared.refusal.Refusal.TheVariants as refusal
use Rattle.model_theorem.specs.{IsOpenedBefore, misfit_on, Opened, opened_as}
use Rattle.redo_open.specs.{IsNotOpened, IsOpeningOf, WhereBothTell}
use Rattle.redo_open.specs.Opening.{WhereStillTold}
use Rattle.redo_store.specs.{IsRunnable}
use Rattle.redo_store.specs.declared.opened.Opened as store
use Rattle.redo_recover.specs.{OnContents}
use Rattle.model_script.specs.declared.asked.Command.TheVariants.{Run}
use Rattle.redo_lab.specs.Call.{IsScriptFor, HaveSameContents, LabCall, WhereToldAtEntry}
use Rattle.redo_lab.specs.declared.outcome.Outcome.TheVariants as outcome
use Rattle.redo_lab.specs.declared.playing.Stops.{Stops}
use Rattle.redo_lab.proofs.Ends.{ends-refused, ends-with, in-run, leaves-read, leaves-run, left-read, runs-script, tells-armed, unfailed-armed}
use Rattle.redo_lab.proofs.Found.{found-armed, one-opened, openable-limits, prefix-opened, stopped-before}
use Rattle.redo_lab.proofs.Told.{both-told, on-contents, some-tells, some-told}
use Rattle.redo_lab.specs.Cause.{archive_size, CanPlay, EndsBefore, EndsWith}
use Rattle.redo_lab.specs.Devices.{AreArmed}
use Rattle.redo_lab.specs.Laws.{Laws}
use Rattle.redo_lab.specs.Runs.{CommandRuns}
use Rattle.redo_lab.specs.Told.{AreReadAsPrefix, DevicesOpenAs, AreLeftRead, IsOpenedFirst}

-- the opened store, as the theorem has it: its log ends there
abbrev pub opened_at : {L D : Type 0} → store.Opened L D → ℕ → Opened
opened_at given end = record { shape = given.shape; pages = given.pages; end = end }

-- what was read of these bytes is that, and a run on it has room
pub record IsReadOff {L D : Type 0} (given : store.Opened L D) (end : ℕ) (log_bytes data_bytes : List ℕ) : Type 0 where
  pub reading : Reading
  pub is_read : IsReading log_bytes data_bytes reading
  pub same : opened_at given end ≡ opened_as reading
  pub room : data_device_length given.shape ≤ length data_bytes

-- an end after which the run starts, which is the one that was read, where both devices told and still tell
pub record HasEnd {L D : Type 0} (log data_told log_now data_now : Option Disk) (given : store.Opened L D) : Type 0 where
  pub end : ℕ
  pub start : given.start ≡ start_after end
  pub read : WhereStillTold log_now data_now (OnContents log data_told (IsReadOff given end))

pub at-start : (start : ℕ) → IsAtDataStart start → start ≡ start_after start
at-start start place = sym (ap (λ b. cond b start (block_of start + BLOCK_SIZE + BLOCK_HEADER)) (eq-eqb _ _ place))

end-of : {L D : Type 0} (log data_told log_now data_now : Option Disk) (given : store.Opened L D) → IsRunnable given
    → OnContents log data_told (λ log_bytes data_bytes. IsOpeningOf log_bytes data_bytes given) → HasEnd log data_told log_now data_now given
end-of None data_told log_now data_now given runnable read = record { end = given.start; start = at-start given.start runnable.place; read = λ log_on data_on. tt }
end-of (Some log) None log_now data_now given runnable read = record { end = given.start; start = at-start given.start runnable.place; read = λ log_on data_on. tt }
end-of (Some log) (Some data_told) log_now data_now given runnable read = record {
  end = read.reading.end;
  start = read.opened.start;
  read = λ log_on data_on. record {
    reading = read.reading;
    is_read = read.is_read;
    same = λ i. record { shape = read.opened.shape i; pages = read.opened.pages i; end = read.reading.end };
    room = read.room;
  };
}

pub has-end : {L D : Type 0} (log data_told log_now data_now : Option Disk) (given : store.Opened L D) → IsRunnable given
    → WhereStillTold log_now data_now (OnContents log data_told (λ log_bytes data_bytes. IsOpeningOf log_bytes data_bytes given)) → HasEnd log data_told log_now data_now given
has-end log data_told None data_now given runnable read = record { end = given.start; start = at-start given.start runnable.place; read = λ log_on data_on. absurd (log_on refl) }
has-end log data_told (Some log_now) None given runnable read = record { end = given.start; start = at-start given.start runnable.place; read = λ log_on data_on. absurd (data_on refl) }
has-end log data_told (Some log_now) (Some data_now) given runnable read =
    end-of log data_told (Some log_now) (Some data_now) given runnable (read (some-tells _ log_now refl) (some-tells _ data_now refl))

-- THE DEVICES AFTER THE CALLS OF OPENING, which met that they told this.
module _ (call : LabCall) (stops : Stops) (armed : AreArmed call stops) (laws : Laws) (log_met data_met : Option Disk)
    (log_as : call.log.armed_from ≡ log_met) (data_as : call.store.armed_from ≡ data_met) where
  -- a store that could be opened when the fuses were armed is read as it was found
  pub opened-reads : ((reading : Reading) → WhereBothTell log_met data_met (λ log data_disk. IsOpenable reading log data_disk
      → WhereBothTell call.log.now.tells call.store.now.tells (KeepsOpened reading))) → (script : List ScriptLine) → AreLeftRead call script None
  opened-reads keeps script opened log data_disk log_is data_is log_on data_on log_fresh data_fresh opens log_now data_now log_now_is data_now_is =
      let found = found-armed call laws armed opened log data_disk log_is data_is log_on data_on log_fresh data_fresh opens in
      let Keeps : Disk → Disk → Type 0 = λ log data_disk. IsOpenable found.reading log data_disk
      → WhereBothTell call.log.now.tells call.store.now.tells (KeepsOpened found.reading) in
      let kept = both-told log_met data_met Keeps (keeps found.reading) found.log found.data_disk (sym log_as ∙ found.log_is) (sym data_as ∙ found.data_is) found.openable in
      subst (λ (o : Opened). AreReadAsPrefix script o None log_now data_now) (sym found.same)
      (prefix-opened script found.reading log_now data_now (openable-limits found.reading found.log found.data_disk found.openable) (both-told call.log.now.tells call.store.now.tells (KeepsOpened found.reading) kept log_now data_now log_now_is data_now_is))

  -- OPENING WAS STOPPED where the log device tells that it hasn't come to its end.
  pub stopped-first : ((reading : Reading) → WhereBothTell log_met data_met (λ log data_disk. IsOpenable reading log data_disk
      → call.store.now.tells ≢ None → IfSome call.log.now.tells (IsNotOpened reading))) → IsOpenedFirst call call.log.now.tells None
  stopped-first unmoved opened log data_disk log_is data_is log_on data_on log_fresh data_fresh opens armed_from disk armed_is now_is =
      let found = found-armed call laws armed opened log data_disk log_is data_is log_on data_on log_fresh data_fresh opens in
      let Keeps : Disk → Disk → Type 0 = λ log data_disk. IsOpenable found.reading log data_disk
      → call.store.now.tells ≢ None → IfSome call.log.now.tells (IsNotOpened found.reading) in
      let kept = both-told log_met data_met Keeps (unmoved found.reading) found.log found.data_disk (sym log_as ∙ found.log_is) (sym data_as ∙ found.data_is) found.openable data_on in
      let now : IsNotOpened found.reading disk = subst (λ (told : Option Disk). IfSome told (IsNotOpened found.reading)) now_is kept in
      let same_log : found.log ≡ armed_from = (let found_is = found.log_is in cc) in
      subst (λ (armed_from : Disk). IsOpenedBefore opened.shape armed_from disk None) same_log
      (subst (λ (one : Opened). IsOpenedBefore one.shape found.log disk None) (sym found.same)
      (stopped-before found.reading found.log found.data_disk disk found.openable now))

  -- what both devices told when their fuses were armed: the new store, where the log device was unused
  pub formatted-read : (log data_disk : Disk) → call.log.entry.tells ≡ Some log → call.store.entry.tells ≡ Some data_disk
      → call.log.now.tells ≢ None → call.store.now.tells ≢ None → IsUnused log.reads → (P : List ℕ → List ℕ → Type 0)
      → OnContents log_met data_met P → (log_bytes : List ℕ) × (data_bytes : List ℕ) × IsReading log_bytes data_bytes (formatted_store default_shape) × P log_bytes data_bytes
  formatted-read log data_disk log_is data_is log_on data_on unused P met =
      let log_told = some-told call.log.armed_from (armed.log_device.told log_on) in
      let data_told = some-told call.store.armed_from (armed.data_device.told data_on) in
      let there = on-contents log_met data_met P met log_told.0 data_told.0 (sym log_as ∙ log_told.1) (sym data_as ∙ data_told.1) in
      ⊎_elim
      (λ were. (
        log_told.0.reads,
        data_told.0.reads,
        (laws.formatted default_shape log_told.0 data_told.0 default_within (were.formatted log_told.0 data_told.0 log_told.1 data_told.1)).orderly.reads,
        there,
      ))
      (λ were. absurd (were.used log data_disk log_is data_is log_on data_on unused))
      armed.prepared.which

  -- or what they told when they were handed in
  pub used-read : (log data_disk : Disk) → call.log.entry.tells ≡ Some log → call.store.entry.tells ≡ Some data_disk
      → call.log.now.tells ≢ None → call.store.now.tells ≢ None → (IsUnused log.reads → ⊥) → (P : List ℕ → List ℕ → Type 0)
      → OnContents log_met data_met P → P log.reads data_disk.reads
  used-read log data_disk log_is data_is log_on data_on used P met = ⊎_elim
      (λ were. absurd (used (were.unused log data_disk log_is data_is log_on data_on)))
      (λ were. on-contents log_met data_met P met log data_disk (sym log_as ∙ were.kept.0 log_on ∙ log_is) (sym data_as ∙ were.kept.1 data_on ∙ data_is))
      armed.prepared.which

  used-or-not : (log data_disk : Disk) → call.log.entry.tells ≡ Some log → call.store.entry.tells ≡ Some data_disk
      → call.log.now.tells ≢ None → call.store.now.tells ≢ None → IsUnused log.reads ⊎ (IsUnused log.reads → ⊥)
  used-or-not log data_disk log_is data_is log_on data_on = ⊎_elim (λ were. inl (were.unused log data_disk log_is data_is log_on data_on)) (λ were. inr (were.used log data_disk log_is data_is log_on data_on)) armed.prepared.which

  -- WHAT WAS OPENED, as the two devices were handed in
  pub opens-as : {L D : Type 0} (given : store.Opened L D) (ends : HasEnd log_met data_met call.log.now.tells call.store.now.tells given) → WhereToldAtEntry call (DevicesOpenAs (opened_at given ends.end))
  opens-as given ends log data_disk log_is data_is log_on data_on = ⊎_elim
      (λ unused.
      let read = formatted-read log data_disk log_is data_is log_on data_on unused (IsReadOff given ends.end) (ends.read log_on data_on) in
      let same = read.3.same ∙ ap opened_as (laws.one_reading read.0 read.1 read.3.reading (formatted_store default_shape) read.3.is_read read.2) in
      inl (record {
        unused = unused;
        shape_is = ap (λ (opened : Opened). opened.shape) same;
        pages_are = ap (λ (opened : Opened). opened.pages) same;
        end_is = ap (λ (opened : Opened). opened.end) same;
      }))
      (λ used.
      let read = used-read log data_disk log_is data_is log_on data_on used (IsReadOff given ends.end) (ends.read log_on data_on) in
      inr (
        used,
        record {
          reading = read.reading;
          is_read = read.is_read;
          shape = ap (λ (opened : Opened). opened.shape) read.same;
          pages = ap (λ (opened : Opened). opened.pages) read.same;
          end = ap (λ (opened : Opened). opened.end) read.same;
          room = read.room;
        },
      ))
      (used-or-not log data_disk log_is data_is log_on data_on)

  -- a store whose data device has room for a run on it isn't refused
  not-refused : (log_bytes data_bytes : List ℕ) (reading : Reading) (cause : Refusal) → IsReading log_bytes data_bytes reading
      → data_device_length (run_shape reading.shape) ≤ length data_bytes → RefusesToOpen log_bytes data_bytes cause → ⊥
  not-refused log_bytes data_bytes reading cause is_read long refuses = ⊎_elim
      (λ refused. laws.one_answer log_bytes data_bytes reading cause is_read refused)
      (λ short.
      let same = laws.one_reading log_bytes data_bytes short.reading reading short.is_read is_read in
      let less : length data_bytes < data_device_length (run_shape reading.shape) =
      subst (λ (r : Reading). length data_bytes < data_device_length (run_shape r.shape)) same short.short in
      absurd (omega (arith, less, long)))
      refuses

  -- A STORE THAT IS REFUSED was in use.
  pub refused-at : (cause : Refusal) → WhereStillTold call.log.now.tells call.store.now.tells (OnContents log_met data_met (λ log_bytes data_bytes. RefusesToOpen log_bytes data_bytes cause))
      → WhereToldAtEntry call (λ log data_disk. (IsUnused log.reads → ⊥) × RefusesToOpen log.reads data_disk.reads cause)
  refused-at cause refused log data_disk log_is data_is log_on data_on = ⊎_elim
      (λ unused.
      let read = formatted-read log data_disk log_is data_is log_on data_on unused (λ log_bytes data_bytes. RefusesToOpen log_bytes data_bytes cause) (refused log_on data_on) in
      absurd (not-refused read.0 read.1 (formatted_store default_shape) cause read.2 read.2.scan.devices.data_long read.3))
      (λ used. (used, used-read log data_disk log_is data_is log_on data_on used (λ log_bytes data_bytes. RefusesToOpen log_bytes data_bytes cause) (refused log_on data_on)))
      (used-or-not log data_disk log_is data_is log_on data_on)

  -- and both devices mean what they meant
  pub refused-kept : (cause : Refusal) → WhereStillTold call.log.now.tells call.store.now.tells (OnContents log_met data_met (λ log_bytes data_bytes. RefusesToOpen log_bytes data_bytes cause))
      → WhereStillTold call.log.now.tells call.store.now.tells (OnContents log_met data_met (λ log_bytes data_bytes. RefusesToOpen log_bytes data_bytes cause
      → (call.log.now.tells ≡ call.log.armed_from) × (call.store.now.tells ≡ call.store.armed_from))) → HaveSameContents call
  refused-kept cause refused keeps log data_disk log_is data_is log_on data_on =
      let at = refused-at cause refused log data_disk log_is data_is log_on data_on in
      let kept = used-read log data_disk log_is data_is log_on data_on at.0 (λ log_bytes data_bytes. RefusesToOpen log_bytes data_bytes cause
      → (call.log.now.tells ≡ call.log.armed_from) × (call.store.now.tells ≡ call.store.armed_from)) (keeps log_on data_on) at.1 in
      ⊎_elim (λ were. absurd (at.0 (were.unused log data_disk log_is data_is log_on data_on))) (λ were. (kept.0 ∙ were.kept.0 log_on, kept.1 ∙ were.kept.1 data_on)) armed.prepared.which

-- WHAT A COMMAND COMES TO whose lines weren't run, where no call failed since the fuses were armed, and the store is read as it was found
module _ (call : LabCall) (command : Command) (drive : Drive) (stops : Stops) (script : List ScriptLine)
    (running : CommandRuns call.source call.source_now command drive script) (laws : Laws) (armed : AreArmed call stops) (reads : AreLeftRead call script None) where
  pub unplayed-memory : EndsWith call command (outcome.Fault fault.Memory)
  unplayed-memory = ends-with call command drive script running laws (outcome.Fault fault.Memory) (tells-armed armed) (leaves-read call script None reads)
      (leaves-run call command (runs-script call command drive script running).runs (inr (left-read call command drive script running laws None (in-run armed)
      (λ store log data_disk log_is data_is log_on data_on log_fresh data_fresh opens. tt) reads)))
      (λ can unfailed. tt)

  -- of a run whose archive wasn't begun
  pub unplayed-archive : (asked : Drive) → command ≡ Run asked → asked ≡ drive → drive.archive ≡ true → call.log.fuse.mid ≡ 0 → call.store.fuse.mid ≡ 0
      → (opened : Opened) → WhereToldAtEntry call (DevicesOpenAs opened)
      → misfit_on drive.log_only (archive_size call.archive drive) opened script ≡ None
      → HasRisen call.archive.entry.faults call.archive.now.faults → EndsWith call command (outcome.Fault fault.ArchiveDevice)
  unplayed-archive asked is same archived log_none data_none opened opens fits risen = ends-with call command drive script running laws (outcome.Fault fault.ArchiveDevice) (tells-armed armed)
      (leaves-read call script None reads) (
        risen,
        subst (EndsBefore call) (sym (is ∙ ap Run same)) (
          archived,
          unfailed-armed armed log_none data_none,
          record {
            script = script;
            opened = opened;
            is_script = subst (λ (c : Command). IsScriptFor c call.source call.source_now script) (is ∙ ap Run same) running.is_script;
            opens = opens;
            judged = fits;
            in_run = in-run armed;
            reads = reads;
          },
        ),
      )
      (λ can unfailed. absurd (can.archive_unfailed archived risen))

  pub unplayed-misfit : (opened : Opened) (misfit : Misfit) → call.log.fuse.mid ≡ 0 → call.store.fuse.mid ≡ 0 → WhereToldAtEntry call (DevicesOpenAs opened)
      → misfit_on drive.log_only (archive_size call.archive drive) opened script ≡ Some misfit → EndsWith call command (outcome.Fault (fault.Fit misfit))
  unplayed-misfit opened misfit log_none data_none opens first = ends-with call command drive script running laws (outcome.Fault (fault.Fit misfit)) (tells-armed armed)
      (leaves-read call script None reads)
      (inr (
        unfailed-armed armed log_none data_none,
        (
          drive,
          running.asked,
          record {
            script = script;
            opened = opened;
            is_script = running.is_script;
            opens = opens;
            judged = first;
            in_run = in-run armed;
            reads = reads;
          },
        ),
      ))
      (λ can unfailed. absurd (misfits can))
    where
      misfits : CanPlay call drive script → ⊥
      misfits can =
          let same : opened ≡ can.opened = one-opened laws can.log can.store opened can.opened (opens can.log can.store can.log_tells can.store_tells can.log_still can.store_still) can.opens in
          let none = sym first ∙ ap (λ (o : Opened). misfit_on drive.log_only (archive_size call.archive drive) o script) same ∙ can.fits in
          cc

  pub unplayed-refused : (cause : Refusal) → call.log.fuse.mid ≡ 0 → call.store.fuse.mid ≡ 0
      → ((n : ℕ) → cause ≡ refusal.SmallData n → call.store.entry.size < n)
      → WhereToldAtEntry call (λ log data_disk. (IsUnused log.reads → ⊥) × RefusesToOpen log.reads data_disk.reads cause) → HaveSameContents call
      → EndsWith call command (outcome.Fault (fault.Store cause))
  unplayed-refused cause log_none data_none short refused kept = ends-refused call command drive script running laws cause (tells-armed armed) (leaves-read call script None reads)
      (unfailed-armed armed log_none data_none)
      (inr (armed.prepared.header, λ log data_disk log_is data_is log_on data_on. inr (refused log data_disk log_is data_is log_on data_on)), kept)
      (λ can.
      let at = refused can.log can.store can.log_tells can.store_tells can.log_still can.store_still in ⊎_elim
      (λ unused. at.0 unused.unused)
      (λ orderly. ⊎_elim
      (λ refuses. laws.one_answer can.log.reads can.store.reads orderly.reading cause orderly.orderly.reads refuses)
      (λ no_room.
      let read = laws.one_reading can.log.reads can.store.reads no_room.reading orderly.reading no_room.is_read orderly.orderly.reads in
      let shape : run_shape no_room.reading.shape ≡ can.opened.shape =
      ap (λ (r : Reading). run_shape r.shape) read ∙ sym orderly.shape_is in
      let long : data_device_length (run_shape no_room.reading.shape) ≤ call.store.entry.size =
      subst (λ (s : Shape). data_device_length s ≤ call.store.entry.size) (sym shape) can.long.data_long in
      absurd (omega (arith, long, short (data_device_length (run_shape no_room.reading.shape)) no_room.refusal_is)))
      at.1)
      can.opens)
