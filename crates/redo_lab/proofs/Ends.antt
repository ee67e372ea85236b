-- A command that runs a script: what it comes to, by what is left of both devices.
use Rattle.std.proofs.Common.{ℕ, ◌≡◌, ◌≢◌, ◌<◌, true, false, List, [], Option, Some, None, IfSome, refl, sym, ap, subst, ◌⊎◌, inl, inr, ⊎_elim, arith, ◌∙◌, ◌≤◌}
use Rattle.std.proofs.lemmas.Bool.{false≢true}
use Rattle.model_base.specs.{HasRisen, run_shape}
use Rattle.model_base.specs.declared.shape.Shape.{Shape}
use Rattle.model_device.specs.{Disk}
use Rattle.model_parts.specs.{IsOpenable}
use Rattle.model_report.specs.declared.entry.Followed.{Followed}
use Rattle.model_report.specs.declared.fault.Fault.{Fault}
use Rattle.model_report.specs.declared.fault.Fault.TheVariants as fault
use Rattle.model_script.specs.{script_of}
use Rattle.model_script.specs.declared.asked.Command.{Command}
use Rattle.model_script.specs.declared.asked.Command.TheVariants.{Format, Run, Crash, Recover, Restore, Dump, Gen}
use Rattle.model_script.specs.declared.asked.Drive.{Drive}
use Rattle.model_script.specs.declared.script.ScriptLine.{ScriptLine}
use Rattle.model_store.specs.{IsFair, Opens, Reading}
use Rattle.model_store.specs.declared.refusal.Refusal.{Refusal}
use Rattle.model_theorem.proofs.Sizes.{own-fair}
use Rattle.model_theorem.specs.{IsRun, Opened, Ran}
use Rattle.redo_drive.specs.declared.drive.RunEnd.{RunEnd}
use Rattle.redo_drive.specs.declared.drive.RunEnd.TheVariants.{Spent}
use Rattle.redo_io.specs.{SourceSeen}
use Rattle.redo_lab.specs.Told.{IsArchived, AreAccepted, AreLeftRead, HasRunScript, IsOpenedFirst, IsOrderlyOrNew, LeavesStore}
use Rattle.redo_lab.specs.declared.crash_command.Crashing.{Crashing}
use Rattle.redo_lab.specs.declared.outcome.Outcome.{Outcome}
use Rattle.redo_lab.specs.declared.outcome.Outcome.TheVariants as outcome
use Rattle.redo_lab.specs.declared.playing.Stops.{Stops}
use Rattle.redo_lab.proofs.Found.{one-opened, openable-fresh, openable-limits, same-told, unused-unread}
use Rattle.redo_lab.specs.Call.{IsScriptRead, drive_of_seed, leaves_devices, runs_script, AreUnfailedFor, BothDevices, Guarded, IsInRun, IsUnfailed, IsUnfailedAside, LabCall, WhereOpened}
use Rattle.redo_lab.specs.Cause.{AreInRunOrCrashed, AreOfRun, CanPlay, CanRun, IsDeviceFault, IsPastSource, IsPossible, IsRefused, IsRefusedAtEntry, IsUnbegun, IsUnprepared, LeavesFailed, MaySpend, EndsWith, IsDoneOrKeptFrom, IsOutcome}
use Rattle.redo_lab.specs.Devices.{AreArmed}
use Rattle.redo_lab.specs.Laws.{Laws}
use Rattle.redo_lab.specs.Runs.{CommandRuns, HasFailed, IsLeftBy, command_with}

-- what holds of a value that is there
pub at-some : {A : Type 0} (o : Option A) (P : A → Type 0) (x : A) → IfSome o P → o ≡ Some x → P x
at-some None P x holds is = cc
at-some (Some found) P x holds is = let same : found ≡ x = cc in subst P same holds

-- the script that was read is the one that can be run
pub can-play : (call : LabCall) (script : List ScriptLine) → IsScriptRead call.source call.source_now script → (drive : Drive) → CanRun call drive → CanPlay call drive script
can-play call script read drive can =
    let left = at-some call.source.left (λ left. (read.text ≡ left) × (call.source_now.left ≡ Some _)) can.text read.read.all_read can.source in
    let is = sym read.is_script ∙ (ap script_of left.0 ∙ can.is_script) in
    let same : can.script ≡ script = cc in
    subst (CanPlay call drive) same can.plays

-- what the cases of the definitions come to
pub record RunsScript (call : LabCall) (command : Command) (drive : Drive) (script : List ScriptLine) : Type 0 where
  pub past : IsPastSource call command
  pub writes : leaves_devices command ≡ true → ⊥
  pub runs : runs_script command ≡ true
  pub plays : IsPossible call command → CanPlay call drive script
  pub fails_early : (device : Guarded) → HasRisen device.entry.faults device.now.faults → 0 < device.fuse.early → IsDeviceFault command device
  pub unfailed : BothDevices IsUnfailed call → AreUnfailedFor command call
  pub aside : AreUnfailedFor command call → BothDevices IsUnfailedAside call
  pub unbegun : IsUnprepared call → IsUnbegun call command
  pub in_run : BothDevices IsInRun call → AreInRunOrCrashed call command
  pub refused : (refusal : Refusal) → IsRefusedAtEntry call refusal → IsRefused call command refusal

pub runs-script : (call : LabCall) (command : Command) (drive : Drive) (script : List ScriptLine) → CommandRuns call.source call.source_now command drive script
    → RunsScript call command drive script
runs-script call (Run asked) drive script is =
    let same : asked ≡ drive = let some = is.asked in cc in
    subst (λ (d : Drive). RunsScript call (Run asked) d script) same (record {
      past = λ reads. (script, is.is_script);
      writes = λ leaves. false≢true leaves;
      runs = refl;
      plays = λ possible. can-play call script is.is_script asked possible;
      fails_early = λ device risen some. (risen, omega (arith, some));
      unfailed = λ none. none;
      aside = λ none. ((none.0.0, none.0.2), (none.1.0, none.1.2));
      unbegun = λ before. inl before;
      in_run = λ armed. armed;
      refused = λ refusal refused. refused;
    })
runs-script call (Crash asked stop_log stop_data pick workers) drive script is =
    let same : asked ≡ drive = let some = is.asked in cc in
    subst (λ (d : Drive). RunsScript call (Crash asked stop_log stop_data pick workers) d script) same (record {
      past = λ reads. (script, is.is_script);
      writes = λ leaves. false≢true leaves;
      runs = refl;
      plays = λ possible. can-play call script is.is_script asked possible;
      fails_early = λ device risen some. (risen, omega (arith, some));
      unfailed = λ none. ((none.0.0, none.0.2), (none.1.0, none.1.2));
      aside = λ none. none;
      unbegun = λ before. tt;
      in_run = λ armed. inl armed;
      refused = λ refusal refused. inl refused;
    })
runs-script call (Gen seed users groups true max) drive script is =
    let some = is.asked in
    let same : record { seed = seed; max = max; threads = false; log_only = false; own_writes = false; followers = 0; archive = false } ≡ drive = cc in
    subst (λ (d : Drive). RunsScript call (Gen seed users groups true max) d script) same (record {
      past = λ reads. absurd (false≢true reads);
      writes = λ leaves. false≢true leaves;
      runs = refl;
      plays = λ possible. subst (CanPlay call (drive_of_seed seed max)) (sym is.is_script) possible;
      fails_early = λ device risen some. (risen, omega (arith, some));
      unfailed = λ none. none;
      aside = λ none. ((none.0.0, none.0.2), (none.1.0, none.1.2));
      unbegun = λ before. tt;
      in_run = λ armed. armed;
      refused = λ refusal refused. inl refused;
    })
runs-script call command drive script is = absurd is.is_script

-- a script that was read off the source
pub runs-scripted : {source source_now : SourceSeen} {script : List ScriptLine} (drive : Drive) (crash : Option Crashing) → IsScriptRead source source_now script
    → CommandRuns source source_now (command_with drive crash) drive script
runs-scripted drive None read = record { asked = refl; is_script = read; unread = λ plain. absurd (false≢true (sym plain)) }
runs-scripted drive (Some crash) read = record { asked = refl; is_script = read; unread = λ plain. absurd (false≢true (sym plain)) }

-- A STORE THAT IS LEFT
pub opens-stored : (call : LabCall) (opened : Opened) (log data_disk : Disk) → IsOrderlyOrNew call opened log data_disk
    → Opens log.reads data_disk.reads opened.shape opened.pages opened.end
opens-stored call opened log data_disk stored = ⊎_elim (λ orderly. inr orderly) (λ unused. inl unused.0) stored

-- by devices that weren't prepared
pub leaves-unprepared : (call : LabCall) → Laws → IsUnprepared call → LeavesStore call
leaves-unprepared call laws unprepared opened log data_disk log_is data_is log_on data_on log_fresh data_fresh stored fair log_now data_now log_now_is data_now_is = ⊎_elim
    (λ orderly. ⊎_elim
    (λ kept.
    let both = kept log data_disk log_is data_is log_on data_on in
    subst (λ (d : Disk). AreAccepted opened log_now d) (same-told _ _ data_disk data_now both.1 data_is data_now_is)
    (subst (λ (d : Disk). AreAccepted opened d data_disk) (same-told _ _ log log_now both.0 log_is log_now_is)
    (accepts opened orderly.reading log data_disk orderly.shape_is
    (openable-fresh log data_disk call.log.entry.faults call.store.entry.faults opened log_fresh data_fresh orderly))))
    (λ were. absurd (unused-unread laws log.reads data_disk.reads orderly.reading (were log data_disk log_is data_is log_on data_on).0 orderly.orderly.reads))
    unprepared.1)
    (λ unused. absurd (unused.1 unprepared.0.0))
    stored
  where
    accepts : (opened : Opened) (reading : Reading) (log data_disk : Disk) → opened.shape ≡ run_shape reading.shape
        → IsOpenable reading log data_disk → AreAccepted opened log data_disk
    accepts opened reading log data_disk shape openable log_bytes data_bytes image fair =
        let own : IsFair reading.shape data_disk data_bytes =
        own-fair reading.shape data_disk data_bytes (openable-limits reading log data_disk openable)
        (subst (λ (s : Shape). IsFair s data_disk data_bytes) shape fair) in
        let kept = laws.openable reading log data_disk openable log_bytes data_bytes image own in
        (kept.reading, kept.is_read, kept.old_copies)

-- by a run, or none, of which every image is read as a prefix
pub leaves-read : (call : LabCall) (script : List ScriptLine) (run : Option Ran) → AreLeftRead call script run → LeavesStore call
leaves-read call script run reads opened log data_disk log_is data_is log_on data_on log_fresh data_fresh stored fair log_now data_now log_now_is data_now_is log_bytes data_bytes image is_fair =
    let read = reads opened log data_disk log_is data_is log_on data_on log_fresh data_fresh (opens-stored call opened log data_disk stored)
    log_now data_now log_now_is data_now_is log_bytes data_bytes image is_fair in
    (read.reading, read.is_read, read.old_copies)

-- both devices told, if they tell now
abbrev pub AreTelling : LabCall → Type 0
AreTelling call = BothDevices (λ device. device.now.tells ≢ None → device.entry.tells ≢ None) call

pub tells-armed : {call : LabCall} {stops : Stops} → AreArmed call stops → AreTelling call
tells-armed armed = (armed.log_device.same.tells, armed.data_device.same.tells)

pub in-run : {call : LabCall} {stops : Stops} → AreArmed call stops → BothDevices IsInRun call
in-run armed = (armed.log_device.stage_is, armed.data_device.stage_is)

pub aside-armed : {call : LabCall} {stops : Stops} → AreArmed call stops → BothDevices IsUnfailedAside call
aside-armed armed = ((armed.log_device.early, armed.log_device.late), (armed.data_device.early, armed.data_device.late))

pub unfailed-armed : {call : LabCall} {stops : Stops} → AreArmed call stops → call.log.fuse.mid ≡ 0 → call.store.fuse.mid ≡ 0 → BothDevices IsUnfailed call
unfailed-armed armed log_none data_none =
    ((armed.log_device.early, log_none, armed.log_device.late), (armed.data_device.early, data_none, armed.data_device.late))

-- the run is a legal one on whatever store was opened
pub legal-on : (call : LabCall) (command : Command) (drive : Drive) (opened : Opened) (script : List ScriptLine) (run : Option Ran)
    (follows : List Followed) (end : RunEnd) (log_met store_met : Option Disk)
    → Laws → IfSome run (λ run. HasRunScript call command drive opened script run follows end log_met store_met)
    → (store : Opened) → WhereOpened call store (IfSome run (IsRun script store))
legal-on call command drive opened script None follows end log_met store_met laws took store log data_disk log_is data_is log_on data_on log_fresh data_fresh opens = tt
legal-on call command drive opened script (Some run) follows end log_met store_met laws took store log data_disk log_is data_is log_on data_on log_fresh data_fresh opens =
    subst (λ (o : Opened). IsRun script o run) (one-opened laws log data_disk opened store (took.opens log data_disk log_is data_is log_on data_on) opens) took.in_lsn_order

-- what is left of a command that runs a script
pub leaves-run : (call : LabCall) (command : Command) → runs_script command ≡ true → IsUnprepared call ⊎ AreOfRun call command
    → LeavesFailed call command
leaves-run call (Format page_size pages space log_blocks) runs left = absurd (false≢true runs)
leaves-run call (Run drive) runs left = λ _. left
leaves-run call (Crash drive stop_log stop_data pick workers) runs left = λ _. left
leaves-run call (Recover workers) runs left = λ _. left
leaves-run call (Dump why) runs left = λ _. left
leaves-run call (Restore to) runs left = λ _. left
leaves-run call (Gen seed users groups run max) runs left = λ _. left

-- turns are spent by a drive that may spend them
abbrev pub SpendsTurns : LabCall → Drive → Type 0
SpendsTurns call drive = (opened : Opened) (script : List ScriptLine) (run : Ran) (follows : List Followed) (turns user : ℕ)
    (log_met store_met : Option Disk) → call.drives drive opened script run follows (Spent turns user) log_met store_met → MaySpend drive turns

module _ (call : LabCall) (command : Command) (drive : Drive) (script : List ScriptLine)
    (running : CommandRuns call.source call.source_now command drive script) (laws : Laws) where
  abbrev its : RunsScript call command drive script
  its = runs-script call command drive script running

  -- an outcome of it
  pub ends-with : (o : Outcome) → AreTelling call → LeavesStore call → IsOutcome call command o
      → (CanPlay call drive script → AreUnfailedFor command call → IsDoneOrKeptFrom command o) → EndsWith call command o
  ends-with o tells left means complete = record {
    means = means;
    unread = running.unread;
    unwritten = λ leaves. absurd (its.writes leaves);
    left = λ runs. left;
    tells = tells;
    complete = λ possible source unfailed. complete (its.plays possible) unfailed;
  }

  -- THE DEVICES WEREN'T PREPARED.
  leaves-unrun : IsUnprepared call → LeavesFailed call command
  leaves-unrun left = leaves-run call command its.runs (inl left)

  pub unprepared-memory : AreTelling call → IsUnprepared call → EndsWith call command (outcome.Fault fault.Memory)
  unprepared-memory tells left = ends-with (outcome.Fault fault.Memory) tells (leaves-unprepared call laws left) (leaves-unrun left) (λ can unfailed. tt)

  pub unprepared-log : AreTelling call → IsUnprepared call → HasRisen call.log.entry.faults call.log.now.faults → 0 < call.log.fuse.early
      → EndsWith call command (outcome.Fault fault.LogDevice)
  unprepared-log tells left risen some = ends-with (outcome.Fault fault.LogDevice) tells (leaves-unprepared call laws left)
      (its.past, its.fails_early call.log risen some, its.unbegun left, leaves-unrun left)
      (λ can unfailed. absurd (omega (arith, some, (its.aside unfailed).0.0)))

  pub unprepared-data : AreTelling call → IsUnprepared call → HasRisen call.store.entry.faults call.store.now.faults → 0 < call.store.fuse.early
      → EndsWith call command (outcome.Fault fault.DataDevice)
  unprepared-data tells left risen some = ends-with (outcome.Fault fault.DataDevice) tells (leaves-unprepared call laws left)
      (its.past, its.fails_early call.store risen some, its.unbegun left, leaves-unrun left)
      (λ can unfailed. absurd (omega (arith, some, (its.aside unfailed).1.0)))

  -- THE STORE IS REFUSED at entry.
  pub ends-refused : (refusal : Refusal) → AreTelling call → LeavesStore call → BothDevices IsUnfailed call → IsRefusedAtEntry call refusal
      → (CanPlay call drive script → ⊥) → EndsWith call command (outcome.Fault (fault.Store refusal))
  ends-refused refusal tells left unfailed refused wrong = ends-with (outcome.Fault (fault.Store refusal)) tells left
      (its.past, its.unfailed unfailed, its.refused refusal refused) (λ can unfailed. absurd (wrong can))

  -- WHAT A RUN LEAVES, or none
  pub left-read : (run : Option Ran) → BothDevices IsInRun call
      → ((store : Opened) → WhereOpened call store (IfSome run (IsRun script store))) → AreLeftRead call script run → AreOfRun call command
  left-read run armed legal reads = record {
    script = script;
    run = run;
    is_script = running.is_script;
    in_run = its.in_run armed;
    reads = λ store log data_disk log_is data_is log_on data_on log_fresh data_fresh opens fair log_now data_now log_now_is data_now_is. (
      legal store log data_disk log_is data_is log_on data_on log_fresh data_fresh opens,
      reads store log data_disk log_is data_is log_on data_on log_fresh data_fresh opens log_now data_now log_now_is data_now_is,
    );
  }

  module _ {stops : Stops} {run : Option Ran} {follows : List Followed} {end : RunEnd}
      (is : IsLeftBy call command drive stops script run follows end) where
    pub left-by : LeavesFailed call command
    left-by = leaves-run call command its.runs (inr (left-read run (in-run is.armed) (legal-on call command drive is.opened script run follows end _ _ laws is.ran) is.reads))

    pub ends-left : (o : Outcome) → IsOutcome call command o
        → (CanPlay call drive script → AreUnfailedFor command call → IsDoneOrKeptFrom command o) → EndsWith call command o
    ends-left o means complete = ends-with o (tells-armed is.armed) (leaves-read call script run is.reads) means complete

    -- memory ran out over it
    pub left-memory : EndsWith call command (outcome.Fault fault.Memory)
    left-memory = ends-left (outcome.Fault fault.Memory) left-by (λ can unfailed. tt)

  -- ITS TURNS ARE SPENT.
  pub left-spent : {stops : Stops} {run : Ran} {follows : List Followed} (turns user : ℕ) → SpendsTurns call drive
      → IsLeftBy call command drive stops script (Some run) follows (Spent turns user)
      → IsArchived (λ mark flushed. mark ≤ flushed) call drive script run
      → EndsWith call command (outcome.Fault (fault.Turns turns user))
  left-spent {run = run} {follows = follows} turns user spends is archived = ends-left is (outcome.Fault (fault.Turns turns user)) (record {
    drive = drive;
    asked = running.asked;
    may_spend = spends is.opened script run follows turns user _ _ is.ran.driven;
    opened = is.opened;
    script = script;
    run = run;
    follows = follows;
    is_run = is.ran;
    in_run = in-run is.armed;
    reads = is.reads;
    archived = archived;
  })
      (λ can unfailed. (drive, running.asked, spends is.opened script run follows turns user _ _ is.ran.driven))

-- A COMMAND THAT ISN'T `crash` ends with the fault of a device that failed since its fuse was armed.
pub record IsUncrashing (call : LabCall) (command : Command) : Type 0 where
  pub fails : (device : Guarded) → HasRisen device.entry.faults device.now.faults → 0 < device.fuse.mid → IsDeviceFault command device
  pub unfailed : AreUnfailedFor command call → BothDevices IsUnfailed call
  pub unbegun : IsOpenedFirst call call.log.now.tells None × AreLeftRead call [] None → IsUnbegun call command

pub uncrashing-run : (call : LabCall) (drive : Drive) → IsUncrashing call (Run drive)
uncrashing-run call drive = record { fails = λ device risen some. (risen, omega (arith, some)); unfailed = λ none. none; unbegun = λ first. inr first }

pub uncrashing-gen : (call : LabCall) (seed users groups max : ℕ) → IsUncrashing call (Gen seed users groups true max)
uncrashing-gen call seed users groups max = record { fails = λ device risen some. (risen, omega (arith, some)); unfailed = λ none. none; unbegun = λ first. tt }

-- the devices of such a command aren't stopped
abbrev pub no_stops : Stops
no_stops = record { log = None; store = None }

-- its fault, of what the call left
pub ends-failed : (call : LabCall) (command : Command) (drive : Drive) (script : List ScriptLine) {run : Option Ran}
    {follows : List Followed} {end : RunEnd}
    → CommandRuns call.source call.source_now command drive script → Laws → IsUncrashing call command → (f : Fault)
    → IsLeftBy call command drive no_stops script run follows end → IsUnbegun call command → HasFailed call f → EndsWith call command (outcome.Fault f)
ends-failed call command drive script running laws uncrashing fault.LogDevice is unbegun some =
    let its = runs-script call command drive script running in
    ends-left call command drive script running laws is (outcome.Fault fault.LogDevice)
    (its.past, uncrashing.fails call.log (⊎_elim (λ risen. risen) (λ passed. absurd (false≢true passed)) (is.armed.log_device.cause some)) some, unbegun, left-by call command drive script running laws is)
    (λ can unfailed. absurd (omega (arith, some, (uncrashing.unfailed unfailed).0.1)))
ends-failed call command drive script running laws uncrashing fault.DataDevice is unbegun some =
    let its = runs-script call command drive script running in
    ends-left call command drive script running laws is (outcome.Fault fault.DataDevice)
    (its.past, uncrashing.fails call.store (⊎_elim (λ risen. risen) (λ passed. absurd (false≢true passed)) (is.armed.data_device.cause some.0)) some.0, unbegun, left-by call command drive script running laws is)
    (λ can unfailed. absurd (omega (arith, some.0, (uncrashing.unfailed unfailed).1.1)))
ends-failed call command drive script running laws uncrashing f is unbegun some = absurd some
