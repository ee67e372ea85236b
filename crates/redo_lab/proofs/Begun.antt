-- The archive of a run, begun on a device that was handed on for it.
use Rattle.std.proofs.Common.{ℕ, ◌≡◌, ◌≤◌, ◌+◌, Bool, true, false, not, Option, Some, None, IfSome, List, if◌then◌else◌, is_some, option_map, refl, sym, ap, subst, ◌∙◌, ⊎_elim, arith, length, map}
use Rattle.model_archive.specs.{IsRunStart, pages_end}
use Rattle.model_base.specs.declared.shape.Shape.{Shape}
use Rattle.model_base.specs.{HasRisen}
use Rattle.model_log.specs.{IsAtDataStart, lsn_of, sn_of, stream_of}
use Rattle.model_report.specs.declared.fault.Fault.{Fault}
use Rattle.model_report.specs.declared.fault.Fault.TheVariants as fault
use Rattle.model_script.specs.{ArchiveFits, group_of}
use Rattle.model_script.specs.declared.asked.Command.{Command}
use Rattle.model_script.specs.declared.asked.Command.TheVariants.{Run}
use Rattle.model_script.specs.declared.asked.Drive.{Drive}
use Rattle.model_script.specs.declared.script.ScriptLine.{ScriptLine}
use Rattle.redo_archive.specs.Part.{Part}
use Rattle.redo_disk.proofs.Made.{none_ends}
use Rattle.redo_disk.specs.{Call, Seen}
use Rattle.redo_disk.specs.declared.error.DevError.{DevError}
use Rattle.redo_disk.specs.declared.error.DevError.TheVariants.{Failed, NoMemory}
use Rattle.redo_drive.specs.{IsNewArchive, MayBegin}
use Rattle.redo_drive.specs.declared.drive.RunEnd.{RunEnd}
use Rattle.redo_drive.specs.declared.drive.RunEnd.TheVariants.{Done, Spent}
use Rattle.redo_memdisk.specs.declared.fused.Fused.{Fused}
use Rattle.redo_store.specs.declared.opened.Opened.{Opened}
use Rattle.redo_lab.proofs.Opening.{unplayed-archive, unplayed-memory}
use Rattle.redo_lab.proofs.Unarchived.{no-archive, spares-untouched}
use Rattle.redo_lab.specs.Archiving.{AreBegun, AreUnbegunBy, device_of, IsUnfused}
use Rattle.redo_lab.specs.Call.{IsWellCalled, LabCall, Unfused, unfused}
use Rattle.redo_lab.specs.Cause.{archive_size, EndsWith, WhereDone}
use Rattle.redo_lab.specs.Laws.{Laws}
use Rattle.redo_lab.specs.Runs.{AreWellCalled, CommandRuns, IsGivenBack, IsUncut, SparedBy, StandsReady, course_done, course_of, ended_by}
use Rattle.redo_lab.specs.declared.outcome.Outcome.{Outcome}
use Rattle.redo_lab.specs.declared.outcome.Outcome.TheVariants as outcome
use Rattle.redo_lab.specs.declared.playing.Course.{Course}
use Rattle.redo_lab.specs.declared.playing.Course.TheVariants as course
use Rattle.redo_lab.specs.declared.playing.Played.{Played}
use Rattle.redo_lab.specs.declared.playing.Stops.{Stops}

-- lsns rise
rises : (s n : ℕ) → IsAtDataStart s → s ≤ lsn_of (sn_of s + n)
rises s n place = omega arith

-- a run may be archived from where it starts
pub archive-start : {L D : Type 0} (given : Opened L D) (script : List ScriptLine) (log_only : Bool) → MayBegin given script log_only
    → IsRunStart given.start
archive-start given script log_only may = record {
  place = may.runnable.place;
  first = (let low = may.runnable.first in omega arith);
  small = (let high = may.fits.end in let up = rises given.start (length (stream_of (map (group_of given.shape.space) script))) may.runnable.place in omega arith);
}

-- a device that has room for the run has room for the pages
pub archive-room : {A : Type 0} (seen : A → Seen) (shape : Shape) (start : ℕ) (script : List ScriptLine) (device : Option A)
    → ArchiveFits shape start (option_map (λ device. (seen device).size) device) script
    → IfSome device (λ device. pages_end shape ≤ (seen device).size)
archive-room seen shape start script None fits = tt
archive-room seen shape start script (Some device) fits = omega arith

module _ {L D A : Type 0} (seen : A → Seen) (given : Opened L D) where
  pub begun-so : (arch_gives : A → Call → A → Type 0) (device : Option A) (begun : Option (Part A))
      → AreBegun seen arch_gives given device begun → is_some begun ≡ is_some device
  begun-so arch_gives None None are = refl
  begun-so arch_gives (Some device) (Some begun) are = refl
  begun-so arch_gives None (Some begun) are = absurd are
  begun-so arch_gives (Some device) None are = absurd are

  -- an archive that a drive may go on with
  pub begun-new : (arch_gives : A → Call → A → Type 0) (script : List ScriptLine) (device : Option A)
      (begun : Option (Part A)) → AreBegun seen arch_gives given device begun
      → ArchiveFits given.shape given.start (option_map (λ device. (seen device).size) device) script
      → IfSome begun (IsNewArchive seen given script)
  begun-new arch_gives script None None are fits = tt
  begun-new arch_gives script (Some device) (Some begun) are fits = record {
    live = are.live;
    shape = are.shape_is;
    start = are.start_is;
    begun = are.marks_are;
    room = (let size = are.size in omega (arith, size, fits));
  }
  begun-new arch_gives script None (Some begun) are fits = absurd are
  begun-new arch_gives script (Some device) None are fits = absurd are

-- WHAT BECOMES OF THE DEVICE

-- it is given back as it was
pub given-same : {A : Type 0} (seen : A → Seen) (course : Course) (device : Option A) → IsGivenBack seen (SparedBy course) device device
given-same seen course None = tt
given-same seen (course.Ended f) (Some device) = spares-untouched (unfused seen device device) (outcome.Fault f) refl
given-same seen (course.Stopped f) (Some device) = spares-untouched (unfused seen device device) (outcome.Fault f) refl
given-same seen (course.Played played f) (Some device) = tt

-- of a run that ended for want of memory, or by it
unspared : (f : Fault) (archive : Unfused) → (f ≡ fault.ArchiveDevice) → SparedBy (course.Ended f) archive
unspared f archive is = subst (λ (f : Fault). SparedBy (course.Ended f) archive) (sym is) tt

pub given-unbegun : {A : Type 0} (seen : A → Seen) (device : Option A) (f : Fault) (left : A) → AreUnbegunBy seen device f left
    → IsGivenBack seen (SparedBy (course.Ended f)) device (Some left)
given-unbegun seen None f left why = absurd why
given-unbegun seen (Some device) f left why = ⊎_elim
    (λ failed. unspared f (unfused seen device left) failed.0)
    (λ memory. subst (λ (f : Fault). SparedBy (course.Ended f) (unfused seen device left)) (sym memory) tt)
    why

pub given-memory : {L D A : Type 0} (seen : A → Seen) (arch_gives : A → Call → A → Type 0) (given : Opened L D)
    (device : Option A) (begun : Option (Part A)) → AreBegun seen arch_gives given device begun
    → IsGivenBack seen (SparedBy (course.Ended fault.Memory)) device (device_of begun)
given-memory seen arch_gives given None None are = tt
given-memory seen arch_gives given (Some device) (Some begun) are = tt
given-memory seen arch_gives given None (Some begun) are = absurd are
given-memory seen arch_gives given (Some device) None are = absurd are

-- of a run that was driven
spared-done : (played : Played) (cause : Option Fault) (archive : Unfused) → SparedBy (course_done played cause) archive
spared-done played (Some fault.Memory) archive = tt
spared-done played cause archive = tt

spared-run : (how : RunEnd) (played : Played) (cause : Option Fault) (archive : Unfused) → SparedBy (course_of how played cause) archive
spared-run (Spent turns user) played cause archive = tt
spared-run Done played cause archive = spared-done played cause archive

pub given-run : {A : Type 0} (seen : A → Seen) (how : RunEnd) (played : Played) (cause : Option Fault) (device now : Option A)
    → is_some now ≡ is_some device → IsGivenBack seen (SparedBy (course_of how played cause)) device now
given-run seen how played cause None None is = tt
given-run seen how played cause (Some device) (Some now) is = spared-run how played cause (unfused seen device now)
given-run seen how played cause None (Some now) is = absurd (cc)
given-run seen how played cause (Some device) None is = absurd (cc)

-- THE CALLS OF THE DEVICE

-- no call of it
pub same-well : {A : Type 0} (gives : A → Call → A → Type 0) (course : Course) (device : Option A)
    → AreWellCalled gives course device device
same-well gives course None = tt
same-well gives course (Some device) = λ uncut. none_ends gives device

-- a run that was cut is bound to none
pub cut-well : {A : Type 0} (gives : A → Call → A → Type 0) (course : Course) → (IsUncut course → ⊥)
    → (device now : Option A) → AreWellCalled gives course device now
cut-well gives course cut None None = tt
cut-well gives course cut None (Some now) = tt
cut-well gives course cut (Some device) None = tt
cut-well gives course cut (Some device) (Some now) = λ uncut. absurd (cut uncut)

-- a run that wasn't cut met no error of the archive
pub uncut-none : (how : RunEnd) (played : Played) (log store archive : Option DevError)
    → IsUncut (course_of how played (ended_by log store archive)) → archive ≡ None
uncut-none how played log store None uncut = refl
uncut-none (Spent turns user) played log store (Some e) uncut = absurd uncut
uncut-none Done played (Some Failed) store (Some e) uncut = absurd uncut
uncut-none Done played None (Some Failed) (Some e) uncut = absurd uncut
uncut-none Done played None None (Some Failed) uncut = absurd uncut
uncut-none Done played None None (Some NoMemory) uncut = absurd uncut
uncut-none Done played None (Some NoMemory) (Some Failed) uncut = absurd uncut
uncut-none Done played None (Some NoMemory) (Some NoMemory) uncut = absurd uncut
uncut-none Done played (Some NoMemory) (Some Failed) (Some e) uncut = absurd uncut
uncut-none Done played (Some NoMemory) None (Some Failed) uncut = absurd uncut
uncut-none Done played (Some NoMemory) None (Some NoMemory) uncut = absurd uncut
uncut-none Done played (Some NoMemory) (Some NoMemory) (Some Failed) uncut = absurd uncut
uncut-none Done played (Some NoMemory) (Some NoMemory) (Some NoMemory) uncut = absurd uncut

-- as many are given back as are handed on
given-as : {A : Type 0} (seen : A → Seen) (Is : Unfused → Type 0) (device now : Option A) → IsGivenBack seen Is device now
    → is_some now ≡ is_some device
given-as seen Is None None back = refl
given-as seen Is (Some device) (Some now) back = refl
given-as seen Is None (Some now) back = absurd back
given-as seen Is (Some device) None back = absurd back

-- one is handed on where a run is archived
pub handed-on : {A : Type 0} (arch : A) (archived : Bool) (on : Option A) → on ≡ (if archived then Some arch else None) → is_some on ≡ archived
handed-on arch true on is = ap is_some is
handed-on arch false on is = ap is_some is

-- ONE THAT WAS HANDED ON where a run is archived, and kept where it isn't
module _ {A : Type 0} (seen : A → Seen) (Is : Unfused → Type 0) (arch : A) where
  abbrev On : Bool → Option A
  On archived = if archived then Some arch else None

  abbrev Kept-back : Bool → Option A
  Kept-back archived = if archived then None else Some arch

  one-back : (archived : Bool) → is_some (On archived) ≡ not (is_some (Kept-back archived))
  one-back true = refl
  one-back false = refl

  pub handed-one : (archived : Bool) (on kept left : Option A) → on ≡ On archived → kept ≡ Kept-back archived → IsGivenBack seen Is on left
      → is_some left ≡ not (is_some kept)
  handed-one archived on kept left is keeps back =
      given-as seen Is on left back ∙ ap is_some is ∙ one-back archived ∙ sym (ap (λ (o : Option A). not (is_some o)) keeps)

  same-handed : (archived : Bool) (device : A) → Some device ≡ On archived → arch ≡ device
  same-handed true device is = cc
  same-handed false device is = absurd (cc)

  pub back-unfused : (archived : Bool) (on left : Option A) (now : A) → on ≡ On archived → IsGivenBack seen Is on left
      → IfSome left (λ device. now ≡ device) → IsUnfused seen on left (unfused seen arch now)
  back-unfused archived None None now is back same = tt
  back-unfused archived (Some device) (Some left) now is back same =
      ap (λ (a : A). unfused seen a now) (same-handed archived device is) ∙ ap (λ (a : A). unfused seen device a) same
  back-unfused archived None (Some left) now is back same = absurd back
  back-unfused archived (Some device) None now is back same = absurd back

  pub back-is : (archived : Bool) (on left : Option A) (now : A) → on ≡ On archived → archived ≡ true → IsGivenBack seen Is on left
      → IfSome left (λ device. now ≡ device) → Is (unfused seen arch now)
  back-is archived None left now is handed back same = let none : None ≡ Some arch = is ∙ ap On handed in absurd (cc)
  back-is archived (Some device) (Some left) now is handed back same =
      subst Is (sym (ap (λ (a : A). unfused seen a now) (same-handed archived device is) ∙ ap (λ (a : A). unfused seen device a) same)) back
  back-is archived (Some device) None now is handed back same = absurd back

  -- where the command is done, no call of the device answered an error
  well-text : (gives : A → Call → A → Type 0) (course : Course) (archived : Bool) (on left : Option A) (now : A)
      → on ≡ On archived → IsGivenBack seen Is on left → IfSome left (λ device. now ≡ device)
      → (archived ≡ false → now ≡ arch)
      → (archived ≡ true → IsUncut course) → AreWellCalled gives course on left → IsWellCalled gives arch now
  well-text gives course false on left now is back same alone uncut well =
      subst (IsWellCalled gives arch) (sym (alone refl)) (none_ends gives arch)
  well-text gives course true None left now is back same alone uncut well =
      let none : None ≡ Some arch = is in absurd (cc)
  well-text gives course true (Some device) None now is back same alone uncut well = absurd back
  well-text gives course true (Some device) (Some left) now is back same alone uncut well =
      subst (λ (d : A). IsWellCalled gives d now) (sym (same-handed true device is))
      (subst (IsWellCalled gives device) (sym same) (well (uncut refl)))

  pub well-back : (gives : A → Call → A → Type 0) (course : Course) (archived : Bool) (on left : Option A) (now : A)
      (o : Outcome) → on ≡ On archived → IsGivenBack seen Is on left → IfSome left (λ device. now ≡ device)
      → (archived ≡ false → now ≡ arch)
      → (archived ≡ true → WhereDone o (IsUncut course)) → AreWellCalled gives course on left
      → WhereDone o (IsWellCalled gives arch now)
  well-back gives course archived on left now (outcome.Text text) = well-text gives course archived on left now
  well-back gives course archived on left now (outcome.Report text cut) = λ is back same alone uncut well. tt
  well-back gives course archived on left now (outcome.Fault cut) = λ is back same alone uncut well. tt

  pub back-kept : (archived : Bool) (kept : Option A) (now : A) → kept ≡ Kept-back archived → archived ≡ false
      → IfSome kept (λ device. now ≡ device) → now ≡ arch
  back-kept archived kept now keeps alone same = subst (λ (o : Option A). IfSome o (λ device. now ≡ device)) (keeps ∙ ap Kept-back alone) same

-- and by its size the script is judged
pub archive-sized : {A : Type 0} (seen : A → Seen) (archive : Unfused) (drive : Drive) (device now : Option A) → is_some device ≡ drive.archive
    → IsUnfused seen device now archive → option_map (λ device. (seen device).size) device ≡ archive_size archive drive
archive-sized seen archive drive None None is same = no-archive archive drive (sym is)
archive-sized seen archive drive (Some device) (Some now) is same =
    subst (λ (b : Bool). Some (seen device).size ≡ (if b then Some archive.entry.size else None)) is
    (ap (λ (a : Unfused). Some a.entry.size) (sym same))
archive-sized seen archive drive None (Some now) is same = absurd same
archive-sized seen archive drive (Some device) None is same = absurd same

-- WHAT A RUN COMES TO whose archive wasn't begun
module _ {L D A : Type 0} (log_seen : L → Seen) (data_seen : D → Seen) (seen : A → Seen) (call : LabCall) (command : Command) (drive : Drive) (stops : Stops)
    (script : List ScriptLine) (running : CommandRuns call.source call.source_now command drive script) (laws : Laws)
    (given : Opened (Fused L) (Fused D)) (ready : StandsReady log_seen data_seen call drive stops script given)
    (only : drive.archive ≡ true → command ≡ Run drive) where
  failed-so : (device left : A) → drive.archive ≡ true → call.archive ≡ unfused seen device left
      → HasRisen (seen device).faults (seen left).faults → EndsWith call command (outcome.Fault fault.ArchiveDevice)
  failed-so device left archived same risen = unplayed-archive call command drive stops script running laws ready.armed ready.reads
      drive (only archived) refl archived (omega (arith, ready.unfailed)) (omega (arith, ready.unfailed)) ready.opened ready.opens
      (laws.no_misfit _ _ _ _ script ready.fits ready.archive_fits)
      (subst (λ (a : Unfused). HasRisen a.entry.faults a.now.faults) (sym same) risen)

  pub unbegun-comes : (device : Option A) (f : Fault) (left : A) → AreUnbegunBy seen device f left → is_some device ≡ drive.archive
      → IsUnfused seen device (Some left) call.archive → EndsWith call command (outcome.Fault f)
  unbegun-comes None f left why is same = absurd why
  unbegun-comes (Some device) f left why is same = ⊎_elim
      (λ failed. subst (λ (f : Fault). EndsWith call command (outcome.Fault f)) (sym failed.0) (failed-so device left (sym is) same failed.1))
      (λ memory. subst (λ (f : Fault). EndsWith call command (outcome.Fault f)) (sym memory)
      (unplayed-memory call command drive stops script running laws ready.armed ready.reads))
      why
