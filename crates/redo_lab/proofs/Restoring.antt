-- What `restore` comes to.
use Rattle.std.proofs.Common.{ℕ, ◌≡◌, List, None, Result, Ok, Err, IfOk, IfSome, refl, ◌∙◌}
use Rattle.std.proofs.lemmas.Bool.{false≢true}
use Rattle.model_archive.specs.{IsRestored, RefusesRestore}
use Rattle.model_archive.specs.declared.refusal.RestoreRefusal.{RestoreRefusal}
use Rattle.model_archive.specs.declared.refusal.RestoreRefusal.TheVariants as refusal
use Rattle.model_base.specs.{HasRisen}
use Rattle.model_device.specs.{Disk}
use Rattle.model_page.specs.declared.content.Content.{Content}
use Rattle.model_report.specs.{restored_text}
use Rattle.model_report.specs.declared.fault.Fault.TheVariants as fault
use Rattle.model_script.specs.declared.asked.Command.TheVariants.{Restore}
use Rattle.redo_archive.specs.{HasRestoreCause}
use Rattle.redo_archive.specs.declared.restored.RestoreFault.{RestoreFault}
use Rattle.redo_archive.specs.declared.restored.RestoreFault.TheVariants.{Missing, To, Page, Block, Record, Dev, NoMemory}
use Rattle.redo_disk.proofs.Calls.{MayEndWith-good}
use Rattle.redo_disk.proofs.Made.{weaker_calls}
use Rattle.redo_disk.specs.{Call, MakesCalls, ReadsMayEndWith, StillTells}
use Rattle.redo_lab.specs.declared.outcome.Outcome.{Outcome}
use Rattle.redo_lab.specs.declared.outcome.Outcome.TheVariants as outcome
use Rattle.redo_lab.proofs.Alone.{IsLeftAlone, tells-alone, unfailed-alone, unwritten-alone}
use Rattle.redo_lab.proofs.Ends.{at-some}
use Rattle.redo_lab.proofs.Told.{still-equal}
use Rattle.redo_lab.specs.Call.{BothDevices, IsWellCalled, LabCall, WhereArchiveTold}
use Rattle.redo_lab.specs.Cause.{CanRestore, EndsWith, IsDoneOrKeptFrom, IsOutcome, WhereDone}
use Rattle.redo_lab.specs.Restoring.{unrestored}
use Rattle.redo_lab.specs.Runs.{outcome_of}

-- for an lsn a device that restores something isn't refused
abbrev pub IsOneRestore : Type 0
IsOneRestore = (image : List ℕ) (lsn n end : ℕ) (pages : List Content) (refusal : RestoreRefusal)
    → IsRestored image lsn n end pages → RefusesRestore image lsn refusal → ⊥

module _ (call : LabCall) (to : ℕ) (unread : call.source_now ≡ call.source) (alone : BothDevices IsLeftAlone call)
    (still : StillTells call.archive.entry.tells call.archive.now.tells) where
  restore-ends : (o : Outcome) → IsOutcome call (Restore to) o → (CanRestore call to → IsDoneOrKeptFrom (Restore to) o)
      → EndsWith call (Restore to) o
  restore-ends o means complete = record {
    means = means;
    unread = λ plain. unread;
    unwritten = λ leaves. unwritten-alone call alone;
    left = λ runs. absurd (false≢true runs);
    tells = tells-alone call alone;
    complete = λ possible source unfailed. complete possible;
  }

  -- what reads gave is what they gave at entry, where the device still tells
  at-entry : (P : Disk → Type 0) → IfSome call.archive.now.tells P → WhereArchiveTold call P
  at-entry P holds disk is on = at-some call.archive.now.tells P disk holds (still-equal _ _ still on ∙ is)

  pub restored-ends : {E : Type 0} (r : Result (List ℕ) E) (n end : ℕ) (pages : List Content)
      → IfSome call.archive.now.tells (λ disk. IsRestored disk.reads to n end pages)
      → IfOk r (λ text. text ≡ restored_text n end pages)
      → EndsWith call (Restore to) (outcome_of r)
  restored-ends (Ok text) n end pages is text_is = restore-ends (outcome.Text text) (
    unfailed-alone call alone,
    record {
      n = n;
      end = end;
      pages = pages;
      is_restored = at-entry (λ disk. IsRestored disk.reads to n end pages) is;
      text_is = text_is;
    },
  )
      (λ can. tt)
  restored-ends (Err error) n end pages is text_is = restore-ends (outcome.Fault fault.Memory)
      (λ runs. absurd (false≢true runs)) (λ can. tt)

  -- nothing is restored, for a cause that the device has
  refused-ends : IsOneRestore → (r : RestoreRefusal) → IfSome call.archive.now.tells (λ disk. RefusesRestore disk.reads to r)
      → EndsWith call (Restore to) (outcome.Fault (fault.Archive r))
  refused-ends one r cause =
      let refused = at-entry (λ disk. RefusesRestore disk.reads to r) cause in
      restore-ends (outcome.Fault (fault.Archive r)) refused
      (λ can. absurd (one can.archive.reads to can.n can.end can.pages r can.is_restored
      (refused can.archive can.tells can.still)))

  pub unrestored-ends : IsOneRestore → (f : RestoreFault) → HasRestoreCause call.archive.now.tells to f
      → (f ≡ Dev → HasRisen call.archive.entry.faults call.archive.now.faults)
      → EndsWith call (Restore to) (outcome.Fault (unrestored f))
  unrestored-ends one Missing cause risen = refused-ends one refusal.Missing cause
  unrestored-ends one (To lsn) cause risen = refused-ends one (refusal.To lsn) cause
  unrestored-ends one (Page p) cause risen = refused-ends one (refusal.Page p) cause
  unrestored-ends one (Block lsn) cause risen = refused-ends one (refusal.Block lsn) cause
  unrestored-ends one (Record lsn) cause risen = refused-ends one (refusal.Record lsn) cause
  unrestored-ends one Dev cause risen = restore-ends (outcome.Fault fault.ArchiveDevice) (risen refl, tt)
      (λ can. can.unfailed (risen refl))
  unrestored-ends one NoMemory cause risen = restore-ends (outcome.Fault fault.Memory)
      (λ runs. absurd (false≢true runs)) (λ can. tt)

-- where something is restored no call of the archive's device answered an error
pub restored-well : {A E : Type 0} (gives : A → Call → A → Type 0) (old new : A) (r : Result (List ℕ) E)
    → MakesCalls gives old new (ReadsMayEndWith None) → WhereDone (outcome_of r) (IsWellCalled gives old new)
restored-well gives old new (Ok text) made = weaker_calls (λ calls is. MayEndWith-good calls is.ends) made
restored-well gives old new (Err error) made = tt
