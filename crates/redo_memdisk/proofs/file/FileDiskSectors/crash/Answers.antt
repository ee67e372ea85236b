-- The crash keeps what reads give, by its sync.
use Rattle.std.proofs.Common.{◌∙◌, ℕ, ◌≤◌, refl, ap, subst}
use Rattle.redo_memdisk.specs.Notes.{crash_met, filled}
use Rattle.redo_memdisk.specs.declared.file.TheConstants.{FILE_DISK_LEN}
use Rattle.redo_memdisk.proofs.Filed.{crash-told, noted-on}
use Rattle.redo_memdisk.proofs.file.FileDiskSectors.crash.Goals as goal

pub returns-in-Ok-clause-step : goal.returns-in-Ok-clause-step
returns-in-Ok-clause-step g c =
    let start = g.S.Contents.bytes in
    let noted = noted-on c.note.ensures (c.answer.ensures.notes ∙ c.try_sync-done.ensures.notes) in
    record {
      left = crash-told start _ _ noted;
      from = ap (crash_met (filled FILE_DISK_LEN start)) noted;
      size = refl;
      later = subst (λ (n : ℕ). n ≤ c.answer.new.self.faults) c.try_sync-done.ensures.faults
          c.in-Ok.ensures.cause.later;
    }
