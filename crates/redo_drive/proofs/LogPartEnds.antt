-- What the log part's device holds of a run, at any moment and so at its end.
use Rattle.std.proofs.Common.{Option, Some, refl, subst, ℕ, ◌≡◌}
use Rattle.std.specs.Prelude.{IfSome}
use Rattle.model_base.specs.declared.shape.Shape.{Shape}
use Rattle.model_core.specs.{lsn, Setup}
use Rattle.model_device.specs.{Disk}
use Rattle.model_running.specs.{LogTells}
use Rattle.model_parts.specs.{LogHoldsWith}
use Rattle.redo_disk.specs.{Seen}
use Rattle.redo_logdev.specs.{DiskHolds}
use Rattle.redo_logdev.specs.Part.{Part}
use Rattle.redo_drive.specs.LogPartSide.{log_side}

-- The device holds the groups that the part does, if it was as it should be when the run began, and the checkpoint isn't older
-- than then.
pub log_tells : {L : Type 0} (seen : L → Seen) (faults number : ℕ) (Begun : Type 0) (c : Setup) (shape : Shape) (p : Part L) (disk : Disk) → Begun → ◌≡◌ {A = Shape} p.shape shape → (seen p.dev).tells ≡ Some disk
    → LogTells (log_side seen faults number Begun) c shape number p disk
log_tells seen faults number Begun c shape p disk begun same tells = record {
  marks = p.marks;
  stable = refl;
  given = refl;
  ckpt = refl;
  asked = refl;
  number_kept = λ log held. held.number_kept begun;
  holds = λ log wholes held are.
      let here : DiskHolds p.shape (lsn c.base) wholes p.marks p.tails p.failed disk =
      subst (λ (o : Option Disk). IfSome o (DiskHolds p.shape (lsn c.base) wholes p.marks p.tails p.failed)) tells (held.groups begun wholes are) in
      record { tails = p.tails; holds = subst (λ (z : Shape). LogHoldsWith z (lsn c.base) wholes p.marks p.tails disk) same here.holds };
}
