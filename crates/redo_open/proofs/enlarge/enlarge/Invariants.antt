-- The new slots are zeros and the pages so far are in their places, and no call has failed.
use Rattle.std.proofs.Common.{◌≡◌, ◌≤◌, None}
use Rattle.model_base.specs.{run_shape}
use Rattle.model_device.specs.{IsWithin}
use Rattle.model_page.specs.{data_device_length}
use Rattle.redo_disk.specs.{MakesCalls, OnTold}
use Rattle.redo_open.specs.Mend.{IsSettledData}
use Rattle.redo_open.specs.Puts.{PutsWhere}
use Rattle.redo_open.proofs.Enlarges.{IsGrown}
use Rattle.redo_open.proofs.enlarge.enlarge.Given as goal

abbrev pub invariant-loop-page : goal.invariant-loop-page
invariant-loop-page g l = record {
  size : (g.D.Sectors.seen l.device).size ≡ (g.D.Sectors.seen l.fn.device).size;
  later : (g.D.Sectors.seen l.fn.device).faults ≤ (g.D.Sectors.seen l.device).faults;
  told : OnTold (g.D.Sectors.seen l.fn.device).tells (g.D.Sectors.seen l.device).tells
      (λ old new. IsSettledData (run_shape l.shape) old → IsGrown l.shape l.pages l.page old new);
  calls : MakesCalls g.D.Sectors.gives l.fn.device l.device
      (PutsWhere (IsWithin (data_device_length (run_shape l.shape))) None);
}
