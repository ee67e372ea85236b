-- The sectors below the offset are zeros, and no call has failed.
use Rattle.std.proofs.Common.{◌-◌, ◌≡◌, ◌≤◌, ◌%◌, None}
use Rattle.model_device.specs.{IsWithin}
use Rattle.redo_disk.specs.{MakesCalls, OnTold}
use Rattle.redo_open.specs.Erase.{HasErased, Reaches}
use Rattle.redo_open.specs.Puts.{PutsWhere}
use Rattle.redo_open.proofs.zeros.erase.Given as goal

abbrev pub invariant-loop-at : goal.invariant-loop-at
invariant-loop-at g l = record {
  aligned : l.at % 512 ≡ 0;
  from : l.fn.from ≤ l.at;
  up_to : l.at ≤ l.end;
  size : (g.D.Sectors.seen l.device).size ≡ (g.D.Sectors.seen l.fn.device).size;
  later : (g.D.Sectors.seen l.fn.device).faults ≤ (g.D.Sectors.seen l.device).faults;
  told : OnTold (g.D.Sectors.seen l.fn.device).tells (g.D.Sectors.seen l.device).tells
      (λ old new. Reaches l.fn.end old → HasErased l.fn.from l.at old new);
  calls : MakesCalls g.D.Sectors.gives l.fn.device l.device (PutsWhere (IsWithin l.end) None);
}

abbrev pub decreases-loop-at : goal.decreases-loop-at
decreases-loop-at g l = l.end - l.at
