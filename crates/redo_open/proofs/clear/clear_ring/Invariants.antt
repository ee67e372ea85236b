-- The places of the blocks below the lsn are filled, and no call has failed.
use Rattle.std.proofs.Common.{◌-◌, ◌≡◌, ◌≤◌, ◌%◌, None, Ok}
use Rattle.model_device.specs.{IsWithin}
use Rattle.model_log.specs.{block_of}
use Rattle.redo_disk.specs.{MakesCalls}
use Rattle.redo_open.specs.Clear.{IsRingTo, ring_end}
use Rattle.redo_open.specs.Puts.{PutsWhere}
use Rattle.redo_open.specs.Zeroing.{ZeroStep}
use Rattle.redo_open.proofs.clear.clear_ring.Given as goal

abbrev pub invariant-loop-at : goal.invariant-loop-at
invariant-loop-at g l = record {
  aligned : l.at % 512 ≡ 0;
  from : block_of l.fn.start ≤ l.at;
  up_to : l.at ≤ l.end;
  step : ZeroStep (IsRingTo l.layout l.ckpt l.start l.at) (ring_end l.layout) (g.L.Sectors.seen l.fn.log) (Ok tt) (g.L.Sectors.seen l.log);
  calls : MakesCalls g.L.Sectors.gives l.fn.log l.log (PutsWhere (IsWithin (ring_end l.layout)) None);
}

abbrev pub decreases-loop-at : goal.decreases-loop-at
decreases-loop-at g l = l.end - l.at
