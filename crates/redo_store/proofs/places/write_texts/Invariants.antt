use Rattle.std.proofs.Common.{◌≡◌, ◌≤◌, map, take, None}
use Rattle.model_device.specs.{Disk}
use Rattle.redo_disk.specs.{MakesCalls, OnTold, Serve, ToWrite}
use Rattle.redo_store.specs.Places.{text_writes}
use Rattle.model_parts.specs.{written_all}
use Rattle.redo_store.proofs.places.write_texts.Given as goal

abbrev pub invariant-loop-i : goal.invariant-loop-i
invariant-loop-i g l = record {
  size : (g.D.Sectors.seen l.device).size ≡ (g.D.Sectors.seen l.fn.device).size;
  later : (g.D.Sectors.seen l.fn.device).faults ≤ (g.D.Sectors.seen l.device).faults;
  told : OnTold (g.D.Sectors.seen l.fn.device).tells (g.D.Sectors.seen l.device).tells (λ (old new : Disk). new ≡ written_all old (take l.i (text_writes l.shape l.batch l.texts)));
  calls : MakesCalls g.D.Sectors.gives l.fn.device l.device (Serve (map ToWrite (take l.i (text_writes l.shape l.batch l.texts))) None);
}
