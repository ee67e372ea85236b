-- The places of all pages so far pass, and no call has failed.
use Rattle.std.proofs.Common.{◌≡◌, ◌≤◌, None}
use Rattle.model_device.specs.{IsWithin}
use Rattle.model_page.specs.{data_device_length}
use Rattle.redo_disk.specs.{MakesCalls, OnTold}
use Rattle.redo_open.specs.Mend.{AreMended}
use Rattle.redo_open.specs.Puts.{PutsWhere}
use Rattle.redo_open.proofs.mend.mend.Given as goal

abbrev pub invariant-loop-page : goal.invariant-loop-page
invariant-loop-page g l = record {
  live : l.part.failed ≡ None;
  shape : l.part.shape ≡ l.fn.part.shape;
  size : (g.D.Sectors.seen l.part.dev).size ≡ (g.D.Sectors.seen l.fn.part.dev).size;
  later : (g.D.Sectors.seen l.fn.part.dev).faults ≤ (g.D.Sectors.seen l.part.dev).faults;
  told : OnTold (g.D.Sectors.seen l.fn.part.dev).tells (g.D.Sectors.seen l.part.dev).tells (AreMended l.shape l.page);
  calls : MakesCalls g.D.Sectors.gives l.fn.part.dev l.part.dev (PutsWhere (IsWithin (data_device_length l.shape)) None);
}
