use Rattle.std.proofs.Common.{None}
use Rattle.redo_apply.specs.{ArePagesOf}
use Rattle.redo_archive.proofs.Basing.{AreFirstBases}
use Rattle.redo_recover.specs.Devices.{OnContent, IsOnlyRead}
use Rattle.redo_archive.proofs.base.read_base.Given as goal

abbrev pub invariant-loop-page : goal.invariant-loop-page
invariant-loop-page g l = record {
  its_pages : ArePagesOf l.shape l.pages;
  reads : IsOnlyRead g.A.Sectors.seen g.A.Sectors.gives l.fn.device None l.device;
  first : OnContent (g.A.Sectors.seen l.device).tells (AreFirstBases l.shape l.page l.pages);
}
