use Rattle.std.proofs.Common.{None}
use Rattle.redo_apply.specs.{ArePagesOf}
use Rattle.redo_archive.specs.Grouped.{HasLsnRoom}
use Rattle.redo_archive.proofs.Blocking.{AreReadOf}
use Rattle.redo_recover.specs.Devices.{OnContent, IsOnlyRead}
use Rattle.redo_recover.specs.Piece.{IsPieceOf}
use Rattle.redo_archive.proofs.blocks.restore_blocks.Given as goal

abbrev pub invariant-loop-i : goal.invariant-loop-i
invariant-loop-i g l = record {
  reads : IsOnlyRead g.A.Sectors.seen g.A.Sectors.gives l.fn.device None l.device;
  piece : OnContent (g.A.Sectors.seen l.device).tells (IsPieceOf l.piece);
  its_pages : ArePagesOf l.extent.shape l.groups.restored.pages;
  room : HasLsnRoom l.groups.at l.groups.restored.n l.groups.rest.items l.left;
  so_far : AreReadOf l.extent l.lsn l.fn.pages l.i l.left l.groups (g.A.Sectors.seen l.device).tells;
}
