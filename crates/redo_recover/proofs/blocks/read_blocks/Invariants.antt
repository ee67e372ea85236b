use Rattle.std.proofs.Common.{◌≡◌, length}
use Rattle.redo_recover.specs.Blocks.{AreBounded}
use Rattle.std.specs.Prelude.{None}
use Rattle.redo_recover.specs.Devices.{OnContent, OnSource, IsOnlyRead}
use Rattle.redo_recover.specs.Full.{AreBlocksSoFar, AreStanding}
use Rattle.redo_recover.specs.Piece.{IsPieceOf}
use Rattle.redo_recover.specs.Taking.{AreTailsOf}
use Rattle.redo_recover.proofs.blocks.read_blocks.Given as goal

-- the first blocks are read, all of them full
abbrev pub invariant-loop-i : goal.invariant-loop-i
invariant-loop-i g l = record {
  reads : IsOnlyRead g.L.Sectors.seen g.L.Sectors.gives l.fn.log None l.log;
  tails : OnContent (g.L.Sectors.seen l.log).tells (AreTailsOf l.layout.format l.tails);
  piece : OnContent (g.L.Sectors.seen l.log).tells (IsPieceOf l.piece);
  many : length l.views.items ≡ l.i;
  bounded : AreBounded l.layout.blocks l.views.items l.joined.items;
  so_far : OnSource l.layout (g.L.Sectors.seen l.log).tells (AreBlocksSoFar l.ckpt l.views.items l.joined.items l.i);
  standing : OnContent (g.L.Sectors.seen l.log).tells (AreStanding l.layout l.ckpt l.i);
}
