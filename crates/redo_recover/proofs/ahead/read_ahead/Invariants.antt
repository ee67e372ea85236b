use Rattle.std.proofs.Common.{◌≡◌, ◌≤◌, None, length}
use Rattle.redo_recover.specs.Devices.{OnContent, IsOnlyRead}
use Rattle.redo_recover.specs.Full.{AreFullIn, HasBounds}
use Rattle.redo_recover.specs.Piece.{IsPieceOf}
use Rattle.redo_recover.specs.Taking.{AreTailsOf}
use Rattle.redo_recover.proofs.ahead.read_ahead.Given as goal

-- so many blocks are taken
abbrev pub invariant-loop : goal.invariant-loop
invariant-loop g l = record {
  reads : IsOnlyRead g.L.Sectors.seen g.L.Sectors.gives l.fn.log None l.log;
  tails : OnContent (g.L.Sectors.seen l.log).tells (AreTailsOf l.layout.format l.tails);
  piece : OnContent (g.L.Sectors.seen l.log).tells (IsPieceOf l.piece);
  full : OnContent (g.L.Sectors.seen l.log).tells (AreFullIn l.layout l.full);
  bounds : HasBounds l.full;
  few : length l.full.views.items ≤ l.layout.blocks;
  lsn : l.full.lsn ≡ l.ckpt;
}
