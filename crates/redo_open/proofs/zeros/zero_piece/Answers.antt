-- The array holds zeros.
use Rattle.std.proofs.Common.{sym}
use Rattle.redo_open.proofs.Rows.{zeros-is}
use Rattle.redo_open.proofs.zeros.zero_piece.Goals as goal

pub returns : goal.returns
returns c = sym (zeros-is 65536)
