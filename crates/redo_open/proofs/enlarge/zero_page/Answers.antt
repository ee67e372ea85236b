-- The array holds zeros.
use Rattle.std.proofs.Common.{sym}
use Rattle.redo_open.proofs.Rows.{zeros-is}
use Rattle.redo_open.proofs.enlarge.zero_page.Goals as goal

pub returns : goal.returns
returns c = sym (zeros-is 4096)
