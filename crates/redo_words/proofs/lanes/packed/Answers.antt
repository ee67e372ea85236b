use Rattle.std.proofs.Common.{arith, ◌∙◌}
use Rattle.redo_words.proofs.LaneLists.{filled}
use Rattle.redo_words.proofs.lanes.packed.Goals as goal

pub returns : goal.returns
returns c = c.from_le_bytes.ensures ∙ filled c.args.lane _ c.args.bytes.now _ c.copy_from_slice.ensures.after (omega arith) (omega (arith, c.requires))
