use Rattle.std.proofs.Common.{arith, length, ◌≡◌}
use Rattle.redo_archiver.proofs.OneBlock.{mark-reached}
use Rattle.redo_archiver.proofs.appending.append_block.Goals as goal

pub returns-clause-holds : goal.returns-clause-holds
returns-clause-holds g c next pages wholes run is known =
    let may = c.requires in
    let part = c.args.part.now in
    let mark = c.args.mark in
    let block = c.args.block.now in
    let long : length block ≡ 512 = omega (arith, c.fits-block) in
    let one = c.one_block_archived.ensures.one part.marks.mark mark may.at_start may.later may.near in
    c.append.ensures.holds next pages wholes known
    (mark-reached part.start wholes part.marks.mark mark block may.start run may.at_start may.near is)
    (c.one_block_archived.ensures.are part.start wholes part.marks.mark mark block one long is)
