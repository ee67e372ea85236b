use Rattle.model_core.specs.Lanes.{lsn}
use Rattle.redo_follow.proofs.Pieces.{next_block_is}
use Rattle.redo_follow.proofs.follower.Follower.next_block.Goals as goal

pub returns : goal.returns
unfolding lsn
returns g c =
    let from = c.read_to.ensures in
    rw (c.lsn_of-lsn.ensures, from.value) (next_block_is c.args.self.now.state from.some)
