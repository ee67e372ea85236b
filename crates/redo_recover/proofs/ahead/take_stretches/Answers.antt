use Rattle.std.specs.declared.alloc.AllocError.{AllocError}
use Rattle.redo_recover.specs.Full.{AreFullOf}
use Rattle.redo_recover.proofs.Joining.{made-well}
use Rattle.redo_recover.proofs.ahead.take_stretches.Goals as goal

pub returns : goal.returns
returns g c =
    let done = c.in_ok-stretches.ensures in
    let chain = rw (c.map.ensures.base, c.map.ensures.f) at done.1 in
    made-well AllocError (AreFullOf c.args.layout.now c.args.piece.now c.args.tails.now) chain.0 done.0 c.in_ok-stretches.stretches chain.2 done.2
