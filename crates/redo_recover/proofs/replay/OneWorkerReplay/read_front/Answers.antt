use Rattle.redo_recover.proofs.replay.OneWorkerReplay.read_front.Goals as goal

pub returns : goal.returns
returns c = c.none.ensures c.args.shape.now c.args.bytes.now
