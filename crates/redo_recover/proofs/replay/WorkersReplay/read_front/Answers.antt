use Rattle.redo_recover.proofs.replay.WorkersReplay.read_front.Goals as goal

pub returns-then-self-eq1 : goal.returns-then-self-eq1
returns-then-self-eq1 g c = c.none.ensures c.args.shape.now c.args.bytes.now
