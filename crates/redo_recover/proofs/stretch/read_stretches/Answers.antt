use Rattle.redo_lsn.specs.declared.memory.NoMemory.{NoMemory}
use Rattle.redo_recover.specs.Runs.{HasRunGroups}
use Rattle.redo_recover.proofs.Joining.{made-well}
use Rattle.redo_recover.proofs.stretch.read_stretches.Goals as goal

pub returns : goal.returns
returns g c =
    let done = c.in_ok-runs.ensures in
    let chain = rw (c.map.ensures.base, c.map.ensures.f) at done.1 in
    made-well NoMemory (HasRunGroups c.args.shape.now c.args.bytes.now) chain.0 done.0 c.in_ok-runs.runs chain.2 done.2
