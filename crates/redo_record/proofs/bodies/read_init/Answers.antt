use Rattle.model_log.proofs.Records.{then_init}
use Rattle.redo_record.proofs.Leaves.{nothing_begins}
use Rattle.redo_record.proofs.Sequence.{taken_on, both_begin, first_stops}
use Rattle.redo_record.proofs.bodies.read_init.Goals as goal

pub returns-in_err-space : goal.returns-in_err-space
returns-in_err-space c =
    taken_on _ _ _ _ _ c.from_residual.ensures.1
    (first_stops then_init c.args.bytes.now _ c.in_err-space.ensures)

pub returns : goal.returns
returns c = both_begin then_init c.args.bytes.now c.in_ok-space.rest.now c.in_ok-space.rest.now c.in_ok-space.field-0-0 tt c.in_ok-space.ensures (nothing_begins c.in_ok-space.rest.now)
