use Rattle.model_base.proofs.SpellingLemmas.{one_spelling32}
use Rattle.model_log.proofs.Records.{one_spot, then_num}
use Rattle.redo_record.proofs.Sequence.{taken_on, both_begin, first_stops, second_stops}
use Rattle.redo_record.proofs.bodies.read_num.Goals as goal

pub returns-in_err-spot : goal.returns-in_err-spot
returns-in_err-spot c =
    taken_on _ _ _ _ _ c.from_residual.ensures.1
    (first_stops (then_num c.args.width c.requires) c.args.bytes.now _ c.in_err-spot.ensures)

pub returns-in_err-value : goal.returns-in_err-value
returns-in_err-value c =
    taken_on _ _ _ _ _ c.from_residual-in_err-value.ensures.1
    (second_stops (then_num c.args.width c.requires) (one_spot one_spelling32) c.args.bytes.now c.in_ok-spot.rest.now c.in_ok-spot.spot c.in_ok-spot.ensures _ c.in_err-value.ensures)

pub returns : goal.returns
returns c = both_begin (then_num c.args.width c.requires) c.args.bytes.now c.in_ok-spot.rest.now c.in_ok-value.rest.now c.in_ok-spot.spot c.in_ok-value.value c.in_ok-spot.ensures c.in_ok-value.ensures
