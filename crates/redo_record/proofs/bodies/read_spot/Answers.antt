use Rattle.model_base.proofs.SpellingLemmas.{one_spelling32}
use Rattle.model_log.proofs.Records.{one_place, then_spot}
use Rattle.redo_record.proofs.Sequence.{taken_on, first_stops, second_stops}
use Rattle.redo_record.proofs.bodies.read_spot.Goals as goal

pub returns-in_err-place : goal.returns-in_err-place
returns-in_err-place c =
    taken_on _ _ _ _ _ c.from_residual.ensures.1
    (first_stops then_spot c.args.bytes.now _ c.in_err-place.ensures)

pub returns-in_err-offset : goal.returns-in_err-offset
returns-in_err-offset c =
    taken_on _ _ _ _ _ c.from_residual-in_err-offset.ensures.1
    (second_stops then_spot (one_place one_spelling32) c.args.bytes.now c.in_ok-place.rest.now c.in_ok-place.place c.in_ok-place.ensures _ c.in_err-offset.ensures)
