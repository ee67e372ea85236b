use Rattle.model_base.proofs.SpellingLemmas.{one_spelling32}
use Rattle.model_log.proofs.Records.{one_spot, then_text}
use Rattle.redo_record.proofs.Sequence.{passed_on, both_begin, first_stops, second_stops}
use Rattle.redo_record.proofs.bodies.read_text.Goals as goal

pub returns-in_err-spot : goal.returns-in_err-spot
returns-in_err-spot c = passed_on _ _ _ _ _ c.from_residual.ensures.1 (first_stops then_text c.args.bytes.now _ c.in_err-spot.ensures)

pub returns-in_err-bytes : goal.returns-in_err-bytes
returns-in_err-bytes c =
    passed_on _ _ _ _ _ c.from_residual-in_err-bytes.ensures.1
    (second_stops then_text (one_spot one_spelling32) c.args.bytes.now c.in_ok-spot.rest.now c.in_ok-spot.spot c.in_ok-spot.ensures _ c.in_err-bytes.ensures)

pub returns : goal.returns
returns c = both_begin then_text c.args.bytes.now c.in_ok-spot.rest.now c.in_ok-bytes.rest.now c.in_ok-spot.spot c.in_ok-bytes.bytes c.in_ok-spot.ensures c.in_ok-bytes.ensures
