use Rattle.model_base.proofs.SpellingLemmas.{one_spelling32}
use Rattle.model_log.proofs.Records.{one32, then_place}
use Rattle.redo_record.proofs.Sequence.{taken_on, first_stops, second_stops}
use Rattle.redo_record.proofs.bodies.read_place.Goals as goal

pub returns-in_err-space : goal.returns-in_err-space
returns-in_err-space c =
    taken_on _ _ _ _ _ c.from_residual.ensures.1
    (first_stops then_place c.args.bytes.now _ c.in_err-space.ensures)

pub returns-in_err-page : goal.returns-in_err-page
returns-in_err-page c =
    taken_on _ _ _ _ _ c.from_residual-in_err-page.ensures.1
    (second_stops then_place (one32 one_spelling32) c.args.bytes.now c.in_ok-space.rest.now c.in_ok-space.space c.in_ok-space.ensures _ c.in_err-page.ensures)
