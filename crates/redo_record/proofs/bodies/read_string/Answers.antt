use Rattle.model_log.proofs.Records.{one_length, then_string}
use Rattle.redo_record.proofs.Sequence.{passed_on, first_stops, last_reads}
use Rattle.redo_record.proofs.bodies.read_string.Goals as goal

pub returns-in_err-length : goal.returns-in_err-length
returns-in_err-length c = passed_on _ _ _ _ _ c.from_residual.ensures.1 (first_stops then_string c.args.bytes.now _ c.in_err-length.ensures)

pub returns : goal.returns
returns c = last_reads then_string one_length (λ x. (x.0, x.1.now)) c.args.bytes.now c.in_ok-length.rest.now c.in_ok-length.length c.in_ok-length.ensures c.read_body.result c.read_body.ensures
