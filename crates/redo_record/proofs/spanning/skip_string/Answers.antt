use Rattle.model_log.proofs.Records.{one_length, then_string}
use Rattle.redo_record.proofs.Sequence.{first_stops}
use Rattle.redo_record.proofs.Skipping.{skipped_on, last_skips}
use Rattle.redo_record.proofs.spanning.skip_string.Goals as goal

pub returns-in_err-length : goal.returns-in_err-length
returns-in_err-length c =
    skipped_on (λ x. x.now) _ _ _ _ c.from_residual.ensures.1
    (first_stops then_string c.args.bytes.now _ c.in_err-length.ensures)

pub returns : goal.returns
returns c =
    let read = c.in_ok-length in
    last_skips then_string one_length (λ x. x.now) c.args.bytes.now read.rest.now read.length read.ensures
    c.skip_body.result c.skip_body.ensures
