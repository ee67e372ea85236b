use Rattle.model_base.proofs.SpellingLemmas.{one_spelling32}
use Rattle.model_log.proofs.Records.{one_spot, then_text}
use Rattle.redo_record.proofs.Sequence.{first_stops}
use Rattle.redo_record.proofs.Skipping.{skipped_on, last_skips}
use Rattle.redo_record.proofs.spanning.skip_text.Goals as goal

pub returns-in_err-rest : goal.returns-in_err-rest
returns-in_err-rest c =
    skipped_on (λ x. x.now) _ _ _ _ c.from_residual.ensures.1
    (first_stops then_text c.args.bytes.now _ c.in_err-rest.ensures)

pub returns : goal.returns
returns c =
    let read = c.in_ok-rest in
    last_skips then_text (one_spot one_spelling32) (λ x. x.now) c.args.bytes.now read.rest.now read.field-0-0
    read.ensures c.skip_string.result c.skip_string.ensures
