use Rattle.redo_record.proofs.Groups.{single_begins, single_stops}
use Rattle.redo_record.proofs.Sequence.{passed_on}
use Rattle.redo_record.proofs.decoding.read_single.Goals as goal

pub returns-in_err-rec : goal.returns-in_err-rec
returns-in_err-rec c = passed_on _ _ _ _ _ c.from_residual.ensures.1 (single_stops c.args.bytes.now c.requires _ c.in_err-rec.ensures)

pub returns : goal.returns
returns c = rw (c.in_ok-push.ensures.items, c.in_ok-recs.ensures.items) (single_begins c.args.bytes.now c.in_ok-rec.rest.now c.in_ok-rec.rec c.in_ok-rec.ensures)
