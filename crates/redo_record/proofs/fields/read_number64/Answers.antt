use Rattle.model_base.specs.{Spells64}
use Rattle.redo_record.proofs.Leaves.{spelled_none}
use Rattle.redo_record.proofs.fields.read_number64.Goals as goal

pub returns-in-Bad : goal.returns-in-Bad
returns-in-Bad c = spelled_none Spells64 c.args.bytes.now c.in-Bad.ensures.0 c.in-Bad.ensures.1
