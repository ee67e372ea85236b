use Rattle.model_base.specs.{Spells32}
use Rattle.redo_record.proofs.Leaves.{spelled_none}
use Rattle.redo_record.proofs.fields.read_number32.Goals as goal

pub returns-in-Bad : goal.returns-in-Bad
returns-in-Bad c = spelled_none Spells32 c.args.bytes.now c.in-Bad.ensures.0 c.in-Bad.ensures.1
