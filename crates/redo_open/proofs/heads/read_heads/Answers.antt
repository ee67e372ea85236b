-- Both header blocks, read once more.
use Rattle.redo_recover.proofs.Only.{only-then}
use Rattle.redo_open.proofs.heads.read_heads.Goals as goal

pub returns-else-one_names-clause-reads : goal.returns-else-one_names-clause-reads
returns-else-one_names-clause-reads g c = only-then _ _ _ _ c.in_ok-heads.ensures.reads c.read_once-else-one_names.ensures.reads
