use Rattle.model_parts.proofs.LogCrash.{crash-reads}
use Rattle.model_parts.proofs.log_laws.crash_reads.Goals as goal

pub returns : goal.returns
returns c = crash-reads c.one_group.ensures
