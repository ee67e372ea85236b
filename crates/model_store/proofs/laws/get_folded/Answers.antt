use Rattle.model_store.proofs.Folding.{length-folded, get-folded}
use Rattle.model_store.proofs.laws.get_folded.Goals as goal

pub returns-clause-count : goal.returns-clause-count
returns-clause-count c = length-folded

pub returns-clause-each : goal.returns-clause-each
returns-clause-each c = get-folded
