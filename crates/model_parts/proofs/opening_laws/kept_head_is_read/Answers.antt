-- The laws are lemmas.
use Rattle.model_parts.proofs.Alike.{kept-found, kept-orderly, kept-reads}
use Rattle.model_parts.proofs.opening_laws.kept_head_is_read.Goals as goal

pub returns-clause-reads : goal.returns-clause-reads
returns-clause-reads c = kept-reads

pub returns-clause-orderly : goal.returns-clause-orderly
returns-clause-orderly c = kept-orderly

pub returns-clause-found : goal.returns-clause-found
returns-clause-found c = kept-found
