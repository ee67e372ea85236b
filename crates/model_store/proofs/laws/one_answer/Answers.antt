use Rattle.model_store.proofs.OneAnswer.{read-not_refused, same_refusal}
use Rattle.model_store.proofs.laws.one_answer.Goals as goal

pub returns-clause-read : goal.returns-clause-read
returns-clause-read c = read-not_refused c.one_group.ensures

pub returns-clause-refused : goal.returns-clause-refused
returns-clause-refused c = same_refusal c.one_group.ensures
