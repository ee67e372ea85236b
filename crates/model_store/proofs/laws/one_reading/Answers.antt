use Rattle.model_store.proofs.OneReading.{same_reading}
use Rattle.model_store.proofs.laws.one_reading.Goals as goal

pub returns : goal.returns
returns c = same_reading c.one_group.ensures
