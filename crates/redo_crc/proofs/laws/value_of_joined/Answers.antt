-- The lemma on a text of two parts.
use Rattle.redo_crc.proofs.TableLemmas.{value-append}
use Rattle.redo_crc.proofs.laws.value_of_joined.Goals as goal

pub returns : goal.returns
returns c = value-append
