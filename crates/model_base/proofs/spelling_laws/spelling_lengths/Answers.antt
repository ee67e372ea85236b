-- The lemmas on the table's rows.
use Rattle.model_base.proofs.SpellingLemmas.{length-spelling32, length-spelling64, AreBytes-spelling32, AreBytes-spelling64}
use Rattle.model_base.proofs.spelling_laws.spelling_lengths.Goals as goal

pub returns : goal.returns
returns c = record {
  some32 = λ n small. (length-spelling32 n small).0;
  most32 = λ n small. (length-spelling32 n small).1;
  some64 = λ n small. (length-spelling64 n small).0;
  most64 = λ n small. (length-spelling64 n small).1;
  bytes32 = AreBytes-spelling32;
  bytes64 = AreBytes-spelling64;
}
