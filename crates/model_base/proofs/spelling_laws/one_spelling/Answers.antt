-- The lemmas of these names.
use Rattle.model_base.proofs.SpellingLemmas.{one_spelling32, one_spelling64}
use Rattle.model_base.proofs.spelling_laws.one_spelling.Goals as goal

pub returns : goal.returns
returns c = record { thirty_two = one_spelling32; sixty_four = one_spelling64 }
