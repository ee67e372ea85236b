use Rattle.model_script.proofs.ReadLines.{script_of-ranged}
use Rattle.model_script.proofs.laws.read_lines_are_ranged.Goals as goal

pub returns : goal.returns
returns c = script_of-ranged
