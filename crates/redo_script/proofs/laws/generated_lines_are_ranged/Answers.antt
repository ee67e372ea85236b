use Rattle.redo_script.proofs.GeneratedLines.{generated_lines-ranged}
use Rattle.redo_script.proofs.laws.generated_lines_are_ranged.Goals as goal

pub returns : goal.returns
returns c = generated_lines-ranged
