use Rattle.redo_script.proofs.GeneratedLines.{script_of-generated_text}
use Rattle.redo_script.proofs.laws.generated_script_reads_back.Goals as goal

pub returns : goal.returns
returns c = script_of-generated_text
