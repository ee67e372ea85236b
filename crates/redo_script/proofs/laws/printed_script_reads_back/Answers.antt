use Rattle.redo_script.proofs.PrintedScripts.{script_of-text}
use Rattle.redo_script.proofs.laws.printed_script_reads_back.Goals as goal

pub returns : goal.returns
returns c = script_of-text
