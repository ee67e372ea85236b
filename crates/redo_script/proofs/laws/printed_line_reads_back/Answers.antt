use Rattle.redo_script.proofs.PrintedLines.{script_line_of-text}
use Rattle.redo_script.proofs.laws.printed_line_reads_back.Goals as goal

pub returns : goal.returns
returns c = script_line_of-text
