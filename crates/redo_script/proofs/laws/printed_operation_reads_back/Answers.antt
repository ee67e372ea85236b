use Rattle.redo_script.proofs.PrintedItems.{item_of-item_text}
use Rattle.redo_script.proofs.laws.printed_operation_reads_back.Goals as goal

pub returns : goal.returns
returns c = item_of-item_text
