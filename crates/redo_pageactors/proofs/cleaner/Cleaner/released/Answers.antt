-- What is left of the batch is the batch of what is left.
use Rattle.std.proofs.Common.{arith}
use Rattle.redo_pageactors.proofs.BatchPages.{drop_batch_pages, length_batch_pages}
use Rattle.redo_pageactors.proofs.cleaner.Cleaner.released.Goals as goal

pub returns-then-is_last-clause-state : goal.returns-then-is_last-clause-state
returns-then-is_last-clause-state c = grind (arith, drop_batch_pages, length_batch_pages)

pub returns-clause-state : goal.returns-clause-state
returns-clause-state c = grind (arith, drop_batch_pages, length_batch_pages)
