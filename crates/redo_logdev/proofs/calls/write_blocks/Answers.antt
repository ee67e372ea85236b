use Rattle.redo_disk.proofs.Made.{serves_then}
use Rattle.redo_logdev.proofs.calls.write_blocks.Goals as goal

pub returns-clause-calls : goal.returns-clause-calls
returns-clause-calls g c = serves_then c.in_ok-write_round.ensures.calls c.write_some.ensures.calls
