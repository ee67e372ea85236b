use Rattle.redo_disk.proofs.Made.{serves_then, call_serves}
use Rattle.redo_store.proofs.places.put_texts.Goals as goal

pub returns-clause-calls : goal.returns-clause-calls
returns-clause-calls g c = serves_then c.in_ok-write_texts.ensures.calls (call_serves c.sync.ensures.gives)
