use Rattle.std.proofs.lemmas.Result.{err_from_is_err_and}
use Rattle.redo_disk.specs.{put_requests, write_at}
use Rattle.redo_disk.proofs.Made.{serves_cut, serves_then}
use Rattle.redo_archive.proofs.puts.put_in_turn.Goals as goal

pub returns-in_err-write_and_sync-clause-calls : goal.returns-in_err-write_and_sync-clause-calls
returns-in_err-write_and_sync-clause-calls g c =
    let made = serves_cut (put_requests (write_at c.args.next c.args.others.now))
    c.in_err-write_and_sync.ensures.calls in
    let p = err_from_is_err_and c.from_residual.result c.from_residual.ensures.1 in rw (p.1, p.2) made

pub returns-clause-calls : goal.returns-clause-calls
returns-clause-calls g c = serves_then c.in_ok-write_and_sync.ensures.calls c.write_and_sync-2.ensures.calls
