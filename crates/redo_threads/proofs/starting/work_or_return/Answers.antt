use Rattle.redo_threads.proofs.Going.{goes_refl}
use Rattle.redo_threads.proofs.starting.work_or_return.Goals as goal

pub returns-else-load-number : goal.returns-else-load-number
returns-else-load-number g c = goes_refl g.F.Receiver.stands_for c.args.table.now.table_id
    c.args.seated.seat c.args.seated.player c.requires.seat
