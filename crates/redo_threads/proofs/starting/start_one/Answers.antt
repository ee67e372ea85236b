use Rattle.redo_threads.proofs.Going.{goes_refl}
use Rattle.redo_threads.proofs.starting.start_one.Goals as goal

pub returns-then-refuses-clause-err : goal.returns-then-refuses-clause-err
returns-then-refuses-clause-err g c = goes_refl g.F.Receiver.stands_for c.args.table.now.table_id
    c.args.seated.seat c.args.seated.player c.requires.seat
