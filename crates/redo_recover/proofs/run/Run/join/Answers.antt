use Rattle.std.proofs.Common.{refl}
use Rattle.redo_recover.proofs.Joining.{run-join}
use Rattle.redo_recover.proofs.run.Run.join.Goals as goal

pub returns-in_ok-join_lists-clause-run : goal.returns-in_ok-join_lists-clause-run
returns-in_ok-join_lists-clause-run c = λ shape bytes front back.
    run-join shape bytes c.args.self.now c.args.run _ c.if-run-self.true c.if-run-self-2.true c.in_ok-join_lists.ensures refl refl refl refl front back
