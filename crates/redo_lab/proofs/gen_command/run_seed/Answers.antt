use Rattle.std.proofs.Common.{ap, refl}
use Rattle.redo_lab.proofs.Alone.{gen-unscripted}
use Rattle.redo_lab.proofs.gen_command.run_seed.Goals as goal

pub returns-in-Ok : goal.returns-in-Ok
returns-in-Ok g c = c.run_script.ensures c.args.users c.args.groups c.in-Ok.ensures

pub returns-in-Err : goal.returns-in-Err
returns-in-Err g c =
    let unasked = c.unasked.ensures in record {
      ends = λ handed unread.
          rw unasked.outcome_is (gen-unscripted _ c.args.seed c.args.users c.args.groups c.args.max (
            record { seen = ap g.L.Sectors.seen unasked.log_inner; fuse = unasked.log_fuse },
            record { seen = ap g.D.Sectors.seen unasked.data_inner; fuse = unasked.data_fuse },
          )
          unread c.laws.ensures);
      entered = unasked.entered;
    }
