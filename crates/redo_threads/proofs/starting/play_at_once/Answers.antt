use Rattle.std.proofs.Common.{rules}
use Rattle.redo_threads.proofs.starting.play_at_once.Goals as goal

pub scoped-played-requires : goal.scoped-played-requires
scoped-played-requires g c =
    let l = c.type_bounds.send-L in
    let d = c.type_bounds.send-D in
    let f = c.type_bounds.send-F in
    record {
      at = λ at. (
        c.requires.seated,
        (
          c.requires.laid,
          (
            c.requires.archiver,
            (
              c.requires.its,
              (
                search (rules, l),
                search (rules, d),
                search (rules, f),
                record { shared = c.type_bounds.sync-R.shared },
                record { shared = c.type_bounds.sync-G.shared },
              ),
            ),
          ),
        ),
      );
    }
