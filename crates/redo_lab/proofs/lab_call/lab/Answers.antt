use Rattle.std.proofs.Common.{[], ap, inr, refl, rules, sym, ◌∙◌}
use Rattle.redo_lab.proofs.AskedLimits.{command-of-within}
use Rattle.redo_lab.specs.Call.{calls_archive}
use Rattle.redo_lab.proofs.Alone.{all-left, nothing-ends}
use Rattle.redo_lab.proofs.lab_call.lab.Goals as goal

pub done-done-requires : goal.done-done-requires
done-done-requires g c =
    let l = c.type_bounds.send-L in
    let d = c.type_bounds.send-D in
    let a = c.type_bounds.send-A in
    let r = c.type_bounds.sync-R in
    let t = c.type_bounds.sync-G in
    let within = command-of-within _ c.in-Ok.command c.in-Ok.ensures.asked in (
      search (rules, l),
      (
        search (rules, d),
        (
          search (rules, a),
          (record { shared = r.shared }, (record { shared = t.shared }, within)),
        ),
      ),
    )

pub returns-in-Err-clause-call : goal.returns-in-Err-clause-call
returns-in-Err-clause-call g c =
    let unasked = c.unasked.ensures in
    rw (c.end.ensures.log, c.end.ensures.store, c.end.ensures.arch)
    (nothing-ends _ _ _ _ _ c.in-Err.fault c.in-Err.ensures.fault refl (
      record { seen = ap g.L.Sectors.seen unasked.log_inner; fuse = unasked.log_fuse },
      record { seen = ap g.D.Sectors.seen unasked.data_inner; fuse = unasked.data_fuse },
    )
    refl c.laws.ensures (rw unasked.outcome_is at c.end.ensures.printed) (all-left (g.S.Source.seen c.args.src.now).left))

pub returns-clause-call : goal.returns-clause-call
returns-clause-call g c = rw (c.end-2.ensures.log, c.end-2.ensures.store, c.end-2.ensures.arch) (record {
  way = inr (
    c.in-Ok.command,
    record {
      asked = c.in-Ok.ensures.asked;
      outcome = c.done-done.result.0.outcome;
      ends = c.done-done.ensures.ends _;
      restores = c.done-done.ensures.restores [];
      spares = c.done-done.ensures.spares;
      well = c.done-done.ensures.well;
      printed = c.end-2.ensures.printed;
    },
  );
  reads_little = c.done-done.ensures.taken;
})

pub returns-clause-untouched : goal.returns-clause-untouched
returns-clause-untouched g c = λ uncalled. c.end-2.ensures.arch
    ∙ c.done-done.ensures.untouched (sym (ap calls_archive c.in-Ok.ensures.asked) ∙ uncalled)

pub returns-in-Err-clause-entered : goal.returns-in-Err-clause-entered
returns-in-Err-clause-entered g c = rw (c.end.ensures.log, c.end.ensures.store) c.unasked.ensures.entered

pub returns-clause-entered : goal.returns-clause-entered
returns-clause-entered g c = rw (c.end-2.ensures.log, c.end-2.ensures.store) c.done-done.ensures.entered
