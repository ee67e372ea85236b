use Rattle.std.proofs.Common.{get_or, length, rules, subst}
use denote.Exit.{no}
use denote.Param.Send.{arg_sync, param_sync, shr_sync}
use Rattle.redo_live.proofs.Crossed.{two_sync}
use Rattle.redo_live.proofs.Crew.{worker_at, workers_stay}
use Rattle.redo_live.proofs.StoreSync.{store_sync}
use Rattle.redo_live.specs.Holding.{IsSameWorker, IsWorkerOf}
use Rattle.redo_live.proofs.store.Store.run_beside.Goals as goal
use Rattle.redo_live.proofs.store.Store.run_beside.Lts as lts

pub for_each_mut-requires-sync-F : goal.for_each_mut-requires-sync-F
for_each_mut-requires-sync-F g c κs within =
    param_sync 2 (lts.arg-1-2 g.row.L g.row.D g.row.R g.L.laws g.D.laws g.R.laws g.L.Sectors g.L.Sectors-dict g.D.Sectors
    g.D.Sectors-dict g.R.Threads g.R.Threads-dict g.R.Wait g.R.Wait-dict κs)
    (arg_sync _ no _ (two_sync _ _ _ (shr_sync _ _ _ (store_sync _ _ _ _ c.type_bounds.send-L c.type_bounds.send-D))
    (shr_sync _ _ _ c.type_bounds.sync-R)))

pub for_each_mut-requires-clause-accepts : goal.for_each_mut-requires-clause-accepts
for_each_mut-requires-clause-accepts g c κs within = λ i p low is.
    let its = worker_at c.args.self.now c.requires.0 c.args.workers.now i p.now c.requires.1 low is in search (rules, its)

pub returns : goal.returns
returns g c =
    let store = c.args.self.now in
    let old = c.args.workers.now in
    let new = c.for_each_mut.new.s in
    record {
      count = c.for_each_mut.auto.s;
      still = λ first are. workers_stay store first old new c.for_each_mut.auto.s are
          (λ i d low is.
          let at = (c.for_each_mut.ensures i d low).1 in
          let mine : IsWorkerOf store at.after_call.now = search (rules, at.call) in
          let same : IsSameWorker at.argument.now at.after_call.now = search (rules, at.call) in (
            subst (λ y. IsWorkerOf store y) at.left mine,
            subst (λ x. IsSameWorker x (get_or new i d)) at.argument_is
                (subst (λ y. IsSameWorker at.argument.now y) at.left same),
          ));
    }
