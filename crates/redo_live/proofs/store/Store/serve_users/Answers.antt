use Rattle.std.proofs.Common.{get_or, length, rules, subst}
use denote.Exit.{no}
use denote.Param.Send.{arg_sync, param_sync, shr_sync}
use Rattle.redo_live.proofs.Crossed.{two_sync}
use Rattle.redo_live.proofs.Crew.{user_at, users_stay}
use Rattle.redo_live.proofs.StoreSync.{store_sync}
use Rattle.redo_live.specs.Serving.{Stays}
use Rattle.redo_live.proofs.store.Store.serve_users.Goals as goal
use Rattle.redo_live.proofs.store.Store.serve_users.Lts as lts

pub for_each_mut-requires-sync-F : goal.for_each_mut-requires-sync-F
for_each_mut-requires-sync-F g c κs within =
    param_sync 2 (lts.arg-1-2 g.row.L g.row.D g.row.R g.row.W g.L.laws g.D.laws g.R.laws g.W.laws g.L.Sectors g.L.Sectors-dict
    g.D.Sectors g.D.Sectors-dict g.R.Threads g.R.Threads-dict g.W.Work g.W.Work-dict κs)
    (arg_sync _ no _ (two_sync _ _ _ (shr_sync _ _ _ c.type_bounds.sync-W)
    (shr_sync _ _ _ (store_sync _ _ _ _ c.type_bounds.send-L c.type_bounds.send-D))))

pub for_each_mut-requires-clause-accepts : goal.for_each_mut-requires-clause-accepts
for_each_mut-requires-clause-accepts g c κs within = λ i p low is.
    let its = user_at c.args.self.now c.args.users.now i p.now c.requires low is in search (rules, its)

pub returns : goal.returns
returns g c =
    let store = c.args.self.now in
    let old = c.args.users.now in
    let new = c.for_each_mut.new.s in
    let does = g.W.Work.does c.args.work.now store in
    record {
      count = c.for_each_mut.auto.s;
      users = users_stay store old new c.for_each_mut.auto.s c.requires
          (λ i d low is.
          let at = (c.for_each_mut.ensures i d low).1 in
          let now : Stays store at.argument.now at.after_call.now = search (rules, at.call) in
          subst (λ x. Stays store x (get_or new i d)) at.argument_is
          (subst (λ y. Stays store at.argument.now y) at.left now));
      each = λ i d low.
          let at = (c.for_each_mut.ensures i d low).1 in
          let now : does i at.argument.now at.after_call.now = search (rules, at.call) in
          subst (λ x. does i x (get_or new i d)) at.argument_is
          (subst (λ y. does i at.argument.now y) at.left now);
    }
