use Rattle.std.proofs.Common.{length, rules}
use denote.Exit.{no}
use denote.Param.Send.{arg_send, arg_sync, mut_slice_send, param_send, param_sync, shr_send}
use Rattle.redo_live.proofs.Crossed.{three_send}
use Rattle.redo_live.proofs.Crew.{all_stay, all_users}
use Rattle.redo_live.proofs.StoreSync.{store_sync}
use Rattle.redo_live.proofs.worker.Worker.TheSendSync.{the_send}
use Rattle.redo_live.specs.Serving.{HaveServed, HaveWorked}
use Rattle.redo_ownrule.specs.LiveClosing.{user_count}
use Rattle.redo_live.proofs.store.Store.serve.Goals as goal
use Rattle.redo_live.proofs.store.Store.serve.Lts as lts

pub join_mut-requires-send-F : goal.join_mut-requires-send-F
join_mut-requires-send-F g c κs within =
    param_send 1 (lts.arg-0-1 g.row.L g.row.D g.row.R g.row.W g.L.laws g.D.laws g.R.laws g.W.laws g.L.Sectors
    g.L.Sectors-dict g.D.Sectors g.D.Sectors-dict g.R.Threads g.R.Threads-dict g.R.Wait g.R.Wait-dict g.W.Work
    g.W.Work-dict κs)
    (arg_send _ no _ (three_send _ _ _ _ (shr_send _ _ _ (store_sync _ _ _ _ c.type_bounds.send-L c.type_bounds.send-D))
    (shr_send _ _ _ c.type_bounds.sync-R)
    (mut_slice_send _ _ _ (the_send _ _ _ _ c.type_bounds.send-L c.type_bounds.send-D))))

pub join_mut-requires-after_bounds : goal.join_mut-requires-after_bounds
join_mut-requires-after_bounds g c κs within =
    let L = lts.impl_arg-0-0 g.row.L g.row.D g.row.R g.row.W g.L.laws g.D.laws g.R.laws g.W.laws g.L.Sectors
    g.L.Sectors-dict g.D.Sectors g.D.Sectors-dict g.R.Threads g.R.Threads-dict g.R.Wait g.R.Wait-dict g.W.Work
    g.W.Work-dict κs in
    let D = lts.impl_arg-0-1 g.row.L g.row.D g.row.R g.row.W g.L.laws g.D.laws g.R.laws g.W.laws g.L.Sectors
    g.L.Sectors-dict g.D.Sectors g.D.Sectors-dict g.R.Threads g.R.Threads-dict g.R.Wait g.R.Wait-dict g.W.Work
    g.W.Work-dict κs in
    let R = lts.impl_arg-0-2 g.row.L g.row.D g.row.R g.row.W g.L.laws g.D.laws g.R.laws g.W.laws g.L.Sectors
    g.L.Sectors-dict g.D.Sectors g.D.Sectors-dict g.R.Threads g.R.Threads-dict g.R.Wait g.R.Wait-dict g.W.Work
    g.W.Work-dict κs in
    let W = lts.impl_arg-0-9 g.row.L g.row.D g.row.R g.row.W g.L.laws g.D.laws g.R.laws g.W.laws g.L.Sectors
    g.L.Sectors-dict g.D.Sectors g.D.Sectors-dict g.R.Threads g.R.Threads-dict g.R.Wait g.R.Wait-dict g.W.Work
    g.W.Work-dict κs in
    let ly = param_sync 0 L (arg_sync _ no _ c.type_bounds.sync-L) in
    let dy = param_sync 1 D (arg_sync _ no _ c.type_bounds.sync-D) in
    let ry = param_sync 2 R (arg_sync _ no _ c.type_bounds.sync-R) in
    let wy = param_sync 3 W (arg_sync _ no _ c.type_bounds.sync-W) in
    let ls = param_send 0 L (arg_send _ no _ c.type_bounds.send-L) in
    let ds = param_send 1 D (arg_send _ no _ c.type_bounds.send-D) in
    let workers = c.requires.may_close.workers_are in
    let users = all_users c.args.self.now c.args.users.now c.args.workers.now c.requires in
    search (rules, ry, ls, ly, ds, dy, wy, workers, users)

pub returns : goal.returns
returns g c =
    let store = c.args.self.now in
    let does = g.W.Work.does c.args.work.now store in
    let worked : HaveWorked store c.args.workers.now c.workers-1.given.0 = search (rules, c.join_mut.ensures) in
    let served : HaveServed store does c.args.users.now c.users-1.given.0 = search (rules, c.join_mut.ensures) in
    record {
      all = all_stay store c.args.users.now c.users-1.given.0 c.args.workers.now c.workers-1.given.0 served.count
          worked.count c.requires served.users
          (worked.still (user_count store.shared) c.requires.may_close.workers_are);
      served = served;
    }
