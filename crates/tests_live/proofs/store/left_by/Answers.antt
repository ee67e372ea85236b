use Rattle.std.proofs.Common.{[], arith, drop, length, rules, subst, sym, take, ◌++◌, ◌≡◌}
use mathlib.Core.Option.{some-ne-none}
use Rattle.redo_live.proofs.Crew.{lent_back, opened_all}
use Rattle.redo_live.specs.Closing.{AreAllOf, MayClose}
use Rattle.tests_live.proofs.store.left_by.Goals as goal

pub serve-requires-after_bounds : goal.serve-requires-after_bounds
serve-requires-after_bounds g c κs within =
    let ok = c.in-Ok in
    let all = opened_all ok.store _ _ _ ok.users.items ok.workers.items ok.ensures.ok in
    subst (λ us. AreAllOf ok.store us c.as_mut_slice-in-Ok.result.now) (sym c.as_mut_slice.ensures.value)
    (subst (λ ws. AreAllOf ok.store ok.users.items ws) (sym c.as_mut_slice-in-Ok.ensures.value) all)

pub close-left-requires-else-way : goal.close-left-requires-else-way
close-left-requires-else-way g c =
    let ok = c.in-Ok in
    let new_users = c.serve.new.users in
    let new_workers = c.serve.new.workers in
    let users : length new_users ≡ ok.users.len = search rules in
    let workers : length new_workers ≡ ok.workers.len = search rules in
    let kept = take ok.users.len (new_users ++ drop (length new_users) ok.users.items) in
    (subst (λ ws. AreAllOf ok.store kept ws) (sym (lent_back ok.workers.len new_workers ok.workers.items workers))
    (subst (λ us. AreAllOf ok.store us new_workers) (sym (lent_back ok.users.len new_users ok.users.items users))
    c.serve.ensures.all)).may_close

pub close-left-requires : goal.close-left-requires
close-left-requires g c =
    let ok = c.in-Ok in
    let new_workers = c.serve.new.workers in
    let workers : length new_workers ≡ ok.workers.len = search rules in
    let m = c.serve.ensures.all.may_close in
    let none : c.new.result.items ≡ [] = search rules in
    subst (λ ws. MayClose ok.store c.new.result.items ws)
    (sym (lent_back ok.workers.len new_workers ok.workers.items workers))
    (subst (λ us. MayClose ok.store us new_workers) (sym none) (record {
      is_open = m.is_open;
      users_are = λ i user at. absurd (some-ne-none user (sym at));
      few = omega arith;
      workers_are = m.workers_are;
      all_workers = m.all_workers;
    }))
