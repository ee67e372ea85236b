use Rattle.std.proofs.Common.{drop, false, length, rules, subst, sym, take, ◌++◌, ◌≡◌}
use Rattle.bank.proofs.serve_bank.Goals as goal
use Rattle.bank.specs.declared.TheConstants.{TELLERS}
use Rattle.redo_live.proofs.Crew.{lent_back, opened_all}
use Rattle.redo_live.specs.Closing.{AreAllOf}
use Rattle.redo_live.specs.Opening.{IsNewlyOpened}

pub serve-requires-after_bounds : goal.serve-requires-after_bounds
serve-requires-after_bounds g c κs within =
    let ok = c.in_ok-store in
    let made : IsNewlyOpened c.args.opened TELLERS false ok.store ok.users.items ok.workers.items = search rules in
    let all = opened_all ok.store c.args.opened TELLERS false ok.users.items ok.workers.items made in
    subst (λ us. AreAllOf ok.store us c.as_mut_slice-2.result.now) (sym c.as_mut_slice.ensures.value)
    (subst (λ ws. AreAllOf ok.store ok.users.items ws) (sym c.as_mut_slice-2.ensures.value) all)

pub close-code-requires : goal.close-code-requires
close-code-requires g c =
    let ok = c.in_ok-store in
    let new_users = c.serve.new.users in
    let new_workers = c.serve.new.workers in
    let users : length new_users ≡ ok.users.len = search rules in
    let workers : length new_workers ≡ ok.workers.len = search rules in
    let kept = take ok.users.len (new_users ++ drop (length new_users) ok.users.items) in
    (subst (λ ws. AreAllOf ok.store kept ws) (sym (lent_back ok.workers.len new_workers ok.workers.items workers))
    (subst (λ us. AreAllOf ok.store us new_workers) (sym (lent_back ok.users.len new_users ok.users.items users))
    c.serve.ensures.all)).may_close
