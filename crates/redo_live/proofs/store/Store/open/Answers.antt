use Rattle.std.proofs.Common.{ap, arith, refl, subst, ℕ, ◌*◌, ◌+◌, ◌<◌, ◌^◌, ◌∙◌, ◌≤◌}
use Rattle.std.specs.Prelude.{vec_capacity}
use Rattle.model_log.specs.{sn_of}
use Rattle.redo_live.proofs.NewlyOpened.{many_players, newly_opened}
use Rattle.redo_live.proofs.Quotas.{lsn_low}
use Rattle.redo_ownrule.proofs.LiveCount.{many_actors, others}
use Rattle.redo_live.proofs.store.Store.open.Goals as goal
use Rattle.redo_live.specs.Quota.{share_of}
use Rattle.redo_live.specs.declared.quota.TheConstants.{LAST_SN}
use Rattle.redo_live.specs.declared.store.Store.{Store}
use Rattle.redo_ownrule.specs.Sharing.{AreSeatsOf, own_of, table_of}
use Rattle.redo_rule.specs.declared.law.Live.{Live}

pub new_live-requires-clause-short : goal.new_live-requires-clause-short
new_live-requires-clause-short g c = lsn_low _
    (subst (λ n. sn_of c.args.opened.start + n * c.quota_of-quota.result ≤ LAST_SN)
    (c.actor_count-count.ensures.count c.args.opened.shape c.args.opened.start) c.quota_of-quota.ensures.low)

pub seat_all-all_users-requires-clause-enough : goal.seat_all-all_users-requires-clause-enough
seat_all-all_users-requires-clause-enough g c =
    let live : Live = record { users = c.args.users; quota = c.quota_of-quota.result } in
    let m = many_players c.args.opened live c.args.log_only c.in_ok-shared.shared c.in_ok-shared.players.items
    c.in_ok-shared.ensures.new in omega arith

pub seat_all-all_users-requires-clause-room : goal.seat_all-all_users-requires-clause-room
seat_all-all_users-requires-clause-room g c =
    let live : Live = record { users = c.args.users; quota = c.quota_of-quota.result } in
    let m = many_players c.args.opened live c.args.log_only c.in_ok-shared.shared c.in_ok-shared.players.items
    c.in_ok-shared.ensures.new in
    let n = c.actor_count-count.ensures.count c.args.opened.shape c.args.opened.start in
    let k = many_actors c.args.opened.shape c.args.users c.args.opened.start c.args.log_only in
    let u = c.in-Ok.ensures.users_fit in
    let w = c.in-Ok.ensures.workers_fit in (omega arith, omega arith)

pub returns-clause-ok : goal.returns-clause-ok
returns-clause-ok g c =
    let live : Live = record { users = c.args.users; quota = c.quota_of-quota.result } in
    let shared = c.seats-seats.new.self in
    let store : Store g.row.L.Denot g.row.D.Denot = record {
      shared = shared;
      calls = c.open-calls.result;
      shape = c.args.opened.shape;
      log_only = c.args.log_only;
      quota = c.quota_of-quota.result;
      seats = c.in-Ok.rooms.seats;
      players = c.in-Ok.rooms.players;
    } in
    let sit = subst (λ l. AreSeatsOf (table_of shared) (own_of shared) c.seats-seats.result.items l)
    c.as_slice.ensures.value c.seats-seats.ensures.seats in
    let n = c.actor_count-count.ensures.count c.args.opened.shape c.args.opened.start in
    let k = many_actors c.args.opened.shape c.args.users c.args.opened.start c.args.log_only in
    let s = c.in-Ok.ensures.seats_fit in
    let p = c.in-Ok.ensures.players_fit in
    let small : c.quota_of-quota.result < 2 ^ 64 = omega arith in
    let seats_fit : c.args.users + others c.args.log_only ≤ vec_capacity c.in-Ok.rooms.seats = omega arith in
    let players_fit : c.args.users + others c.args.log_only ≤ vec_capacity c.in-Ok.rooms.players = omega arith in
    newly_opened c.args.opened live c.args.log_only c.in_ok-shared.shared shared c.in_ok-shared.players.items
    c.in_ok-shared.ensures.new c.seats-seats.ensures.same c.seats-seats.ensures.layout.0
    c.seats-seats.result.items sit c.seats-seats.ensures.layout.1
    store refl refl small c.seats-seats.ensures.seated refl refl c.requires.runnable.limits c.in-Ok.ensures.no_seats
    seats_fit c.in-Ok.ensures.no_players players_fit c.requires.most c.seat_all-all_users.result.0.items
    c.seat_all-all_users.result.1.items c.seat_all-all_users.ensures.count.0 c.seat_all-all_users.ensures.count.1
    c.seat_all-all_users.ensures.seated
    (c.quota_of-quota.ensures.is
    ∙ ap (λ (m : ℕ). share_of c.args.opened.shape c.args.opened.start c.args.log_only m) (n ∙ k))
