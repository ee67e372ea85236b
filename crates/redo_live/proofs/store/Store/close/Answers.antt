use Rattle.std.proofs.Common.{ap, arith, length, subst, sym, ◌≡◌}
use Rattle.std.proofs.lemmas.List.{with_items_is}
use Rattle.std.specs.Vec.{with_items}
use Rattle.redo_live.proofs.Closed.{AreBack, both_put, leaves_so, many_more, others_so, rest_so, seats_so}
use Rattle.redo_live.proofs.store.Store.close.Given as given
use Rattle.redo_live.proofs.store.Store.close.Goals as goal
use Rattle.redo_live.proofs.store.Store.close.Goals.{After-put_workers}
use Rattle.redo_live.specs.Holding.{AreWorkersOf}
use Rattle.redo_ownrule.specs.LiveClosing.{user_count}

pub run_all-requires : goal.run_all-requires
run_all-requires g c = (
  user_count c.args.self.shared,
  subst (λ l. AreWorkersOf c.args.self (user_count c.args.self.shared) l) (sym c.as_mut_slice.ensures.value)
      c.requires.workers_are,
)

pub put_users-requires-clause-seat_room : goal.put_users-requires-clause-seat_room
put_users-requires-clause-seat_room g c =
    let is_open = c.requires.is_open in
    let none : length c.args.self.seats.items ≡ 0 = ap (λ l. length l) is_open.no_seats in
    let fit = is_open.seats_fit in
    let all = c.requires.all_workers in
    let few = c.requires.few in omega arith

pub put_users-requires-clause-player_room : goal.put_users-requires-clause-player_room
put_users-requires-clause-player_room g c =
    let is_open = c.requires.is_open in
    let none : length c.args.self.players.items ≡ 0 = ap (λ l. length l) is_open.no_players in
    let fit = is_open.players_fit in
    let all = c.requires.all_workers in
    let few = c.requires.few in omega arith

pub put_workers-requires-clause-seat_room : goal.put_workers-requires-clause-seat_room
put_workers-requires-clause-seat_room g c =
    let is_open = c.requires.is_open in
    let none : length c.args.self.seats.items ≡ 0 = ap (λ l. length l) is_open.no_seats in
    let fit = is_open.seats_fit in
    let all = c.requires.all_workers in
    let few = c.requires.few in
    let many = many_more (λ u. u.seat) c.args.self.seats.items c.put_users.new.seats.items c.args.users.items
    c.put_users.ensures.seats in
    let room = c.put_users.ensures.seat_room in
    let long = (with_items c.args.workers c.run_all.new.workers).ok.0 in
    let same = c.args.workers.ok.0 in omega arith

pub put_workers-requires-clause-player_room : goal.put_workers-requires-clause-player_room
put_workers-requires-clause-player_room g c =
    let is_open = c.requires.is_open in
    let none : length c.args.self.players.items ≡ 0 = ap (λ l. length l) is_open.no_players in
    let fit = is_open.players_fit in
    let all = c.requires.all_workers in
    let few = c.requires.few in
    let many = many_more (λ u. u.player) c.args.self.players.items c.put_users.new.players.items c.args.users.items
    c.put_users.ensures.players in
    let room = c.put_users.ensures.player_room in
    let long = (with_items c.args.workers c.run_all.new.workers).ok.0 in
    let same = c.args.workers.ok.0 in omega arith

-- all are back
are_back : (g : given.Over) (c : After-put_workers g)
    → AreBack c.args.self c.args.users.items c.run_all.new.workers c.put_workers.new.seats.items
    c.put_workers.new.players.items
are_back g c =
    let long = c.args.workers.ok.0 in
    let kept = c.as_mut_slice.ensures.len in
    let same : (with_items c.args.workers c.run_all.new.workers).items ≡ c.run_all.new.workers =
    with_items_is c.args.workers c.run_all.new.workers (omega arith) in
    let all = c.requires.all_workers in record {
      may_close = record {
        is_open = c.requires.is_open;
        users_are = c.requires.users_are;
        few = c.requires.few;
        workers_are = c.run_all.ensures.still (user_count c.args.self.shared)
            (subst (λ l. AreWorkersOf c.args.self (user_count c.args.self.shared) l)
            (sym c.as_mut_slice.ensures.value) c.requires.workers_are);
        all_workers = omega arith;
      };
      ended = c.run_all.ensures.ended;
      seats_are = both_put (λ u. u.seat) (λ w. w.seat) c.args.self.seats.items c.put_users.new.seats.items
          c.put_workers.new.seats.items c.args.users.items _ c.run_all.new.workers c.requires.is_open.no_seats
          c.put_users.ensures.seats c.put_workers.ensures.seats same;
      players_are = both_put (λ u. u.player) (λ w. w.player) c.args.self.players.items c.put_users.new.players.items
          c.put_workers.new.players.items c.args.users.items _ c.run_all.new.workers c.requires.is_open.no_players
          c.put_users.ensures.players c.put_workers.ensures.players same;
    }

pub finish_live-requires-clause-seats : goal.finish_live-requires-clause-seats
finish_live-requires-clause-seats g c = seats_so c.args.self c.args.users.items c.run_all.new.workers
    c.put_workers.new.seats.items c.put_workers.new.players.items (are_back g c)

pub finish_live-requires-clause-others : goal.finish_live-requires-clause-others
finish_live-requires-clause-others g c = others_so c.args.self c.args.users.items c.run_all.new.workers
    c.put_workers.new.seats.items c.put_workers.new.players.items (are_back g c)

pub finish_live-requires-clause-rest : goal.finish_live-requires-clause-rest
finish_live-requires-clause-rest g c = rest_so c.args.self c.args.users.items c.run_all.new.workers
    c.put_workers.new.seats.items c.put_workers.new.players.items (are_back g c)

pub returns : goal.returns
returns g c = leaves_so c.args.self c.args.users.items c.run_all.new.workers c.put_workers.new.seats.items
    c.put_workers.new.players.items (are_back g (goal.at.returns g c).After-put_workers) g.L.Sectors.seen
    g.L.Sectors.gives g.D.Sectors.seen g.D.Sectors.gives c.finish_live.result c.finish_live.ensures
