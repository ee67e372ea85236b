use Rattle.std.proofs.Common.{ap, arith, sym, ◌++◌, ◌∙◌, ◌≡◌}
use Rattle.std.proofs.lemmas.Iterator.Adapters.{YieldsList-from_vec}
use Rattle.std.proofs.lemmas.Iterator.Consumers.{YieldsList-end, YieldsList-turn}
use Rattle.std.proofs.lemmas.List.{map-id}
use Rattle.redo_live.proofs.Closed.{many_more, one_more}
use Rattle.redo_live.proofs.closing.put_users.Goals as goal
use Rattle.redo_live.specs.Closing.{players_of, seats_of}

pub push_reserved-requires : goal.push_reserved-requires
push_reserved-requires g c =
    let gives = c.into_iter-user-iterator.ensures.into_iter_gives in
    let turn = YieldsList-turn (YieldsList-from_vec c.args.users.items gives.0 (gives.1 ∙ c.args.users.ok.0))
    c.loop-user.yielded c.loop-user.user-iterator c.loop-user.yielded_by c.next.result c.next.new.self c.in-Some.user
    c.in-Some.is c.next.ensures.steps in
    let less = turn.0 in
    let many = many_more (λ x. x.seat) c.args.seats.now.items c.loop-user.seats.items c.loop-user.yielded
    c.loop-user.invariant.seats in
    let same = c.loop-user.invariant.seat_room in
    let room = c.requires.seat_room in omega arith

pub push_reserved-requires-in-loop-user : goal.push_reserved-requires-in-loop-user
push_reserved-requires-in-loop-user g c =
    let gives = c.into_iter-user-iterator.ensures.into_iter_gives in
    let turn = YieldsList-turn (YieldsList-from_vec c.args.users.items gives.0 (gives.1 ∙ c.args.users.ok.0))
    c.loop-user.yielded c.loop-user.user-iterator c.loop-user.yielded_by c.next.result c.next.new.self c.in-Some.user
    c.in-Some.is c.next.ensures.steps in
    let less = turn.0 in
    let many = many_more (λ x. x.player) c.args.players.now.items c.loop-user.players.items c.loop-user.yielded
    c.loop-user.invariant.players in
    let same = c.loop-user.invariant.player_room in
    let room = c.requires.player_room in omega arith

pub loop-user-preserved : goal.loop-user-preserved
loop-user-preserved g c = record {
  seats = one_more (λ x. x.seat) c.args.seats.now.items c.loop-user.seats.items _ c.loop-user.yielded c.in-Some.user
      c.loop-user.invariant.seats c.push_reserved.ensures.items;
  players = one_more (λ x. x.player) c.args.players.now.items c.loop-user.players.items _ c.loop-user.yielded
      c.in-Some.user c.loop-user.invariant.players c.push_reserved-in-loop-user.ensures.items;
  seat_room = c.push_reserved.ensures.capacity ∙ c.loop-user.invariant.seat_room;
  player_room = c.push_reserved-in-loop-user.ensures.capacity ∙ c.loop-user.invariant.player_room;
}

pub returns : goal.returns
returns g c =
    let gives = c.into_iter-user-iterator.ensures.into_iter_gives in
    let end = YieldsList-end (YieldsList-from_vec c.args.users.items gives.0 (gives.1 ∙ c.args.users.ok.0))
    c.loop-user.yielded c.loop-user.user-iterator c.loop-user.yielded_by c.next.result c.next.new.self c.in-None.is
    c.next.ensures.steps in
    let whole : c.loop-user.yielded ≡ c.args.users.items = sym (map-id c.loop-user.yielded) ∙ end.0 in
    record {
      seats = c.loop-user.invariant.seats ∙ ap (λ l. c.args.seats.now.items ++ seats_of l) whole;
      players = c.loop-user.invariant.players ∙ ap (λ l. c.args.players.now.items ++ players_of l) whole;
      seat_room = c.loop-user.invariant.seat_room;
      player_room = c.loop-user.invariant.player_room;
    }
