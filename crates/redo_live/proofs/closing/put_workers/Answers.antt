use Rattle.std.proofs.Common.{ap, arith, sym, ◌++◌, ◌∙◌, ◌≡◌}
use Rattle.std.proofs.lemmas.Iterator.Adapters.{YieldsList-from_vec}
use Rattle.std.proofs.lemmas.Iterator.Consumers.{YieldsList-end, YieldsList-turn}
use Rattle.std.proofs.lemmas.List.{map-id}
use Rattle.redo_live.proofs.Closed.{many_more, one_more}
use Rattle.redo_live.proofs.closing.put_workers.Goals as goal
use Rattle.redo_live.specs.Closing.{worker_players, worker_seats}

pub push_reserved-requires : goal.push_reserved-requires
push_reserved-requires g c =
    let gives = c.into_iter-worker-iterator.ensures.into_iter_gives in
    let turn = YieldsList-turn (YieldsList-from_vec c.args.workers.items gives.0 (gives.1 ∙ c.args.workers.ok.0))
    c.loop-worker.yielded c.loop-worker.worker-iterator c.loop-worker.yielded_by c.next.result c.next.new.self
    c.in-Some.worker
    c.in-Some.is c.next.ensures.steps in
    let less = turn.0 in
    let many = many_more (λ x. x.seat) c.args.seats.now.items c.loop-worker.seats.items c.loop-worker.yielded
    c.loop-worker.invariant.seats in
    let same = c.loop-worker.invariant.seat_room in
    let room = c.requires.seat_room in omega arith

pub push_reserved-requires-in-loop-worker : goal.push_reserved-requires-in-loop-worker
push_reserved-requires-in-loop-worker g c =
    let gives = c.into_iter-worker-iterator.ensures.into_iter_gives in
    let turn = YieldsList-turn (YieldsList-from_vec c.args.workers.items gives.0 (gives.1 ∙ c.args.workers.ok.0))
    c.loop-worker.yielded c.loop-worker.worker-iterator c.loop-worker.yielded_by c.next.result c.next.new.self
    c.in-Some.worker
    c.in-Some.is c.next.ensures.steps in
    let less = turn.0 in
    let many = many_more (λ x. x.player) c.args.players.now.items c.loop-worker.players.items c.loop-worker.yielded
    c.loop-worker.invariant.players in
    let same = c.loop-worker.invariant.player_room in
    let room = c.requires.player_room in omega arith

pub loop-worker-preserved : goal.loop-worker-preserved
loop-worker-preserved g c = record {
  seats = one_more (λ x. x.seat) c.args.seats.now.items c.loop-worker.seats.items _ c.loop-worker.yielded
      c.in-Some.worker
      c.loop-worker.invariant.seats c.push_reserved.ensures.items;
  players = one_more (λ x. x.player) c.args.players.now.items c.loop-worker.players.items _ c.loop-worker.yielded
      c.in-Some.worker c.loop-worker.invariant.players c.push_reserved-in-loop-worker.ensures.items;
  seat_room = c.push_reserved.ensures.capacity ∙ c.loop-worker.invariant.seat_room;
  player_room = c.push_reserved-in-loop-worker.ensures.capacity ∙ c.loop-worker.invariant.player_room;
}

pub returns : goal.returns
returns g c =
    let gives = c.into_iter-worker-iterator.ensures.into_iter_gives in
    let end = YieldsList-end (YieldsList-from_vec c.args.workers.items gives.0 (gives.1 ∙ c.args.workers.ok.0))
    c.loop-worker.yielded c.loop-worker.worker-iterator c.loop-worker.yielded_by c.next.result c.next.new.self
    c.in-None.is
    c.next.ensures.steps in
    let whole : c.loop-worker.yielded ≡ c.args.workers.items = sym (map-id c.loop-worker.yielded) ∙ end.0 in
    record {
      seats = c.loop-worker.invariant.seats ∙ ap (λ l. c.args.seats.now.items ++ worker_seats l) whole;
      players = c.loop-worker.invariant.players ∙ ap (λ l. c.args.players.now.items ++ worker_players l) whole;
    }
