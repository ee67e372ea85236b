use Rattle.std.proofs.Common.{List, Option, ap, arith, length, sym, ◌++◌, ◌∙◌, ◌∷◌, ◌≡◌, []}
use Rattle.std.proofs.lemmas.Iterator.Adapters.{YieldsList-from_vec}
use Rattle.std.proofs.lemmas.Iterator.Consumers.{YieldsList-end, YieldsList-turn}
use Rattle.std.proofs.lemmas.List.{length-append, map-id}
use Rattle.model_core.specs.{UserState}
use Rattle.model_own.specs.{LogWork}
use Rattle.redo_drive.specs.declared.actor.Actor.{Actor}
use Rattle.redo_drive.specs.declared.actor.Actor.TheVariants as actor
use Rattle.redo_ownrule.proofs.Placed.{Placed, place_more, placed, room_left, whole_crew}
use Rattle.redo_ownrule.proofs.leaving.give_actors.Goals as goal
use Rattle.redo_ownrule.specs.Players.{workers_of}
use Rattle.redo_ownrule.specs.declared.player.Player.TheVariants as player

pub push_reserved-requires : goal.push_reserved-requires
push_reserved-requires g c =
    let gives = c.into_iter-player-iterator.ensures.into_iter_gives in
    let turn = YieldsList-turn (YieldsList-from_vec c.args.players.items gives.0 (gives.1 ∙ c.args.players.ok.0))
    c.loop-player.yielded c.loop-player.player-iterator c.loop-player.yielded_by c.next.result c.next.new.self
    c.in-Some.player c.in-Some.is c.next.ensures.steps in
    let less = turn.0 in
    let left = room_left (record { actors = c.loop-player.room.items; work = c.loop-player.work })
    (record { actors = c.args.room.items; work = c.args.work }) c.loop-player.yielded c.args.players.items _
    c.loop-player.invariant.so c.requires.empty c.requires.enough in
    let same = c.loop-player.invariant.capacity in omega arith

pub loop-player-preserved-in-Own : goal.loop-player-preserved-in-Own
loop-player-preserved-in-Own g c = record {
  so = ap (λ (l : List (Actor g.row.R.Denot)). let s : Placed g.row.R.Denot = record {
    actors = l;
    work = c.loop-player.work;
  } in s) (c.push_reserved.ensures.items
      ∙ ap (λ (u : UserState). c.loop-player.room.items ++ actor.User u ∷ []) c.into_user.ensures)
      ∙ place_more _ (record { actors = c.args.room.items; work = c.args.work }) c.loop-player.yielded c.in-Some.player
      (player.Own c.in-Own.user) c.loop-player.invariant.so c.in-Own.is;
  capacity = c.push_reserved.ensures.capacity ∙ c.loop-player.invariant.capacity;
}

pub put_workers-requires : goal.put_workers-requires
put_workers-requires g c =
    let gives = c.into_iter-player-iterator.ensures.into_iter_gives in
    let turn = YieldsList-turn (YieldsList-from_vec c.args.players.items gives.0 (gives.1 ∙ c.args.players.ok.0))
    c.loop-player.yielded c.loop-player.player-iterator c.loop-player.yielded_by c.next.result c.next.new.self
    c.in-Some.player c.in-Some.is c.next.ensures.steps in
    let less = turn.0 in
    let left = room_left (record { actors = c.loop-player.room.items; work = c.loop-player.work })
    (record { actors = c.args.room.items; work = c.args.work }) c.loop-player.yielded c.args.players.items _
    c.loop-player.invariant.so c.requires.empty c.requires.enough in
    let long = length-append c.loop-player.room.items (workers_of {R = g.row.R.Denot} c.take.result) in
    let taken = ap (λ (k : Option LogWork). length (workers_of {R = g.row.R.Denot} k)) c.take.ensures.value in
    let same = c.loop-player.invariant.capacity in omega arith

pub push_reserved-requires-in-Plain : goal.push_reserved-requires-in-Plain
push_reserved-requires-in-Plain g c =
    let gives = c.into_iter-player-iterator.ensures.into_iter_gives in
    let turn = YieldsList-turn (YieldsList-from_vec c.args.players.items gives.0 (gives.1 ∙ c.args.players.ok.0))
    c.loop-player.yielded c.loop-player.player-iterator c.loop-player.yielded_by c.next.result c.next.new.self
    c.in-Some.player c.in-Some.is c.next.ensures.steps in
    let less = turn.0 in
    let left = room_left (record { actors = c.loop-player.room.items; work = c.loop-player.work })
    (record { actors = c.args.room.items; work = c.args.work }) c.loop-player.yielded c.args.players.items _
    c.loop-player.invariant.so c.requires.empty c.requires.enough in
    let long = ap (λ (l : List (Actor g.row.R.Denot)). length l) c.put_workers.ensures.items
    ∙ length-append c.loop-player.room.items (workers_of {R = g.row.R.Denot} c.take.result) in
    let taken = ap (λ (k : Option LogWork). length (workers_of {R = g.row.R.Denot} k)) c.take.ensures.value in
    let same = c.loop-player.invariant.capacity in
    let kept = c.put_workers.ensures.capacity in omega arith

pub loop-player-preserved : goal.loop-player-preserved
loop-player-preserved g c = record {
  so = ap (λ (l : List (Actor g.row.R.Denot)). let s : Placed g.row.R.Denot = record {
    actors = l;
    work = c.take.new.self;
  } in s) (c.push_reserved-in-Plain.ensures.items
      ∙ ap (λ (l : List (Actor g.row.R.Denot)). l ++ c.in-Plain.actor ∷ []) (c.put_workers.ensures.items
      ∙ ap (λ (k : Option LogWork). c.loop-player.room.items ++ workers_of k) c.take.ensures.value))
      ∙ ap (λ (k : Option LogWork). let s : Placed g.row.R.Denot = record {
        actors = (c.loop-player.room.items ++ workers_of c.loop-player.work) ++ c.in-Plain.actor ∷ [];
        work = k;
      } in s) c.take.ensures.after
      ∙ place_more (record { actors = c.loop-player.room.items; work = c.loop-player.work })
      (record { actors = c.args.room.items; work = c.args.work }) c.loop-player.yielded c.in-Some.player
      (player.Plain c.in-Plain.actor) c.loop-player.invariant.so c.in-Plain.is;
  capacity = c.push_reserved-in-Plain.ensures.capacity ∙ c.put_workers.ensures.capacity
      ∙ c.loop-player.invariant.capacity;
}

pub put_workers-requires-2 : goal.put_workers-requires-2
put_workers-requires-2 g c =
    let gives = c.into_iter-player-iterator.ensures.into_iter_gives in
    let end = YieldsList-end (YieldsList-from_vec c.args.players.items gives.0 (gives.1 ∙ c.args.players.ok.0))
    c.loop-player.yielded c.loop-player.player-iterator c.loop-player.yielded_by c.next.result c.next.new.self
    c.in-None.is c.next.ensures.steps in
    let all = end.1 in
    let left = room_left (record { actors = c.loop-player.room.items; work = c.loop-player.work })
    (record { actors = c.args.room.items; work = c.args.work }) c.loop-player.yielded c.args.players.items _
    c.loop-player.invariant.so c.requires.empty c.requires.enough in
    let long = length-append c.loop-player.room.items (workers_of {R = g.row.R.Denot} c.loop-player.work) in
    let same = c.loop-player.invariant.capacity in omega arith

pub returns : goal.returns
returns g c =
    let gives = c.into_iter-player-iterator.ensures.into_iter_gives in
    let end = YieldsList-end (YieldsList-from_vec c.args.players.items gives.0 (gives.1 ∙ c.args.players.ok.0))
    c.loop-player.yielded c.loop-player.player-iterator c.loop-player.yielded_by c.next.result c.next.new.self
    c.in-None.is c.next.ensures.steps in
    let whole : c.loop-player.yielded ≡ c.args.players.items = sym (map-id c.loop-player.yielded) ∙ end.0 in
    c.put_workers-2.ensures.items
    ∙ whole_crew (record { actors = c.loop-player.room.items; work = c.loop-player.work })
    (record { actors = c.args.room.items; work = c.args.work }) c.args.players.items
    (c.loop-player.invariant.so
    ∙ ap (placed (record { actors = c.args.room.items; work = c.args.work })) whole)
    c.requires.empty
