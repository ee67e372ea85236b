use Rattle.std.proofs.Common.{List, Some, ap, arith, refl, rules, sym, ◌++◌, ◌∙◌, ◌∷◌, ◌≡◌, []}
use Rattle.std.proofs.lemmas.Iterator.Adapters.{YieldsList-from_vec}
use Rattle.std.proofs.lemmas.Iterator.Consumers.{YieldsList-end}
use Rattle.std.proofs.lemmas.List.{map-id}
use Rattle.model_own.specs.{LogWork, OwnUser}
use Rattle.redo_drive.specs.declared.actor.Actor.TheVariants as actor
use Rattle.redo_ownrule.proofs.Players.{Found, found, has_flusher, has_writer, its_crew, its_home, its_order, its_others, none_yet, put_more, put_other}
use Rattle.redo_ownrule.proofs.staffing.take_own.Goals as goal
use Rattle.redo_ownrule.specs.Players.{crew}
use Rattle.redo_ownrule.specs.declared.player.Player.{Player}
use Rattle.redo_ownrule.specs.declared.player.Player.TheVariants as player

pub loop-actor-preserved-in-Writer : goal.loop-actor-preserved-in-Writer
loop-actor-preserved-in-Writer g c = put_more _ c.loop-actor.yielded c.in-Some.actor (actor.Writer c.in-Writer.found)
    c.loop-actor.invariant c.in-Writer.is

pub loop-actor-preserved-in-Flusher : goal.loop-actor-preserved-in-Flusher
loop-actor-preserved-in-Flusher g c = put_more _ c.loop-actor.yielded c.in-Some.actor (actor.Flusher c.in-Flusher.found)
    c.loop-actor.invariant c.in-Flusher.is

pub loop-actor-preserved-in-Continue-branch-2 : goal.loop-actor-preserved-in-Continue-branch-2
loop-actor-preserved-in-Continue-branch-2 g c =
    ap (λ (l : List (Player g.row.R.Denot)). let s : Found g.row.R.Denot = record {
      players = l;
      writer = c.loop-actor.writer;
      flusher = c.loop-actor.flusher;
    } in s) (c.in_ok-push-in-User.ensures.items
    ∙ ap (λ (o : OwnUser). c.loop-actor.players.items ++ player.Own o ∷ []) c.new.ensures)
    ∙ put_more _ c.loop-actor.yielded c.in-Some.actor (actor.User c.in-User.user) c.loop-actor.invariant c.in-User.is

pub loop-actor-preserved : goal.loop-actor-preserved
loop-actor-preserved g c =
    let old : Found g.row.R.Denot = record {
      players = c.loop-actor.players.items;
      writer = c.loop-actor.writer;
      flusher = c.loop-actor.flusher;
    } in
    ap (λ (l : List (Player g.row.R.Denot)). let s : Found g.row.R.Denot = record {
      players = l;
      writer = c.loop-actor.writer;
      flusher = c.loop-actor.flusher;
    } in s) c.in_ok-push-in_default.ensures.items
    ∙ put_other old c.in-Some.actor c.in_default.not-User c.in_default.not-Writer c.in_default.not-Flusher
    ∙ put_more old c.loop-actor.yielded c.in-Some.actor c.in-Some.actor c.loop-actor.invariant refl

pub unreachable-requires : goal.unreachable-requires
unreachable-requires g c =
    let gives = c.into_iter-actor-iterator.ensures.into_iter_gives in
    let end = YieldsList-end (YieldsList-from_vec c.args.actors.items gives.0 (gives.1 ∙ c.args.actors.ok.0))
    c.loop-actor.yielded c.loop-actor.actor-iterator c.loop-actor.yielded_by c.next.result c.next.new.self c.in-None.is
    c.next.ensures.steps in
    let whole : c.loop-actor.yielded ≡ c.args.actors.items = sym (map-id c.loop-actor.yielded) ∙ end.0 in
    c.in_default-writer.not-Some _ (has_writer c.args.actors.items c.requires c.loop-actor.players.items
    c.loop-actor.writer c.loop-actor.flusher (c.loop-actor.invariant ∙ ap (found none_yet) whole))

pub unreachable-requires-in_default-flusher : goal.unreachable-requires-in_default-flusher
unreachable-requires-in_default-flusher g c =
    let gives = c.into_iter-actor-iterator.ensures.into_iter_gives in
    let end = YieldsList-end (YieldsList-from_vec c.args.actors.items gives.0 (gives.1 ∙ c.args.actors.ok.0))
    c.loop-actor.yielded c.loop-actor.actor-iterator c.loop-actor.yielded_by c.next.result c.next.new.self c.in-None.is
    c.next.ensures.steps in
    let whole : c.loop-actor.yielded ≡ c.args.actors.items = sym (map-id c.loop-actor.yielded) ∙ end.0 in
    c.in_default-flusher.not-Some _ (has_flusher c.args.actors.items c.requires c.loop-actor.players.items
    c.loop-actor.writer c.loop-actor.flusher (c.loop-actor.invariant ∙ ap (found none_yet) whole))

pub returns : goal.returns
returns g c =
    let gives = c.into_iter-actor-iterator.ensures.into_iter_gives in
    let end = YieldsList-end (YieldsList-from_vec c.args.actors.items gives.0 (gives.1 ∙ c.args.actors.ok.0))
    c.loop-actor.yielded c.loop-actor.actor-iterator c.loop-actor.yielded_by c.next.result c.next.new.self c.in-None.is
    c.next.ensures.steps in
    let whole : c.loop-actor.yielded ≡ c.args.actors.items = sym (map-id c.loop-actor.yielded) ∙ end.0 in
    let all = c.loop-actor.invariant ∙ ap (found none_yet) whole in
    let players = c.loop-actor.players.items in
    record {
      works = refl;
      order = its_order c.args.actors.items c.requires players c.loop-actor.writer c.loop-actor.flusher all;
      are = ap (λ (k : LogWork). crew (Some k) players) c.new-2.ensures
          ∙ its_crew c.args.actors.items c.requires players c.loop-actor.writer c.loop-actor.flusher all
          c.in-Some-writer.writer c.in-Some-flusher.flusher c.in-Some-writer.is c.in-Some-flusher.is;
      at_home = its_home c.args.actors.items c.requires players c.loop-actor.writer c.loop-actor.flusher all;
      others = λ is. its_others c.args.actors.items c.requires players c.loop-actor.writer c.loop-actor.flusher all;
      empty = search rules;
      room = let n = c.len.ensures in let k = c.in_ok-room.ensures.capacity in omega arith;
    }
