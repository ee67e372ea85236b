use Rattle.std.proofs.Common.{None, List, ap, arith, refl, rules, subst, sym, ◌∙◌, ◌≡◌}
use Rattle.std.proofs.lemmas.Iterator.Adapters.{YieldsList-from_vec}
use Rattle.std.proofs.lemmas.Iterator.Consumers.{YieldsList-end}
use Rattle.std.proofs.lemmas.List.{map-id}
use Rattle.redo_ownrule.proofs.Players.{are_plain, plain, plain_crew, plain_home}
use Rattle.redo_ownrule.proofs.staffing.take_plain.Goals as goal
use Rattle.redo_ownrule.specs.Players.{ArePlain, crew}
use Rattle.redo_ownrule.specs.Staffing.{StandAtHome}
use Rattle.redo_ownrule.specs.declared.player.Player.{Player}

pub returns : goal.returns
returns g c =
    let gives = c.into_iter-actor-iterator.ensures.into_iter_gives in
    let end = YieldsList-end (YieldsList-from_vec c.args.actors.items gives.0 (gives.1 ∙ c.args.actors.ok.0))
    c.loop-actor.yielded c.loop-actor.actor-iterator c.loop-actor.yielded_by c.next.result c.next.new.self c.in-None.is
    c.next.ensures.steps in
    let whole : c.loop-actor.yielded ≡ c.args.actors.items = sym (map-id c.loop-actor.yielded) ∙ end.0 in
    let players : ◌≡◌ {A = List (Player g.row.R.Denot)} c.loop-actor.players.items (plain c.args.actors.items) =
    c.loop-actor.invariant ∙ ap plain whole in
    record {
      works = refl;
      order = subst ArePlain (sym players) (are_plain c.args.actors.items);
      are = ap (λ (l : List (Player g.row.R.Denot)). crew None l) players ∙ plain_crew c.args.actors.items;
      at_home = subst StandAtHome (sym players) (plain_home c.args.actors.items);
      others = λ is. absurd (cc);
      empty = search rules;
      room = let n = c.len.ensures in let k = c.in_ok-room.ensures.capacity in omega arith;
    }
