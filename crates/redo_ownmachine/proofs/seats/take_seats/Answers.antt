use Rattle.std.proofs.Common.{List, ap, refl, sym, ◌++◌, ◌∙◌, ◌∷◌, ◌≡◌, []}
use Rattle.std.proofs.lemmas.Iterator.Adapters.{YieldsList-from_vec}
use Rattle.std.proofs.lemmas.Iterator.Consumers.{YieldsList-end}
use Rattle.std.proofs.lemmas.List.{map-id}
use Rattle.model_own.specs.{LogWork, OwnUser}
use Rattle.redo_drive.specs.declared.actor.Actor.{Actor}
use Rattle.redo_drive.specs.declared.actor.Actor.TheVariants as own
use Rattle.redo_ownmachine.proofs.Sorting.{Sorted, has_flusher, has_writer, its_crew, its_home, none_yet, put_more, put_other, sorted}
use Rattle.redo_ownmachine.proofs.seats.take_seats.Goals as goal
use Rattle.redo_ownmachine.specs.OwnCrew.{crew}

pub loop-actor-preserved-in-Writer : goal.loop-actor-preserved-in-Writer
loop-actor-preserved-in-Writer g c = put_more _ c.loop-actor.yielded c.in-Some.actor (own.Writer c.in-Writer.found)
    c.loop-actor.invariant c.in-Writer.is

pub loop-actor-preserved-in-Flusher : goal.loop-actor-preserved-in-Flusher
loop-actor-preserved-in-Flusher g c = put_more _ c.loop-actor.yielded c.in-Some.actor (own.Flusher c.in-Flusher.found)
    c.loop-actor.invariant c.in-Flusher.is

pub loop-actor-preserved-in-Continue-branch-2 : goal.loop-actor-preserved-in-Continue-branch-2
loop-actor-preserved-in-Continue-branch-2 g c =
    ap (λ (l : List OwnUser). let s : Sorted g.row.R.Denot = record {
      users = l;
      writer = c.loop-actor.writer;
      flusher = c.loop-actor.flusher;
      others = c.loop-actor.others.items;
    } in s) (c.in_ok-push-in-User.ensures.items ∙ ap (λ (o : OwnUser). c.loop-actor.users.items ++ o ∷ []) c.new.ensures)
    ∙ put_more _ c.loop-actor.yielded c.in-Some.actor (own.User c.in-User.user) c.loop-actor.invariant c.in-User.is

pub loop-actor-preserved : goal.loop-actor-preserved
loop-actor-preserved g c =
    let old : Sorted g.row.R.Denot = record {
      users = c.loop-actor.users.items;
      writer = c.loop-actor.writer;
      flusher = c.loop-actor.flusher;
      others = c.loop-actor.others.items;
    } in
    ap (λ (l : List (Actor g.row.R.Denot)). let s : Sorted g.row.R.Denot = record {
      users = c.loop-actor.users.items;
      writer = c.loop-actor.writer;
      flusher = c.loop-actor.flusher;
      others = l;
    } in s) c.in_ok-push-in_default.ensures.items
    ∙ put_other old c.in-Some.actor c.in_default.not-User c.in_default.not-Writer c.in_default.not-Flusher
    ∙ put_more old c.loop-actor.yielded c.in-Some.actor c.in-Some.actor c.loop-actor.invariant refl

pub unreachable-requires : goal.unreachable-requires
unreachable-requires g c =
    let gives = c.into_iter-actor-iterator.ensures.into_iter_gives in
    let end = YieldsList-end (YieldsList-from_vec c.args.actors.items gives.0 (gives.1 ∙ c.args.actors.ok.0))
    c.loop-actor.yielded c.loop-actor.actor-iterator c.loop-actor.yielded_by c.next.result c.next.new.self c.in-None.is
    c.next.ensures.steps in
    let whole : c.loop-actor.yielded ≡ c.args.actors.items = sym (map-id c.loop-actor.yielded) ∙ end.0 in
    c.in_default-writer.not-Some _ (has_writer c.args.actors.items c.requires c.loop-actor.users.items c.loop-actor.writer c.loop-actor.flusher
    c.loop-actor.others.items (c.loop-actor.invariant ∙ ap (sorted none_yet) whole))

pub unreachable-requires-in_default-flusher : goal.unreachable-requires-in_default-flusher
unreachable-requires-in_default-flusher g c =
    let gives = c.into_iter-actor-iterator.ensures.into_iter_gives in
    let end = YieldsList-end (YieldsList-from_vec c.args.actors.items gives.0 (gives.1 ∙ c.args.actors.ok.0))
    c.loop-actor.yielded c.loop-actor.actor-iterator c.loop-actor.yielded_by c.next.result c.next.new.self c.in-None.is
    c.next.ensures.steps in
    let whole : c.loop-actor.yielded ≡ c.args.actors.items = sym (map-id c.loop-actor.yielded) ∙ end.0 in
    c.in_default-flusher.not-Some _ (has_flusher c.args.actors.items c.requires c.loop-actor.users.items c.loop-actor.writer c.loop-actor.flusher
    c.loop-actor.others.items (c.loop-actor.invariant ∙ ap (sorted none_yet) whole))

pub returns-clause-at_home : goal.returns-clause-at_home
returns-clause-at_home g c =
    let gives = c.into_iter-actor-iterator.ensures.into_iter_gives in
    let end = YieldsList-end (YieldsList-from_vec c.args.actors.items gives.0 (gives.1 ∙ c.args.actors.ok.0))
    c.loop-actor.yielded c.loop-actor.actor-iterator c.loop-actor.yielded_by c.next.result c.next.new.self c.in-None.is
    c.next.ensures.steps in
    let whole : c.loop-actor.yielded ≡ c.args.actors.items = sym (map-id c.loop-actor.yielded) ∙ end.0 in
    its_home c.args.actors.items c.requires c.loop-actor.users.items c.loop-actor.writer c.loop-actor.flusher
    c.loop-actor.others.items (c.loop-actor.invariant ∙ ap (sorted none_yet) whole)

pub returns-clause-crew : goal.returns-clause-crew
returns-clause-crew g c =
    let gives = c.into_iter-actor-iterator.ensures.into_iter_gives in
    let end = YieldsList-end (YieldsList-from_vec c.args.actors.items gives.0 (gives.1 ∙ c.args.actors.ok.0))
    c.loop-actor.yielded c.loop-actor.actor-iterator c.loop-actor.yielded_by c.next.result c.next.new.self c.in-None.is
    c.next.ensures.steps in
    let whole : c.loop-actor.yielded ≡ c.args.actors.items = sym (map-id c.loop-actor.yielded) ∙ end.0 in
    ap (λ (k : LogWork). crew c.loop-actor.users.items k c.loop-actor.others.items) c.new-2.ensures
    ∙ its_crew c.args.actors.items c.requires c.loop-actor.users.items c.loop-actor.writer c.loop-actor.flusher
    c.loop-actor.others.items (c.loop-actor.invariant ∙ ap (sorted none_yet) whole)
    c.in-Some-writer.writer c.in-Some-flusher.flusher c.in-Some-writer.is c.in-Some-flusher.is
