use Rattle.std.proofs.Common.{List, arith, rules, subst, sym, ◌∙◌}
use Rattle.std.proofs.lemmas.List.Sorted.{IsNonDecreasingBy-from_sort_by_key}
use Rattle.std.specs.Prelude.{IsPermutation}
use Rattle.model_report.specs.declared.entry.Entry.{Entry}
use Rattle.redo_drive.proofs.ListGrows.{actor_added, all_actors_added, has_room_for_all}
use Rattle.redo_drive.specs.Reserved.{HasGroups, KeepsAll}
use Rattle.redo_drive.specs.History.{view_of}
use Rattle.redo_drive.specs.declared.actor.Actor.{Actor}
use Rattle.redo_drive.proofs.history.history_of.Goals as goal

pub add_actor-requires : goal.add_actor-requires
add_actor-requires g c = subst (λ (z : Actor g.row.R.Denot). HasGroups (view_of z)) (sym c.actor-item.is) (c.requires c.loop-actor.actor-index c.actor-item.result (omega arith))

pub loop-actor-preserved : goal.loop-actor-preserved
loop-actor-preserved g c =
    let marks = c.args.marks.now in let actors = c.args.actors.now in let at = c.loop-actor.actor-index in let actor = c.actor-item.result in
    record {
      capacity = c.add_actor.ensures.capacity ∙ c.loop-actor.invariant.capacity;
      so_far = λ keep empty room.
          let so_far = c.loop-actor.invariant.so_far keep empty room in
          let keeps = subst (λ (z : Actor g.row.R.Denot). KeepsAll (view_of z)) (sym c.actor-item.is) (keep at actor (omega arith)) in
          let same = c.loop-actor.invariant.capacity in
          actor_added marks actors at actor c.actor-item.is (omega arith) c.loop-actor.entries.items so_far c.add_actor.new.entries.items
          (c.add_actor.ensures.added keeps (let r = has_room_for_all marks actors at actor c.actor-item.is (omega arith) c.loop-actor.entries.items so_far _ room in omega arith));
    }

pub returns : goal.returns
returns g c = λ keep empty room. record {
  all = subst (λ (z : List Entry). IsPermutation z c.sort_unstable_by_key.new.self.items) (all_actors_added c.args.marks.now c.args.actors.now c.loop-actor.actor-index c.loop-actor.entries.items _ (omega arith) (c.loop-actor.invariant.so_far keep empty room))
      c.sort_unstable_by_key.ensures.permutation;
  in_order = IsNonDecreasingBy-from_sort_by_key (λ entry. entry.start) _ c.sort_unstable_by_key.ensures.sorted (λ a r q k. search rules);
}
