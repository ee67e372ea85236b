use Rattle.std.proofs.Common.{ap, length, sym, ◌∙◌}
use Rattle.redo_rule.proofs.Laid.{four, in_slots, six}
use Rattle.redo_rule.proofs.laying.lay_out.Goals as goal

pub returns-clause-slots : goal.returns-clause-slots
returns-clause-slots g c = (
  six _ _ _ _ _ _ _ _ _ _ _ _ _ c.in-Ok-with_capacity.ensures.items c.push_reserved.ensures.items
      c.push_reserved-2.ensures.items c.push_reserved-3.ensures.items c.push_reserved-4.ensures.items
      c.push_reserved-5.ensures.items c.push_reserved-6.ensures.items
      ∙ in_slots _ _ c.args.lists _ _ _ _ (sym c.into_lists-lists.ensures.lists ∙ four _ _ _ _ _ _ _ _ _
      (ap length c.into_lists-lists.ensures.lists ∙ c.into_lists-lists.ensures.are_lists.count) c.in-Some.ensures.items
      c.in-Some-pop.ensures.items c.in-Some-pop-2.ensures.items c.in-Some-pop-3.ensures.items),
  c.into_lists-lists.ensures.are_lists,
)
