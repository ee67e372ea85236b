use Rattle.std.proofs.Common.{arith, refl}
use Rattle.redo_rule.proofs.Finishing.{list_there}
use Rattle.redo_rule.proofs.closing.close_table.Goals as goal

pub drop_list-requires : goal.drop_list-requires
drop_list-requires g c = let T = c.empty_table-left.ensures in
    list_there T.leaves.slots (c.requires.lists T.leaves.words T.leaves.slots T.leaves.final) 0 _ (omega arith)
    (T.lists_are 0 _ refl)

pub drop_list-requires-2 : goal.drop_list-requires-2
drop_list-requires-2 g c = let T = c.empty_table-left.ensures in
    list_there T.leaves.slots (c.requires.lists T.leaves.words T.leaves.slots T.leaves.final) 1 _ (omega arith)
    (T.lists_are 1 _ refl)

pub drop_list-requires-3 : goal.drop_list-requires-3
drop_list-requires-3 g c = let T = c.empty_table-left.ensures in
    list_there T.leaves.slots (c.requires.lists T.leaves.words T.leaves.slots T.leaves.final) 2 _ (omega arith)
    (T.lists_are 2 _ refl)

pub drop_list-requires-4 : goal.drop_list-requires-4
drop_list-requires-4 g c = let T = c.empty_table-left.ensures in
    list_there T.leaves.slots (c.requires.lists T.leaves.words T.leaves.slots T.leaves.final) 3 _ (omega arith)
    (T.lists_are 3 _ refl)
