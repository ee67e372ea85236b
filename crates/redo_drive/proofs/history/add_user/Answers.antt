use Rattle.std.proofs.Common.{List, [], ap, arith, drop, vec_capacity, ◌++◌, ◌+◌, ◌∙◌, ◌∷◌, ◌≡◌}
use Rattle.model_report.specs.declared.entry.Entry.{Entry}
use Rattle.redo_drive.proofs.ListGrows.{all_groups_added, group_added, has_room}
use Rattle.redo_drive.specs.History.{listed_from}
use Rattle.redo_drive.proofs.history.add_user.Goals as goal
use Rattle.redo_drive.proofs.history.add_user.Goals.{else-len-capacity, then-len-capacity}

pub loop-k-preserved : goal.loop-k-preserved
loop-k-preserved c = let u = c.args.user.now in let marks = c.args.marks.now in let k = c.loop-k.k in
    elim c.if-len-capacity.branch [
      | then-len-capacity w ↦ record {
        capacity = ap vec_capacity w.entries-is ∙ w.push_reserved.ensures.capacity ∙ c.loop-k.invariant.capacity;
        so_far = λ room.
            let items : c.if-len-capacity.entries.items ≡ c.loop-k.entries.items ++ w.entry_of.result ∷ [] = cc in
            ap (λ (z : List Entry). z ++ listed_from marks u (k + 1) (drop (k + 1) u.starts)) items
            ∙ group_added marks u k (omega arith) c.loop-k.entries.items c.args.entries.now.items (c.loop-k.invariant.so_far room) w.entry_of.result w.entry_of.ensures;
      }
      | else-len-capacity w ↦ record {
        capacity = ap vec_capacity w.entries-is ∙ c.loop-k.invariant.capacity;
        so_far = λ room. absurd (let full = has_room marks u k (omega arith) c.loop-k.entries.items c.args.entries.now.items (c.loop-k.invariant.so_far room) (vec_capacity c.args.entries.now) room in
            let same = c.loop-k.invariant.capacity in omega arith);
      }
    ]

pub returns-clause-added : goal.returns-clause-added
returns-clause-added c = λ room. all_groups_added c.args.marks.now c.args.user.now c.loop-k.k c.loop-k.entries.items _ (omega arith) (c.loop-k.invariant.so_far room)
