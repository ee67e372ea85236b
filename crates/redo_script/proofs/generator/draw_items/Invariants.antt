use Rattle.std.proofs.Common.{◌≡◌, ◌-◌, ◌++◌}
use Rattle.model_script.specs.{drawn_items, state_after_items}
use Rattle.redo_script.proofs.generator.draw_items.Given as goal

abbrev pub invariant-loop : goal.invariant-loop
invariant-loop l =
    (l.items.items ++ drawn_items (l.count - l.counter) l.draws ≡ drawn_items l.count l.initial.draws)
    × (state_after_items (l.count - l.counter) l.draws ≡ state_after_items l.count l.initial.draws)
