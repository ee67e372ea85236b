use Rattle.std.proofs.Common.{◌≡◌}
use Rattle.redo_script.specs.Cut.{parts_behind}
use Rattle.model_script.specs.{items_of}
use Rattle.redo_script.specs.Progress.{after_items, left_after}
use Rattle.redo_script.proofs.line.read_others.Given as goal

abbrev pub invariant-loop-rest : goal.invariant-loop-rest
invariant-loop-rest l =
    after_items l.items.items (items_of (parts_behind 59 l.rest)) ≡ after_items l.initial.items.items (items_of (parts_behind 59 l.initial.rest))

abbrev pub decreases-loop-rest : goal.decreases-loop-rest
decreases-loop-rest l = left_after l.rest
