use Rattle.std.proofs.Common.{◌≡◌, ◌-◌, ◌++◌}
use Rattle.model_script.specs.{drawn_bytes, state_after}
use Rattle.redo_script.proofs.generator.draw_bytes.Given as goal

abbrev pub invariant-loop : goal.invariant-loop
invariant-loop l =
    (l.bytes.items ++ drawn_bytes (l.count - l.counter) l.draws ≡ drawn_bytes l.count l.initial.draws)
    × (state_after (l.count - l.counter) l.draws ≡ state_after l.count l.initial.draws)
