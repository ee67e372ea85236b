use Rattle.std.proofs.Common.{◌≡◌, ◌-◌, ◌++◌}
use Rattle.model_script.specs.{drawn_lines, first_state}
use Rattle.redo_script.proofs.generator.generate_lines.Given as goal

abbrev pub invariant-loop-number : goal.invariant-loop-number
invariant-loop-number l =
    l.lines.items ++ drawn_lines l.users l.number (l.groups - l.number) l.draws ≡ drawn_lines l.users 0 l.groups (first_state l.seed)
