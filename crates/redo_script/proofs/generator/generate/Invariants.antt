use Rattle.std.proofs.Common.{◌≡◌, ◌-◌, ◌++◌}
use Rattle.std.specs.String.{string_bytes}
use Rattle.model_script.specs.{drawn_lines, first_state, script_text}
use Rattle.redo_script.proofs.generator.generate.Given as goal

abbrev pub invariant-loop-number : goal.invariant-loop-number
invariant-loop-number l =
    string_bytes l.text ++ script_text (drawn_lines l.users l.number (l.groups - l.number) l.draws)
    ≡ script_text (drawn_lines l.users 0 l.groups (first_state l.seed))
