use Rattle.std.proofs.Common.{◌≡◌, ◌++◌, take}
use Rattle.std.specs.List.{flat_map}
use Rattle.std.specs.String.{string_bytes}
use Rattle.model_report.specs.{whole_lines}
use Rattle.redo_report.proofs.dump.push_wholes.Given as goal

abbrev pub invariant-loop-whole : goal.invariant-loop-whole
invariant-loop-whole l =
    string_bytes l.text ≡ string_bytes l.initial.text ++ flat_map whole_lines (take l.whole-index l.wholes)
