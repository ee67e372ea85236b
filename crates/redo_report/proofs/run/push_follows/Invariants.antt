use Rattle.std.proofs.Common.{◌≡◌, ◌++◌, take}
use Rattle.std.specs.List.{flat_map}
use Rattle.std.specs.String.{string_bytes}
use Rattle.model_report.specs.{follow_line}
use Rattle.redo_report.proofs.run.push_follows.Given as goal

abbrev pub invariant-loop-followed : goal.invariant-loop-followed
invariant-loop-followed l =
    string_bytes l.text ≡ string_bytes l.initial.text ++ flat_map follow_line (take l.followed-index l.follows)
