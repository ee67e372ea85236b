use Rattle.std.proofs.Common.{◌≡◌, ◌++◌, take}
use Rattle.std.specs.List.{flat_map}
use Rattle.std.specs.String.{string_bytes}
use Rattle.model_report.specs.{record_line}
use Rattle.redo_report.proofs.dump.push_records.Given as goal

abbrev pub invariant-loop-rec : goal.invariant-loop-rec
invariant-loop-rec l =
    string_bytes l.text ≡ string_bytes l.initial.text ++ flat_map record_line (take l.rec-index l.recs)
