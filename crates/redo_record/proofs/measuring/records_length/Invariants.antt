use Rattle.std.proofs.Common.{◌≡◌, ◌<◌, ◌^◌, length, take}
use Rattle.std.specs.List.{flat_map}
use Rattle.model_log.specs.{record_text}
use Rattle.redo_record.proofs.measuring.records_length.Given as goal

abbrev pub invariant-loop-rec : goal.invariant-loop-rec
invariant-loop-rec l =
    (l.total ≡ length (flat_map record_text (take l.rec-index l.recs))) × (l.total < 2 ^ 64)
