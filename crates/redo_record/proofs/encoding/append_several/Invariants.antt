use Rattle.std.proofs.Common.{◌≡◌, ◌++◌, take}
use Rattle.std.specs.List.{flat_map}
use Rattle.model_log.specs.{record_text}
use Rattle.redo_record.proofs.encoding.append_several.Given as goal

abbrev pub invariant-loop-rec : goal.invariant-loop-rec
invariant-loop-rec l = l.text.items ≡ l.fn.text.items ++ flat_map record_text (take l.rec-index l.recs)
