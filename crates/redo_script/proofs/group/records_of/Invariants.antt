use Rattle.std.proofs.Common.{◌≡◌, map, take}
use Rattle.model_script.specs.{record_of}
use Rattle.redo_script.proofs.group.records_of.Given as goal

abbrev pub invariant-loop-item : goal.invariant-loop-item
invariant-loop-item l = l.recs.items ≡ map (record_of l.space) (take l.item-index l.items)
