use Rattle.std.proofs.Common.{◌≡◌, map, take, None}
use Rattle.model_script.specs.{first_misfit_of, item_misfit}
use Rattle.redo_script.proofs.fit.items_misfit.Given as goal

abbrev pub invariant-loop-item : goal.invariant-loop-item
invariant-loop-item l = first_misfit_of (map (item_misfit l.shape) (take l.item-index l.items)) ≡ None
