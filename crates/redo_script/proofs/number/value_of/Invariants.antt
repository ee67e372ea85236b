use Rattle.std.proofs.Common.{◌≡◌, ◌<◌, ◌^◌, take}
use Rattle.model_script.specs.{digits_value}
use Rattle.redo_script.proofs.number.value_of.Given as goal

abbrev pub invariant-loop-digit : goal.invariant-loop-digit
invariant-loop-digit l = (l.value ≡ digits_value (take l.digit-index l.digits)) × (l.value < 2 ^ 64)
