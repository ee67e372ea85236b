use Rattle.std.proofs.Common.{◌/◌, ◌^◌, ◌≡◌}
use Rattle.redo_useractor.proofs.written.number_byte.Given as goal

abbrev pub invariant-loop : goal.invariant-loop
invariant-loop l = l.left ≡ l.value / 256 ^ l.counter
