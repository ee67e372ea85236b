use Rattle.std.proofs.Common.{◌≡◌, ◌-◌, ◌/◌, ◌^◌, length, drop}
use Rattle.std.specs.Int.{bytes_high_first}
use Rattle.redo_apply.proofs.record.write_number.Given as goal

abbrev pub invariant-loop-i : goal.invariant-loop-i
invariant-loop-i l =
    (l.left ≡ l.value / 256 ^ l.i) × (drop (length l.place - l.i) l.place ≡ bytes_high_first l.i l.value)
