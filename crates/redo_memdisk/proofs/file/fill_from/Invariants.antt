use Rattle.std.proofs.Common.{length, take, ◌≡◌, ◌≤◌}
use Rattle.std.specs.Io.KnownBytes.{Consumes}
use Rattle.redo_memdisk.proofs.file.fill_from.Given as goal

abbrev pub invariant-loop : goal.invariant-loop
invariant-loop g l = (length l.out ≡ length l.initial.out) × (l.at ≤ length l.out) × Consumes (g.F.Read.remaining l.initial.file) (g.F.Read.remaining l.file) (take l.at l.out)
