use Rattle.std.proofs.Common.{length, take, ◌≤◌}
use Rattle.std.specs.Io.KnownBytes.{Appends}
use Rattle.redo_memdisk.proofs.file.put_into.Given as goal

abbrev pub invariant-loop : goal.invariant-loop
invariant-loop g l =
    (l.taken ≤ length l.bytes)
    × Appends (g.F.Write.contents l.initial.file) (g.F.Write.contents l.file) (take l.taken l.bytes)
