-- Each player has its seat.
use Rattle.std.proofs.Common.{length, ◌≡◌}
use Rattle.tests_threads.specs.Playing.{ArePlaying}
use Rattle.tests_threads.proofs.seats.turns.take_turns.Given as goal

abbrev pub invariant-loop-taken : goal.invariant-loop-taken
invariant-loop-taken g l = record {
  plays : ArePlaying l.table.table_id l.layout l.seats.items l.players.items;
  count : length l.players.items ≡ length l.initial.players.items;
}
