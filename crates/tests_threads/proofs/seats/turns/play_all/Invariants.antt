-- Each player has its seat.
use Rattle.std.proofs.Common.{length, ◌≡◌}
use Rattle.tests_threads.specs.Playing.{ArePlaying}
use Rattle.tests_threads.proofs.seats.turns.play_all.Given as goal

abbrev pub invariant-loop-row : goal.invariant-loop-row
invariant-loop-row g l = record {
  plays : ArePlaying l.table.table_id l.layout l.seats.items l.players.items;
  count : length l.players.items ≡ length l.initial.players.items;
}

abbrev pub invariant-loop : goal.invariant-loop
invariant-loop g l = record {
  plays : ArePlaying l.table.table_id l.layout l.seats.items l.players.items;
  count : length l.players.items ≡ length l.initial.players.items;
}
