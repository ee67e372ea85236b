-- Each player so far is at rest.
use Rattle.tests_threads.proofs.Turned.{RestBelow}
use Rattle.tests_threads.proofs.seats.turns.see_rest.Given as goal

abbrev pub invariant-loop-seat : goal.invariant-loop-seat
invariant-loop-seat g l = RestBelow l.seat l.players
