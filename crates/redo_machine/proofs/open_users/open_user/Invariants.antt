-- Each user below the index has ended.
use Rattle.redo_machine.proofs.Ended.{EndedBelow}
use Rattle.redo_machine.proofs.open_users.open_user.Given as goal

abbrev pub invariant-loop-seat : goal.invariant-loop-seat
invariant-loop-seat g l = EndedBelow l.seat l.actors
