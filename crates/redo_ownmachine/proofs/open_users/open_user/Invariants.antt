-- Each user below the index has ended.
use Rattle.redo_ownmachine.proofs.open_users.open_user.Given as goal
use Rattle.redo_ownmachine.specs.OpenOwn.{EndedBefore}

abbrev pub invariant-loop-seat : goal.invariant-loop-seat
invariant-loop-seat l = EndedBefore l.seat l.users
