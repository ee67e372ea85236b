use Rattle.bank.proofs.BankWork.serve.Given as goal
use Rattle.redo_live.specs.Serving.{Stays}

abbrev pub invariant-loop-number : goal.invariant-loop-number
invariant-loop-number g l = Stays l.store l.initial.user l.user
