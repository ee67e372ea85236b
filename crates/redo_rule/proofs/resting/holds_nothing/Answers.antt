use Rattle.std.proofs.Common.{subst, sym}
use Rattle.redo_drive.specs.{view_of}
use Rattle.model_core.proofs.Asks.{frees}
use Rattle.model_core.specs.{IsFreeOp}
use Rattle.redo_rule.proofs.resting.holds_nothing.Goals as goal

pub returns-clause-nothing : goal.returns-clause-nothing
returns-clause-nothing g c = λ is. frees (view_of c.args.actor.now) c.requires (subst IsFreeOp c.next.ensures
    (c.is_free.ensures.free is))

pub returns-clause-asks : goal.returns-clause-asks
returns-clause-asks g c = λ free. c.is_free.ensures.held (subst IsFreeOp (sym c.next.ensures) free)
