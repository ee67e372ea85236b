-- What the fields of the closer stand for.
use Rattle.model_core.specs.{Advance, CloserState}
use Rattle.model_core.specs.declared.steps.CloserStep.{CloserStep}
use Rattle.model_core.specs.declared.steps.CloserStep.TheVariants as closer_step
use Rattle.redo_link.specs.{LeadsToLsn}
use Rattle.redo_logactors.specs.declared.closer.Closer.TheInside.{Inside}

abbrev pub closer_view : Inside → CloserState
closer_view c = record { advance = c.advance; code = c.code; checks = c.checks; step = c.step }

-- its advance may stand at this step
abbrev pub CloserLeadsToLsn : Advance → CloserStep → Type 0
CloserLeadsToLsn v (closer_step.Advance s) = LeadsToLsn v s
CloserLeadsToLsn v _ = Unit {0}

abbrev pub IsCloser : Inside → Type 0
IsCloser c = CloserLeadsToLsn c.advance c.step
