-- Where none was taken, nothing goes.
use Rattle.std.proofs.Common.{Option, sym, subst}
use Rattle.model_parts.specs.{IsOfTail}
use Rattle.model_store.specs.declared.tail.Tail.{Tail}
use Rattle.redo_open.specs.Clear.{ring_end}
use Rattle.redo_open.specs.Zeroing.{ZeroStep}
use Rattle.redo_open.proofs.Zeroing.{zero_nothing}
use Rattle.redo_open.proofs.clear.clear_taken.Goals as goal

pub returns-in-None-clause-step : goal.returns-in-None-clause-step
returns-in-None-clause-step g c =
    zero_nothing (IsOfTail c.args.layout.now c.args.start c.args.tail) (ring_end c.args.layout.now) (g.L.Sectors.seen c.args.log.now) tt
    (λ k is. subst (λ (tail : Option Tail). IsOfTail c.args.layout.now c.args.start tail k) c.in-None.is is)

pub returns-in-Some-clause-step : goal.returns-in-Some-clause-step
returns-in-Some-clause-step g c =
    subst (λ (tail : Option Tail). ZeroStep (IsOfTail c.args.layout.now c.args.start tail) (ring_end c.args.layout.now) (g.L.Sectors.seen c.args.log.now) c.clear_found.result
    (g.L.Sectors.seen c.clear_found.new.log)) (sym c.in-Some.is) c.clear_found.ensures.step
