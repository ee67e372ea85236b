use Rattle.std.proofs.Common.{arith, rules, subst, sym, ℕ, ◌≤◌}
use Rattle.model_base.specs.declared.limits.TheConstants.{START_LSN}
use Rattle.redo_finish.proofs.Blocks.{both, nothing}
use Rattle.redo_finish.proofs.finishing.finish_archive.Goals as goal

pub loop-log-init : goal.loop-log-init
loop-log-init g c = nothing g.L.Sectors.seen g.L.Sectors.gives g.A.Sectors.seen g.A.Sectors.gives c.args.flushed
    c.args.log.now c.args.part.now c.requires.finish

pub append_next-requires-clause-finish : goal.append_next-requires-clause-finish
append_next-requires-clause-finish g c = c.loop-log.invariant.to_finish

pub append_next-requires-clause-started : goal.append_next-requires-clause-started
append_next-requires-clause-started g c =
    subst (λ (n : ℕ). START_LSN ≤ n) (sym c.loop-log.invariant.start) c.requires.started

pub returns-then-not-append_next-clause-finishes :
    goal.returns-then-not-append_next-clause-finishes
returns-then-not-append_next-clause-finishes g c =
    both g.L.Sectors.seen g.L.Sectors.gives g.A.Sectors.seen g.A.Sectors.gives c.args.flushed c.args.log.now c.loop-log.log
    c.append_next.new.log c.args.part.now c.loop-log.part c.append_next.new.part c.loop-log.invariant
    c.append_next.ensures.finishes

pub loop-log-smaller : goal.loop-log-smaller
loop-log-smaller g c = search rules

pub loop-log-preserved : goal.loop-log-preserved
loop-log-preserved g c =
    both g.L.Sectors.seen g.L.Sectors.gives g.A.Sectors.seen g.A.Sectors.gives c.args.flushed c.args.log.now c.loop-log.log
    c.append_next.new.log c.args.part.now c.loop-log.part c.append_next.new.part c.loop-log.invariant
    c.append_next.ensures.finishes

pub returns-clause-done : goal.returns-clause-done
returns-clause-done g c = λ log_live live. let up = c.loop-log.invariant.to_finish.up_to in
    let mark = c.mark.ensures in let test = c.loop-log-test.false in omega arith

pub returns-clause-finishes : goal.returns-clause-finishes
returns-clause-finishes g c = c.loop-log.invariant
