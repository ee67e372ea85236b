use Rattle.std.proofs.Common.{None, inl, inr}
use Rattle.model_script.specs.declared.asked.Command.TheVariants.{Run}
use Rattle.redo_lab.proofs.Ends.{runs-scripted, uncrashing-run}
use Rattle.redo_lab.proofs.RunEnds.{ends-stopped, run-played, spares-printed, uncut-printed}
use Rattle.redo_lab.proofs.run_command.run_command.Goals as goal
use Rattle.redo_lab.proofs.run_command.run_command.Goals.{in-Ended2, in-Played}

pub returns-clause-ends : goal.returns-clause-ends
returns-clause-ends g c = λ asked handed log store ran read.
    elim c.match-course.branch [
      | in-Ended2 w ↦ rw w.outcome-is (elim w.in-Ended.is [
        | inl ended ↦ rw ended at ran
        | inr stopped ↦ ends-stopped _ (Run asked) asked c.args.script.now (runs-scripted asked None read) c.laws.ensures
            (uncrashing-run _ asked) w.in-Ended.fault (rw stopped at ran)
      ])
      | in-Played w ↦ rw w.outcome-is (run-played _ asked c.args.script.now w.in-Played.played read c.laws.ensures w.in-Played.fault _
          (rw w.in-Played.is at ran) w.print_run-outcome.ensures)
    ]

pub returns-clause-entered : goal.returns-clause-entered
returns-clause-entered g c = λ log store entered. entered

pub returns-clause-spares : goal.returns-clause-spares
returns-clause-spares g c = λ archive spared.
    elim c.match-course.branch [
      | in-Ended2 w ↦ rw w.outcome-is (elim w.in-Ended.is [
        | inl ended ↦ rw ended at spared
        | inr stopped ↦ rw stopped at spared
      ])
      | in-Played w ↦ rw w.outcome-is (spares-printed archive c.args.script.now w.in-Played.played w.in-Played.fault w.print_run-outcome.result w.print_run-outcome.ensures)
    ]

pub returns-clause-uncut : goal.returns-clause-uncut
returns-clause-uncut g c =
    elim c.match-course.branch [
      | in-Ended2 w ↦ rw w.outcome-is tt
      | in-Played w ↦ rw (w.outcome-is, w.in-Played.is) (uncut-printed c.args.script.now w.in-Played.played
          w.in-Played.fault w.print_run-outcome.result w.print_run-outcome.ensures)
    ]
