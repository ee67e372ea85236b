use Rattle.redo_lab.proofs.CrashEnds.{told-stopped}
use Rattle.redo_lab.proofs.Entered.{entries-then}
use Rattle.redo_lab.specs.Call.{call_on}
use Rattle.redo_lab.proofs.crash_command.crash_command.Goals as goal
use Rattle.redo_lab.proofs.crash_command.crash_command.Goals.{in-Ended, in-Played, in-Stopped}

pub returns-clause-ends : goal.returns-clause-ends
returns-clause-ends g c = λ asked handed log store ran read none.
    elim c.match-course.branch [
      | in-Ended w ↦ rw (w.outcome-is, w.log-is, w.store-is) (rw w.in-Ended.is at ran)
      | in-Stopped w ↦ rw (w.outcome-is, w.log-is, w.store-is)
          (let stopped = rw w.in-Stopped.is at ran in
          w.crash_and_read-outcome.ensures.ends asked handed log store read stopped.0
          (told-stopped (call_on g.L.Sectors.seen g.L.Sectors.gives g.D.Sectors.seen g.D.Sectors.gives handed
          log store c.args.ran.log c.args.ran.store) asked c.args.script.now w.in-Stopped.field-0 stopped.1) none)
      | in-Played w ↦ rw (w.outcome-is, w.log-is, w.store-is)
          (let played = rw w.in-Played.is at ran in
          w.crash_and_read-outcome-in-Played.ensures.ends asked handed log store read played.0 played.1 none)
    ]

pub returns-clause-entered : goal.returns-clause-entered
returns-clause-entered g c = λ log store entered.
    elim c.match-course.branch [
      | in-Ended w ↦ rw (w.log-is, w.store-is) entered
      | in-Stopped w ↦ rw (w.log-is, w.store-is) (entries-then entered w.crash_and_read-outcome.ensures.entered)
      | in-Played w ↦ rw (w.log-is, w.store-is) (entries-then entered w.crash_and_read-outcome-in-Played.ensures.entered)
    ]
