use Rattle.redo_lab.proofs.commands.after_run.Goals as goal

pub returns-in-None-clause-ends : goal.returns-in-None-clause-ends
returns-in-None-clause-ends g c = λ asked handed log store ran read within.
    rw c.in-None.is (c.run_command.ensures.ends asked handed log store (rw c.in-None.is at ran) read)

pub returns-in-Some-clause-ends : goal.returns-in-Some-clause-ends
returns-in-Some-clause-ends g c = λ asked handed log store ran read within.
    rw c.in-Some.is (c.crash_command.ensures.ends asked handed log store (rw c.in-Some.is at ran) read (rw c.in-Some.is at within).1)

pub returns-in-None-clause-entered : goal.returns-in-None-clause-entered
returns-in-None-clause-entered g c = c.run_command.ensures.entered

pub returns-in-Some-clause-entered : goal.returns-in-Some-clause-entered
returns-in-Some-clause-entered g c = c.crash_command.ensures.entered
