use Rattle.redo_lab.proofs.gen_command.gen_command.Goals as goal

pub returns-then-run : goal.returns-then-run
returns-then-run g c = rw c.if-run.true c.run_seed.ensures

pub returns-else-run : goal.returns-else-run
returns-else-run g c = rw c.if-run.false (c.print_script.ensures c.args.max)
