use Rattle.tests_formats.proofs.apply.apply_fitting.Goals as goal

pub returns-then-fits : goal.returns-then-fits
returns-then-fits c = c.apply.ensures.its_pages c.args.shape.now c.requires
