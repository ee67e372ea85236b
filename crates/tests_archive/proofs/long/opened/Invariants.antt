use Rattle.model_base.specs.{default_shape}
use Rattle.redo_apply.specs.{ArePagesOf}
use Rattle.tests_archive.proofs.long.opened.Given as goal

abbrev pub invariant-loop-page : goal.invariant-loop-page
invariant-loop-page l = ArePagesOf default_shape l.pages
