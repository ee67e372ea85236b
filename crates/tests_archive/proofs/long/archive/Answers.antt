use Rattle.std.proofs.Common.{sym, subst}
use Rattle.model_base.specs.declared.shape.Shape.{Shape}
use Rattle.redo_apply.specs.{ArePagesOf}
use Rattle.tests_archive.proofs.long.archive.Goals as goal

pub begin-requires-clause-its_pages : goal.begin-requires-clause-its_pages
begin-requires-clause-its_pages g c =
    subst (λ (s : Shape). ArePagesOf s c.in_ok-pages.pages) (sym c.default_shape-shape.ensures.shape)
    c.in_ok-pages.ensures
