use Rattle.std.proofs.lemmas.Result.{err_from_is_err_and}
use Rattle.redo_recover.proofs.Only.{only-one}
use Rattle.redo_recover.proofs.blocks.read_tails.Goals as goal

pub returns-in_err-read-in-Two-clause-reads : goal.returns-in_err-read-in-Two-clause-reads
returns-in_err-read-in-Two-clause-reads g c =
    let p = err_from_is_err_and c.from_residual.result c.from_residual.ensures.1 in
    rw (p.1, p.2) (only-one _ _ _ _ _ _ _ c.in_err-read-in-Two.ensures.step c.in_err-read-in-Two.ensures.gives)

pub returns-in_ok-read-in-Two-clause-reads : goal.returns-in_ok-read-in-Two-clause-reads
returns-in_ok-read-in-Two-clause-reads g c = only-one _ _ _ _ _ _ _ c.in_ok-read-in-Two.ensures.step c.in_ok-read-in-Two.ensures.gives
