use Rattle.std.proofs.lemmas.Result.{err_from_is_err_and}
use Rattle.redo_recover.proofs.Only.{only-one}
use Rattle.redo_recover.proofs.piece.Piece.read_over.Goals as goal

pub returns-in_err-read-clause-reads : goal.returns-in_err-read-clause-reads
returns-in_err-read-clause-reads g c =
    let p = err_from_is_err_and c.from_residual-in_err-read.result c.from_residual-in_err-read.ensures.1 in
    rw (p.1, p.2) (only-one _ _ _ _ _ _ _ c.in_err-read.ensures.step c.in_err-read.ensures.gives)

pub returns-clause-reads : goal.returns-clause-reads
returns-clause-reads g c = only-one _ _ _ _ _ _ _ c.in_ok-read.ensures.step c.in_ok-read.ensures.gives
