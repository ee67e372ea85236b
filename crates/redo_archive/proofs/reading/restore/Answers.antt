use Rattle.std.proofs.lemmas.Result.{err_from_is_err_and}
use Rattle.redo_recover.proofs.Only.{only-then}
use Rattle.redo_archive.proofs.Restores.{extent-refused}
use Rattle.redo_archive.proofs.reading.restore.Goals as goal

pub returns-in_err-extent-clause-caused : goal.returns-in_err-extent-clause-caused
returns-in_err-extent-clause-caused g c =
    let p = err_from_is_err_and c.from_residual.result c.from_residual.ensures.1 in
    rw (p.1, p.2) (extent-refused (g.A.Sectors.seen c.read_extent.new.device).tells c.args.lsn _
    c.in_err-extent.ensures.fault)

pub returns-in_err-pages-clause-reads : goal.returns-in_err-pages-clause-reads
returns-in_err-pages-clause-reads g c =
    let p = err_from_is_err_and c.from_residual-in_err-pages.result c.from_residual-in_err-pages.ensures.1 in
    rw (p.1, p.2) (only-then _ _ _ _ c.in_ok-extent.ensures.reads c.in_err-pages.ensures.reads)

pub returns-clause-reads : goal.returns-clause-reads
returns-clause-reads g c =
    only-then _ _ _ _ c.in_ok-extent.ensures.reads
    (only-then _ _ _ _ c.in_ok-pages.ensures.reads c.restore_blocks.ensures.reads)
