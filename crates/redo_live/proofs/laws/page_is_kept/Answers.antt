use Rattle.std.proofs.Common.{List, ap, arith, subst, ◌++◌, ◌∙◌}
use Rattle.std.specs.List.{AllByRecursion}
use Rattle.model_reads.specs.{IsReadEndOf}
use Rattle.model_reads.specs.declared.read.ReadEnd.{ReadEnd}
use Rattle.model_reads.specs.declared.read.ReadEnd.TheVariants as read_end
use Rattle.model_report.specs.{wholes_of}
use Rattle.redo_live.proofs.KeptCommit.{own_commit_below}
use Rattle.redo_live.proofs.PageReads.{came_so}
use Rattle.redo_live.proofs.laws.page_is_kept.Goals as goal

pub returns-clause-kept : goal.returns-clause-kept
returns-clause-kept g c store users left old new last i number as_of bytes read on at leaves =
    came_so g.L.Sectors.seen g.L.Sectors.gives g.D.Sectors.seen g.D.Sectors.gives store users left old new last i
    (read_end.Page (record { page = number; lsn = as_of; bytes = bytes })) read.with_pages read.read on at leaves

pub returns-clause-failed : goal.returns-clause-failed
returns-clause-failed g c store users left old new last i code so on at leaves =
    let both = came_so g.L.Sectors.seen g.L.Sectors.gives g.D.Sectors.seen g.D.Sectors.gives store users left old new
    last i (read_end.Failed code) so.0 so.2 on at leaves in
    let more = both.1 in λ none. omega arith

pub returns-clause-own : goal.returns-clause-own
returns-clause-own g c store old new reader last mode end number as_of items bytes committed on read =
    own_commit_below store old new reader last mode end number as_of items bytes committed on read
