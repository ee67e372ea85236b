use Rattle.std.proofs.Common.{sym, ◌∙◌}
use Rattle.model_store.proofs.Heads.{head-limits}
use Rattle.redo_recover.proofs.start.head_in.Goals as goal

pub returns-in-Good-clause-limits : goal.returns-in-Good-clause-limits
returns-in-Good-clause-limits c = head-limits c.sector_at.result.now c.sector_at-2.result.now c.in-Good.format c.in-Good.shape (sym c.read_head.ensures ∙ c.in-Good.is)
