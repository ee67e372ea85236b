use Rattle.redo_recover.proofs.Stretching.{bounds-none, full-none}
use Rattle.redo_recover.proofs.full.FullBlocks.none.Goals as goal

pub returns-clause-full : goal.returns-clause-full
returns-clause-full c = λ layout image. full-none layout image _ c.new-views.ensures.items c.new-joined.ensures.items

pub returns-clause-bounds : goal.returns-clause-bounds
returns-clause-bounds c = bounds-none (record { lsn = c.args.lsn; views = c.new-views.result; joined = c.new-joined.result }) c.new-views.ensures.items c.new-joined.ensures.items
