-- Fewer formats come after each link.
use Rattle.redo_open.specs.Chain.{formats_after}
use Rattle.redo_open.proofs.chain.+migrate_from.Given as goal

abbrev pub decreases-migrate_from : goal.decreases-migrate_from
decreases-migrate_from g l = formats_after l.format
