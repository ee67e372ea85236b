use Rattle.std.proofs.Common.{◌≤◌, Option, subst, sym}
use Rattle.std.specs.Prelude.{IfSome}
use Rattle.model_base.specs.declared.limits.TheConstants.{BLOCK_SIZE}
use Rattle.model_log.specs.declared.block.BlockView.{BlockView}
use Rattle.model_log.specs.declared.layout.TheConstants.{BLOCK_HEADER}
use Rattle.redo_recover.specs.Blocks.{HasFirst}
use Rattle.redo_recover.specs.declared.taking.Stand.{Stand}
use Rattle.redo_recover.proofs.Standing.{among-firsts, among-lengths}
use Rattle.redo_recover.proofs.taking.take.Goals as goal

pub returns-then-lsn-lt-LSN_LIMIT-clause-length : goal.returns-then-lsn-lt-LSN_LIMIT-clause-length
returns-then-lsn-lt-LSN_LIMIT-clause-length c =
    subst (λ (o : Option (Stand × BlockView)). IfSome o (λ one. (BLOCK_HEADER ≤ one.1.length) × (one.1.length ≤ BLOCK_SIZE))) (sym c.take_among.ensures)
    (among-lengths c.args.format c.args.lsn c.args.place.now c.sector_at-four.result.now c.sector_at-five.result.now)

pub returns-then-lsn-lt-LSN_LIMIT-clause-first : goal.returns-then-lsn-lt-LSN_LIMIT-clause-first
returns-then-lsn-lt-LSN_LIMIT-clause-first c =
    subst (λ (o : Option (Stand × BlockView)). IfSome o (λ one. HasFirst one.1)) (sym c.take_among.ensures)
    (among-firsts c.args.format c.args.lsn c.args.place.now c.sector_at-four.result.now c.sector_at-five.result.now)
