use Rattle.std.proofs.Common.{◌≡◌, ◌+◌, ◌*◌, drop}
use Rattle.model_base.specs.declared.limits.TheConstants.{BLOCK_SIZE}
use Rattle.model_store.specs.{groups_start}
use Rattle.redo_recover.proofs.blocks.groups_start.Given as goal

abbrev pub invariant-loop-view : goal.invariant-loop-view
invariant-loop-view l =
    (l.lsn ≡ l.ckpt + BLOCK_SIZE * l.view-index) × (groups_start l.lsn (drop l.view-index l.views) ≡ groups_start l.ckpt l.views)
