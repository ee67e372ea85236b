use Rattle.std.proofs.Common.{◌≡◌, ◌+◌, ◌*◌, ◌++◌, drop}
use Rattle.std.specs.String.{string_bytes}
use Rattle.model_base.specs.declared.limits.TheConstants.{BLOCK_SIZE}
use Rattle.model_report.specs.{block_lines}
use Rattle.redo_report.proofs.dump.push_blocks.Given as goal

abbrev pub invariant-loop-view : goal.invariant-loop-view
invariant-loop-view l =
    (string_bytes l.text ++ block_lines l.lsn (drop l.view-index l.views) ≡ string_bytes l.initial.text ++ block_lines l.first l.views)
    × (l.lsn ≡ l.first + BLOCK_SIZE * l.view-index)
