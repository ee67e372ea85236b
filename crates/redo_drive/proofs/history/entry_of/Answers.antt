use Rattle.std.proofs.Common.{ap, arith, length, slice_index, sym, ◌+◌, ◌∙◌, ◌≡◌}
use Rattle.model_core.specs.{line_at, lsn}
use Rattle.model_running.proofs.Places.{lsn_is}
use Rattle.model_log.specs.{lsn_of}
use Rattle.redo_drive.proofs.history.entry_of.Goals as goal

pub returns : goal.returns
returns c =
    let at = slice_index c.args.user.now.starts c.args.k in
    let end = at + length (line_at c.args.user.now.lines c.args.k).bytes in
    let start : c.lsn_of.result ≡ lsn at = c.lsn_of.ensures ∙ ap lsn_of c.group_start-start.ensures ∙ sym (lsn_is at) in
    let ends : c.lsn_of-end.result ≡ lsn end = c.lsn_of-end.ensures ∙ ap lsn_of (omega arith) ∙ sym (lsn_is end) in
    cc
