use Rattle.std.proofs.Common.{ap, arith, length, slice_index, sym, ◌+◌, ◌-◌, ◌∙◌, ◌≡◌}
use Rattle.model_core.specs.{line_at}
use Rattle.model_log.specs.{lsn_of}
use Rattle.model_running.proofs.Places.{lsn_is}
use Rattle.redo_live.proofs.telling.last_end.Goals as goal

pub returns : goal.returns
returns c =
    let u = c.args.user.now in
    let n = length u.starts - 1 in
    let start = c.last_group-start.ensures.start in
    let long = c.last_group-start.ensures.length in
    let end = slice_index u.starts n + length (line_at u.lines n).bytes in
    c.lsn_of.ensures ∙ ap lsn_of (omega arith) ∙ sym (lsn_is end)
