use Rattle.std.proofs.Common.{◌≡◌, map, take, length, None}
use Rattle.model_log.specs.{stream_of}
use Rattle.model_script.specs.{first_misfit_of, group_of, line_misfit}
use Rattle.redo_script.proofs.fit.judge_lines.Given as goal

abbrev pub invariant-loop-line : goal.invariant-loop-line
invariant-loop-line l =
    (l.total ≡ length (stream_of (map (group_of l.shape.space) (take l.line-index l.lines))))
    × (first_misfit_of (map (line_misfit l.shape) (take l.line-index l.lines)) ≡ None)
