use Rattle.std.proofs.Common.{◌≡◌}
use Rattle.redo_papply.proofs.Merging.{put_first}
use Rattle.redo_papply.proofs.merge.put_frames.Given as goal

abbrev pub invariant-loop-number : goal.invariant-loop-number
invariant-loop-number l = l.pages ≡ put_first l.number l.frames l.initial.pages
