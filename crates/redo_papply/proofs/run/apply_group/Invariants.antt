use Rattle.std.proofs.Common.{take}
use Rattle.redo_papply.specs.Frames.{AreAfterGroup}
use Rattle.redo_papply.proofs.run.apply_group.Given as goal

abbrev pub invariant-loop-rec : goal.invariant-loop-rec
invariant-loop-rec l = AreAfterGroup l.first (take l.rec-index l.group) l.start l.end l.initial.frames l.frames
