use Rattle.std.proofs.Common.{take}
use Rattle.std.specs.List.{AllZip}
use Rattle.redo_papply.specs.Frames.{IsFrameOf}
use Rattle.redo_papply.proofs.run.apply_run.Given as goal

abbrev pub invariant-loop-whole : goal.invariant-loop-whole
invariant-loop-whole l = AllZip (IsFrameOf (take l.whole-index l.groups) l.pages) l.numbers l.frames.items
