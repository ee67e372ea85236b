use Rattle.std.proofs.Common.{[], take}
use Rattle.std.specs.List.{AllZip}
use Rattle.redo_papply.specs.Frames.{IsFrameOf}
use Rattle.redo_papply.proofs.run.frames_of.Given as goal

abbrev pub invariant-loop-number : goal.invariant-loop-number
invariant-loop-number l = AllZip (IsFrameOf [] l.pages) (take l.number-index l.numbers) l.frames.items
