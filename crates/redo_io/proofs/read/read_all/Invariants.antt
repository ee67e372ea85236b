use Rattle.std.proofs.Common.{◌≡◌, ◌≤◌, ◌-◌, length, vec_len}
use Rattle.redo_io.specs.Steps.{TakesFront}
use Rattle.redo_io.proofs.Progress.{HasRead}
use Rattle.redo_io.specs.declared.read.TheConstants.{PIECE}
use Rattle.redo_io.proofs.read.read_all.Given as goal

abbrev pub invariant-loop-piece : goal.invariant-loop-piece
invariant-loop-piece g l = record {
  piece : vec_len l.piece ≡ PIECE;
  short : vec_len l.text ≤ l.limit;
  taken : TakesFront (g.S.Source.seen l.fn.src).left (g.S.Source.seen l.src).left (length l.text.items) l.text.items;
  later : (g.S.Source.seen l.fn.src).faults ≤ (g.S.Source.seen l.src).faults;
  reads : HasRead g.S.Source.read_gives PIECE l.fn.src l.text.items l.src;
}

abbrev pub decreases-loop-piece : goal.decreases-loop-piece
decreases-loop-piece g l = l.limit - vec_len l.text
