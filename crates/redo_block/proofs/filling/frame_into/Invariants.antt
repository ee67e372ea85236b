-- One block more each turn.
use Rattle.std.proofs.Common.{◌≡◌, ◌+◌, ◌*◌, ◌++◌, length, take, drop}
use Rattle.model_log.specs.{framed}
use Rattle.redo_block.specs.Framing.{AreFirsts}
use Rattle.redo_block.proofs.filling.frame_into.Given as goal

abbrev pub invariant-loop-first : goal.invariant-loop-first
invariant-loop-first l = record {
  place : l.at ≡ 512 * l.first-index;
  lsn : l.lsn ≡ l.from + 512 * l.first-index;
  long : length l.out ≡ length l.fn.out;
  fit : AreFirsts l.rest (drop l.first-index l.firsts);
  so_far : take l.at l.out ++ framed l.rest l.lsn (drop l.first-index l.firsts) l.ckpt ≡ framed l.fn.stream l.from l.firsts l.ckpt;
}
