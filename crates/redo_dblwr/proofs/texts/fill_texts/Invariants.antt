use Rattle.std.proofs.Common.{◌≡◌, ◌*◌, length, take, drop}
use Rattle.model_parts.specs.{batch_of, batch_text}
use Rattle.redo_dblwr.proofs.texts.fill_texts.Given as goal

abbrev pub invariant-loop-i : goal.invariant-loop-i
invariant-loop-i l = record {
  long : length l.out ≡ length l.fn.out;
  so_far : take (l.i * l.shape.page_size) l.out ≡ batch_text l.shape (take l.i (batch_of l.shape l.batch l.users));
  behind : drop (l.i * l.shape.page_size) l.out ≡ drop (l.i * l.shape.page_size) l.fn.out;
}
