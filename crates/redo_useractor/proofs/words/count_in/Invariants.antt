use Rattle.std.proofs.Common.{length, ℕ, ◌*◌, ◌+◌, ◌≡◌, ◌≤◌}
use Rattle.model_core.specs.{collected}
use Rattle.redo_useractor.specs.Written.{cell_list}
use Rattle.redo_useractor.proofs.words.count_in.Given as goal

abbrev pub invariant-loop-lane : goal.invariant-loop-lane
invariant-loop-lane l = record {
  counted : l.count ≡ length (collected (λ (i : ℕ). cell_list l.user_bytes l.page l.recs (8 * l.word + i)) l.lane);
  few : l.count ≤ l.lane;
}
