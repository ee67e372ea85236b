use Rattle.std.proofs.Common.{ℕ, ◌*◌, ◌+◌, ◌≡◌}
use Rattle.model_core.specs.{collected, lanes, put_lanes}
use Rattle.redo_useractor.specs.Written.{cell_list}
use Rattle.redo_useractor.proofs.words.with_written.Given as goal

abbrev pub invariant-loop-lane : goal.invariant-loop-lane
invariant-loop-lane l = l.lanes ≡ put_lanes (collected (λ (i : ℕ). cell_list l.user_bytes l.page l.recs (8 * l.word + i)) l.lane) (lanes 0 8 l.old)
