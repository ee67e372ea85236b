-- The lanes so far are stored, and each other byte is as it was.
use Rattle.std.proofs.Common.{length, ℕ, ◌%◌, ◌+◌, ◌/◌, ◌<◌, ◌≡◌, ◌≢◌}
use Rattle.std.specs.Prelude.{slice_index}
use Rattle.model_base.specs.declared.limits.TheConstants.{USER_START}
use Rattle.model_core.specs.declared.limits.TheConstants.{WORD_LANES}
use Rattle.redo_rule.proofs.reading.put_word.Given as goal
use Rattle.redo_rule.specs.Reading.{lane_at}

abbrev pub invariant-loop-lane : goal.invariant-loop-lane
invariant-loop-lane l = record {
  here : (j : ℕ) → j < length l.fn.bytes → (USER_START + j) / WORD_LANES ≡ l.number
      → (USER_START + j) % WORD_LANES < l.lane → slice_index l.bytes j ≡ lane_at j l.word;
  same : (j : ℕ) → j < length l.fn.bytes → (USER_START + j) / WORD_LANES ≢ l.number
      → slice_index l.bytes j ≡ slice_index l.fn.bytes j;
  long : length l.bytes ≡ length l.fn.bytes;
}
