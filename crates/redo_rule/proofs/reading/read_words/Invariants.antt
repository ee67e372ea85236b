-- The words so far are read, and their user bytes stored.
use Rattle.std.proofs.Common.{length, ℕ, ◌*◌, ◌≡◌}
use Rattle.model_core.specs.declared.limits.TheConstants.{WORD_LANES}
use Rattle.model_reads.specs.{begun}
use Rattle.redo_rule.proofs.reading.read_words.Given as goal
use Rattle.redo_rule.specs.Reading.{HasAllWords, IsAt}

abbrev pub invariant-loop-number : goal.invariant-loop-number
invariant-loop-number g l = (n : ℕ) → IsAt l.table.table_id l.fn.token l.layout l.page (begun l.page n)
    → HasAllWords l.fn.token l.page n (WORD_LANES * l.number) l.bytes l.token
