-- Where the table has what: the slots in a row are the log part's, those of the flush lists, and the data part's, and
-- all but the
-- last have a turn word.
use Rattle.std.specs.Prelude.{ℕ, ◌+◌, ◌<◌}
use Rattle.redo_rule.specs.declared.law.TheConstants.{DATA_SLOT, LOG_TURN}

-- the slot has a turn word, and this is its number
abbrev pub HasTurn : ℕ → Type 0
HasTurn k = k < DATA_SLOT

abbrev pub turn_word : ℕ → ℕ
turn_word k = LOG_TURN + k
