-- The cells of one word of a frame that a group changes, where a page has n user bytes.
use Rattle.std.specs.Prelude.{List, ℕ, ◌*◌, ◌+◌}
use Rattle.model_core.specs.{CellWrite, collected}
use Rattle.model_core.specs.declared.limits.TheConstants.{WORD_LANES}
use Rattle.model_log.specs.declared.rec.Rec.{Rec}
use Rattle.redo_useractor.specs.Written.{cell_list}

abbrev pub word_cells : ℕ → ℕ → List Rec → ℕ → List CellWrite
word_cells n p recs q = collected (λ (lane : ℕ). cell_list n p recs (WORD_LANES * q + lane)) WORD_LANES
