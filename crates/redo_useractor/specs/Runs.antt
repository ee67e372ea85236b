-- Words of a page's frame, where a page has n user bytes, that hold what one record of a group writes there, and nothing else.
use Rattle.std.specs.Prelude.{List, get_or, length, ℕ, ◌*◌, ◌+◌, ◌-◌, ◌<◌, ◌≡◌, ◌≤◌}
use Rattle.model_base.specs.declared.limits.TheConstants.{USER_START}
use Rattle.model_core.specs.declared.limits.TheConstants.{WORD_LANES}
use Rattle.model_log.specs.declared.rec.Rec.{Rec}
use Rattle.model_log.specs.declared.rec.Rec.TheVariants.{Init}
use Rattle.redo_useractor.specs.Written.{cell_byte, cells_end, first_cell, own_byte}

-- the record with this number
abbrev pub rec_at : List Rec → ℕ → Rec
rec_at recs number = get_or recs number (Init 0 0)

-- a record writes each cell of word q
pub record Covers (n q : ℕ) (rec : Rec) : Type 0 where
  pub from : first_cell rec ≤ WORD_LANES * q
  pub to : WORD_LANES * q + WORD_LANES ≤ cells_end n rec

-- this record covers word q of page p, and what the records leave in its cells is what it writes there
pub record IsWhole (n p : ℕ) (recs : List Rec) (number q : ℕ) : Type 0 where
  pub there : number < length recs
  pub covers : Covers n q (rec_at recs number)
  pub cells : (c : ℕ) → WORD_LANES * q ≤ c → c < WORD_LANES * q + WORD_LANES → cell_byte n p recs c ≡ own_byte n (rec_at recs number) (c - USER_START)

-- each word from the first up to the end is such a one
abbrev pub IsRun : ℕ → ℕ → List Rec → ℕ → ℕ → ℕ → Type 0
IsRun n p recs number first end = (q : ℕ) → first ≤ q → q < end → IsWhole n p recs number q
