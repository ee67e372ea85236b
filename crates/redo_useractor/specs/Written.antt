-- What the records of a group write on a page, byte by byte: what stood there before isn't asked for.
use Rattle.std.specs.Prelude.{List, None, Option, Some, [], cond, length, max, min, nat_le, nat_lt, slice_index, ℕ, ◌+◌, ◌-◌, ◌*◌, ◌/◌, ◌==◌, ◌&&◌, ◌∷◌}
use Rattle.std.specs.Int.{byte_at}
use Rattle.model_base.specs.declared.limits.TheConstants.{MAX_PAGE_SIZE, USER_START}
use Rattle.model_core.specs.{CellWrite}
use Rattle.model_core.specs.declared.limits.TheConstants.{WORD_LANES}
use Rattle.model_log.specs.{page_of}
use Rattle.model_log.specs.declared.rec.Rec.{Rec}
use Rattle.model_log.specs.declared.rec.Rec.TheVariants.{Init, Num, Text}

-- the byte that a record writes at one of its page's n user bytes, if it writes there; a number's highest byte stands first
abbrev pub own_byte : ℕ → Rec → ℕ → Option ℕ
own_byte n (Num width space page offset value) j = cond (nat_le (offset - USER_START) j && nat_lt (j - (offset - USER_START)) width) (Some (byte_at (width - 1 - (j - (offset - USER_START))) value)) None
own_byte n (Text space page offset bytes) j = cond (nat_le (offset - USER_START) j && nat_lt (j - (offset - USER_START)) (length bytes)) (Some (slice_index bytes (j - (offset - USER_START)))) None
own_byte n (Init space page) j = cond (nat_lt j n) (Some 0) None

-- the later of two answers, if there is one
abbrev pub later : Option ℕ → Option ℕ → Option ℕ
later None old = old
later (Some byte) old = Some byte

-- the byte that the records leave at a user byte of page p, if one of them writes there, else this
abbrev pub recorded_byte : ℕ → ℕ → List Rec → ℕ → Option ℕ → Option ℕ
recorded_byte n p [] j old = old
recorded_byte n p (rec ∷ recs) j old = recorded_byte n p recs j (cond (page_of rec == p) (later (own_byte n rec j) old) old)

-- the same by the cells of the page, of which the first ones hold its header
abbrev pub cell_byte : ℕ → ℕ → List Rec → ℕ → Option ℕ
cell_byte n p recs c = cond (nat_lt c USER_START) None (recorded_byte n p recs (c - USER_START) None)

-- the first cell that a record writes, and the one after its last
abbrev pub first_cell : Rec → ℕ
first_cell (Num width space page offset value) = offset
first_cell (Text space page offset bytes) = offset
first_cell (Init space page) = USER_START

abbrev pub cells_end : ℕ → Rec → ℕ
cells_end n (Num width space page offset value) = offset + width
cells_end n (Text space page offset bytes) = offset + length bytes
cells_end n (Init space page) = USER_START + n

-- no page has a word of this number
abbrev pub words_end : ℕ
words_end = MAX_PAGE_SIZE / WORD_LANES

-- the first word of page p from word q on that a record changes, or the end
abbrev pub first_word : ℕ → ℕ → ℕ → Rec → ℕ
first_word n p q rec = cond (page_of rec == p && (nat_lt (first_cell rec) (cells_end n rec) && nat_lt (WORD_LANES * q) (cells_end n rec))) (max q (first_cell rec / WORD_LANES)) words_end

abbrev pub next_word : ℕ → ℕ → ℕ → List Rec → ℕ → ℕ
next_word n p q [] best = best
next_word n p q (rec ∷ recs) best = next_word n p q recs (min best (first_word n p q rec))

-- the first page from this one on that a record is on, or the best so far
abbrev pub first_page : ℕ → Rec → ℕ → ℕ
first_page from rec best = cond (nat_le from (page_of rec) && nat_lt (page_of rec) best) (page_of rec) best

abbrev pub next_page : ℕ → List Rec → ℕ → ℕ
next_page from [] best = best
next_page from (rec ∷ recs) best = next_page from recs (first_page from rec best)

-- a cell with what is written there, if something is
abbrev pub as_cell : ℕ → Option ℕ → List CellWrite
as_cell c None = []
as_cell c (Some byte) = record { at = c; value = byte } ∷ []

abbrev pub cell_list : ℕ → ℕ → List Rec → ℕ → List CellWrite
cell_list n p recs c = as_cell c (cell_byte n p recs c)
