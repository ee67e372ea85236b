-- Where a user is among the changed cells of a page: it goes over them word by word.
use Rattle.std.specs.Prelude.{List, [], cond, drop, get_or, length, map, nat_lt, suc, take, ℕ, ◌+◌, ◌/◌, ◌<◌, ◌∷◌, ◌≡◌, ◌≤◌}
use Rattle.model_base.specs.declared.limits.TheConstants.{MAX_PAGE_SIZE}
use Rattle.model_base.specs.declared.shape.Shape.{Shape}
use Rattle.model_core.specs.{CellWrite, changed_cells, PageChange, same_word}
use Rattle.model_core.specs.declared.limits.TheConstants.{WORD_LANES}
use Rattle.model_log.specs.declared.rec.Rec.{Rec}
use Rattle.model_store.specs.{touches}
use Rattle.redo_useractor.specs.Written.{words_end}

-- how many cells, from the first on, lie in the words below this one
abbrev pub cells_before : ℕ → List CellWrite → ℕ
cells_before q [] = 0
cells_before q (x ∷ xs) = cond (nat_lt (x.at / WORD_LANES) q) (suc (cells_before q xs)) 0

-- the word in which the cell with this number lies; the cells from this number on that lie in this word
abbrev pub word_at : List CellWrite → ℕ → ℕ
word_at cells number = (get_or cells number (record { at = 0; value = 0 })).at / WORD_LANES

abbrev pub cells_in : ℕ → ℕ → List CellWrite → List CellWrite
cells_in q number cells = take (same_word q (drop number cells)) (drop number cells)

-- The next changed cell is the one with this number: it lies in this word, with as many others as are counted. After the last
-- one the word is the end.
pub record IsNextCell (cells : List CellWrite) (word count number : ℕ) : Type 0 where
  pub before : number ≡ cells_before word cells
  pub within : word ≤ words_end
  pub counted : word < words_end → count ≡ same_word word (drop number cells)
  pub some : word < words_end → 0 < count
  pub next : word < words_end → cells_before (word + 1) cells ≡ number + count
  pub last : word ≡ words_end → number ≡ length cells
  pub few : word < words_end → number + count ≤ MAX_PAGE_SIZE

-- the page, if the group is on it
abbrev pub page_if_touched : List Rec → ℕ → List ℕ
page_if_touched group p = cond (touches p group) (p ∷ []) []

-- what a group changes of these pages of a store
abbrev pub changes_on : Shape → List Rec → List ℕ → List PageChange
changes_on shape group pages = map (λ (p : ℕ). let change : PageChange = record { page = p; cells = changed_cells shape p group } in change) pages
