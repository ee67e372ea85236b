-- What the group of a line changes of the pages: the pages that it names, ascending, and of each the cells whose values it
-- decides, ascending, each once.
use Rattle.std.specs.Prelude.{Bool, List, [], cond, replicate, slice_index, suc, zero, ℕ, ◌++◌, ◌+◌, ◌==◌, ◌∷◌}
use Rattle.model_base.specs.{user_length}
use Rattle.model_base.specs.declared.limits.TheConstants.{USER_START}
use Rattle.model_base.specs.declared.shape.Shape.{Shape}
use Rattle.model_core.specs.States.{CellWrite, PageChange, Line}
use Rattle.model_log.specs.{group_text}
use Rattle.model_log.specs.declared.rec.Rec.{Rec}
use Rattle.model_store.specs.{touches, user_after}

-- what is collected for each number below n, ascending
unfoldable pub collected : {A : Type 0} → (ℕ → List A) → ℕ → List A
collected f zero = []
collected f (suc n) = collected f n ++ f n

-- a page whose user bytes are all this one, after the group
abbrev pub after_from : Shape → ℕ → ℕ → List Rec → List ℕ
after_from shape byte p group = user_after p group (replicate (user_length shape) byte)

-- the cell at which a user byte stands, where two rows of user bytes agree on it
abbrev pub cell_where_same : List ℕ → List ℕ → ℕ → List CellWrite
cell_where_same low high j = cond (slice_index low j == slice_index high j) (record { at = USER_START + j; value = slice_index low j } ∷ []) []

-- the cells of page p that the group changes, with their values after it
abbrev pub changed_cells : Shape → ℕ → List Rec → List CellWrite
changed_cells shape p group = collected (cell_where_same (after_from shape 0 p group) (after_from shape 255 p group)) (user_length shape)

abbrev pub change_on : Shape → List Rec → ℕ → List PageChange
change_on shape group p = cond (touches p group) (record { page = p; cells = changed_cells shape p group } ∷ []) []

-- what it changes of a store's pages
abbrev pub changes_of : Shape → List Rec → List PageChange
changes_of shape group = collected (change_on shape group) shape.pages

-- a line of a user, of its mode and its group: with the log alone it changes no page
abbrev pub line_of : Bool → Shape → ℕ → List Rec → Line
line_of log_only shape mode group = record { mode = mode; bytes = group_text group; changes = cond log_only [] (changes_of shape group) }
