-- What a read came to, by the history and the code that a run leaves.
use Rattle.std.specs.Prelude.{List, Some, slice_get, ℕ, ◌<◌, ◌≡◌}
use Rattle.model_log.specs.declared.group.Whole.{Whole}
use Rattle.model_page.specs.declared.content.Content.{Content}
use Rattle.model_reads.specs.declared.read.PageRead.{PageRead}
use Rattle.model_reads.specs.declared.read.ReadEnd.{ReadEnd}
use Rattle.model_reads.specs.declared.read.ReadEnd.TheVariants.{Failed, Page}
use Rattle.model_store.specs.{upto}

-- WHAT WAS READ IS THE PAGE AS OF ITS LSN: its user bytes are those of the page as it was opened, with the groups that
-- end at or below that.
abbrev pub IsPageAsOf : List Content → List Whole → PageRead → Type 0
IsPageAsOf opened wholes r = (page : Content) → slice_get opened r.page ≡ Some page
    → r.bytes ≡ (upto r.page r.lsn wholes page).user

-- THE READ CAME TO THAT in the run: to the page as of its lsn, or to a code other than 0, and the run leaves one.
abbrev pub IsReadEndOf : List Content → List Whole → (code : ℕ) → ReadEnd → Type 0
IsReadEndOf opened wholes code (Page r) = IsPageAsOf opened wholes r
IsReadEndOf opened wholes code (Failed met) = (0 < met) × (0 < code)
