-- A page with some of the groups of a log applied.
use Rattle.std.specs.Prelude.{ℕ, nat_le, if◌then◌else◌, List, [], ◌∷◌}
use Rattle.model_log.specs.declared.group.Whole.{Whole}
use Rattle.model_page.specs.declared.content.Content.{Content}
use Rattle.model_store.specs.Apply.{page_after}

-- page p with all of the groups applied, in order
abbrev pub page_folded : ℕ → List Whole → Content → Content
page_folded p [] page = page
page_folded p (whole ∷ wholes) page = page_folded p wholes (page_after p whole.group whole.end page)

-- page p with those of the groups applied, in order, that end at or below the lsn q
abbrev pub upto : ℕ → ℕ → List Whole → Content → Content
upto p q [] page = page
upto p q (whole ∷ wholes) page =
    upto p q wholes (if nat_le whole.end q then page_after p whole.group whole.end page else page)
