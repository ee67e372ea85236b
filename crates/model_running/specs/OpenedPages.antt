-- The pages of a run as it begins: those of the store that was opened.
use Rattle.std.specs.Prelude.{Some, length, slice_get, ℕ, ◌<◌, ◌≡◌, List, None, Option, [], if◌then◌else◌, ◌==◌, ◌∷◌}
use Rattle.model_core.specs.{Setup, BatchPage, KeptPage}
use Rattle.model_page.specs.declared.content.Content.{Content}
use Rattle.model_theorem.specs.{Opened}
use Rattle.model_page.specs.{user_part}
use Rattle.model_running.specs.History.{new_content}

abbrev pub kept_content : KeptPage → Content
kept_content kept = record { lsn = kept.lsn; user = user_part kept.bytes }

abbrev pub contents_of : (ℕ → KeptPage) → ℕ → Content
contents_of kept_page p = kept_content (kept_page p)

-- what a batch has for a page, if it has it
abbrev pub content_in : List BatchPage → ℕ → Option Content
content_in [] p = None
content_in (x ∷ xs) p = if x.page == p then Some (new_content x) else content_in xs p

-- a page of the store that was opened, as the run began with it
pub record IsOpenedPage (c : Setup) (p : ℕ) (page : Content) : Type 0 where
  pub there : p < c.pages
  pub content : kept_content (c.opened p) ≡ page
  pub whole : length (c.opened p).bytes ≡ c.page_size

-- the pages of a run are those of the store that was opened
pub record HasItsPages (c : Setup) (opened : Opened) : Type 0 where
  pub count : c.pages ≡ opened.shape.pages
  pub page_size : c.page_size ≡ opened.shape.page_size
  pub each : (p : ℕ) (page : Content) → slice_get opened.pages p ≡ Some page → IsOpenedPage c p page
