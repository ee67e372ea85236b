-- What a group that fits the store does to its pages.
use Rattle.std.specs.Prelude.{ℕ, ◌+◌, ◌-◌, ◌==◌, if◌then◌else◌, Bool, List, [], ◌∷◌, length, replicate}
use Rattle.std.specs.List.{list_any}
use Rattle.std.specs.Int.{bytes_high_first}
use Rattle.model_base.specs.{overwritten}
use Rattle.model_base.specs.declared.limits.TheConstants.{USER_START}
use Rattle.model_log.specs.{page_of}
use Rattle.model_log.specs.declared.rec.Rec.{Rec}
use Rattle.model_log.specs.declared.rec.Rec.TheVariants.{Num, Text, Init}
use Rattle.model_log.specs.declared.group.Whole.{Whole}
use Rattle.model_page.specs.declared.content.Content.{Content}

-- the user bytes of a page after a record on it: the bytes that it writes, or zeros
abbrev pub user_after_own : Rec → List ℕ → List ℕ
user_after_own (Num width space page offset value) user = overwritten (offset - USER_START) (bytes_high_first width value) user
user_after_own (Text space page offset bytes) user = overwritten (offset - USER_START) bytes user
user_after_own (Init space page) user = replicate (length user) 0

-- the user bytes of page p after the records of a group, in order; those on other pages do nothing to it
abbrev pub user_after : ℕ → List Rec → List ℕ → List ℕ
user_after p [] user = user
user_after p (rec ∷ recs) user = user_after p recs (if page_of rec == p then user_after_own rec user else user)

-- a record of the group is on page p
abbrev pub touches : ℕ → List Rec → Bool
touches p group = list_any (λ rec. page_of rec == p) group

-- page p after a group that ends there: each page that the group names gets the end as its lsn
abbrev pub page_after : ℕ → List Rec → ℕ → Content → Content
page_after p group end page =
    if touches p group then record { lsn = end; user = user_after p group page.user } else page

-- the pages, of which the first has the number p, after a group
abbrev pub pages_after_from : ℕ → List Rec → ℕ → List Content → List Content
pages_after_from p group end [] = []
pages_after_from p group end (page ∷ pages) = page_after p group end page ∷ pages_after_from (p + 1) group end pages

-- Apply: all pages after a group that ends there
unfoldable pub applied : List Rec → ℕ → List Content → List Content
applied group end pages = pages_after_from 0 group end pages

-- Fold: all pages after several groups, in order
abbrev pub folded : List Content → List Whole → List Content
folded pages [] = pages
folded pages (whole ∷ wholes) = folded (applied whole.group whole.end pages) wholes
