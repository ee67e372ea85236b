-- Groups that are applied only to the pages that they may be applied to.
use Rattle.std.specs.Prelude.{ℕ, ◌≡◌, nat_le, if◌then◌else◌, List, length, slice_get, Some}
use Rattle.model_log.specs.declared.rec.Rec.{Rec}
use Rattle.model_log.specs.declared.group.Whole.{Whole}
use Rattle.model_page.specs.declared.content.Content.{Content}
use Rattle.model_store.specs.{page_after, replayed}

-- the lsns of the pages
pub record HaveLsns (pages : List Content) (lsns : List ℕ) : Type 0 where
  pub count : length lsns ≡ length pages
  pub each : (p : ℕ) (content : Content) → slice_get pages p ≡ Some content → slice_get lsns p ≡ Some content.lsn

-- Each page is as after the group, where the lsn that is named for it is at or below the group's start, and else as it
-- was.
abbrev pub AreAfterWhere : List ℕ → List Rec → ℕ → ℕ → List Content → List Content → Type 0
AreAfterWhere froms group start end old new =
    (p from : ℕ) (content : Content) → slice_get froms p ≡ Some from → slice_get old p ≡ Some content
    → slice_get new p ≡ Some (if nat_le from start then page_after p group end content else content)

-- each page is an old one with each of these groups applied that starts at or above its lsn
pub record AreReplayed (wholes : List Whole) (old new : List Content) : Type 0 where
  pub count : length new ≡ length old
  pub each : (p : ℕ) (page : Content) → slice_get new p ≡ Some page
      → (kept : Content) × (slice_get old p ≡ Some kept) × (page ≡ replayed p kept.lsn wholes kept)
