-- The pages of one worker, and of all of them.
use Rattle.std.specs.Prelude.{ℕ, ◌≡◌, ◌≤◌, ◌+◌, List, length, slice_get, Some}
use Rattle.std.specs.List.{range_with_len}
use Rattle.model_page.specs.declared.content.Content.{Content}
use Rattle.redo_papply.specs.declared.frame.Frame.{Frame}

-- these are the numbers of some of the pages, which stand side by side
pub record AreNumbersOf (pages : List Content) (numbers : List ℕ) : Type 0 where
  pub first : ℕ
  pub are : numbers ≡ range_with_len first (length numbers)
  pub some : 1 ≤ length numbers
  pub within : first + length numbers ≤ length pages

-- the frame of each page has as many user bytes as the page
abbrev pub HaveSizes : List Frame → List Content → Type 0
HaveSizes frames pages =
    (p : ℕ) (frame : Frame) (page : Content) → slice_get frames p ≡ Some frame → slice_get pages p ≡ Some page
    → length frame.user.items ≡ length page.user
