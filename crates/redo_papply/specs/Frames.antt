-- Pages in the hands of a worker.
use Rattle.std.specs.Prelude.{ℕ, ◌≡◌, ◌+◌, nat_le, if◌then◌else◌, List, length, slice_get, Some}
use Rattle.model_log.specs.declared.rec.Rec.{Rec}
use Rattle.model_log.specs.declared.group.Whole.{Whole}
use Rattle.model_page.specs.declared.content.Content.{Content}
use Rattle.model_store.specs.{page_after, replayed}
use Rattle.redo_papply.specs.declared.frame.Frame.{Frame}

-- the page that a frame has
abbrev pub content_of : Frame → Content
content_of frame = record { lsn = frame.lsn; user = frame.user.items }

-- the frame has the page of this number, with each of these groups applied that starts at or above the page's lsn
pub record IsFrameOf (wholes : List Whole) (pages : List Content) (number : ℕ) (frame : Frame) : Type 0 where
  pub old : Content
  pub at : slice_get pages number ≡ Some old
  pub from : frame.from ≡ old.lsn
  pub size : length frame.user.items ≡ length old.user
  pub page : content_of frame ≡ replayed number old.lsn wholes old

-- the page of this number before and after a group, which is applied if it starts at or above the page's first lsn
pub record IsAfterGroup (number : ℕ) (group : List Rec) (start end : ℕ) (old new : Frame) : Type 0 where
  pub from : new.from ≡ old.from
  pub size : length new.user.items ≡ length old.user.items
  pub page : content_of new ≡ (if nat_le old.from start then page_after number group end (content_of old) else content_of old)

-- the same for the pages from the number `first` on
pub record AreAfterGroup (first : ℕ) (group : List Rec) (start end : ℕ) (old new : List Frame) : Type 0 where
  pub count : length new ≡ length old
  pub each : (i : ℕ) (before after : Frame) → slice_get old i ≡ Some before → slice_get new i ≡ Some after
      → IsAfterGroup (first + i) group start end before after
