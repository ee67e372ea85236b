-- What an image of a device that holds the archive of a run is read as.
use Rattle.std.specs.Prelude.{ℕ, ◌≡◌, ◌+◌, ◌⊎◌, List, Some}
use Rattle.model_log.specs.declared.group.Whole.{Whole}
use Rattle.model_page.specs.declared.content.Content.{Content}
use Rattle.model_archive.specs.Restore.{RestoresUpTo, newest_mark}
use Rattle.model_archive.specs.declared.marks.ArchMarks.{ArchMarks}

-- the newest mark on the image is the newest good one, or the one asked for last with the next number, and up to there
-- the run is restored
pub record ReadsArchive (s : ℕ) (pages : List Content) (wholes : List Whole) (marks : ArchMarks)
    (image : List ℕ) : Type 0 where
  pub number : ℕ
  pub mark : ℕ
  pub newest : newest_mark s image ≡ Some (number, mark)
  pub which : ((number ≡ marks.number) × (mark ≡ marks.mark)) ⊎ ((number ≡ marks.number + 1) × (mark ≡ marks.asked))
  pub restores : RestoresUpTo s pages wholes mark image
