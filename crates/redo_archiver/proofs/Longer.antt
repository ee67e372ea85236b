-- What an archive part archives of a run it archives of a longer one.
use Rattle.std.proofs.Common.{List, ◌++◌}
use Rattle.model_archive.proofs.Longer.{longer-archive}
use Rattle.model_log.specs.{IsRunOf}
use Rattle.model_log.specs.declared.group.Whole.{Whole}
use Rattle.model_page.specs.declared.content.Content.{Content}
use Rattle.redo_archive.specs.Part.{DiskArchives, Part, PartArchives}
use Rattle.redo_disk.proofs.Told.{known-as}
use Rattle.redo_disk.specs.{Seen}

pub part-longer : {A : Type 0} (seen : A → Seen) (pages : List Content) (wholes more : List Whole) (part : Part A)
    → IsRunOf part.start (wholes ++ more)
    → PartArchives seen pages wholes part → PartArchives seen pages (wholes ++ more) part
part-longer seen pages wholes more part run known =
    known-as (seen part.dev).tells
    (DiskArchives (seen part.dev).size part.shape part.start pages wholes part.marks part.failed)
    (DiskArchives (seen part.dev).size part.shape part.start pages (wholes ++ more) part.marks part.failed)
    (λ disk holds. record {
      size_is = holds.size_is;
      holds = longer-archive part.shape part.start pages wholes more part.marks disk run holds.holds;
      live = holds.live;
    })
    known
