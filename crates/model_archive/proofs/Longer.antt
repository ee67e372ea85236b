-- What a device archives of a run it archives of a longer one.
use Rattle.std.proofs.Common.{◌≤◌, ℕ, inl, inr, List, ◌++◌, Option, Some, None, ⊎_elim, arith}
use Rattle.model_base.specs.declared.shape.Shape.{Shape}
use Rattle.model_device.specs.{Disk}
use Rattle.model_log.specs.declared.group.Whole.{Whole}
use Rattle.model_log.specs.{IsAtDataStart, IsRunOf, last_span_end, spans_of}
use Rattle.model_log.proofs.BoundaryRound.{block-longer}
use Rattle.model_log.proofs.Runs.{boundary-before_end, boundary-end, boundary-longer, data-start}
use Rattle.model_page.specs.declared.content.Content.{Content}
use Rattle.model_archive.specs.Holds.{ArchiveHolds, HoldsUpTo, IsArchivedBlock, IsBesideMark}
use Rattle.model_archive.specs.declared.marks.ArchMarks.{ArchMarks}

block-longer_run : (s : ℕ) (wholes more : List Whole) (mark b : ℕ) (bytes : List ℕ) → IsAtDataStart s
    → IsRunOf s (wholes ++ more)
    → IsArchivedBlock s wholes mark b bytes → IsArchivedBlock s (wholes ++ more) mark b bytes
block-longer_run s wholes more mark b bytes start run is = record {
  m = is.m;
  boundary = boundary-longer s wholes more is.m is.boundary;
  enough = is.enough;
  block = block-longer s wholes more is.m b bytes start run is.boundary is.block;
}

pub holds-longer : (shape : Shape) (s : ℕ) (pages : List Content) (wholes more : List Whole) (mark : ℕ) (disk : Disk)
    → IsAtDataStart s → IsRunOf s (wholes ++ more)
    → HoldsUpTo shape s pages wholes mark disk → HoldsUpTo shape s pages (wholes ++ more) mark disk
holds-longer shape s pages wholes more mark disk start run holds =
    let end : ℕ = last_span_end s (spans_of wholes) in
    let later : end ≤ last_span_end s (spans_of (wholes ++ more)) =
    boundary-before_end s (wholes ++ more) end (data-start s start) run
    (boundary-longer s wholes more end (boundary-end s (spans_of wholes))) in
    record {
      place = holds.place;
      from = holds.from;
      up_to = omega (arith, holds.up_to);
      small = holds.small;
      long = holds.long;
      settled = holds.settled;
      head = holds.head;
      pages_are = holds.pages_are;
      blocks = λ i below. block-longer_run s wholes more mark _ _ start run (holds.blocks i below);
    }

beside-longer : (shape : Shape) (s : ℕ) (pages : List Content) (wholes more : List Whole) (marks : ArchMarks)
    (disk : Disk) (other : Option (ℕ × ℕ)) → IsAtDataStart s → IsRunOf s (wholes ++ more)
    → IsBesideMark shape s pages wholes marks disk other → IsBesideMark shape s pages (wholes ++ more) marks disk other
beside-longer shape s pages wholes more marks disk None start run is = tt
beside-longer shape s pages wholes more marks disk (Some other) start run is =
    ⊎_elim (λ older. inl older) (λ next. inr
    (next.0, next.1, holds-longer shape s pages wholes more marks.asked disk start run next.2)) is

pub longer-archive : (shape : Shape) (s : ℕ) (pages : List Content) (wholes more : List Whole) (marks : ArchMarks)
    (disk : Disk)
    → IsRunOf s (wholes ++ more) → ArchiveHolds shape s pages wholes marks disk
    → ArchiveHolds shape s pages (wholes ++ more) marks disk
longer-archive shape s pages wholes more marks disk run holds = record {
  limits = holds.limits;
  start = holds.start;
  run = run;
  sectors = holds.sectors;
  holds = holds-longer shape s pages wholes more marks.mark disk holds.start.place run holds.holds;
  newest = holds.newest;
  beside = λ bytes is. beside-longer shape s pages wholes more marks disk _ holds.start.place run
      (holds.beside bytes is);
}
