-- What is restored of an archive that a drive leaves.
use Rattle.std.proofs.Common.{ℕ, ◌≡◌, ◌≤◌, List, Some, sym, subst, ⊎_elim, arith}
use Rattle.std.specs.List.{AllByRecursion}
use Rattle.model_archive.specs.{ArchiveHolds, IsFairArchive, newest_mark, ReadsArchive, RestoresUpTo}
use Rattle.model_archive.specs.declared.marks.ArchMarks.{ArchMarks}
use Rattle.model_base.specs.declared.shape.Shape.{Shape}
use Rattle.model_device.specs.{Disk}
use Rattle.model_log.specs.{block_of, groups_of}
use Rattle.model_log.specs.declared.group.Whole.{Whole}
use Rattle.model_page.specs.declared.content.Content.{Content}
use Rattle.model_report.specs.{wholes_of}
use Rattle.model_script.specs.declared.script.ScriptLine.{ScriptLine}
use Rattle.model_store.specs.{IsStorable}
use Rattle.model_theorem.specs.{Opened, Ran}
use Rattle.redo_archive.specs.{DiskArchives}
use Rattle.redo_archive.specs.Part.{Part}
use Rattle.redo_disk.specs.{Seen}
use Rattle.redo_lab.proofs.Ends.{at-some}
use Rattle.redo_lab.specs.Told.{IsArchiveOf}
use Rattle.redo_lab.specs.Archiving.{ArchivesRan}

-- what holds of every archive
abbrev pub ArchiveReads : Type 0
ArchiveReads = (shape : Shape) (s : ℕ) (pages : List Content) (wholes : List Whole) (marks : ArchMarks) (disk : Disk)
    (image : List ℕ) → AllByRecursion (IsStorable shape) (groups_of wholes) → ArchiveHolds shape s pages wholes marks disk
    → IsFairArchive disk image → ReadsArchive s pages wholes marks image

pub block-rises : (low high : ℕ) → low ≤ high → block_of low ≤ block_of high
block-rises low high less = omega arith

module _ {A : Type 0} (seen : A → Seen) (reads : ArchiveReads) (script : List ScriptLine) (opened : Opened) (run : Ran)
    (part : Part A) (disk : Disk) (image : List ℕ) (told : (seen part.dev).tells ≡ Some disk)
    (fair : IsFairArchive disk image) where
  abbrev wholes : List Whole
  wholes = wholes_of script opened.shape.space run.entries

  archived-disk : ArchivesRan seen script opened run part
      → DiskArchives (seen part.dev).size part.shape part.start opened.pages wholes part.marks part.failed disk
  archived-disk is = at-some (seen part.dev).tells
      (DiskArchives (seen part.dev).size part.shape part.start opened.pages wholes part.marks part.failed) disk
      is.archives told

  pub archived-as : (IsUpTo : (mark flushed : ℕ) → Type 0) → ArchivesRan seen script opened run part
      → ((mark : ℕ) → part.marks.mark ≤ mark → mark ≤ part.marks.asked → IsUpTo mark run.marks.flushed)
      → IsArchiveOf IsUpTo script opened run image
  archived-as IsUpTo is within =
      let good = subst (λ (shape : Shape). AllByRecursion (IsStorable shape) (groups_of wholes)) (sym is.shape) is.good in
      let found = reads part.shape part.start opened.pages wholes part.marks disk image good (archived-disk is).holds
      fair in
      let up_to : found.mark ≤ part.marks.asked =
      ⊎_elim (λ one. omega (arith, one.1, is.later)) (λ next. omega (arith, next.1)) found.which in
      let from : part.marks.mark ≤ found.mark =
      ⊎_elim (λ one. omega (arith, one.1)) (λ next. omega (arith, next.1, is.later)) found.which in
      record {
        number = found.number;
        mark = found.mark;
        newest = subst (λ s. newest_mark s image ≡ Some (found.number, found.mark)) is.start found.newest;
        up_to = within found.mark from up_to;
        restores = subst (λ s. RestoresUpTo s opened.pages wholes found.mark image) is.start found.restores;
        checkpoint = omega (arith, is.checkpoint, block-rises part.marks.mark found.mark from);
      }

-- of which something else is so of its mark, too
pub archived-also : (P Q : (mark flushed : ℕ) → Type 0) (script : List ScriptLine) (opened : Opened) (run : Ran) (image : List ℕ)
    → ((mark flushed : ℕ) → P mark flushed → Q mark flushed) → IsArchiveOf P script opened run image → IsArchiveOf Q script opened run image
archived-also P Q script opened run image weaker is = record {
  number = is.number;
  mark = is.mark;
  newest = is.newest;
  up_to = weaker is.mark run.marks.flushed is.up_to;
  restores = is.restores;
  checkpoint = is.checkpoint;
}
