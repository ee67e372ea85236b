-- What one write does to an archive: it is pending, or it failed, or it stays.
use Rattle.std.proofs.Common.{◌≡◌, ◌<◌, ◌+◌, ◌*◌, ◌%◌, ◌⊎◌, ℕ, inl, inr, List, [], ◌∷◌, ◌++◌, length, Option, Some, None, sym, ap, subst, ◌∙◌, ⊎_elim, arith}
use Rattle.model_base.specs.{IsWithinLimits}
use Rattle.model_base.specs.declared.shape.Shape.{Shape}
use Rattle.model_device.specs.{after_write, Covers, IsCovered, IsPutOrNot, IsSectorWrite, sector, settled, synced, written, Disk}
use Rattle.model_device.specs.declared.write.Write.{Write}
use Rattle.model_device.proofs.Images.{sector-after_write}
use Rattle.model_device.proofs.Overwritten.{length-overwritten}
use Rattle.model_log.specs.declared.group.Whole.{Whole}
use Rattle.model_log.specs.{block_of, lsn_at}
use Rattle.model_page.specs.declared.content.Content.{Content}
use Rattle.model_parts.specs.{MayStand}
use Rattle.model_parts.proofs.Torn.{AddsTorn, IsWhole, put-torn, synced-stands}
use Rattle.model_archive.specs.Holds.{ArchiveHolds, HoldsUpTo, IsArchivedBlock, IsBesideMark, IsOlderMark, IsSteadyArchive}
use Rattle.model_archive.specs.Restore.{archive_block, archive_length, base_bytes, mark_place, pages_end, read_archive_head, read_mark, AreBasePages}
use Rattle.model_archive.specs.Marks.{after_asking}
use Rattle.model_archive.specs.declared.marks.ArchMarks.{ArchMarks}
use Rattle.model_archive.specs.Texts.{other_mark_place}
use Rattle.model_archive.proofs.Images.{block-is, page-stands, PageStands, pages-sector, same-pages}
use Rattle.model_archive.proofs.Sectors.{stretch-sectors}

-- A WRITE THAT IS PENDING, OR FAILED.

-- the base is as before, and beside the writes before at most this one is pending
pub record Pends (write : Write) (old new : Disk) : Type 0 where
  pub base : new.base ≡ old.base
  pub writes : (new.writes ≡ old.writes) ⊎ (new.writes ≡ old.writes ++ write ∷ [])

pub put-pends : (write : Write) (old new : Disk) → IsPutOrNot write old new → Pends write old new
put-pends write old new calls =
    ⊎_elim (λ fails. record {
      base = fails.base;
      writes =
          ⊎_elim (λ none. inl none.0) (λ pending. inr pending.0) fails.pending;
    })
    (λ done. record { base = ap (λ (d : Disk). d.base) done; writes = inr (ap (λ (d : Disk). d.writes) done) }) calls

pushed-covered : (writes : List Write) (write : Write) (k : ℕ) → IsCovered (writes ++ write ∷ []) k
    → IsCovered writes k ⊎ Covers write k
pushed-covered [] write k is = ⊎_elim (λ here. inr here) (λ none. absurd none) is
pushed-covered (first ∷ writes) write k is =
    ⊎_elim (λ here. inl (inl here)) (λ there. ⊎_elim (λ old. inl (inr old)) (λ new. inr new)
    (pushed-covered writes write k there)) is

-- the write covers none of the sectors that hold the archive up to the mark, but for those of marks
abbrev pub Spares : Shape → ℕ → ℕ → Write → Type 0
Spares shape s mark write = (k : ℕ) → (k ≡ 1 → ⊥) → (k ≡ 2 → ⊥) → 512 * k < archive_length shape s mark → Covers write k
    → ⊥

pub pended-holds : (shape : Shape) (s : ℕ) (pages : List Content) (wholes : List Whole) (mark : ℕ) (write : Write)
    (old new : Disk) → HoldsUpTo shape s pages wholes mark old
    → Pends write old new → Spares shape s mark write → HoldsUpTo shape s pages wholes mark new
pended-holds shape s pages wholes mark write old new holds pends spares = record {
  place = holds.place;
  from = holds.from;
  up_to = holds.up_to;
  small = holds.small;
  long = omega (arith, holds.long, ap length pends.base);
  settled = λ k one two below covered. ⊎_elim
      (λ same. holds.settled k one two below (subst (λ (ws : List Write). IsCovered ws k) same covered))
      (λ more. ⊎_elim (λ before. holds.settled k one two below before) (λ here. spares k one two below here)
      (pushed-covered old.writes write k (subst (λ (ws : List Write). IsCovered ws k) more covered))) pends.writes;
  head = ap (λ (bytes : List ℕ). read_archive_head (sector 0 bytes)) pends.base ∙ holds.head;
  pages_are = subst (λ (bytes : List ℕ). AreBasePages shape bytes pages) (sym pends.base) holds.pages_are;
  blocks = λ i below. subst (λ (bytes : List ℕ). IsArchivedBlock s wholes mark (lsn_at (block_of s) i)
      (archive_block shape s (lsn_at (block_of s) i) bytes)) (sym pends.base) (holds.blocks i below);
}

pub older-beside : (shape : Shape) (s : ℕ) (pages : List Content) (wholes : List Whole) (marks : ArchMarks) (asked : ℕ)
    (disk : Disk) (other : Option (ℕ × ℕ)) → IsOlderMark marks other
    → IsBesideMark shape s pages wholes (after_asking asked marks) disk other
older-beside shape s pages wholes marks asked disk None is = tt
older-beside shape s pages wholes marks asked disk (Some other) is = inl is

-- what stands in a sector of a steady device
steady-stands : (disk : Disk) (k : ℕ) (bytes : List ℕ) → disk ≡ settled disk.base → MayStand disk k bytes
    → bytes ≡ sector k disk.base
steady-stands disk k bytes is stands = synced-stands (settled disk.base) k bytes
    (subst (λ (d : Disk). MayStand d k bytes) is stands)

-- a write of which the mark blocks allow what it may leave
pub pended-archive : (shape : Shape) (s : ℕ) (pages : List Content) (wholes : List Whole) (marks : ArchMarks)
    (asked : ℕ) (write : Write) (old new : Disk) → ArchiveHolds shape s pages wholes marks old
    → IsSteadyArchive s marks old → IsPutOrNot write old new → IsSectorWrite (length old.base) write
    → Spares shape s marks.mark write → (Covers write (mark_place marks.number) → ⊥)
    → (Covers write (other_mark_place marks.number) → (bytes : List ℕ)
    → IsWhole write (other_mark_place marks.number) bytes
    → IsBesideMark shape s pages wholes (after_asking asked marks) new
    (read_mark (other_mark_place marks.number) s bytes))
    → ArchiveHolds shape s pages wholes (after_asking asked marks) new
pended-archive shape s pages wholes marks asked write old new holds steady calls sectors spares own beside =
    let pends : Pends write old new = put-pends write old new calls in
    let adds : AddsTorn write old new = put-torn write old new calls in
    record {
      limits = holds.limits;
      start = holds.start;
      run = holds.run;
      sectors = adds.sectors sectors holds.sectors;
      holds = pended-holds shape s pages wholes marks.mark write old new holds.holds pends spares;
      newest = λ bytes stands. ⊎_elim (λ before. holds.newest bytes before) (λ here. absurd (own here.0))
          (adds.each (mark_place marks.number) bytes stands);
      beside = λ bytes stands. ⊎_elim
          (λ before. older-beside shape s pages wholes marks asked new
          (read_mark (other_mark_place marks.number) s bytes)
          (subst (λ (b : List ℕ). IsOlderMark marks (read_mark (other_mark_place marks.number) s b))
          (sym (steady-stands old (other_mark_place marks.number) bytes steady.nothing_pending before)) steady.beside))
          (λ here. beside here.0 bytes here.1) (adds.each (other_mark_place marks.number) bytes stands);
    }

-- A WRITE THAT STAYS.

-- a sector that it doesn't cover
pub kept-sector : (base : List ℕ) (write : Write) (k : ℕ) → IsSectorWrite (length base) write → (Covers write k → ⊥)
    → sector k (after_write base write) ≡ sector k base
kept-sector base write k sectors not =
    ⊎_elim (λ here. absurd (not here.0)) (λ same. same) (sector-after_write base write k sectors)

pub stays-holds : (shape : Shape) (s : ℕ) (pages : List Content) (wholes : List Whole) (mark : ℕ) (write : Write)
    (old : Disk) → IsWithinLimits shape → HoldsUpTo shape s pages wholes mark old
    → IsSectorWrite (length old.base) write → Spares shape s mark write
    → HoldsUpTo shape s pages wholes mark (settled (after_write old.base write))
unfolding base_bytes
stays-holds shape s pages wholes mark write old limits holds sectors spares =
    let new : List ℕ = after_write old.base write in
    let long : length new ≡ length old.base = length-overwritten write.at write.bytes old.base sectors.within in
    let same : (k : ℕ) → (k ≡ 1 → ⊥) → (k ≡ 2 → ⊥) → 512 * k < archive_length shape s mark
    → sector k new ≡ sector k old.base =
    λ k one two below. kept-sector old.base write k sectors (spares k one two below) in
    record {
      place = holds.place;
      from = holds.from;
      up_to = holds.up_to;
      small = holds.small;
      long = omega (arith, holds.long);
      settled = λ k one two below covered. covered;
      head = ap read_archive_head (same 0 (λ one. absurd (omega arith)) (λ two. absurd (omega arith)) (omega arith))
          ∙ holds.head;
      pages_are = same-pages shape old.base new pages (λ p below.
          let stands : PageStands shape p = page-stands shape p limits below in
          stretch-sectors shape.page_size (1536 + p * shape.page_size) new old.base long stands.aligned
          (λ k from under inside. same k (λ one. absurd (omega arith)) (λ two. absurd (omega arith))
          (omega (arith, stands.behind)))) holds.pages_are;
      blocks = λ i below.
          let aligned : pages_end shape % 512 ≡ 0 = pages-sector shape limits in
          let bytes : archive_block shape s (lsn_at (block_of s) i) new ≡ archive_block shape s
          (lsn_at (block_of s) i) old.base =
          block-is shape s i new ∙ stretch-sectors 512 (pages_end shape + 512 * i) new old.base long (omega arith)
          (λ k from under inside. same k (λ one. absurd (omega arith)) (λ two. absurd (omega arith)) (omega arith))
          ∙ sym (block-is shape s i old.base) in
          subst (λ (b : List ℕ). IsArchivedBlock s wholes mark (lsn_at (block_of s) i) b) (sym bytes)
          (holds.blocks i below);
    }

pub synced-written : (write : Write) (old : Disk) → old ≡ settled old.base
    → synced (written old write) ≡ settled (after_write old.base write)
synced-written write old is = ap (λ (d : Disk). settled (after_write d.reads write)) is

-- the device is as long as before
pub length-put : (write : Write) (old : Disk) → old ≡ settled old.base → IsSectorWrite (length old.base) write
    → length (synced (written old write)).base ≡ length old.base
length-put write old is sectors = ap (λ (d : Disk). length d.base) (synced-written write old is)
    ∙ length-overwritten write.at write.bytes old.base sectors.within
