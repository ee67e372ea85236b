-- What the write of the blocks does to an archive, as `append` makes it.
use Rattle.std.proofs.Common.{◌≡◌, ◌≤◌, ◌<◌, ◌+◌, ◌-◌, ◌*◌, ◌%◌, ◌^◌, ◌⊎◌, ℕ, inl, List, length, take, drop, refl, sym, ap, subst, ◌∙◌, ⊎_elim, arith}
use Rattle.std.proofs.lemmas.Bool.{cases_lt}
use Rattle.std.proofs.lemmas.Bool.Decides.{nat_tests}
use Rattle.std.proofs.lemmas.List.Elements.{All-nil}
use Rattle.model_base.specs.{IsWithinLimits}
use Rattle.model_base.specs.declared.shape.Shape.{Shape}
use Rattle.model_device.specs.{after_write, Covers, IsPutOrNot, IsSectorWrite, sector, settled, synced, written, Disk}
use Rattle.model_device.specs.declared.write.Write.{Write}
use Rattle.model_device.proofs.Overwritten.{length-overwritten, part-overwritten_inside}
use Rattle.model_log.specs.declared.group.Whole.{Whole}
use Rattle.model_log.specs.{block_of, blocks_between, IsAtDataStart, IsDataLsn, last_span_end, lsn_at, spans_of}
use Rattle.model_page.specs.declared.content.Content.{Content}
use Rattle.model_parts.proofs.Torn.{synced-stands}
use Rattle.model_archive.specs.Holds.{ArchiveHolds, AreArchivedBlocks, HoldsUpTo, IsArchivedBlock, IsOlderMark, IsSteadyArchive}
use Rattle.model_archive.specs.Restore.{archive_block, archive_length, archive_place, mark_place, pages_end, read_mark}
use Rattle.model_archive.specs.Marks.{after_asking}
use Rattle.model_archive.specs.declared.marks.ArchMarks.{ArchMarks}
use Rattle.model_archive.specs.Texts.{IsRunStart, other_mark_place}
use Rattle.model_archive.proofs.Images.{block-is, pages-sector, starts-below}
use Rattle.model_archive.proofs.Newest.{mark-is, other-is}
use Rattle.model_archive.proofs.Writes.{older-beside, Spares, pended-archive, kept-sector, stays-holds, synced-written}

-- THE BLOCKS.

-- the write of the blocks from the mark on
abbrev pub blocks_write : Shape → ℕ → ℕ → List ℕ → Write
blocks_write shape s mark bytes = record { at = archive_place shape s (block_of mark); bytes = bytes }

-- how many blocks stand below a mark at the first data byte of a block
count-start : (s mark : ℕ) → IsAtDataStart s → IsAtDataStart mark → s ≤ mark
    → 512 * blocks_between s mark ≡ block_of mark - block_of s
count-start s mark start place from = grind (arith, nat_tests)

-- and how many up to a later one
pub count-later : (s mark asked : ℕ) → IsAtDataStart s → IsAtDataStart mark → s ≤ mark → mark ≤ asked
    → blocks_between s asked ≡ blocks_between s mark + blocks_between mark asked
count-later s mark asked start place from later = grind (arith, nat_tests)

pub record BlocksStand (shape : Shape) (s mark : ℕ) (write : Write) : Type 0 where
  pub at : write.at ≡ archive_length shape s mark
  pub aligned : write.at % 512 ≡ 0

pub blocks-stand : (shape : Shape) (s mark : ℕ) (bytes : List ℕ) → IsWithinLimits shape → IsAtDataStart s
    → IsAtDataStart mark → s ≤ mark → BlocksStand shape s mark (blocks_write shape s mark bytes)
blocks-stand shape s mark bytes limits start place from =
    let count : 512 * blocks_between s mark ≡ block_of mark - block_of s = count-start s mark start place from in
    let here : pages_end shape % 512 ≡ 0 = pages-sector shape limits in
    record { at = omega arith; aligned = omega arith }

-- they stand behind what is archived
pub blocks-spare : (shape : Shape) (s mark : ℕ) (write : Write) → BlocksStand shape s mark write
    → Spares shape s mark write
blocks-spare shape s mark write stands k one two below covers = absurd (omega (arith, stands.at, covers.from))

-- and behind the marks
pub blocks-not_mark : (shape : Shape) (s mark : ℕ) (write : Write) (k : ℕ) → BlocksStand shape s mark write
    → (k ≡ 1) ⊎ (k ≡ 2) → Covers write k → ⊥
blocks-not_mark shape s mark write k stands which covers =
    ⊎_elim (λ one. absurd (omega (arith, stands.at, covers.from)))
    (λ two. absurd (omega (arith, stands.at, covers.from))) which

-- a block below a mark at the first data byte of one is archived for each later mark
archived-later : (s : ℕ) (wholes : List Whole) (mark asked b : ℕ) (bytes : List ℕ) → IsAtDataStart mark → b % 512 ≡ 0
    → b + 12 < mark → mark ≤ asked → IsArchivedBlock s wholes mark b bytes
    → IsArchivedBlock s wholes asked b bytes
archived-later s wholes mark asked b bytes place aligned below later is =
    let full : b + 524 ≤ mark = omega (arith, place) in
    record { m = is.m; boundary = is.boundary; enough = omega (arith, is.enough); block = is.block }

-- once the blocks stay, everything up to the mark asked for is there
pub blocks-hold : (shape : Shape) (s : ℕ) (pages : List Content) (wholes : List Whole) (mark asked : ℕ) (bytes : List ℕ)
    (old : Disk) → IsWithinLimits shape → IsAtDataStart s → IsAtDataStart mark
    → IsDataLsn asked → mark ≤ asked → asked ≤ last_span_end s (spans_of wholes) → asked < 2 ^ 60
    → archive_length shape s asked ≤ length old.base
    → length bytes ≡ 512 * blocks_between mark asked → AreArchivedBlocks s wholes mark asked bytes
    → HoldsUpTo shape s pages wholes mark old → HoldsUpTo shape s pages wholes asked
    (settled (after_write old.base (blocks_write shape s mark bytes)))
blocks-hold shape s pages wholes mark asked bytes old limits start place in_data later reached small long count are
    holds =
    let write : Write = blocks_write shape s mark bytes in
    let new : List ℕ = after_write old.base write in
    let stands : BlocksStand shape s mark write = blocks-stand shape s mark bytes limits start place holds.from in
    let both : blocks_between s asked ≡ blocks_between s mark + blocks_between mark asked =
    count-later s mark asked start place holds.from later in
    let end : write.at + length write.bytes ≤ length old.base = omega (arith, stands.at) in
    let sectors : IsSectorWrite (length old.base) write =
    record { aligned = stands.aligned; whole = omega arith; within = end } in
    let kept : HoldsUpTo shape s pages wholes mark (settled new) =
    stays-holds shape s pages wholes mark write old limits holds sectors (blocks-spare shape s mark write stands) in
    let same : length new ≡ length old.base = length-overwritten write.at write.bytes old.base end in
    let first : 512 * blocks_between s mark ≡ block_of mark - block_of s = count-start s mark start place holds.from in
    record {
      place = in_data;
      from = omega (arith, holds.from);
      up_to = reached;
      small = small;
      long = omega arith;
      settled = λ k one two below covered. covered;
      head = kept.head;
      pages_are = kept.pages_are;
      blocks = λ i below. ⊎_elim
          (λ old_one. archived-later s wholes mark asked (lsn_at (block_of s) i) _ place (omega arith)
          (starts-below s mark i old_one) later (kept.blocks i old_one))
          (λ fresh.
          let j : ℕ = i - blocks_between s mark in
          let is : lsn_at (block_of mark) j ≡ lsn_at (block_of s) i = omega arith in
          let within : j < blocks_between mark asked = omega arith in
          let at : pages_end shape + 512 * i ≡ write.at + 512 * j = omega (arith, stands.at) in
          let inside : pages_end shape + 512 * i + 512 ≤ write.at + length write.bytes = omega arith in
          let skip : pages_end shape + 512 * i - write.at ≡ 512 * j = omega arith in
          let text : archive_block shape s (lsn_at (block_of s) i) new ≡ sector j bytes =
          block-is shape s i new ∙ part-overwritten_inside 512 (pages_end shape + 512 * i) write.at bytes old.base
          (omega arith) inside end
          ∙ ap (λ n. take 512 (drop n bytes)) skip in
          subst (λ (b : ℕ). IsArchivedBlock s wholes asked b (archive_block shape s (lsn_at (block_of s) i) new)) is
          (subst (λ (x : List ℕ). IsArchivedBlock s wholes asked (lsn_at (block_of mark) j) x) (sym text)
          (are j within)))
          (cases_lt i (blocks_between s mark));
    }

-- THE CALLS OF `append`.

-- what is asked of it
pub record MayAppendTo (shape : Shape) (s : ℕ) (wholes : List Whole) (marks : ArchMarks) (asked : ℕ) (bytes : List ℕ)
    (old : Disk) : Type 0 where
  pub place : IsAtDataStart marks.mark
  pub in_data : IsDataLsn asked
  pub later : marks.mark ≤ asked
  pub reached : asked ≤ last_span_end s (spans_of wholes)
  pub small : asked < 2 ^ 60
  pub long : archive_length shape s asked ≤ length old.base
  pub count : length bytes ≡ 512 * blocks_between marks.mark asked
  pub are : AreArchivedBlocks s wholes marks.mark asked bytes
  pub next : marks.number + 1 < 2 ^ 64

-- what a step of it leaves
pub record Step (shape : Shape) (s : ℕ) (pages : List Content) (wholes : List Whole) (marks : ArchMarks) (asked : ℕ)
    (disk : Disk) : Type 0 where
  pub archive : ArchiveHolds shape s pages wholes (after_asking asked marks) disk
  pub steady : IsSteadyArchive s marks disk
  pub up_to : HoldsUpTo shape s pages wholes asked disk

pub blocks-sectors : (shape : Shape) (s : ℕ) (wholes : List Whole) (marks : ArchMarks) (asked : ℕ) (bytes : List ℕ)
    (old : Disk) → IsWithinLimits shape → IsRunStart s → s ≤ marks.mark
    → MayAppendTo shape s wholes marks asked bytes old
    → IsSectorWrite (length old.base) (blocks_write shape s marks.mark bytes)
blocks-sectors shape s wholes marks asked bytes old limits start from may =
    let stands : BlocksStand shape s marks.mark (blocks_write shape s marks.mark bytes) =
    blocks-stand shape s marks.mark bytes limits start.place may.place from in
    let both : blocks_between s asked ≡ blocks_between s marks.mark + blocks_between marks.mark asked =
    count-later s marks.mark asked start.place may.place from may.later in
    record {
      aligned = stands.aligned;
      whole = omega (arith, may.count);
      within =
          omega (arith, stands.at, may.long, may.count);
    }

-- the blocks were written, or the call failed there
pub blocks-put : (shape : Shape) (s : ℕ) (pages : List Content) (wholes : List Whole) (marks : ArchMarks) (asked : ℕ)
    (bytes : List ℕ) (old new : Disk) → ArchiveHolds shape s pages wholes marks old
    → IsSteadyArchive s marks old → MayAppendTo shape s wholes marks asked bytes old
    → IsPutOrNot (blocks_write shape s marks.mark bytes) old new
    → ArchiveHolds shape s pages wholes (after_asking asked marks) new
blocks-put shape s pages wholes marks asked bytes old new holds steady may calls =
    let write : Write = blocks_write shape s marks.mark bytes in
    let stands : BlocksStand shape s marks.mark write =
    blocks-stand shape s marks.mark bytes holds.limits holds.start.place may.place holds.holds.from in
    pended-archive shape s pages wholes marks asked write old new holds steady calls
    (blocks-sectors shape s wholes marks asked bytes old holds.limits holds.start holds.holds.from may)
    (blocks-spare shape s marks.mark write stands)
    (blocks-not_mark shape s marks.mark write (mark_place marks.number) stands (mark-is marks.number))
    (λ covers. absurd (blocks-not_mark shape s marks.mark write (other_mark_place marks.number) stands
    (other-is marks.number) covers))

-- a settled device that has the marks of an old one has them as they were
settled-archive : (shape : Shape) (s : ℕ) (pages : List Content) (wholes : List Whole) (marks : ArchMarks) (asked : ℕ)
    (old : Disk) (new : List ℕ) → ArchiveHolds shape s pages wholes marks old
    → IsSteadyArchive s marks old → HoldsUpTo shape s pages wholes marks.mark (settled new)
    → ((k : ℕ) → (k ≡ 1) ⊎ (k ≡ 2) → sector k new ≡ sector k old.base)
    → ArchiveHolds shape s pages wholes (after_asking asked marks) (settled new) × IsSteadyArchive s marks (settled new)
settled-archive shape s pages wholes marks asked old new holds steady up_to same =
    let own : ℕ = mark_place marks.number in
    let other : ℕ = other_mark_place marks.number in
    let older : IsOlderMark marks (read_mark other s (sector other new)) =
    subst (λ (b : List ℕ). IsOlderMark marks (read_mark other s b))
    (sym (same other (other-is marks.number))) steady.beside in (
      record {
        limits = holds.limits;
        start = holds.start;
        run = holds.run;
        sectors = All-nil (IsSectorWrite (length new));
        holds = up_to;
        newest = λ bytes stands. holds.newest bytes
            (inl (inl (synced-stands (settled new) own bytes stands ∙ same own (mark-is marks.number))));
        beside = λ bytes stands. older-beside shape s pages wholes marks asked (settled new) (read_mark other s bytes)
            (subst (λ (b : List ℕ). IsOlderMark marks (read_mark other s b))
            (sym (synced-stands (settled new) other bytes stands)) older);
      },
      record { nothing_pending = refl; beside = older },
    )

pub blocks-stay : (shape : Shape) (s : ℕ) (pages : List Content) (wholes : List Whole) (marks : ArchMarks) (asked : ℕ)
    (bytes : List ℕ) (old : Disk) → ArchiveHolds shape s pages wholes marks old
    → IsSteadyArchive s marks old → MayAppendTo shape s wholes marks asked bytes old
    → Step shape s pages wholes marks asked (synced (written old (blocks_write shape s marks.mark bytes)))
blocks-stay shape s pages wholes marks asked bytes old holds steady may =
    let write : Write = blocks_write shape s marks.mark bytes in
    let stands : BlocksStand shape s marks.mark write =
    blocks-stand shape s marks.mark bytes holds.limits holds.start.place may.place holds.holds.from in
    let sectors : IsSectorWrite (length old.base) write =
    blocks-sectors shape s wholes marks asked bytes old holds.limits holds.start holds.holds.from may in
    let kept : HoldsUpTo shape s pages wholes marks.mark (settled (after_write old.base write)) =
    stays-holds shape s pages wholes marks.mark write old holds.limits holds.holds sectors
    (blocks-spare shape s marks.mark write stands) in
    let both = settled-archive shape s pages wholes marks asked old (after_write old.base write) holds steady kept
    (λ k which. kept-sector old.base write k sectors (blocks-not_mark shape s marks.mark write k stands which)) in
    subst (λ (d : Disk). Step shape s pages wholes marks asked d)
    (sym (synced-written write old steady.nothing_pending)) (record {
      archive = both.0;
      steady = both.1;
      up_to = blocks-hold shape s pages wholes marks.mark asked bytes old holds.limits holds.start.place may.place
          may.in_data may.later may.reached may.small may.long may.count may.are holds.holds;
    })
