-- What the calls of a part keep of what its device archives.
use Rattle.std.proofs.Common.{◌≡◌, ◌≤◌, ◌<◌, ◌+◌, ◌*◌, ◌^◌, ℕ, List, [], length, Option, Some, None, sym, ap, subst, ◌∙◌, ⊎_elim, arith}
use Rattle.model_base.specs.{IsWithinLimits}
use Rattle.model_base.specs.declared.shape.Shape.{Shape}
use Rattle.model_device.specs.{IsPutOrNot, settled, synced, written, Disk}
use Rattle.model_device.specs.declared.write.Write.{Write}
use Rattle.model_log.specs.declared.group.Whole.{Whole}
use Rattle.model_log.specs.{block_of, blocks_between, IsAtDataStart, IsDataLsn, last_span_end, spans_of}
use Rattle.model_page.specs.declared.content.Content.{Content}
use Rattle.model_parts.proofs.Torn.{put-torn}
use Rattle.model_archive.specs.{after_append, after_asking, ArchiveHolds, archive_length, archive_place, AreArchivedBlocks, AreTexts, base_text, begun_bytes, begun_marks, HasNextMark, IsRunStart, IsSteadyArchive, mark_place, mark_text, next_mark_number, pages_end}
use Rattle.model_archive.specs.declared.marks.ArchMarks.{ArchMarks}
use Rattle.model_archive.proofs.Appending.{blocks-put, blocks-sectors, blocks-stand, BlocksStand, blocks-stay, blocks_write, count-later, MayAppendTo, Step}
use Rattle.model_archive.proofs.Begun.{Begun, begun-archive, begun-stands, length-base_text}
use Rattle.model_archive.proofs.NextMark.{mark-put, mark-sectors, mark-stays, mark_write}
use Rattle.model_archive.proofs.Writes.{length-put}
use Rattle.redo_disk.specs.{HasSize, IsRange, write_at}
use Rattle.redo_disk.specs.declared.error.DevError.{DevError}
use Rattle.redo_archive.specs.Part.{after_two, FailsTwo, DiskArchives}

-- what is asked of `append`, and of the run
pub record IsAsked (size : ℕ) (shape : Shape) (s : ℕ) (wholes : List Whole) (marks : ArchMarks) (mark : ℕ)
    (blocks : List ℕ) : Type 0 where
  pub at_start : IsAtDataStart marks.mark
  pub place : IsDataLsn mark
  pub later : marks.mark ≤ mark
  pub small : mark < 2 ^ 60
  pub count : length blocks ≡ 512 * blocks_between marks.mark mark
  pub room : archive_length shape s mark ≤ size
  pub next : HasNextMark marks
  pub reached : mark ≤ last_span_end s (spans_of wholes)
  pub are : AreArchivedBlocks s wholes marks.mark mark blocks

pub asked-of : (size : ℕ) (shape : Shape) (s : ℕ) (wholes : List Whole) (marks : ArchMarks) (mark : ℕ)
    (blocks : List ℕ) → IsAtDataStart marks.mark → IsDataLsn mark → marks.mark ≤ mark → mark < 2 ^ 60
    → length blocks ≡ 512 * blocks_between marks.mark mark → archive_length shape s mark ≤ size → HasNextMark marks
    → mark ≤ last_span_end s (spans_of wholes)
    → AreArchivedBlocks s wholes marks.mark mark blocks → IsAsked size shape s wholes marks mark blocks
asked-of size shape s wholes marks mark blocks at_start place later small count room next reached are =
    record {
      at_start = at_start;
      place = place;
      later = later;
      small = small;
      count = count;
      room = room;
      next = next;
      reached = reached;
      are = are;
    }

-- the blocks lie on the device, in whole sectors
pub append-range : (size : ℕ) (shape : Shape) (s : ℕ) (marks : ArchMarks) (mark : ℕ) (blocks : List ℕ)
    → IsWithinLimits shape → IsAtDataStart s → s ≤ marks.mark → IsAtDataStart marks.mark → marks.mark ≤ mark
    → length blocks ≡ 512 * blocks_between marks.mark mark → archive_length shape s mark ≤ size
    → IsRange size (archive_place shape s (block_of marks.mark)) (length blocks)
append-range size shape s marks mark blocks limits start from place later count room =
    let stands : BlocksStand shape s marks.mark (blocks_write shape s marks.mark blocks) =
    blocks-stand shape s marks.mark blocks limits start place from in
    let both : blocks_between s mark ≡ blocks_between s marks.mark + blocks_between marks.mark mark =
    count-later s marks.mark mark start place from later in
    record { from_sector = stands.aligned; whole_sectors = omega arith; within = omega (arith, stands.at) }

-- what the code wrote
pub record AreWrites (shape : Shape) (s : ℕ) (marks : ArchMarks) (mark at next : ℕ) (sector : List ℕ) : Type 0 where
  pub at_is : at ≡ archive_place shape s (block_of marks.mark)
  pub next_is : next ≡ 512 * mark_place (next_mark_number marks.number)
  pub sector_is : sector ≡ mark_text (next_mark_number marks.number) mark

may-append : (size : ℕ) (shape : Shape) (s : ℕ) (wholes : List Whole) (marks : ArchMarks) (mark : ℕ) (blocks : List ℕ)
    (disk : Disk) → length disk.base ≡ size
    → IsAsked size shape s wholes marks mark blocks → MayAppendTo shape s wholes marks mark blocks disk
may-append size shape s wholes marks mark blocks disk size_is asked = record {
  place = asked.at_start;
  in_data = asked.place;
  later = asked.later;
  reached = asked.reached;
  small = asked.small;
  long = omega (arith, asked.room);
  count = asked.count;
  are = asked.are;
  next = asked.next;
}

next-is : (number : ℕ) → number + 1 < 2 ^ 64 → next_mark_number number ≡ number + 1
next-is number small = omega arith

blocks-same : (shape : Shape) (s : ℕ) (marks : ArchMarks) (mark at next : ℕ) (blocks sector : List ℕ)
    → AreWrites shape s marks mark at next sector
    → write_at at blocks ≡ blocks_write shape s marks.mark blocks
blocks-same shape s marks mark at next blocks sector are = ap (λ n. write_at n blocks) are.at_is

mark-same : (shape : Shape) (s : ℕ) (marks : ArchMarks) (mark at next : ℕ) (sector : List ℕ) → HasNextMark marks
    → AreWrites shape s marks mark at next sector
    → write_at next sector ≡ mark_write marks mark
mark-same shape s marks mark at next sector small are =
    let number : next_mark_number marks.number ≡ marks.number + 1 = next-is marks.number small in
    ap (λ n. write_at n sector) (are.next_is ∙ ap (λ n. 512 * mark_place n) number)
    ∙ ap (λ (bytes : List ℕ). write_at (512 * mark_place (marks.number + 1)) bytes)
    (are.sector_is ∙ ap (λ n. mark_text n mark) number)

-- the blocks stayed: the step, said of the marks with the one asked for
step-on : (shape : Shape) (s : ℕ) (pages : List Content) (wholes : List Whole) (marks : ArchMarks) (mark : ℕ)
    (disk : Disk) → Step shape s pages wholes marks mark disk
    → Step shape s pages wholes (after_asking mark marks) mark disk
step-on shape s pages wholes marks mark disk step = record {
  archive = step.archive;
  steady = record { nothing_pending = step.steady.nothing_pending; beside = older-on marks mark _ step.steady.beside };
  up_to = step.up_to;
}
  where
    older-on : (marks : ArchMarks) (mark : ℕ) (other : Option (ℕ × ℕ))
        → Rattle.model_archive.specs.IsOlderMark marks other
        → Rattle.model_archive.specs.IsOlderMark (after_asking mark marks) other
    older-on marks mark None is = tt
    older-on marks mark (Some other) is = is

pub append-made : (size now : ℕ) (shape : Shape) (s : ℕ) (pages : List Content) (wholes : List Whole)
    (marks : ArchMarks) (failed : Option DevError) (mark at next : ℕ) (blocks sector : List ℕ) (a b : Disk)
    → now ≡ size → failed ≡ None → IsAsked size shape s wholes marks mark blocks
    → AreWrites shape s marks mark at next sector
    → DiskArchives size shape s pages wholes marks failed a
    → b ≡ after_two (write_at at blocks) (write_at next sector) a
    → DiskArchives now shape s pages wholes (after_append mark marks) failed b
append-made size now shape s pages wholes marks failed mark at next blocks sector a b same_size live asked writes
    before is =
    let first : Write = blocks_write shape s marks.mark blocks in
    let second : Write = mark_write marks mark in
    let middle : Disk = synced (written a first) in
    let new : Disk = synced (written middle second) in
    let there : b ≡ new = is ∙ ap (λ (w : Write). after_two w (write_at next sector) a)
    (blocks-same shape s marks mark at next blocks sector writes)
    ∙ ap (λ (w : Write). after_two first w a) (mark-same shape s marks mark at next sector asked.next writes) in
    let steady : IsSteadyArchive s marks a = before.live live in
    let may : MayAppendTo shape s wholes marks mark blocks a =
    may-append size shape s wholes marks mark blocks a before.size_is asked in
    let step : Step shape s pages wholes marks mark middle =
    blocks-stay shape s pages wholes marks mark blocks a before.holds steady may in
    let later : Step shape s pages wholes (after_asking mark marks) mark middle =
    step-on shape s pages wholes marks mark middle step in
    let done = mark-stays shape s pages wholes (after_asking mark marks) mark middle asked.next step.archive later in
    let first_long : length middle.base ≡ length a.base =
    length-put first a steady.nothing_pending
    (blocks-sectors shape s wholes marks mark blocks a before.holds.limits before.holds.start
    before.holds.holds.from may) in
    let second_long : length new.base ≡ length middle.base =
    length-put second middle step.steady.nothing_pending
    (mark-sectors shape s mark (length middle.base) marks mark step.up_to.long) in
    subst (λ (d : Disk). DiskArchives now shape s pages wholes (after_append mark marks) failed d) (sym there) (record {
      size_is = second_long ∙ first_long ∙ before.size_is ∙ sym same_size;
      holds = done.0;
      live = λ none. done.1;
    })

pub append-failed : (size now : ℕ) (shape : Shape) (s : ℕ) (pages : List Content) (wholes : List Whole)
    (marks : ArchMarks) (failed : Option DevError) (error : DevError) (mark at next : ℕ) (blocks sector : List ℕ)
    (a b : Disk)
    → now ≡ size → failed ≡ None → IsAsked size shape s wholes marks mark blocks
    → AreWrites shape s marks mark at next sector
    → DiskArchives size shape s pages wholes marks failed a → FailsTwo (write_at at blocks) (write_at next sector) a b
    → DiskArchives now shape s pages wholes (after_asking mark marks) (Some error) b
append-failed size now shape s pages wholes marks failed error mark at next blocks sector a b same_size live asked
    writes before fails =
    let first : Write = blocks_write shape s marks.mark blocks in
    let second : Write = mark_write marks mark in
    let middle : Disk = synced (written a first) in
    let one : write_at at blocks ≡ first = blocks-same shape s marks mark at next blocks sector writes in
    let two : write_at next sector ≡ second = mark-same shape s marks mark at next sector asked.next writes in
    let steady : IsSteadyArchive s marks a = before.live live in
    let may : MayAppendTo shape s wholes marks mark blocks a =
    may-append size shape s wholes marks mark blocks a before.size_is asked in
    let step : Step shape s pages wholes marks mark middle =
    blocks-stay shape s pages wholes marks mark blocks a before.holds steady may in
    let later : Step shape s pages wholes (after_asking mark marks) mark middle =
    step-on shape s pages wholes marks mark middle step in
    let first_long : length middle.base ≡ length a.base =
    length-put first a steady.nothing_pending
    (blocks-sectors shape s wholes marks mark blocks a before.holds.limits before.holds.start
    before.holds.holds.from may) in
    ⊎_elim
    (λ calls.
    let put : IsPutOrNot first a b = subst (λ (w : Write). IsPutOrNot w a b) one calls in
    record {
      size_is = (put-torn first a b put).same_length ∙ before.size_is ∙ sym same_size;
      holds = blocks-put shape s pages wholes marks mark blocks a b before.holds steady may put;
      live = λ none. absurd cc;
    })
    (λ calls.
    let put : IsPutOrNot second middle b = subst (λ (w : Write). IsPutOrNot second (synced (written a w)) b) one
    (subst (λ (w : Write). IsPutOrNot w (synced (written a (write_at at blocks))) b) two calls) in
    record {
      size_is = (put-torn second middle b put).same_length ∙ first_long ∙ before.size_is ∙ sym same_size;
      holds = mark-put shape s pages wholes (after_asking mark marks) mark middle b asked.next step.archive later put;
      live = λ none. absurd cc;
    }) fails

-- an archive that was just begun
pub begun-part : (size now : ℕ) (shape : Shape) (s : ℕ) (pages : List Content) (texts : List ℕ) (a b : Disk)
    → IsWithinLimits shape → IsRunStart s → AreTexts shape.page_size shape.space pages
    → length pages ≡ shape.pages → pages_end shape ≤ size → HasSize size a → now ≡ size
    → texts ≡ base_text 0 shape.space pages → b ≡ settled (begun_bytes shape s texts a.reads)
    → DiskArchives now shape s pages [] (begun_marks s) None b
begun-part size now shape s pages texts a b limits start are count room sized same text is =
    let new : List ℕ = begun_bytes shape s (base_text 0 shape.space pages) a.reads in
    let there : b ≡ settled new = is ∙ ap (λ (x : List ℕ). settled (begun_bytes shape s x a.reads)) text in
    let fits : pages_end shape ≤ length a.reads = omega (arith, sized.reads) in
    let done = begun-archive shape s pages a.reads limits start are count fits in
    let stands : Begun shape s pages (base_text 0 shape.space pages) a.reads new =
    begun-stands shape s pages (base_text 0 shape.space pages) a.reads limits
    (length-base_text shape.page_size shape.space 0 pages are.size_is ∙ ap (λ n. n * shape.page_size) count) fits in
    subst (λ (d : Disk). DiskArchives now shape s pages [] (begun_marks s) None d) (sym there) (record {
      size_is = stands.same ∙ sized.reads ∙ sym same;
      holds = done.0;
      live = λ none. done.1;
    })
