-- The reading theorem: what is restored from a fair image of a device that holds the archive of a run.
use Rattle.std.proofs.Common.{◌≡◌, ◌≤◌, ◌<◌, ◌+◌, ◌-◌, ◌%◌, ℕ, List, length, take, drop, Some, sym, ap, subst, ◌∙◌, arith}
use Rattle.std.specs.List.{AllByRecursion}
use Rattle.model_base.specs.{IsWithinLimits}
use Rattle.model_base.specs.declared.shape.Shape.{Shape}
use Rattle.model_device.specs.{IsImage, Disk}
use Rattle.model_log.specs.declared.group.Whole.{Whole}
use Rattle.model_log.specs.{block_of, blocks_between, groups_of, IsDataLsn, IsRunOf, last_span_end, lsn_at, sn_of, spans_of, stream_between, stream_of}
use Rattle.model_log.proofs.BoundaryLengths.{sn_of-header, sn_of-rises, stream_between-is}
use Rattle.model_log.proofs.Runs.{boundary-end, boundary-reached, data-start}
use Rattle.model_page.specs.declared.content.Content.{Content}
use Rattle.model_parts.proofs.Bytes.{stream-bytes}
use Rattle.model_parts.proofs.Splits.{Cuts, cut-at}
use Rattle.model_store.specs.{folded, IsStorable}
use Rattle.model_archive.specs.Holds.{HoldsUpTo, IsArchivedBlock}
use Rattle.model_archive.specs.Restore.{archive_block, archive_length, newest_mark, read_archive_head, archived_at, archived_bytes, data_of_blocks, ending_by, IsArchive, RestoresUpTo}
use Rattle.model_archive.specs.declared.extent.Extent.{Extent}
use Rattle.model_archive.specs.Texts.{IsRunStart}
use Rattle.model_archive.proofs.Ending.{cut-ending}
use Rattle.model_archive.proofs.Images.{between-block, gives-data, image-block, image-page, ReadsBlock, reads-block, same-pages, settled-sector, starts-below}
use Rattle.model_archive.proofs.Stream.{blocks-stream}

-- what an archive asks of its device has room for the head and the marks
room-header : (shape : Shape) (s mark : ℕ) → 1536 ≤ archive_length shape s mark
room-header shape s mark = omega arith

-- the block at the place of the i-th is the run's, on each image
pub block-of_image : (shape : Shape) (s : ℕ) (pages : List Content) (wholes : List Whole) (mark : ℕ) (disk : Disk)
    (image : List ℕ) → IsWithinLimits shape → IsRunStart s
    → AllByRecursion (IsStorable shape) (groups_of wholes) → IsRunOf s wholes
    → HoldsUpTo shape s pages wholes mark disk → IsImage disk image → (i : ℕ) → i < blocks_between s mark
    → ReadsBlock s wholes mark (lsn_at (block_of s) i) (archive_block shape s (lsn_at (block_of s) i) image)
block-of_image shape s pages wholes mark disk image limits start good run holds is i below =
    reads-block s wholes mark (lsn_at (block_of s) i) (archive_block shape s
    (lsn_at (block_of s) i) image) start.place run (stream-bytes shape wholes good) holds.place (omega arith)
    (starts-below s mark i below)
    (subst (λ (bytes : List ℕ). IsArchivedBlock s wholes mark (lsn_at (block_of s) i) bytes)
    (sym (image-block shape s pages wholes mark disk image limits holds is i below)) (holds.blocks i below))

-- the bytes that are archived are those of the stream up to the mark
pub bytes-of_image : (shape : Shape) (s : ℕ) (pages : List Content) (wholes : List Whole) (mark : ℕ) (disk : Disk)
    (image : List ℕ) → IsWithinLimits shape → IsRunStart s
    → AllByRecursion (IsStorable shape) (groups_of wholes) → IsRunOf s wholes
    → HoldsUpTo shape s pages wholes mark disk → IsImage disk image
    → archived_bytes (record { shape = shape; start = s; mark = mark }) image ≡ take (sn_of mark - sn_of s)
    (stream_of (groups_of wholes))
unfolding archived_bytes
bytes-of_image shape s pages wholes mark disk image limits start good run holds is =
    let extent : Extent = record { shape = shape; start = s; mark = mark } in
    let stream : List ℕ = stream_of (groups_of wholes) in
    let b : ℕ = block_of s in
    let aligned : b % 512 ≡ 0 = omega arith in
    let first : sn_of s ≡ sn_of b = (let there : s ≡ b + 12 = omega (arith, start.place) in ap sn_of there
    ∙ sn_of-header b aligned) in
    let place : IsDataLsn s = data-start s start.place in
    let end : ℕ = last_span_end s (spans_of wholes) in
    let reached = boundary-reached s wholes end place run (boundary-end s (spans_of wholes)) in
    let rises : sn_of mark ≤ sn_of end = sn_of-rises mark end holds.up_to in
    let all : take (sn_of mark - sn_of b) (data_of_blocks (archived_at extent image) b
    (blocks_between s mark)) ≡ stream_between s stream b mark =
    blocks-stream s mark stream (archived_at extent image) (blocks_between s mark) b start.place holds.place aligned
    (omega arith) (sym (between-block s mark)) (omega (arith, reached.reaches))
    (λ i below. gives-data s wholes mark (lsn_at b i) (archive_block shape s (lsn_at b i) image)
    (block-of_image shape s pages wholes mark disk image limits start good run holds is i below)) in
    let none : sn_of b - sn_of s ≡ 0 = omega arith in
    ap (λ n. take (sn_of mark - n) (data_of_blocks (archived_at extent image) b (blocks_between s mark))) first
    ∙ all ∙ stream_between-is s stream b mark
    ∙ ap (λ n. take (sn_of mark - sn_of b) (drop n stream)) none
    ∙ ap (λ n. take (sn_of mark - n) stream) (sym first)

-- up to a mark that is the newest on the image, and up to which everything is there
pub restores-up_to : (shape : Shape) (s : ℕ) (pages : List Content) (wholes : List Whole) (number mark : ℕ)
    (disk : Disk) (image : List ℕ) → IsWithinLimits shape → IsRunStart s
    → AllByRecursion (IsStorable shape) (groups_of wholes) → IsRunOf s wholes
    → HoldsUpTo shape s pages wholes mark disk → IsImage disk image → newest_mark s image ≡ Some (number, mark)
    → RestoresUpTo s pages wholes mark image
restores-up_to shape s pages wholes number mark disk image limits start good run holds is newest lsn from up_to =
    let extent : Extent = record { shape = shape; start = s; mark = mark } in
    let place : IsDataLsn s = data-start s start.place in
    let cut : Cuts shape s wholes mark = cut-at shape s wholes mark place holds.place holds.from run good in
    let same : ending_by lsn cut.middle ≡ ending_by lsn wholes =
    cut-ending shape s wholes mark lsn place run good cut up_to in
    let archive : IsArchive image extent pages cut.middle = record {
      has_extent = record {
        long = omega (arith, holds.long, is.same_length);
        head = ap read_archive_head (settled-sector shape s pages wholes mark disk image holds is 0
            (λ one. absurd (omega arith)) (λ two. absurd (omega arith)) (omega arith)) ∙ holds.head;
        number = number;
        newest = newest;
        all = omega (arith, holds.long, is.same_length);
      };
      pages_are = same-pages shape disk.base image pages
          (λ p below. image-page shape s pages wholes mark disk image limits holds is p below) holds.pages_are;
      blocks = λ i below.
          let read : ReadsBlock s wholes mark (lsn_at (block_of s) i)
          (archive_block shape s (lsn_at (block_of s) i) image) =
          block-of_image shape s pages wholes mark disk image limits start good run holds is i below in
          record { view = read.reads.view; read = read.reads.read; long = read.long };
      rest = cut.rest;
      groups = record {
        bytes_are = bytes-of_image shape s pages wholes mark disk image limits start good run holds is ∙ cut.bytes;
        run = cut.run;
        each = cut.each;
      };
      front = cut.front;
    } in
    record {
      extent = extent;
      pages = pages;
      wholes = cut.middle;
      archive = archive;
      reached = record { from = from; up_to = up_to };
      n_is = ap length (sym same);
      end_is = ap (λ (ws : List Whole). last_span_end s (spans_of ws)) (sym same);
      pages_are = ap (folded pages) (sym same);
    }
