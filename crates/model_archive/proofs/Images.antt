-- What an image of an archive device has of the archive.
use Rattle.std.proofs.Common.{◌≡◌, ◌≤◌, ◌<◌, ◌+◌, ◌-◌, ◌*◌, ◌/◌, ◌%◌, ℕ, min, List, length, take, drop, sym, ap, subst, ◌∙◌, ⊎_elim, arith}
use Rattle.std.specs.List.{All}
use Rattle.std.proofs.lemmas.Bool.{cases_lt}
use Rattle.std.proofs.lemmas.Option.{slice_get_within}
use Rattle.std.proofs.lemmas.Bool.Decides.{nat_tests}
use Rattle.model_base.specs.{IsWithinLimits, IsWholeSectors}
use Rattle.model_base.specs.declared.shape.Shape.{Shape}
use Rattle.model_base.proofs.ShapeLimits.{whole_sectors}
use Rattle.model_device.specs.{IsImage, sector, Disk}
use Rattle.model_log.specs.declared.group.Whole.{Whole}
use Rattle.model_log.specs.declared.layout.TheConstants.{BLOCK_DATA}
use Rattle.model_log.specs.{block_of, blocks_between, content_at, groups_of, IsAtDataStart, IsByte, IsDataLsn, IsRunOf, length_at, lsn_at, read_block, sn_of, stream_of}
use Rattle.model_log.proofs.BoundaryLengths.{content_at-is}
use Rattle.model_log.proofs.BoundaryRound.{ReadsAs, reads-as}
use Rattle.model_log.proofs.CutStream.{count-below, some-below}
use Rattle.model_page.specs.{page_check, place_lsn_by, user_part}
use Rattle.model_page.specs.declared.content.Content.{Content}
use Rattle.model_parts.proofs.Rows.{row_ends, row-sector}
use Rattle.model_store.specs.{bytes_of, taken_from}
use Rattle.model_archive.specs.Holds.{HoldsUpTo, IsArchivedBlock}
use Rattle.model_archive.specs.Restore.{archive_block, archive_length, archive_place, base_bytes, pages_end, AreBasePages, IsBasePage}
use Rattle.model_archive.proofs.Sectors.{stretch-sectors}
use Rattle.model_archive.proofs.Stream.{GivesData, within-block}

-- a sector of an image that no write since covers
pub settled-sector : (shape : Shape) (s : ℕ) (pages : List Content) (wholes : List Whole) (mark : ℕ) (disk : Disk)
    (image : List ℕ) → HoldsUpTo shape s pages wholes mark disk
    → IsImage disk image → (k : ℕ) → (k ≡ 1 → ⊥) → (k ≡ 2 → ⊥) → 512 * k < archive_length shape s mark
    → sector k image ≡ sector k disk.base
settled-sector shape s pages wholes mark disk image holds is k one two below =
    ⊎_elim (λ same. same) (λ covered. absurd (holds.settled k one two below covered))
    (is.each k (omega (arith, holds.long)))

-- the pages stand between the marks and the blocks, in whole sectors
pub record PageStands (shape : Shape) (p : ℕ) : Type 0 where
  pub aligned : (1536 + p * shape.page_size) % 512 ≡ 0
  pub behind : 1536 + p * shape.page_size + shape.page_size ≤ pages_end shape

pub page-stands : (shape : Shape) (p : ℕ) → IsWithinLimits shape → p < shape.pages → PageStands shape p
page-stands shape p limits below =
    let sizes : IsWholeSectors shape.page_size = whole_sectors shape limits in
    let row : (p * shape.page_size) % 512 ≡ 0 = row-sector p shape.page_size sizes.sectors in
    let ends : p * shape.page_size + shape.page_size ≤ shape.pages * shape.page_size =
    row_ends p shape.pages shape.page_size below in
    record { aligned = omega arith; behind = omega arith }

pub pages-sector : (shape : Shape) → IsWithinLimits shape → pages_end shape % 512 ≡ 0
pages-sector shape limits =
    let sizes : IsWholeSectors shape.page_size = whole_sectors shape limits in
    let row : (shape.pages * shape.page_size) % 512 ≡ 0 = row-sector shape.pages shape.page_size sizes.sectors in
    omega arith

-- bytes of a page that are the same give the same page
pub same-page : (shape : Shape) (old new : List ℕ) (p : ℕ) (page : Content)
    → base_bytes shape p new ≡ base_bytes shape p old → IsBasePage shape old p page → IsBasePage shape new p page
same-page shape old new p page same is = record {
  passes = ap (λ (bytes : List ℕ). place_lsn_by shape p (page_check bytes)) same ∙ is.passes;
  user = is.user ∙ ap user_part (sym same);
}

pub same-pages : (shape : Shape) (old new : List ℕ) (pages : List Content)
    → ((p : ℕ) → p < shape.pages → base_bytes shape p new ≡ base_bytes shape p old)
    → AreBasePages shape old pages → AreBasePages shape new pages
same-pages shape old new pages same are = record {
  count = are.count;
  each = λ p page at.
      let within : p < length pages = slice_get_within pages p page at in
      same-page shape old new p page (same p (omega (arith, are.count))) (are.each p page at);
}

pub image-page : (shape : Shape) (s : ℕ) (pages : List Content) (wholes : List Whole) (mark : ℕ) (disk : Disk)
    (image : List ℕ) → IsWithinLimits shape
    → HoldsUpTo shape s pages wholes mark disk → IsImage disk image → (p : ℕ) → p < shape.pages
    → base_bytes shape p image ≡ base_bytes shape p disk.base
unfolding base_bytes
image-page shape s pages wholes mark disk image limits holds is p below =
    let stands : PageStands shape p = page-stands shape p limits below in
    stretch-sectors shape.page_size (1536 + p * shape.page_size) image disk.base is.same_length stands.aligned
    (λ k from under inside. settled-sector shape s pages wholes mark disk image holds is k (λ one. absurd (omega arith))
    (λ two. absurd (omega arith)) (omega (arith, stands.behind)))

-- the place of the i-th block
pub place-is : (shape : Shape) (s i : ℕ) → archive_place shape s (lsn_at (block_of s) i) ≡ pages_end shape + 512 * i
place-is shape s i = omega arith

pub block-is : (shape : Shape) (s i : ℕ) (image : List ℕ)
    → archive_block shape s (lsn_at (block_of s) i) image ≡ take 512 (drop (pages_end shape + 512 * i) image)
unfolding archive_block
block-is shape s i image = ap (λ n. take 512 (drop n image)) (place-is shape s i)

pub image-block : (shape : Shape) (s : ℕ) (pages : List Content) (wholes : List Whole) (mark : ℕ) (disk : Disk)
    (image : List ℕ) → IsWithinLimits shape
    → HoldsUpTo shape s pages wholes mark disk → IsImage disk image → (i : ℕ) → i < blocks_between s mark
    → archive_block shape s (lsn_at (block_of s) i) image ≡ archive_block shape s (lsn_at (block_of s) i) disk.base
image-block shape s pages wholes mark disk image limits holds is i below =
    let aligned : pages_end shape % 512 ≡ 0 = pages-sector shape limits in
    block-is shape s i image
    ∙ stretch-sectors 512 (pages_end shape + 512 * i) image disk.base is.same_length (omega arith)
    (λ k from under inside. settled-sector shape s pages wholes mark disk image holds is k (λ one. absurd (omega arith))
    (λ two. absurd (omega arith)) (omega arith))
    ∙ sym (block-is shape s i disk.base)

-- WHAT A BLOCK OF THE RUN GIVES.

pub between-block : (s mark : ℕ) → blocks_between s mark ≡ blocks_between (block_of s) mark
between-block s mark = let same : block_of (block_of s) ≡ block_of s = omega arith in
    ap (λ b. (sn_of mark - sn_of b + 495) / BLOCK_DATA) (sym same)

-- a block that holds a byte below the mark begins below it
pub starts-below : (s mark i : ℕ) → i < blocks_between s mark → lsn_at (block_of s) i + 12 < mark
starts-below s mark i below =
    let aligned : block_of s % 512 ≡ 0 = omega arith in
    some-below (block_of s) mark i aligned (count-below (block_of s) mark i aligned
    (subst (λ (n : ℕ). i < n) (between-block s mark) below))

length-short : (mark m b : ℕ) → mark < b + 508 → mark ≤ m → length_at mark b ≤ length_at m b
length-short mark m b inside low = grind (arith, nat_tests)

length-long : (mark m b : ℕ) → b + 524 ≤ mark → b + 524 ≤ m → length_at mark b ≤ length_at m b
length-long mark m b first second = grind (arith, nat_tests)

length-least : (mark m b : ℕ) → IsDataLsn mark → b % 512 ≡ 0 → b + 12 < mark → min mark (b + 524) ≤ m
    → length_at mark b ≤ length_at m b
length-least mark m b place aligned below enough =
    ⊎_elim (λ part. let inside : mark < b + 508 = within-block mark b place aligned below part in
    length-short mark m b inside (omega arith))
    (λ full. length-long mark m b full (omega arith)) (cases_lt mark (b + 524))

-- what is read of it
pub record ReadsBlock (s : ℕ) (wholes : List Whole) (mark b : ℕ) (bytes : List ℕ) : Type 0 where
  pub m : ℕ
  pub enough : min mark (b + 524) ≤ m
  pub reads : ReadsAs s wholes m b bytes
  pub long : length_at mark b ≤ reads.view.length

pub reads-block : (s : ℕ) (wholes : List Whole) (mark b : ℕ) (bytes : List ℕ) → IsAtDataStart s → IsRunOf s wholes
    → All IsByte (stream_of (groups_of wholes))
    → IsDataLsn mark → b % 512 ≡ 0 → b + 12 < mark → IsArchivedBlock s wholes mark b bytes
    → ReadsBlock s wholes mark b bytes
reads-block s wholes mark b bytes start run each place aligned below is =
    let reads : ReadsAs s wholes is.m b bytes = reads-as s wholes is.m b bytes start run each is.boundary
    (omega (arith, is.enough)) is.block in
    let least : length_at mark b ≤ length_at is.m b = length-least mark is.m b place aligned below is.enough in
    record { m = is.m; enough = is.enough; reads = reads; long = omega (arith, reads.length_is) }

pub taken-data : (s : ℕ) (wholes : List Whole) (mark b : ℕ) (bytes : List ℕ) → (read : ReadsBlock s wholes mark b bytes)
    → bytes_of (taken_from bytes (read_block b bytes)) ≡ content_at s (stream_of (groups_of wholes)) read.m b
taken-data s wholes mark b bytes read =
    ap (λ found. bytes_of (taken_from bytes found)) read.reads.read ∙ read.reads.content

pub gives-data : (s : ℕ) (wholes : List Whole) (mark b : ℕ) (bytes : List ℕ) → ReadsBlock s wholes mark b bytes
    → GivesData s (stream_of (groups_of wholes)) mark b (bytes_of (taken_from bytes (read_block b bytes)))
gives-data s wholes mark b bytes read = record {
  high = min read.m (b + 512);
  enough = omega (arith, read.enough);
  within = omega arith;
  is = taken-data s wholes mark b bytes read ∙ content_at-is s (stream_of (groups_of wholes)) read.m b;
}
