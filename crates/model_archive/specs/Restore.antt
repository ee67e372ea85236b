-- The layout of an archive device: a head in block 0, a mark of even number in block 1 and one of odd number in block
-- 2, the pages with which the run was opened, each sealed, and then the run's log blocks from that of its start on,
-- side by side, each written once.
-- What is restored from the bytes of a device for an lsn, or the one refusal that comes first; and fair images of an
-- archive device.
use Rattle.std.specs.Prelude.{ℕ, ◌+◌, ◌-◌, ◌*◌, ◌%◌, ◌==◌, ◌&&◌, nat_le, nat_lt, if◌then◌else◌, Bool, List, take, drop, Option, Some, None, zero, suc, ◌≡◌, ◌≤◌, ◌<◌, ◌⊎◌, [], ◌∷◌, ◌++◌, length, slice_get, true}
use Rattle.model_base.specs.{field, is_within_limits}
use Rattle.model_base.specs.declared.shape.Shape.{Shape}
use Rattle.model_base.specs.declared.limits.TheConstants.{BLOCK_SIZE, FIRST_DATA_LSN, LSN_LIMIT}
use Rattle.model_log.specs.declared.layout.TheConstants.{BLOCK_DATA_END, BLOCK_HEADER}
use Rattle.model_log.specs.{block_of, blocks_between, header_block, newer, sector_at, shape_of, IsFront, last_span_end, length_at, lsn_at, read_block, sn_of, spans_of, fits_checksum}
use Rattle.model_archive.specs.declared.layout.TheConstants.{ARCHIVE_FORMAT, ARCHIVE_HEADER}
use Rattle.model_log.specs.declared.group.Whole.{Whole}
use Rattle.model_log.specs.declared.block.BlockView.{BlockView}
use Rattle.model_page.specs.{page_check, place_lsn_by, user_part}
use Rattle.model_page.specs.declared.content.Content.{Content}
use Rattle.model_store.specs.{AreGroups, bytes_of, folded, HasNoStorable, Source, taken_from, IsWholeSector}
use Rattle.model_archive.specs.declared.extent.Extent.{Extent}
use Rattle.model_archive.specs.declared.refusal.RestoreRefusal.{RestoreRefusal}
use Rattle.model_archive.specs.declared.refusal.RestoreRefusal.TheVariants.{Missing, To, Page, Block, Record}
use Rattle.model_device.specs.{IsImage, sector, Disk}

-- a run may start there: at the first data byte of a block
abbrev pub is_run_start : ℕ → Bool
is_run_start s = s % BLOCK_SIZE == BLOCK_HEADER && nat_le FIRST_DATA_LSN s && nat_lt s LSN_LIMIT

-- where the run starts and the shape of its store, by the 512 bytes of a head; nothing where it doesn't pass. The
-- creator and the zeros aren't read.
unfoldable pub read_archive_head : List ℕ → Option (ℕ × Shape)
read_archive_head bytes =
    if fits_checksum bytes && field 4 0 bytes == ARCHIVE_FORMAT && is_within_limits (shape_of bytes) && is_run_start
    (field 8 8 bytes)
    then Some (field 8 8 bytes, shape_of bytes) else None

-- which block a mark stands in: 1 where its number is even, 2 where it is odd
abbrev pub mark_place : ℕ → ℕ
mark_place number = if number % 2 == 0 then 1 else 2

-- the lsn is the place of a byte of a group, from the run's start on
abbrev pub is_mark_lsn : ℕ → ℕ → Bool
is_mark_lsn s lsn =
    nat_le BLOCK_HEADER (lsn % BLOCK_SIZE) && nat_lt
    (lsn % BLOCK_SIZE) BLOCK_DATA_END && nat_le s lsn && nat_lt lsn LSN_LIMIT

-- the number and the lsn of the mark in block `which`; nothing where it doesn't pass
unfoldable pub read_mark : ℕ → ℕ → List ℕ → Option (ℕ × ℕ)
read_mark which s bytes =
    if fits_checksum bytes && mark_place (field 8 0 bytes) == which && is_mark_lsn s (field 8 8 bytes)
    then Some (field 8 0 bytes, field 8 8 bytes) else None

-- the passing mark with the greater number
abbrev pub newest_mark : ℕ → List ℕ → Option (ℕ × ℕ)
newest_mark s image = newer (read_mark 1 s (header_block 1 image)) (read_mark 2 s (header_block 2 image))

-- where the log blocks begin
abbrev pub pages_end : Shape → ℕ
pages_end shape = ARCHIVE_HEADER + shape.pages * shape.page_size

-- how long a device is that holds the blocks with a byte below the mark
abbrev pub archive_length : Shape → ℕ → ℕ → ℕ
archive_length shape s mark = pages_end shape + BLOCK_SIZE * blocks_between s mark

-- where the block at b stands
abbrev pub archive_place : Shape → ℕ → ℕ → ℕ
archive_place shape s b = pages_end shape + (b - block_of s)

unfoldable pub archive_block : Shape → ℕ → ℕ → List ℕ → List ℕ
archive_block shape s b image = sector_at (archive_place shape s b) image

unfoldable pub base_bytes : Shape → ℕ → List ℕ → List ℕ
base_bytes shape p image = take shape.page_size (drop (ARCHIVE_HEADER + p * shape.page_size) image)

-- the device has a head and a newest mark, and is as long as they ask
pub record HasExtent (image : List ℕ) (extent : Extent) : Type 0 where
  pub long : ARCHIVE_HEADER ≤ length image
  pub head : read_archive_head (header_block 0 image) ≡ Some (extent.start, extent.shape)
  pub number : ℕ
  pub newest : newest_mark extent.start image ≡ Some (number, extent.mark)
  pub all : archive_length extent.shape extent.start extent.mark ≤ length image

-- it has no room for a head and marks, the head doesn't pass, no mark does, or it isn't as long as they ask
abbrev pub IsMissing : List ℕ → Type 0
IsMissing image =
    (length image < ARCHIVE_HEADER)
    ⊎ ((ARCHIVE_HEADER ≤ length image) × (read_archive_head (header_block 0 image) ≡ None))
    ⊎ ((start : ℕ) × (shape : Shape) × (ARCHIVE_HEADER ≤ length image)
    × (read_archive_head (header_block 0 image) ≡ Some (start, shape)) × (newest_mark start image ≡ None))
    ⊎ ((start : ℕ) × (shape : Shape) × (number : ℕ) × (mark : ℕ) × (ARCHIVE_HEADER ≤ length image)
    × (read_archive_head (header_block 0 image) ≡ Some (start, shape))
    × (newest_mark start image ≡ Some (number, mark)) × (length image < archive_length shape start mark))

-- the lsn is one that the archive reaches
pub record IsReachedBy (extent : Extent) (lsn : ℕ) : Type 0 where
  pub from : extent.start ≤ lsn
  pub up_to : lsn ≤ extent.mark

-- the lsn of page p as it was archived, if it is blank or sound with its own number and the store's space
abbrev pub base_lsn : Shape → List ℕ → ℕ → Option ℕ
base_lsn shape image p = place_lsn_by shape p (page_check (base_bytes shape p image))

-- page p as it was archived
pub record IsBasePage (shape : Shape) (image : List ℕ) (p : ℕ) (page : Content) : Type 0 where
  pub passes : base_lsn shape image p ≡ Some page.lsn
  pub user : page.user ≡ user_part (base_bytes shape p image)

pub record AreBasePages (shape : Shape) (image : List ℕ) (pages : List Content) : Type 0 where
  pub count : length pages ≡ shape.pages
  pub each : (p : ℕ) (page : Content) → slice_get pages p ≡ Some page → IsBasePage shape image p page

-- the block at b fits, and holds the bytes below the mark that it has to
pub record HasLongBlock (extent : Extent) (image : List ℕ) (b : ℕ) : Type 0 where
  pub view : BlockView
  pub read : read_block b (archive_block extent.shape extent.start b image) ≡ Some view
  pub long : length_at extent.mark b ≤ view.length

-- how many blocks hold a byte below the mark, and the lsn of the i-th
abbrev pub block_count : Extent → ℕ
block_count extent = blocks_between extent.start extent.mark

abbrev pub block_lsn : Extent → ℕ → ℕ
block_lsn extent i = lsn_at (block_of extent.start) i

-- the first so many blocks do
abbrev pub HasLongBlocks : Extent → List ℕ → ℕ → Type 0
HasLongBlocks extent image n = (i : ℕ) → i < n → HasLongBlock extent image (block_lsn extent i)

-- the block of an lsn as it stands in the archive, if it fits
abbrev pub archived_at : Extent → List ℕ → Source
archived_at extent image b =
    taken_from (archive_block extent.shape extent.start b image)
    (read_block b (archive_block extent.shape extent.start b image))

-- the data of so many blocks of a source, the first of them at the lsn, joined
abbrev pub data_of_blocks : Source → ℕ → ℕ → List ℕ
data_of_blocks source lsn zero = []
data_of_blocks source lsn (suc n) = bytes_of (source lsn) ++ data_of_blocks source (lsn + BLOCK_SIZE) n

-- the run's bytes from its start up to the mark
unfoldable pub archived_bytes : Extent → List ℕ → List ℕ
archived_bytes extent image =
    take (sn_of extent.mark - sn_of extent.start)
    (data_of_blocks (archived_at extent image) (block_of extent.start) (block_count extent))

-- AN ARCHIVE: the pages, and the groups up to the mark, after which stands less than a whole one.
pub record IsArchive (image : List ℕ) (extent : Extent) (pages : List Content) (wholes : List Whole) : Type 0 where
  pub has_extent : HasExtent image extent
  pub pages_are : AreBasePages extent.shape image pages
  pub blocks : HasLongBlocks extent image (block_count extent)
  pub rest : List ℕ
  pub groups : AreGroups extent.shape (archived_bytes extent image) extent.start wholes rest
  pub front : IsFront rest

-- the groups that end at or below the lsn
abbrev pub ending_by : ℕ → List Whole → List Whole
ending_by lsn [] = []
ending_by lsn (whole ∷ wholes) = if nat_le whole.end lsn then whole ∷ ending_by lsn wholes else ending_by lsn wholes

-- WHAT IS RESTORED FOR AN LSN: the archived pages with exactly those groups applied that end at or below it; how many
-- these are, and where the last of them ends.
pub record IsRestored (image : List ℕ) (lsn n end : ℕ) (restored : List Content) : Type 0 where
  pub extent : Extent
  pub pages : List Content
  pub wholes : List Whole
  pub archive : IsArchive image extent pages wholes
  pub reached : IsReachedBy extent lsn
  pub n_is : n ≡ length (ending_by lsn wholes)
  pub end_is : end ≡ last_span_end extent.start (spans_of (ending_by lsn wholes))
  pub pages_are : restored ≡ folded pages (ending_by lsn wholes)

-- the lsn is below the start of the run or above the mark
abbrev pub IsOutOf : Extent → ℕ → Type 0
IsOutOf extent lsn = (lsn < extent.start) ⊎ (extent.mark < lsn)

-- page p is the first of the archive that doesn't pass
abbrev pub IsFirstUnsound : Shape → List ℕ → ℕ → Type 0
IsFirstUnsound shape image p =
    (p < shape.pages) × (base_lsn shape image p ≡ None) × ((q : ℕ) → q < p → base_lsn shape image q ≡ None → ⊥)

-- the block at the lsn is the first of the archive that doesn't fit or is too short
abbrev pub IsFirstShort : Extent → List ℕ → ℕ → Type 0
IsFirstShort extent image lsn =
    (i : ℕ) × (i < block_count extent) × (lsn ≡ block_lsn extent i) × (HasLongBlock extent image lsn → ⊥)
    × HasLongBlocks extent image i

-- in bytes from the lsn `start` on comes, after groups that fit, at this lsn no group that does, nor less than a whole
-- one
pub record BreaksAt (shape : Shape) (bytes : List ℕ) (start lsn : ℕ) : Type 0 where
  pub wholes : List Whole
  pub rest : List ℕ
  pub groups : AreGroups shape bytes start wholes rest
  pub no_storable : HasNoStorable shape rest
  pub no_front : IsFront rest → ⊥
  pub at : lsn ≡ last_span_end start (spans_of wholes)

-- the run's bytes up to the mark do
abbrev pub HasBadRecord : List ℕ → Extent → ℕ → Type 0
HasBadRecord image extent lsn = BreaksAt extent.shape (archived_bytes extent image) extent.start lsn

-- Nothing is restored for the lsn, for this cause. Each cause has in it that none of those before it holds.
abbrev pub RefusesRestore : List ℕ → ℕ → RestoreRefusal → Type 0
RefusesRestore image lsn Missing = IsMissing image
RefusesRestore image lsn (To l) = (extent : Extent) × HasExtent image extent × IsOutOf extent lsn × (l ≡ lsn)
RefusesRestore image lsn (Page p) =
    (extent : Extent) × HasExtent image extent × IsReachedBy extent lsn × IsFirstUnsound extent.shape image p
RefusesRestore image lsn (Block l) =
    (extent : Extent) × HasExtent image extent × IsReachedBy extent lsn
    × ((pages : List Content) × AreBasePages extent.shape image pages) × IsFirstShort extent image l
RefusesRestore image lsn (Record l) =
    (extent : Extent) × HasExtent image extent × IsReachedBy extent lsn
    × ((pages : List Content) × AreBasePages extent.shape image pages)
    × HasLongBlocks extent image (block_count extent) × HasBadRecord image extent l

-- A fair image of an archive device: each mark block whose checksum fits holds one of its whole contents since the last
-- sync.
pub record IsFairArchive (disk : Disk) (image : List ℕ) : Type 0 where
  pub possible : IsImage disk image
  pub marks : (k : ℕ) → (k ≡ 1) ⊎ (k ≡ 2) → fits_checksum (sector k image) ≡ true
      → IsWholeSector disk k (sector k image)

-- for each lsn from the start up to the mark the pages with exactly those of the groups that end at or below it
abbrev pub RestoresUpTo : ℕ → List Content → List Whole → ℕ → List ℕ → Type 0
RestoresUpTo s pages wholes mark image =
    (lsn : ℕ) → s ≤ lsn → lsn ≤ mark
    → IsRestored image lsn (length (ending_by lsn wholes)) (last_span_end s (spans_of (ending_by lsn wholes)))
    (folded pages (ending_by lsn wholes))
