-- Where things stand on a log device: the file header in block 0, a checkpoint of even number in block 1, one of odd
-- number in block 3, and then the log blocks, side by side in a ring that the log goes round. In formats 2 and 3 the
-- header stands in block 2 as well, and two tail blocks stand before the ring, which is so much shorter.
-- The first block of a log device, the file header: format (4 bytes), zero (4), start lsn (8), creator (32), then this
-- project's own fields, page size (4), pages (4), space id (4), log blocks (4), doublewrite slots (4), zeros, and the
-- checksum. The first three fields and the creator are InnoDB's.
-- A checkpoint block: number (8 bytes), lsn (8), the device offset of that lsn (8), the log buffer's size (8), zeros,
-- and the checksum. InnoDB's LOG_CHECKPOINT_1 and LOG_CHECKPOINT_2 take turns by the number's parity.
use Rattle.std.specs.Prelude.{ℕ, ◌+◌, ◌-◌, ◌*◌, ◌%◌, List, take, drop, ◌==◌, ◌&&◌, if◌then◌else◌, Bool, Option, Some, None, nat_le, nat_lt, ◌++◌}
use Rattle.model_base.specs.declared.shape.Shape.{Shape}
use Rattle.model_base.specs.declared.limits.TheConstants.{BLOCK_SIZE, START_LSN, SLOTS, LSN_LIMIT}
use Rattle.model_log.specs.Block.{block_of, fits_checksum, with_checksum}
use Rattle.model_log.specs.declared.head.Format.{Format}
use Rattle.model_log.specs.declared.head.Format.TheVariants.{One, Two, Three}
use Rattle.model_log.specs.declared.layout.Layout.{Layout}
use Rattle.model_log.specs.declared.layout.TheConstants.{HEADER_BLOCKS, TAIL_BLOCKS, BLOCK_DATA_END, RING_SIZE}
use Rattle.model_base.specs.{field, has_early_sizes, has_sizes, is_within_limits, padded_to}
use Rattle.model_log.specs.declared.head.Head.{Head}
use Rattle.model_log.specs.declared.head.Head.TheVariants.{Good, OtherFormat, Unformatted}
use Rattle.std.specs.Int.{bytes_high_first}

-- the layout of a store of this format and shape: its format is the one of the log
abbrev pub layout_of : Format → Shape → Layout
layout_of One shape = record { format = One; first = HEADER_BLOCKS; blocks = shape.log_blocks }
layout_of format shape = record { format = Two; first = HEADER_BLOCKS + TAIL_BLOCKS; blocks = shape.log_blocks - TAIL_BLOCKS }

-- that of each run
abbrev pub run_layout : Shape → Layout
run_layout shape = layout_of Two shape

-- where the ring starts, in bytes of the device, and how many bytes it has
abbrev pub ring_start : Layout → ℕ
ring_start layout = BLOCK_SIZE * layout.first

abbrev pub round_of : Layout → ℕ
round_of layout = BLOCK_SIZE * layout.blocks

-- where the block of an lsn stands, in bytes of the device: one round on it is the same place
abbrev pub place_in : Layout → ℕ → ℕ
place_in layout lsn = ring_start layout + (block_of lsn - START_LSN) % round_of layout

-- the 512 bytes at a device offset
abbrev pub sector_at : ℕ → List ℕ → List ℕ
sector_at at image = take BLOCK_SIZE (drop at image)

abbrev pub header_block : ℕ → List ℕ → List ℕ
header_block which image = sector_at (BLOCK_SIZE * which) image

-- the 512 bytes in which the block of the lsn stands
unfoldable pub log_block : Layout → ℕ → List ℕ → List ℕ
log_block layout lsn image = sector_at (place_in layout lsn) image

-- the other one of the two tail blocks
abbrev pub other_tail : ℕ → ℕ
other_tail k = 2 * HEADER_BLOCKS + 1 - k

-- how long a log device has to be, in each format
abbrev pub log_device_length : Shape → ℕ
log_device_length shape = BLOCK_SIZE * HEADER_BLOCKS + BLOCK_SIZE * shape.log_blocks

abbrev pub format_of : ℕ → Option Format
format_of number =
    if number == 1 then Some One else (if number == 2 then Some Two else (if number == 3 then Some Three else None))

-- whether these are sizes of a store of this format
abbrev pub has_sizes_of : Format → Shape → Bool
has_sizes_of Three shape = has_sizes shape
has_sizes_of format shape = has_early_sizes shape

-- the format of a header for this shape, once opening has taken a store of format 1 to format 2
abbrev pub run_format : Shape → Format
run_format shape = if shape.slots == SLOTS then Three else Two

-- the sizes that the fields of a header name
abbrev pub shape_of : List ℕ → Shape
shape_of bytes = record {
  page_size = field 4 48 bytes;
  pages = field 4 52 bytes;
  space = field 4 56 bytes;
  log_blocks = field 4 60 bytes;
  slots = field 4 64 bytes;
}

-- what a header says whose checksum and format are good
abbrev pub good_head : Format → List ℕ → Head
good_head format bytes =
    if field 8 8 bytes == START_LSN && is_within_limits (shape_of bytes) && has_sizes_of format (shape_of bytes)
    then Good format (shape_of bytes)
    else Unformatted

-- What 512 bytes say as a file header: the checksum first, then the format, then the start lsn and the sizes, which
-- are of the format. The creator and the zeros aren't read.
unfoldable pub read_head : List ℕ → Head
read_head bytes =
    if fits_checksum bytes
    then elim (format_of (field 4 0 bytes)) [ None ↦ OtherFormat (field 4 0 bytes) | Some format ↦ good_head format bytes ]
    else Unformatted

-- what the two header blocks say together: the first of them, or the second where the first one's checksum fails
abbrev pub head_among : List ℕ → List ℕ → Head
head_among first second = if fits_checksum first then read_head first else read_head second

-- what a log device says in blocks 0 and 2
abbrev pub head_of : List ℕ → Head
head_of image = head_among (header_block 0 image) (header_block 2 image)

-- which header block a checkpoint stands in: 1 where its number is even, 3 where it is odd
abbrev pub place_of : ℕ → ℕ
place_of number = if number % 2 == 0 then 1 else 3

-- the block of the checkpoint of this number at this lsn
unfoldable pub checkpoint_text : ℕ → ℕ → Layout → List ℕ
checkpoint_text number lsn layout =
    with_checksum (padded_to BLOCK_DATA_END (bytes_high_first 8 number ++ bytes_high_first 8 lsn
    ++ bytes_high_first 8 (place_in layout lsn) ++ bytes_high_first 8 RING_SIZE))

-- the fields of 512 bytes fit those of a checkpoint in header block `which`; the buffer's size isn't read
abbrev pub is_checkpoint : ℕ → Layout → List ℕ → Bool
is_checkpoint which layout bytes =
    fits_checksum bytes && place_of (field 8 0 bytes) == which
    && field 8 8 bytes % BLOCK_SIZE == 0 && nat_le START_LSN (field 8 8 bytes) && nat_lt (field 8 8 bytes) LSN_LIMIT
    && field 8 16 bytes == place_in layout (field 8 8 bytes)

-- the number and the lsn of the checkpoint in header block `which`; nothing where it doesn't pass
unfoldable pub read_checkpoint : ℕ → Layout → List ℕ → Option (ℕ × ℕ)
read_checkpoint which layout bytes =
    if is_checkpoint which layout bytes then Some (field 8 0 bytes, field 8 8 bytes) else None

-- of two checkpoints the one with the greater number
abbrev pub newer : Option (ℕ × ℕ) → Option (ℕ × ℕ) → Option (ℕ × ℕ)
newer None second = second
newer (Some first) None = Some first
newer (Some first) (Some second) = if nat_lt first.0 second.0 then Some second else Some first

-- the number and the lsn of the newest checkpoint that passes
abbrev pub newest_checkpoint : Layout → List ℕ → Option (ℕ × ℕ)
newest_checkpoint layout image =
    newer (read_checkpoint 1 layout (header_block 1 image)) (read_checkpoint 3 layout (header_block 3 image))
