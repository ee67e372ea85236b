-- Two ways to count the bytes of the log. An sn counts the bytes of groups alone. An lsn counts the bytes of the log
-- blocks with their headers and trailers: InnoDB's log_translate_sn_to_lsn and log_translate_lsn_to_sn.
-- The layout of a log block of 512 bytes: number (4 bytes), data length (2), first group (2), checkpoint number (4),
-- data (496), checksum (4), the highest byte of a number first. The fields are those of InnoDB's log0log; that the fourth
-- holds the checkpoint's number, and that the flush bit isn't read, is this project's own.
use Rattle.std.specs.Prelude.{ℕ, ◌+◌, ◌-◌, ◌*◌, ◌/◌, ◌%◌, ◌^◌, ◌==◌, ◌≡◌, nat_lt, if◌then◌else◌, ◌&&◌, ◌||◌, min, nat_le, Bool, List, ◌++◌, length, take, drop, Option, Some, None, [], ◌∷◌}
use Rattle.model_base.specs.declared.limits.TheConstants.{BLOCK_SIZE}
use Rattle.model_log.specs.declared.layout.TheConstants.{BLOCK_HEADER, BLOCK_DATA, BLOCK_DATA_END}
use Rattle.std.specs.Int.{bytes_high_first}
use Rattle.model_base.specs.{crc_of, field, padded_to}
use Rattle.model_log.specs.declared.block.BlockView.{BlockView}

-- the lsn of the byte that so many bytes of groups precede
abbrev pub lsn_of : ℕ → ℕ
lsn_of sn = sn / BLOCK_DATA * BLOCK_SIZE + sn % BLOCK_DATA + BLOCK_HEADER

-- bytes of groups that a block has before this offset in it
abbrev pub data_before : ℕ → ℕ
data_before offset =
    if nat_lt offset BLOCK_HEADER then 0
    else (if nat_lt BLOCK_DATA_END offset then BLOCK_DATA else offset - BLOCK_HEADER)

-- how many bytes of groups precede the lsn
abbrev pub sn_of : ℕ → ℕ
sn_of lsn = lsn / BLOCK_SIZE * BLOCK_DATA + data_before (lsn % BLOCK_SIZE)

-- the lsn at which the block of an lsn begins
abbrev pub block_of : ℕ → ℕ
block_of lsn = lsn / BLOCK_SIZE * BLOCK_SIZE

-- the lsn of the i-th block from the checkpoint's on
abbrev pub lsn_at : ℕ → ℕ → ℕ
lsn_at ckpt i = ckpt + BLOCK_SIZE * i

-- the number of the block of an lsn: LOG_BLOCK_HDR_NO without the flush bit
abbrev pub block_number : ℕ → ℕ
block_number lsn = lsn / BLOCK_SIZE % 2 ^ 30 + 1

-- how often the numbers of blocks went round before the lsn: 2^30 blocks of 512 bytes
abbrev pub turn_of : ℕ → ℕ
turn_of lsn = lsn / 2 ^ 39

-- the lsn stands at the first data byte of a block
abbrev pub IsAtDataStart : ℕ → Type 0
IsAtDataStart lsn = lsn % BLOCK_SIZE ≡ BLOCK_HEADER

-- where a run starts after a log that ends there: at the end itself, where it stands at the first data byte of a
-- block, else at that of the next block
abbrev pub start_after : ℕ → ℕ
start_after end =
    if end % BLOCK_SIZE == BLOCK_HEADER then end else block_of end + BLOCK_SIZE + BLOCK_HEADER

-- the bytes, and then their checksum
unfoldable pub with_checksum : List ℕ → List ℕ
with_checksum bytes = bytes ++ bytes_high_first 4 (crc_of bytes)

-- the data length of a block that holds so many data bytes: a block with all its data counts as 512 bytes
abbrev pub length_of : ℕ → ℕ
length_of count = if count == BLOCK_DATA then BLOCK_SIZE else BLOCK_HEADER + count

-- the block at the lsn that holds these data bytes, has this first offset, and was written under this checkpoint
unfoldable pub block_text : ℕ → List ℕ → ℕ → ℕ → List ℕ
block_text lsn content first ckpt =
    with_checksum (padded_to BLOCK_DATA_END (bytes_high_first 4 (block_number lsn)
    ++ bytes_high_first 2 (length_of (length content)) ++ bytes_high_first 2 first ++ bytes_high_first 4 ckpt
    ++ content))

-- what the fields of 512 bytes say
abbrev pub block_view : List ℕ → BlockView
block_view bytes = record { length = field 2 4 bytes; first = field 2 6 bytes; ckpt = field 4 8 bytes }

-- the number, without the flush bit, is that of the lsn
abbrev pub fits_number : ℕ → List ℕ → Bool
fits_number lsn bytes = field 4 0 bytes % 2 ^ 31 == block_number lsn

-- a block's data ends within its data bytes, or the block is full; this refuses the encryption bit too
abbrev pub is_length : ℕ → Bool
is_length length = (nat_le BLOCK_HEADER length && nat_lt length BLOCK_DATA_END) || length == BLOCK_SIZE

-- there is no first group, or it begins among the data that is in use
abbrev pub is_first : ℕ → ℕ → Bool
is_first length first = first == 0 || (nat_le BLOCK_HEADER first && nat_le first (min length (BLOCK_DATA_END - 1)))

-- the last four bytes of the block are the checksum of those before
abbrev pub fits_checksum : List ℕ → Bool
fits_checksum bytes = field 4 BLOCK_DATA_END bytes == crc_of (take BLOCK_DATA_END bytes)

-- the 512 bytes are a block of the lsn
unfoldable pub is_block_at : ℕ → List ℕ → Bool
is_block_at lsn bytes =
    let view : BlockView = block_view bytes in
    fits_number lsn bytes && is_length view.length && is_first view.length view.first && fits_checksum bytes

-- what is read off 512 bytes at an lsn: nothing where they are no block of it
unfoldable pub read_block : ℕ → List ℕ → Option BlockView
read_block lsn bytes = if is_block_at lsn bytes then Some (block_view bytes) else None

-- the block's data is all in use
abbrev pub is_full : BlockView → Bool
is_full view = view.length == BLOCK_SIZE

-- the data bytes in use of a block that was read
abbrev pub data_of : BlockView → List ℕ → List ℕ
data_of view bytes = take (min view.length BLOCK_DATA_END - BLOCK_HEADER) (drop BLOCK_HEADER bytes)

-- the data length of the block at b: 512 where m is at or above the first data byte of the next block
abbrev pub length_at : ℕ → ℕ → ℕ
length_at m b = if nat_le (b + BLOCK_SIZE + BLOCK_HEADER) m then BLOCK_SIZE else m - b

-- how many blocks, from that of the lsn low on, hold a byte below the lsn high
abbrev pub blocks_between : ℕ → ℕ → ℕ
blocks_between low high = (sn_of high - sn_of (block_of low) + (BLOCK_DATA - 1)) / BLOCK_DATA

-- The blocks of a stream from a data start on, with a first offset for each block, of which there are as many as the
-- stream fills: the form in which a writer makes them.
abbrev pub framed : List ℕ → ℕ → List ℕ → ℕ → List ℕ
framed stream from [] ckpt = []
framed stream from (first ∷ firsts) ckpt =
    block_text from (take BLOCK_DATA stream) first ckpt ++ framed (drop BLOCK_DATA stream) (from + BLOCK_SIZE) firsts ckpt
