-- The stream of a run cut into log blocks. The run starts at the lsn s, at the first data byte of a block; its stream is
-- the bytes of its pieces, of which spans tell where each starts and ends.
use Rattle.std.specs.Prelude.{ℕ, ◌≡◌, ◌≤◌, ◌<◌, ◌+◌, ◌-◌, ◌*◌, ◌%◌, ◌^◌, ◌==◌, ◌&&◌, min, nat_lt, if◌then◌else◌, Bool, List, [], ◌∷◌, length, take, drop, get_or, Option, Some, None}
use Rattle.model_base.specs.declared.limits.TheConstants.{BLOCK_SIZE}
use Rattle.model_log.specs.Group.{groups_of, stream_of, Span, IsBoundary, spans_of}
use Rattle.model_log.specs.declared.group.Whole.{Whole}
use Rattle.model_log.specs.Block.{sn_of, block_of, block_text, blocks_between}
use Rattle.model_log.specs.declared.layout.TheConstants.{BLOCK_HEADER, BLOCK_DATA_END}

-- the stream's bytes from the lsn low on and below the lsn high; its first byte has the lsn s
unfoldable pub stream_between : ℕ → List ℕ → ℕ → ℕ → List ℕ
stream_between s stream low high = take (sn_of high - sn_of low) (drop (sn_of low - sn_of s) stream)

-- the bytes that the block at b holds of those below m: all of them, or those up to the block's end
unfoldable pub content_at : ℕ → List ℕ → ℕ → ℕ → List ℕ
content_at s stream m b = stream_between s stream b (min m (b + BLOCK_SIZE))

-- the piece ends in the block at b and starts in an earlier one
abbrev pub ends_in : ℕ → Span → Bool
ends_in b span = block_of span.end == b && nat_lt (block_of span.start) b

-- the end of the one piece that does
abbrev pub crossing_end : ℕ → List Span → Option ℕ
crossing_end b [] = None
crossing_end b (span ∷ spans) = if ends_in b span then Some span.end else crossing_end b spans

-- Where the first piece of the block at b starts, as an offset in it: at the first data byte in the run's first
-- block; after the piece that crosses into it; and else nowhere, which is 0.
unfoldable pub first_at : ℕ → List Span → ℕ → ℕ
first_at s spans b =
    if b == block_of s then BLOCK_HEADER else elim (crossing_end b spans) [ None ↦ 0 | Some end ↦ end - b ]

-- The 512 bytes are the block at b of the stream below m, which reaches it. Which checkpoint it names is free.
pub record IsBlockBelow (s : ℕ) (stream : List ℕ) (spans : List Span) (m b : ℕ) (bytes : List ℕ) : Type 0 where
  pub aligned : b % BLOCK_SIZE ≡ 0
  pub from : block_of s ≤ b
  pub reached : b + BLOCK_HEADER ≤ m
  pub ckpt : ℕ
  pub ckpt_small : ckpt < 2 ^ 32
  pub block : bytes ≡ block_text b (content_at s stream m b) (first_at s spans b) ckpt

-- the same for a run of groups, of which m is a boundary
abbrev pub IsBoundaryBlock : ℕ → List Whole → ℕ → ℕ → List ℕ → Type 0
IsBoundaryBlock s wholes m b bytes = IsBlockBelow s (stream_of (groups_of wholes)) (spans_of wholes) m b bytes

-- What a writer hands over, from the block at `from` on: the run's bytes below one of its boundaries, and the first
-- offset of each block that holds one of them.
pub record IsGivenTo (s : ℕ) (wholes : List Whole) (from mark : ℕ) (bytes firsts : List ℕ) : Type 0 where
  pub boundary : IsBoundary s (spans_of wholes) mark
  pub bytes_are : bytes ≡ stream_between s (stream_of (groups_of wholes)) from mark
  pub count : length firsts ≡ blocks_between from mark
  pub firsts_are : (i : ℕ) → i < length firsts → get_or firsts i 0 ≡ first_at s (spans_of wholes) (from + BLOCK_SIZE * i)

-- the lsn is the place of a byte of a group
abbrev pub IsDataLsn : ℕ → Type 0
IsDataLsn lsn = (BLOCK_HEADER ≤ lsn % BLOCK_SIZE) × (lsn % BLOCK_SIZE < BLOCK_DATA_END)
