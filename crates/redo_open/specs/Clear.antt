-- The log device while its blocks outside the kept range are cleared away, piece by piece.
use Rattle.std.specs.Prelude.{ℕ, ◌≡◌, ◌≤◌, ◌<◌, ◌+◌, ◌*◌, ◌%◌, List, Option, Result, OnOk}
use Rattle.model_base.specs.declared.limits.TheConstants.{BLOCK_SIZE, START_LSN, LSN_LIMIT}
use Rattle.model_device.specs.{Disk}
use Rattle.model_log.specs.{block_of, IsAtDataStart, IsLayout, IsTailPlace, place_in, ring_start, round_of, sector_of}
use Rattle.model_log.specs.declared.layout.Layout.{Layout}
use Rattle.model_log.specs.declared.layout.TheConstants.{BLOCK_HEADER, HEADER_BLOCKS, TAIL_BLOCKS}
use Rattle.model_parts.specs.{IsAtRest, IsCleared, IsClearing, IsOutside}
use Rattle.model_store.specs.{IsFairLog, IsTakenTail}
use Rattle.model_store.specs.declared.tail.Tail.{Tail}
use Rattle.redo_disk.specs.{HasCause, OnTold, Seen}
use Rattle.redo_disk.specs.declared.error.DevError.{DevError}
use Rattle.redo_open.specs.Put.{IsAtRestTo}

-- where the log blocks end on the device
abbrev pub ring_end : Layout → ℕ
ring_end layout = ring_start layout + round_of layout

-- where a run may start: after the end of a log that is read from the checkpoint on
pub record MayStart (layout : Layout) (ckpt start : ℕ) : Type 0 where
  pub is_layout : IsLayout layout
  pub aligned : ckpt % BLOCK_SIZE ≡ 0
  pub started : START_LSN ≤ ckpt
  pub small : ckpt < LSN_LIMIT
  pub place : IsAtDataStart start
  pub from : ckpt + BLOCK_HEADER ≤ start
  pub up_to : start ≤ ckpt + round_of layout + BLOCK_HEADER

-- where the tail blocks end on the device
abbrev pub TAILS_END : ℕ
TAILS_END = BLOCK_SIZE * HEADER_BLOCKS + BLOCK_SIZE * TAIL_BLOCKS

-- a tail block that isn't the one that was taken
pub record IsStale (tail : Option Tail) (k : ℕ) : Type 0 where
  pub place : IsTailPlace k
  pub not_taken : IsTakenTail tail k → ⊥

-- that of this number, where it isn't
pub record IsStaleAt (tail : Option Tail) (k j : ℕ) : Type 0 where
  pub is : j ≡ k
  pub not_taken : IsTakenTail tail k → ⊥

-- the place of a block outside the kept range that is below the lsn
abbrev pub IsRingTo : Layout → ℕ → ℕ → ℕ → ℕ → Type 0
IsRingTo layout ckpt start at k = (b : ℕ) × IsOutside layout ckpt start b × (b < at) × (k ≡ sector_of layout b)

-- a row of blocks outside the kept range, which stand side by side on the device
pub record IsPiece (layout : Layout) (ckpt start at count : ℕ) : Type 0 where
  pub aligned : at % BLOCK_SIZE ≡ 0
  pub from : block_of start ≤ at
  pub whole : count % BLOCK_SIZE ≡ 0
  pub within : at + count ≤ ckpt + round_of layout
  pub side_by_side : place_in layout at + count ≤ ring_end layout

-- in each fair image of the device it is being cleared
abbrev pub ClearsLog : Layout → ℕ → ℕ → Option Tail → List ℕ → Disk → Type 0
ClearsLog layout ckpt start tail content disk = (image : List ℕ) → IsFairLog disk image → IsClearing layout ckpt start tail content image

-- the device is at rest, and it is
pub record HasClearedLog (layout : Layout) (ckpt start : ℕ) (tail : Option Tail) (content : List ℕ) (disk : Disk) : Type 0 where
  pub rests : IsAtRest disk
  pub cleared : IsCleared layout ckpt start tail content disk.reads

-- both stages, on a device that is at rest
pub record ClearStep (layout : Layout) (ckpt start : ℕ) (tail : Option Tail) (old : Seen) (result : Result (Unit {0}) DevError) (new : Seen) : Type 0 where
  pub keeps : OnTold old.tells new.tells (λ before after. IsAtRestTo (ring_end layout) before → ClearsLog layout ckpt start tail before.reads after)
  pub ok : OnOk result (OnTold old.tells new.tells (λ before after. IsAtRestTo (ring_end layout) before
      → HasClearedLog layout ckpt start tail before.reads after))
  pub size : new.size ≡ old.size
  pub cause : HasCause old.faults new.faults result
