-- Which layouts there are, and which blocks of the log stand on the device.
use Rattle.std.specs.Prelude.{ℕ, ◌≡◌, ◌≤◌, ◌<◌, ◌+◌, ◌/◌, ◌%◌, ◌⊎◌}
use Rattle.model_base.specs.declared.limits.TheConstants.{BLOCK_SIZE, MAX_LOG_BLOCKS, MIN_LOG_BLOCKS}
use Rattle.model_log.specs.declared.layout.Layout.{Layout}
use Rattle.model_log.specs.declared.layout.TheConstants.{HEADER_BLOCKS, TAIL_BLOCKS}
use Rattle.model_log.specs.Device.{place_in, round_of}

-- what a layout is for sizes within the limits
pub record IsLayout (layout : Layout) : Type 0 where
  pub after_header : HEADER_BLOCKS ≤ layout.first
  pub few_before : layout.first ≤ HEADER_BLOCKS + TAIL_BLOCKS
  pub many_blocks : MIN_LOG_BLOCKS ≤ layout.blocks + TAIL_BLOCKS
  pub few_blocks : layout.blocks ≤ MAX_LOG_BLOCKS

-- in which sector of the device the block of an lsn stands
abbrev pub sector_of : Layout → ℕ → ℕ
sector_of layout lsn = place_in layout lsn / BLOCK_SIZE

-- the lsn of a block that stands on the device for the checkpoint at this lsn: from there up to one round on
pub record IsInRound (layout : Layout) (ckpt b : ℕ) : Type 0 where
  pub aligned : b % BLOCK_SIZE ≡ 0
  pub from : ckpt ≤ b
  pub below : b < ckpt + round_of layout

-- a tail block has one of these numbers
abbrev pub IsTailPlace : ℕ → Type 0
IsTailPlace k = (k ≡ HEADER_BLOCKS) ⊎ (k ≡ HEADER_BLOCKS + 1)
