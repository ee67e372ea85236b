-- What is asked of the log part before a call.
use Rattle.std.specs.Prelude.{ℕ, ◌≡◌, ◌≤◌, ◌<◌, ◌+◌, ◌-◌, ◌%◌, ◌^◌, List, length, None}
use Rattle.model_base.specs.declared.shape.Shape.{Shape}
use Rattle.model_base.specs.declared.limits.TheConstants.{BLOCK_SIZE, START_LSN, MIN_LOG_BLOCKS, MAX_LOG_BLOCKS}
use Rattle.model_log.specs.{block_of, IsDataLsn, IsTailPlace, log_device_length, round_of, run_layout, sn_of}
use Rattle.model_log.specs.declared.layout.TheConstants.{RING_SIZE}
use Rattle.model_parts.specs.declared.marks.LogMarks.{LogMarks}
use Rattle.model_parts.specs.declared.marks.TailMarks.{TailMarks}
use Rattle.redo_block.specs.{AreFirsts}
use Rattle.redo_logdev.specs.Part.{Part}

-- What may be given to `read_block`: the lsn of any block of a log.
pub record MayRead {L : Type 0} (part : Part L) (lsn : ℕ) : Type 0 where
  pub live : part.failed ≡ None
  pub aligned : lsn % BLOCK_SIZE ≡ 0
  pub started : START_LSN ≤ lsn

-- the part has these marks
pub record HasMarks {L : Type 0} (part : Part L) (log : LogMarks) (tail : TailMarks) : Type 0 where
  pub marks : part.marks ≡ log
  pub tails : part.tails ≡ tail

-- what holds of each part, whatever its device tells
pub record IsSoundLogPart (size : ℕ) (shape : Shape) (marks : LogMarks) (tails : TailMarks) (room_for : ℕ) : Type 0 where
  pub many_blocks : MIN_LOG_BLOCKS ≤ shape.log_blocks
  pub few_blocks : shape.log_blocks ≤ MAX_LOG_BLOCKS
  pub long : log_device_length shape ≤ size
  pub buffer : room_for ≡ RING_SIZE
  pub tail : IsTailPlace tails.tail
  pub newest : IsTailPlace tails.newest
  pub written_place : IsDataLsn marks.written
  pub ckpt_aligned : marks.ckpt % BLOCK_SIZE ≡ 0
  pub ckpt_started : START_LSN ≤ marks.ckpt
  pub ckpt_asked : marks.ckpt ≤ marks.asked
  pub asked_stable : marks.asked ≤ marks.stable
  pub stable_written : marks.stable ≤ marks.written
  pub room : marks.written ≤ marks.ckpt + round_of (run_layout shape)
  pub small : marks.written < 2 ^ 61

-- What may be given to `write_to`: a mark that is the place of a byte, from the written one up to a round past the
-- checkpoint, and less than the ring past the block of the written one; the bytes from that block on, and a first
-- offset for each block.
pub record MayWrite {L : Type 0} (part : Part L) (mark : ℕ) (bytes firsts : List ℕ) : Type 0 where
  pub live : part.failed ≡ None
  pub place : IsDataLsn mark
  pub later : part.marks.written ≤ mark
  pub near : mark < block_of part.marks.written + RING_SIZE
  pub room : mark ≤ part.marks.ckpt + round_of (run_layout part.shape)
  pub small : mark < 2 ^ 61
  pub count : length bytes ≡ sn_of mark - sn_of (block_of part.marks.written)
  pub fit : AreFirsts bytes firsts
