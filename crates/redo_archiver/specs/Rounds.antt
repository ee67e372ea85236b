-- How far the archiver's place may come.
use Rattle.std.specs.Prelude.{ℕ, ◌-◌, ◌*◌, ◌^◌}
use Rattle.model_base.specs.declared.limits.TheConstants.{BLOCK_SIZE}
use Rattle.model_core.specs.declared.steps.ReaderStep.{ReaderStep}
use Rattle.model_core.specs.declared.steps.ReaderStep.TheVariants as reader_step

-- The last block at which it may stand: while it has a block to append that is the last but one of 64-bit lsns, since
-- it asks for a mark behind that block.
abbrev pub last_block : ReaderStep → ℕ
last_block reader_step.LoadFlushed = 2 ^ 64 - BLOCK_SIZE
last_block reader_step.StorePlace = 2 ^ 64 - BLOCK_SIZE
last_block reader_step.Failed = 2 ^ 64 - BLOCK_SIZE
last_block _ = 2 ^ 64 - 2 * BLOCK_SIZE
