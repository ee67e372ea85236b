-- The blocks that are put lie in the header.
use Rattle.std.proofs.Common.{◌≡◌, ◌≤◌, ◌<◌, ◌+◌, ℕ, List, ◌++◌, length, ap, ◌∙◌, ⊎_elim, arith}
use Rattle.std.specs.Int.{bytes_high_first}
use Rattle.model_base.specs.{padded_to}
use Rattle.model_base.specs.declared.shape.Shape.{Shape}
use Rattle.model_base.specs.declared.limits.TheConstants.{START_LSN}
use Rattle.model_device.specs.{IsWithin}
use Rattle.model_log.specs.{checkpoint_text, head_text, log_device_length, place_in, place_of, run_format}
use Rattle.model_log.specs.declared.head.Format.{Format}
use Rattle.model_log.specs.declared.layout.Layout.{Layout}
use Rattle.model_log.specs.declared.layout.TheConstants.{HEADER_BLOCKS, RING_SIZE}
use Rattle.model_log.specs.HeadText.{creator, format_number}
use Rattle.model_log.proofs.Sealed.{length-padded, length-sealed}
use Rattle.model_parts.proofs.LogImages.{place-cases}
use Rattle.redo_open.specs.Put.{block_write}

pub length-checkpoint : (number lsn : ℕ) (layout : Layout) → length (checkpoint_text number lsn layout) ≡ 512
unfolding checkpoint_text
length-checkpoint number lsn layout =
    let fields : List ℕ = bytes_high_first 8 number ++ bytes_high_first 8 lsn ++ bytes_high_first 8 (place_in layout lsn) ++ bytes_high_first 8 RING_SIZE in
    length-sealed (padded_to 508 fields) ∙ ap (λ n. n + 4) (length-padded fields (omega arith))

pub length-head : (format : Format) (shape : Shape) → length (head_text format shape) ≡ 512
unfolding head_text
length-head format shape =
    let fields : List ℕ = bytes_high_first 4 (format_number format) ++ bytes_high_first 4 0 ++ bytes_high_first 8 START_LSN ++ creator
    ++ bytes_high_first 4 shape.page_size ++ bytes_high_first 4 shape.pages ++ bytes_high_first 4 shape.space
    ++ bytes_high_first 4 shape.log_blocks ++ bytes_high_first 4 shape.slots in
    length-sealed (padded_to 508 fields) ∙ ap (λ n. n + 4) (length-padded fields (omega arith))

pub header-place : (number : ℕ) → (1 ≤ place_of number) × (place_of number < HEADER_BLOCKS)
header-place number = ⊎_elim (λ e. (omega (arith, e.0), omega (arith, e.0))) (λ o. (omega (arith, o.0), omega (arith, o.0))) (place-cases number)

pub checkpoint-within : (shape : Shape) (number lsn : ℕ) (layout : Layout) → IsWithin (log_device_length shape) (block_write (place_of number) (checkpoint_text number lsn layout))
checkpoint-within shape number lsn layout =
    let long : length (checkpoint_text number lsn layout) ≡ 512 = length-checkpoint number lsn layout in
    omega (arith, long, (header-place number).1)

pub head-within : (shape : Shape) (k : ℕ) → k < HEADER_BLOCKS → IsWithin (log_device_length shape) (block_write k (head_text (run_format shape) shape))
head-within shape k low =
    let long : length (head_text (run_format shape) shape) ≡ 512 = length-head (run_format shape) shape in
    omega (arith, long, low)
