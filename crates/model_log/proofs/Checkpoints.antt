-- The text of a checkpoint block, written field by field.
use Rattle.std.proofs.Common.{◌≡◌, ℕ, List, ◌++◌, ap}
use Rattle.std.specs.Int.{bytes_high_first}
use Rattle.model_base.specs.{padded_to}
use Rattle.model_log.specs.Device.{place_in, checkpoint_text}
use Rattle.model_log.specs.Block.{with_checksum}
use Rattle.model_log.specs.declared.layout.Layout.{Layout}
use Rattle.model_log.specs.declared.layout.TheConstants.{RING_SIZE}

-- the fields of a checkpoint block
unfoldable pub checkpoint_fields : ℕ → ℕ → ℕ → List ℕ
checkpoint_fields number lsn offset =
    bytes_high_first 8 number ++ bytes_high_first 8 lsn ++ bytes_high_first 8 offset ++ bytes_high_first 8 RING_SIZE

-- they make its text
pub checkpoint_text-from : (number lsn : ℕ) (layout : Layout) (bytes : List ℕ) → bytes ≡ checkpoint_fields number lsn (place_in layout lsn) → with_checksum (padded_to 508 bytes) ≡ checkpoint_text number lsn layout
unfolding checkpoint_text checkpoint_fields
checkpoint_text-from number lsn layout bytes e = ap (λ text. with_checksum (padded_to 508 text)) e
