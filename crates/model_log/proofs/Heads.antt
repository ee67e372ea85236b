-- The text of a file header, written field by field.
use Rattle.std.proofs.Common.{◌≡◌, ℕ, List, ◌++◌, ap}
use Rattle.std.specs.Int.{bytes_high_first}
use Rattle.model_base.specs.declared.shape.Shape.{Shape}
use Rattle.model_base.specs.declared.limits.TheConstants.{START_LSN}
use Rattle.model_base.specs.{padded_to}
use Rattle.model_log.specs.Block.{with_checksum}
use Rattle.model_log.specs.HeadText.{creator, format_number, head_text}
use Rattle.model_log.specs.declared.head.Format.{Format}

-- the fields of a file header
unfoldable pub head_fields : Format → Shape → List ℕ
head_fields format shape =
    bytes_high_first 4 (format_number format) ++ bytes_high_first 4 0 ++ bytes_high_first 8 START_LSN ++ creator
    ++ bytes_high_first 4 shape.page_size ++ bytes_high_first 4 shape.pages ++ bytes_high_first 4 shape.space
    ++ bytes_high_first 4 shape.log_blocks ++ bytes_high_first 4 shape.slots

-- they make its text
pub head_text-from : (format : Format) (shape : Shape) (bytes : List ℕ) → bytes ≡ head_fields format shape → with_checksum (padded_to 508 bytes) ≡ head_text format shape
unfolding head_text head_fields
head_text-from format shape bytes e = ap (λ text. with_checksum (padded_to 508 text)) e
