-- The text of a block, written field by field.
use Rattle.std.proofs.Common.{◌≡◌, ℕ, List, ◌++◌, length, ap}
use Rattle.std.specs.Int.{bytes_high_first}
use Rattle.model_base.specs.{padded_to}
use Rattle.model_log.specs.Block.{block_number, with_checksum, length_of, block_text}

-- the fields of a block and its data, one after the other, make its text
pub block_text-from : (lsn : ℕ) (content : List ℕ) (first ckpt : ℕ) (bytes : List ℕ)
    → bytes ≡ bytes_high_first 4 (block_number lsn) ++ bytes_high_first 2 (length_of (length content)) ++ bytes_high_first 2 first ++ bytes_high_first 4 ckpt ++ content
    → with_checksum (padded_to 508 bytes) ≡ block_text lsn content first ckpt
unfolding block_text
block_text-from lsn content first ckpt bytes e = ap (λ text. with_checksum (padded_to 508 text)) e
