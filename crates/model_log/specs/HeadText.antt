-- The text of a file header, as a store gets it.
use Rattle.std.specs.Prelude.{ℕ, List, ◌++◌, codes}
use Rattle.std.specs.Int.{bytes_high_first}
use Rattle.model_base.specs.declared.shape.Shape.{Shape}
use Rattle.model_base.specs.declared.limits.TheConstants.{START_LSN}
use Rattle.model_base.specs.{padded_to}
use Rattle.model_log.specs.Block.{with_checksum}
use Rattle.model_log.specs.declared.layout.TheConstants.{BLOCK_DATA_END}
use Rattle.model_log.specs.declared.head.Format.{Format}
use Rattle.model_log.specs.declared.head.Format.TheVariants.{One, Two, Three}

-- the number by which a header names its format
abbrev pub format_number : Format → ℕ
format_number One = 1
format_number Two = 2
format_number Three = 3

-- who made the store, in 32 bytes
abbrev pub creator : List ℕ
creator = padded_to 32 (codes "redolab 1")

-- the header of a store of this format and shape
unfoldable pub head_text : Format → Shape → List ℕ
head_text format shape =
    with_checksum (padded_to BLOCK_DATA_END (bytes_high_first 4 (format_number format) ++ bytes_high_first 4 0
    ++ bytes_high_first 8 START_LSN ++ creator
    ++ bytes_high_first 4 shape.page_size ++ bytes_high_first 4 shape.pages ++ bytes_high_first 4 shape.space
    ++ bytes_high_first 4 shape.log_blocks ++ bytes_high_first 4 shape.slots))
