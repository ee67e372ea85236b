-- A stream cut into blocks, and joined again.
use Rattle.std.specs.Prelude.{ℕ, zero, suc, ◌≡◌, ◌≢◌, ◌+◌, ◌/◌, if◌then◌else◌, List, [], ◌∷◌, ◌++◌, length, take, drop, Option, Some, None, IsTrue}
use Rattle.model_base.specs.declared.limits.TheConstants.{BLOCK_SIZE}
use Rattle.model_log.specs.declared.layout.TheConstants.{BLOCK_DATA}
use Rattle.model_log.specs.declared.block.BlockView.{BlockView}
use Rattle.model_log.specs.{data_of, is_first, is_full, length_of, read_block}

-- a first offset for each block of the stream, which fits the data that the block holds
abbrev pub AreFirsts : List ℕ → List ℕ → Type 0
AreFirsts stream [] = stream ≡ []
AreFirsts stream (first ∷ firsts) =
    (stream ≢ []) × IsTrue (is_first (length_of (length (take BLOCK_DATA stream))) first)
    × AreFirsts (drop BLOCK_DATA stream) firsts

-- the data of a block, with what follows where it is full; nothing where it isn't read
abbrev pub data_with : Option BlockView → List ℕ → List ℕ → List ℕ
data_with None block others = []
data_with (Some view) block others = if is_full view then data_of view block ++ others else data_of view block

-- the data of the first n blocks, through the first that isn't full or up to the first that isn't read
unfoldable pub unframed_blocks : ℕ → List ℕ → ℕ → List ℕ
unframed_blocks zero bytes from = []
unframed_blocks (suc n) bytes from =
    data_with (read_block from (take BLOCK_SIZE bytes)) (take BLOCK_SIZE bytes)
    (unframed_blocks n (drop BLOCK_SIZE bytes) (from + BLOCK_SIZE))

-- the same for all the blocks that the bytes hold
abbrev pub unframed : List ℕ → ℕ → List ℕ
unframed bytes from = unframed_blocks (length bytes / BLOCK_SIZE) bytes from
