-- The lsn of a byte of the stream: blocks have 512 bytes, of which 496 are of the stream. The word of a link buffer's tail:
-- twice the tail, and 1 more while an actor holds it. The eight byte lanes of a word: lane j is worth 256^j, and the byte of an
-- lsn stands in the word of its eight, in the lane of its place there.
use Rattle.std.specs.Prelude.{ℕ, ◌%◌, ◌+◌, ◌-◌, Bool, cond, ◌*◌, ◌/◌, ◌==◌, min, List, replicate, ◌++◌}
use Rattle.model_base.specs.declared.limits.TheConstants.{BLOCK_SIZE}
use Rattle.model_log.specs.{lsn_of}
use Rattle.model_core.specs.declared.limits.TheConstants.{BUFFER_WORDS, WORD_LANES}
use Rattle.model_log.specs.declared.layout.TheConstants.{BLOCK_DATA}
use Rattle.std.specs.Int.{from_le_bytes, w64, bytes_low_first}

unfoldable pub lsn : ℕ → ℕ
lsn n = lsn_of n

-- the lsn at which its block begins
abbrev pub floor : ℕ → ℕ
floor n = n - n % BLOCK_SIZE

-- the lsn rounded up to a block
abbrev pub ceiling : ℕ → ℕ
ceiling n = floor (n + (BLOCK_SIZE - 1))

abbrev pub tail_word : ℕ → Bool → ℕ
tail_word tail held = 2 * tail + cond held 1 0

abbrev pub tail_of : ℕ → ℕ
tail_of word = word / 2

abbrev pub is_held : ℕ → Bool
is_held word = word % 2 == 1

-- of a place of the stream: the word of the log buffer in which its byte stands, and the lane there
abbrev pub cell_of : ℕ → ℕ
cell_of x = lsn x / WORD_LANES % BUFFER_WORDS

abbrev pub lane_of : ℕ → ℕ
lane_of x = lsn x % WORD_LANES

-- how many bytes of the stream stand in its word from there on: up to the end of the word, or of the block's data
abbrev pub left_in_word : ℕ → ℕ
left_in_word x = min (WORD_LANES - lane_of x) (BLOCK_DATA - x % BLOCK_DATA)

-- what stands in so many lanes of a word, from a lane on
unfoldable pub lanes : ℕ → ℕ → ℕ → List ℕ
lanes j n word = bytes_low_first j n word

-- the word that has these bytes in its lanes from a lane on, and 0 in its others
unfoldable pub packed : ℕ → List ℕ → ℕ
packed j bytes = from_le_bytes w64 (replicate j 0 ++ bytes)
