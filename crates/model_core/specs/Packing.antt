-- The bytes of a word, one by one.
use Rattle.std.specs.Prelude.{List, slice_index, ℕ, ◌++◌, [], take, ◌∷◌}
use Rattle.std.specs.Int.{byte_at}
use Rattle.model_core.specs.Lanes.{cell_of, lane_of, lanes}
use Rattle.model_core.specs.declared.limits.TheConstants.{WORD_LANES}

-- the bytes of a frame's words, in turn
abbrev pub frame_bytes : List ℕ → List ℕ
frame_bytes [] = []
frame_bytes (w ∷ ws) = lanes 0 WORD_LANES w ++ frame_bytes ws

-- the page of so many bytes that a frame holds: the first of those
abbrev pub framed_page : ℕ → List ℕ → List ℕ
framed_page n frame = take n (frame_bytes frame)

-- what stands in a lane of a word
unfoldable pub lane : ℕ → ℕ → ℕ
lane j word = byte_at j word

-- what stands there
abbrev pub byte_in : List ℕ → ℕ → ℕ
byte_in cells x = lane (lane_of x) (slice_index cells (cell_of x))
