-- How many bytes the block at b holds for a boundary.
use Rattle.std.proofs.Common.{◌≡◌, ◌≤◌, ◌<◌, ◌+◌, ◌-◌, ◌*◌, ◌%◌, ℕ, min, List, length, take, drop, ap, refl, ◌∙◌, length-take, length-drop, arith}
use Rattle.std.proofs.lemmas.Bool.Decides.{nat_tests}
use Rattle.model_log.specs.Block.{sn_of, block_of, IsAtDataStart, length_of, length_at}
use Rattle.model_log.specs.Boundary.{IsDataLsn, stream_between, content_at}
use Rattle.model_log.specs.declared.layout.TheConstants.{BLOCK_DATA}

-- the pieces of a stream, as they are cut
pub stream_between-is : (s : ℕ) (stream : List ℕ) (low high : ℕ) → stream_between s stream low high ≡ take (sn_of high - sn_of low) (drop (sn_of low - sn_of s) stream)
unfolding stream_between
stream_between-is s stream low high = refl

pub content_at-is : (s : ℕ) (stream : List ℕ) (m b : ℕ) → content_at s stream m b ≡ stream_between s stream b (min m (b + 512))
unfolding content_at
content_at-is s stream m b = refl

pub length-stream_between : (s : ℕ) (stream : List ℕ) (low high : ℕ) → length (stream_between s stream low high) ≤ sn_of high - sn_of low
length-stream_between s stream low high =
    omega (arith, ap length (stream_between-is s stream low high), length-take (sn_of high - sn_of low) (drop (sn_of low - sn_of s) stream))

-- the piece is as long as its places tell, where the stream reaches
pub length-reached : (s : ℕ) (stream : List ℕ) (low high : ℕ) → sn_of s ≤ sn_of low → sn_of low ≤ sn_of high → sn_of high ≤ sn_of s + length stream
    → length (stream_between s stream low high) ≡ sn_of high - sn_of low
length-reached s stream low high from to reaches =
    let n : ℕ = sn_of high - sn_of low in
    let k : ℕ = sn_of low - sn_of s in
    omega (arith, ap length (stream_between-is s stream low high), length-take n (drop k stream), length-drop k stream)

-- sn_of rises
pub sn_of-rises : (low high : ℕ) → low ≤ high → sn_of low ≤ sn_of high
sn_of-rises low high below = grind (arith, nat_tests)

-- at the first data byte of a block and at the block's start the same bytes precede
pub sn_of-start : (s b : ℕ) → IsAtDataStart s → block_of s ≤ b → sn_of s ≤ sn_of b
sn_of-start s b start below = grind (arith, nat_tests)

-- where the blocks from an aligned lsn on stand among the bytes
pub sn_of-block : (from i : ℕ) → from % 512 ≡ 0 → sn_of (from + 512 * i) ≡ sn_of from + BLOCK_DATA * i
sn_of-block from i aligned = grind (arith, nat_tests)

pub sn_of-next : (b : ℕ) → b % 512 ≡ 0 → sn_of (b + 512) ≡ sn_of b + BLOCK_DATA
sn_of-next b aligned = grind (arith, nat_tests)

pub sn_of-header : (b : ℕ) → b % 512 ≡ 0 → sn_of (b + 12) ≡ sn_of b
sn_of-header b aligned = grind (arith, nat_tests)

pub content-short : (s : ℕ) (stream : List ℕ) (m b : ℕ) → b % 512 ≡ 0 → length (content_at s stream m b) ≤ BLOCK_DATA
content-short s stream m b aligned =
    let next : sn_of (b + 512) ≡ sn_of b + BLOCK_DATA = sn_of-next b aligned in
    let below : sn_of (min m (b + 512)) ≤ sn_of (b + 512) = sn_of-rises (min m (b + 512)) (b + 512) (omega arith) in
    omega (arith, ap length (content_at-is s stream m b), length-stream_between s stream b (min m (b + 512)))

-- a boundary in the block or past it
pub length_of-behind : (m b : ℕ) → IsDataLsn m → b % 512 ≡ 0 → b + 12 < m → length_of (sn_of (min m (b + 512)) - sn_of b) ≡ length_at m b
length_of-behind m b place aligned below = grind (arith, nat_tests)

pub length-boundary : (s m b : ℕ) (stream : List ℕ) → IsAtDataStart s → IsDataLsn m → b % 512 ≡ 0 → block_of s ≤ b
    → b + 12 < m → sn_of m - sn_of s ≤ length stream → length_of (length (content_at s stream m b)) ≡ length_at m b
length-boundary s m b stream start place aligned behind below reaches =
    let high : ℕ = min m (b + 512) in
    let first : sn_of s ≤ sn_of b = sn_of-start s b start behind in
    let last : sn_of high ≤ sn_of m = sn_of-rises high m (omega arith) in
    let low_high : sn_of b ≤ sn_of high = sn_of-rises b high (omega arith) in
    let count : length (content_at s stream m b) ≡ sn_of high - sn_of b
    = ap length (content_at-is s stream m b) ∙ length-reached s stream b high first low_high (omega arith) in
    ap length_of count ∙ length_of-behind m b place aligned below
