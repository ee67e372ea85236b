-- What is read off the block of a boundary, and that a longer run has the same blocks below its old boundaries.
use Rattle.std.proofs.Common.{◌≡◌, ◌≤◌, ◌<◌, ◌+◌, ◌-◌, ℕ, zero, suc, min, IsTrue, List, [], ◌∷◌, ◌++◌, length, take, drop, Some, refl, sym, ap, subst, ◌∙◌, ⊎_elim, length-drop, arith}
use Rattle.std.specs.List.{All}
use Rattle.std.proofs.lemmas.List.{take-append-le}
use Rattle.std.proofs.lemmas.List.Elements.{All-take, All-drop}
use Rattle.std.proofs.lemmas.Bool.Decides.{nat_tests}
use Rattle.model_log.specs.declared.group.Whole.{Whole}
use Rattle.model_log.specs.Group.{groups_of, stream_of, IsBoundary, IsRunOf, spans_of, last_span_end, IsByte}
use Rattle.model_log.specs.Block.{sn_of, IsAtDataStart, block_text, length_of, is_first, read_block, data_of, length_at}
use Rattle.model_log.specs.Boundary.{IsDataLsn, IsBoundaryBlock, stream_between, content_at, first_at}
use Rattle.model_log.specs.declared.block.BlockView.{BlockView}
use Rattle.model_log.specs.declared.layout.TheConstants.{BLOCK_DATA}
use Rattle.model_log.proofs.BlockRound.{view-reads_back, data-reads_back}
use Rattle.model_log.proofs.BoundaryLengths.{sn_of-rises, sn_of-start, content-short, length-boundary}
use Rattle.model_log.proofs.Runs.{IsReached, boundary-reached, boundary-before_end, data-start, run-front, stream-append}
use Rattle.model_log.proofs.Crossings.{TellsFirst, first-tells, first_at-longer}

-- what is read there
pub record ReadsAs (s : ℕ) (wholes : List Whole) (m b : ℕ) (bytes : List ℕ) : Type 0 where
  pub view : BlockView
  pub read : read_block b bytes ≡ Some view
  pub length_is : view.length ≡ length_at m b
  pub first_is : view.first ≡ first_at s (spans_of wholes) b
  pub content : data_of view bytes ≡ content_at s (stream_of (groups_of wholes)) m b

starts-fit : (m b first : ℕ) → 12 ≤ first → first < 508 → b + first ≤ m → b + 12 < m → IsTrue (is_first (length_at m b) first)
starts-fit m b first some inside low more = grind (arith, nat_tests)

none-fits : (m b first : ℕ) → first ≡ 0 → IsTrue (is_first (length_at m b) first)
none-fits m b first none = subst (λ (f : ℕ). IsTrue (is_first (length_at m b) f)) (sym none) refl

-- the first offset of a block fits its length
pub first-fits : (s : ℕ) (wholes : List Whole) (m b first : ℕ) → TellsFirst s wholes b first → IsBoundary s (spans_of wholes) m → b + 12 < m → IsTrue (is_first (length_at m b) first)
first-fits s wholes m b first tells boundary some =
    ⊎_elim (λ none. none-fits m b first none.0)
    (λ starts. starts-fit m b first starts.some starts.inside (starts.least.least m boundary (omega arith)) some) tells

content-bytes : (s : ℕ) (stream : List ℕ) (m b : ℕ) → All IsByte stream → All IsByte (content_at s stream m b)
unfolding content_at stream_between
content-bytes s stream m b each = All-take IsByte (sn_of (min m (b + 512)) - sn_of b) (drop (sn_of b - sn_of s) stream) (All-drop IsByte (sn_of b - sn_of s) stream each)

pub reads-as : (s : ℕ) (wholes : List Whole) (m b : ℕ) (bytes : List ℕ) → IsAtDataStart s → IsRunOf s wholes → All IsByte (stream_of (groups_of wholes))
    → IsBoundary s (spans_of wholes) m → b + 12 < m → IsBoundaryBlock s wholes m b bytes → ReadsAs s wholes m b bytes
reads-as s wholes m b bytes start run each boundary some block =
    let stream : List ℕ = stream_of (groups_of wholes) in
    let content : List ℕ = content_at s stream m b in
    let first : ℕ = first_at s (spans_of wholes) b in
    let reached : IsReached s wholes m = boundary-reached s wholes m (data-start s start) run boundary in
    let room : length content ≤ BLOCK_DATA = content-short s stream m b block.aligned in
    let all : All IsByte content = content-bytes s stream m b each in
    let long : length_of (length content) ≡ length_at m b = length-boundary s m b stream start reached.place block.aligned block.from some (omega (arith, reached.reaches)) in
    let tells : TellsFirst s wholes b first = first-tells s wholes b start run block.aligned block.from in
    let fits : IsTrue (is_first (length_of (length content)) first) =
    subst (λ (n : ℕ). IsTrue (is_first n first)) (sym long) (first-fits s wholes m b first tells boundary some) in
    record {
      view = record { length = length_of (length content); first = first; ckpt = block.ckpt };
      read = ap (read_block b) block.block ∙ view-reads_back b content first block.ckpt room all block.ckpt_small fits;
      length_is = long;
      first_is = refl;
      content = ap (data_of (record { length = length_of (length content); first = first; ckpt = block.ckpt })) block.block
          ∙ data-reads_back b content first block.ckpt room;
    }

-- A LONGER RUN

drop-front_le : (k : ℕ) (p q : List ℕ) → k ≤ length p → drop k (p ++ q) ≡ drop k p ++ q
drop-front_le zero p q within = refl
drop-front_le (suc k) [] q within = absurd (omega arith)
drop-front_le (suc k) (x ∷ p) q within = drop-front_le k p q (omega arith)

part-front : (n k : ℕ) (p q : List ℕ) → k + n ≤ length p → take n (drop k (p ++ q)) ≡ take n (drop k p)
part-front n k p q within =
    ap (take n) (drop-front_le k p q (omega arith)) ∙ take-append-le n (drop k p) q (omega (arith, length-drop k p))

-- a longer stream has the same bytes below a place that it reached
content-longer : (s m b : ℕ) (stream more : List ℕ) → sn_of s ≤ sn_of b → b ≤ m → sn_of m ≤ sn_of s + length stream
    → content_at s stream m b ≡ content_at s (stream ++ more) m b
unfolding content_at stream_between
content-longer s m b stream more from low reaches =
    let high : ℕ = min m (b + 512) in
    let up : sn_of b ≤ sn_of high = sn_of-rises b high (omega arith) in
    let below : sn_of high ≤ sn_of m = sn_of-rises high m (omega arith) in
    sym (part-front (sn_of high - sn_of b) (sn_of b - sn_of s) stream more (omega arith))

pub block-longer : (s : ℕ) (wholes more : List Whole) (m b : ℕ) (bytes : List ℕ) → IsAtDataStart s → IsRunOf s (wholes ++ more) → IsBoundary s (spans_of wholes) m
    → IsBoundaryBlock s wholes m b bytes → IsBoundaryBlock s (wholes ++ more) m b bytes
block-longer s wholes more m b bytes start run boundary block =
    let stream : List ℕ = stream_of (groups_of wholes) in
    let place : IsDataLsn s = data-start s start in
    let old : IsRunOf s wholes = run-front s wholes more run in
    let reached : IsReached s wholes m = boundary-reached s wholes m place old boundary in
    let last : m ≤ last_span_end s (spans_of wholes) = boundary-before_end s wholes m place old boundary in
    let same_content : content_at s stream m b ≡ content_at s (stream_of (groups_of (wholes ++ more))) m b
    = content-longer s m b stream (stream_of (groups_of more)) (sn_of-start s b start block.from) (omega (arith, block.reached)) reached.reaches
    ∙ ap (λ (bytes : List ℕ). content_at s bytes m b) (sym (stream-append wholes more)) in
    let same_first : first_at s (spans_of wholes) b ≡ first_at s (spans_of (wholes ++ more)) b
    = first_at-longer s wholes more b place run block.aligned (omega (arith, block.reached)) in
    record {
      aligned = block.aligned;
      from = block.from;
      reached = block.reached;
      ckpt = block.ckpt;
      ckpt_small = block.ckpt_small;
      block = block.block ∙ ap (λ (content : List ℕ). block_text b content (first_at s (spans_of wholes) b) block.ckpt) same_content
          ∙ ap (λ (first : ℕ). block_text b (content_at s (stream_of (groups_of (wholes ++ more))) m b) first block.ckpt) same_first;
    }

-- a full block is that of each later boundary
pub block-later : (s : ℕ) (wholes : List Whole) (m n b : ℕ) (bytes : List ℕ) → b + 512 ≤ m → m ≤ n → IsBoundaryBlock s wholes m b bytes → IsBoundaryBlock s wholes n b bytes
unfolding content_at
block-later s wholes m n b bytes full later block =
    let old : min m (b + 512) ≡ b + 512 = omega arith in
    let new : min n (b + 512) ≡ b + 512 = omega arith in
    record {
      aligned = block.aligned;
      from = block.from;
      reached = omega (arith, block.reached);
      ckpt = block.ckpt;
      ckpt_small = block.ckpt_small;
      block = block.block ∙ ap (λ high. block_text b (stream_between s (stream_of (groups_of wholes)) b high) (first_at s (spans_of wholes) b) block.ckpt) (old ∙ sym new);
    }
