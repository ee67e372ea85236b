-- The first offsets of a run's blocks fit the blocks that are cut from the run's bytes.
use Rattle.std.proofs.Common.{◌≡◌, ◌≤◌, ◌<◌, ◌+◌, ◌-◌, ◌*◌, ◌/◌, ◌%◌, ℕ, suc, min, List, [], ◌∷◌, length, get_or, drop, refl, sym, ap, subst, ◌∙◌, ⊎_elim, length-take, length-drop, arith, IsTrue}
use Rattle.std.proofs.lemmas.Bool.{cases_lt}
use Rattle.model_log.specs.declared.group.Whole.{Whole}
use Rattle.model_log.specs.declared.layout.TheConstants.{BLOCK_DATA}
use Rattle.model_log.specs.{block_of, first_at, groups_of, is_first, IsAtDataStart, IsGivenTo, IsRunOf, length_at, length_of, sn_of, spans_of, stream_of}
use Rattle.model_log.proofs.Runs.{IsReached, boundary-reached, data-start}
use Rattle.model_log.proofs.Crossings.{TellsFirst, first-tells}
use Rattle.model_log.proofs.BoundaryLengths.{sn_of-rises, sn_of-start, sn_of-block, length-stream_between, length-reached, length_of-behind}
use Rattle.model_log.proofs.BoundaryRound.{first-fits}
use Rattle.model_log.proofs.CutStream.{count-below, some-below, least-count}
use Rattle.redo_block.specs.Framing.{AreFirsts}
use Rattle.redo_block.proofs.Framings.{some-length}

-- the k-th block of so many bytes has some, and the first offset fits it
record FitsAt (count k first : ℕ) : Type 0 where
  some : BLOCK_DATA * k < count
  fits : IsTrue (is_first (length_of (min BLOCK_DATA (count - BLOCK_DATA * k))) first)

none-left : (stream : List ℕ) → length stream ≤ 0 → stream ≡ []
none-left [] none = refl
none-left (byte ∷ stream) none = absurd (omega arith)

next-fits : (count k first : ℕ) → FitsAt count (suc k) first → FitsAt (count - BLOCK_DATA) k first
next-fits count k first here =
    let left : count - BLOCK_DATA * suc k ≡ count - BLOCK_DATA - BLOCK_DATA * k = omega arith in
    record {
      some = omega (arith, here.some);
      fits = subst (λ (rest : ℕ). IsTrue (is_first (length_of (min BLOCK_DATA rest)) first)) left here.fits;
    }

-- where each block's first offset fits it, they fit the stream
all-fit : (stream firsts : List ℕ) → ((k : ℕ) → k < length firsts → FitsAt (length stream) k (get_or firsts k 0)) → length stream ≤ BLOCK_DATA * length firsts → AreFirsts stream firsts
all-fit stream [] each whole = none-left stream whole
all-fit stream (first ∷ firsts) each whole =
    let here : FitsAt (length stream) 0 first = each 0 (omega arith) in
    let rest : length (drop BLOCK_DATA stream) ≡ length stream - BLOCK_DATA = length-drop BLOCK_DATA stream in
    let some : 0 < length stream = omega (arith, here.some) in
    let all : length stream - BLOCK_DATA * 0 ≡ length stream = omega arith in (
      some-length stream some,
      subst (λ (count : ℕ). IsTrue (is_first (length_of count) first)) (ap (min BLOCK_DATA) all ∙ sym (length-take BLOCK_DATA stream)) here.fits,
      all-fit (drop BLOCK_DATA stream) firsts
          (λ k below. subst (λ (count : ℕ). FitsAt count k (get_or firsts k 0)) (sym rest) (next-fits (length stream) k (get_or firsts k 0) (each (suc k) (omega arith))))
          (omega arith),
    )

-- so many bytes, from an aligned lsn on, does the block have that begins below the boundary
first-of_block : (s from m k : ℕ) (wholes : List Whole) → IsAtDataStart s → IsRunOf s wholes → IsReached s wholes m → block_of s ≤ from → from % 512 ≡ 0
    → (bytes firsts : List ℕ) → IsGivenTo s wholes from m bytes firsts → k < length firsts
    → IsTrue (is_first (length_of (min BLOCK_DATA (sn_of m - sn_of from - BLOCK_DATA * k))) (get_or firsts k 0))
first-of_block s from m k wholes start run reached low aligned bytes firsts given below =
    let b : ℕ = from + 512 * k in
    let first : ℕ = first_at s (spans_of wholes) b in
    let whole : b % 512 ≡ 0 = omega arith in
    let some : b + 12 < m = some-below from m k aligned (count-below from m k aligned (subst (λ (n : ℕ). k < n) given.count below)) in
    let here : sn_of b ≡ sn_of from + BLOCK_DATA * k = sn_of-block from k aligned in
    let rest : sn_of m - sn_of from - BLOCK_DATA * k ≡ sn_of m - sn_of b = omega arith in
    let tells : TellsFirst s wholes b first = first-tells s wholes b start run whole (omega arith) in
    let long : length_of (min BLOCK_DATA (sn_of m - sn_of from - BLOCK_DATA * k)) ≡ length_at m b
    = ap (λ n. length_of (min BLOCK_DATA n)) rest ∙ ap length_of (least-count m b whole) ∙ length_of-behind m b reached.place whole some in
    subst (λ (n : ℕ). IsTrue (is_first (length_of (min BLOCK_DATA (sn_of m - sn_of from - BLOCK_DATA * k))) n)) (sym (given.firsts_are k below))
    (subst (λ (n : ℕ). IsTrue (is_first n first)) (sym long) (first-fits s wholes m b first tells given.boundary some))

all-of : (count blocks : ℕ) → blocks ≡ (count + 495) / BLOCK_DATA → count ≤ BLOCK_DATA * blocks
all-of count blocks is = omega arith

-- the bytes that a writer is given are as many as their places tell
pub length-given : (s from m : ℕ) (wholes : List Whole) → IsAtDataStart s → IsRunOf s wholes → block_of s ≤ from → (bytes firsts : List ℕ)
    → IsGivenTo s wholes from m bytes firsts → length bytes ≡ sn_of m - sn_of from
length-given s from m wholes start run low bytes firsts given =
    let reached : IsReached s wholes m = boundary-reached s wholes m (data-start s start) run given.boundary in
    let stream : List ℕ = stream_of (groups_of wholes) in
    ⊎_elim (λ none.
    let rises : sn_of m ≤ sn_of from = sn_of-rises m from (omega arith) in
    omega (arith, ap length given.bytes_are, length-stream_between s stream from m))
    (λ some. ap length given.bytes_are
    ∙ length-reached s stream from m (sn_of-start s from start low) (sn_of-rises from m some) reached.reaches)
    (cases_lt m from)

pub run-firsts_fit : (s from m : ℕ) (wholes : List Whole) (bytes firsts : List ℕ) → IsAtDataStart s → IsRunOf s wholes → block_of s ≤ from → from % 512 ≡ 0
    → IsGivenTo s wholes from m bytes firsts → AreFirsts bytes firsts
run-firsts_fit s from m wholes bytes firsts start run low aligned given =
    let reached : IsReached s wholes m = boundary-reached s wholes m (data-start s start) run given.boundary in
    let count : length bytes ≡ sn_of m - sn_of from = length-given s from m wholes start run low bytes firsts given in
    let block : block_of from ≡ from = omega arith in
    let blocks : length firsts ≡ (sn_of m - sn_of from + 495) / BLOCK_DATA = given.count ∙ ap (λ n. (sn_of m - sn_of n + 495) / BLOCK_DATA) block in
    all-fit bytes firsts
    (λ k below. subst (λ (n : ℕ). FitsAt n k (get_or firsts k 0)) (sym count) (record {
      some = count-below from m k aligned (subst (λ (n : ℕ). k < n) given.count below);
      fits = first-of_block s from m k wholes start run reached low aligned bytes firsts given below;
    }))
    (subst (λ (n : ℕ). n ≤ BLOCK_DATA * length firsts) (sym count) (all-of (sn_of m - sn_of from) (length firsts) blocks))
