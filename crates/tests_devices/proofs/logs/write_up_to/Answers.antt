use Rattle.std.proofs.Common.{◌≡◌, ◌≢◌, ◌≤◌, ◌<◌, ◌+◌, ◌*◌, ◌%◌, ◌/◌, ℕ, IsTrue, List, [], ◌∷◌, length, take, drop, min, zero, suc, refl, sym, ap, subst, ◌∙◌, length-take, length-drop, arith}
use Rattle.std.specs.Int.{div_ceil}
use Rattle.std.specs.List.{AllByRecursion}
use Rattle.std.proofs.lemmas.Bool.Decides.{nat_tests}
use Rattle.std.proofs.lemmas.List.{nil_from_length}
use Rattle.model_log.specs.{is_first, IsDataLsn, length_of, lsn_of, sn_of}
use Rattle.redo_block.specs.{AreFirsts}
use Rattle.model_log.specs.{block_of, round_of, run_layout}
use Rattle.redo_logdev.specs.PartConditions.{MayWrite}
use Rattle.tests_devices.proofs.logs.write_up_to.Goals as goal

some-length : (stream : List ℕ) → 1 ≤ length stream → stream ≢ []
some-length stream some none = omega (arith, ap length none)

starts : (n : ℕ) → 1 ≤ n → n ≤ 496 → IsTrue (is_first (length_of n) 12)
starts n some few = grind (arith, nat_tests)

fit : (stream firsts : List ℕ) → AllByRecursion (λ first. first ≡ 12) firsts → length stream ≤ 496 * length firsts → 496 * length firsts < length stream + 496 → AreFirsts stream firsts
fit stream [] all most least = nil_from_length stream (omega arith)
fit stream (first ∷ firsts) all most least =
    let long : length (take 496 stream) ≡ min 496 (length stream) = length-take 496 stream in
    let here : IsTrue (is_first (length_of (length (take 496 stream))) 12) = starts (length (take 496 stream)) (omega arith) (omega arith) in (
      some-length stream (omega arith),
      subst (λ (f : ℕ). IsTrue (is_first (length_of (length (take 496 stream))) f)) (sym all.0) here,
      fit (drop 496 stream) firsts all.1 (omega (arith, length-drop 496 stream)) (omega (arith, length-drop 496 stream)),
    )

all-take : (n : ℕ) (xs : List ℕ) → AllByRecursion (λ x. x ≡ 12) xs → AllByRecursion (λ x. x ≡ 12) (take n xs)
all-take zero xs all = tt
all-take (suc n) [] all = tt
all-take (suc n) (x ∷ xs) all = (all.0, all-take n xs all.1)

first-fit : (count : ℕ) (stream : List ℕ) → count ≤ 4 → length stream ≤ 496 * count → 496 * count < length stream + 496 → AreFirsts stream (take count (12 ∷ 12 ∷ 12 ∷ 12 ∷ []))
first-fit count stream few most least =
    let four : List ℕ = 12 ∷ 12 ∷ 12 ∷ 12 ∷ [] in
    let long : length (take count four) ≡ count = length-take count four ∙ omega arith in
    fit stream (take count four) (all-take count four (refl, (refl, (refl, (refl, tt))))) (omega (arith, long)) (omega (arith, long))

-- an sn leads to the place of a byte, and back
lsn_of-place : (sn : ℕ) → IsDataLsn (lsn_of sn)
lsn_of-place sn = (omega arith, omega arith)

sn_of-lsn_of : (sn : ℕ) → sn_of (lsn_of sn) ≡ sn
sn_of-lsn_of sn = grind (arith, nat_tests)

near-mark : (written n mark : ℕ) → mark ≡ lsn_of (sn_of (block_of written) + n) → n ≤ 1984 → mark < block_of written + 65536
near-mark written n mark is few =
    let whole : sn_of (block_of written) ≡ written / 512 * 496 = grind (arith, nat_tests) in
    omega arith

below : (n : ℕ) → n ≤ 1984 → (div_ceil n 496 ≤ 4) × (n ≤ 496 * div_ceil n 496) × (496 * div_ceil n 496 < n + 496)
below n few = (omega arith, omega arith, omega arith)

pub write_to-requires : goal.write_to-requires
write_to-requires g c =
    let written : ℕ = c.args.part.now.marks.written in
    let mark : ℕ = c.args.mark in
    let n : ℕ = length c.args.bytes.now in
    let there : mark ≡ lsn_of (sn_of (block_of written) + n) = c.requires.mark in
    let back : sn_of mark ≡ sn_of (block_of written) + n = ap sn_of there ∙ sn_of-lsn_of (sn_of (block_of written) + n) in
    let counts = below n c.requires.few in
    let same : c.div_ceil-count.result ≡ div_ceil n 496 = c.div_ceil-count.ensures in
    let near : mark < block_of written + 65536 = near-mark written n mark there c.requires.few in
    record {
      live = c.requires.live;
      place = subst IsDataLsn (sym there) (lsn_of-place (sn_of (block_of written) + n));
      later = c.requires.later;
      near = near;
      room = omega (arith, c.requires.room, c.requires.blocks);
      small = omega (arith, near, c.requires.small);
      count = omega (arith, back);
      fit = first-fit c.div_ceil-count.result c.args.bytes.now (omega (arith, counts.0)) (omega (arith, counts.1)) (omega (arith, counts.2));
    }
