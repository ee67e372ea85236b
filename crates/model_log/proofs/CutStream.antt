-- The blocks that are cut from what a writer is given are those of the boundary.
use Rattle.std.proofs.Common.{◌≡◌, ◌≤◌, ◌<◌, ◌+◌, ◌-◌, ◌*◌, ◌/◌, ◌%◌, ◌^◌, ℕ, zero, suc, min, List, [], ◌∷◌, ◌++◌, length, get_or, take, drop, sym, ap, subst, ◌∙◌, ⊎_elim, length-append, length-take, arith}
use Rattle.std.proofs.lemmas.List.{take_all, take_at, take-take, drop-take, drop-drop}
use Rattle.std.proofs.lemmas.Bool.{cases_lt}
use Rattle.model_log.specs.declared.group.Whole.{Whole}
use Rattle.model_log.specs.declared.layout.TheConstants.{BLOCK_DATA}
use Rattle.model_log.specs.Group.{groups_of, stream_of}
use Rattle.model_log.specs.Block.{sn_of, block_of, IsAtDataStart, block_text, framed, blocks_between}
use Rattle.model_log.specs.Boundary.{stream_between, content_at, IsBoundaryBlock, IsGivenTo}
use Rattle.model_log.proofs.BlockRound.{length-block_text}
use Rattle.model_log.proofs.BoundaryLengths.{sn_of-rises, sn_of-start, sn_of-block, sn_of-next, sn_of-header}

first-length : (stream : List ℕ) (from first ckpt : ℕ) → length (block_text from (take BLOCK_DATA stream) first ckpt) ≡ 512
first-length stream from first ckpt = length-block_text from (take BLOCK_DATA stream) first ckpt (omega (arith, length-take BLOCK_DATA stream))

drop-past : (p q : List ℕ) (n : ℕ) → length p ≤ n → drop n (p ++ q) ≡ drop (n - length p) q
drop-past [] q n low = let same : n ≡ n - length {A = ℕ} [] = omega arith in ap (λ k. drop k q) same
drop-past (x ∷ p) q zero low = absurd (omega arith)
drop-past (x ∷ p) q (suc n) low = let same : n - length p ≡ suc n - length (x ∷ p) = omega arith in drop-past p q n (omega arith) ∙ ap (λ k. drop k q) same

pub length-framed : (stream firsts : List ℕ) (from ckpt : ℕ) → length (framed stream from firsts ckpt) ≡ 512 * length firsts
length-framed stream [] from ckpt = omega arith
length-framed stream (first ∷ firsts) from ckpt =
    omega (
      arith,
      first-length stream from first ckpt,
      length-framed (drop BLOCK_DATA stream) firsts (from + 512) ckpt,
      length-append (block_text from (take BLOCK_DATA stream) first ckpt) (framed (drop BLOCK_DATA stream) (from + 512) firsts ckpt),
    )

-- one of the blocks
pub framed-part : (stream firsts : List ℕ) (from ckpt i : ℕ) → i < length firsts
    → take 512 (drop (512 * i) (framed stream from firsts ckpt)) ≡ block_text (from + 512 * i) (take 496 (drop (496 * i) stream)) (get_or firsts i 0) ckpt
framed-part stream [] from ckpt i below = absurd (omega arith)
framed-part stream (first ∷ firsts) from ckpt zero below =
    let none : 512 * 0 ≡ 0 = omega arith in
    let none_before : BLOCK_DATA * 0 ≡ 0 = omega arith in
    let here : from ≡ from + 512 * 0 = omega arith in
    let text : List ℕ = block_text from (take BLOCK_DATA stream) first ckpt in
    let rest : List ℕ = framed (drop BLOCK_DATA stream) (from + 512) firsts ckpt in
    ap (λ n. take 512 (drop n (text ++ rest))) none
    ∙ take_at text rest 512 (first-length stream from first ckpt)
    ∙ ap (λ lsn. block_text lsn (take BLOCK_DATA stream) first ckpt) here
    ∙ ap (λ n. block_text (from + 512 * 0) (take BLOCK_DATA (drop n stream)) first ckpt) (sym none_before)
framed-part stream (first ∷ firsts) from ckpt (suc i) below =
    let text : List ℕ = block_text from (take BLOCK_DATA stream) first ckpt in
    let rest : List ℕ = framed (drop BLOCK_DATA stream) (from + 512) firsts ckpt in
    let long : length text ≡ 512 = first-length stream from first ckpt in
    let left : 512 * suc i - length text ≡ 512 * i = omega arith in
    let place : from + 512 + 512 * i ≡ from + 512 * suc i = omega arith in
    let bytes : BLOCK_DATA + BLOCK_DATA * i ≡ BLOCK_DATA * suc i = omega arith in
    ap (take 512) (drop-past text rest (512 * suc i) (omega arith) ∙ ap (λ n. drop n rest) left)
    ∙ framed-part (drop BLOCK_DATA stream) firsts (from + 512) ckpt i (omega arith)
    ∙ ap (λ lsn. block_text lsn (take BLOCK_DATA (drop (BLOCK_DATA * i) (drop BLOCK_DATA stream))) (get_or firsts i 0) ckpt) place
    ∙ ap (λ (content : List ℕ). block_text (from + 512 * suc i) (take BLOCK_DATA content) (get_or firsts i 0) ckpt) (drop-drop (BLOCK_DATA * i) BLOCK_DATA stream ∙ ap (λ n. drop n stream) bytes)

-- of the first n elements the first 496
take-least : (n : ℕ) (xs : List ℕ) → take BLOCK_DATA (take n xs) ≡ take (min BLOCK_DATA n) xs
take-least n xs =
    ⊎_elim (λ short. let most : min 496 n ≡ n = omega arith in take_all 496 (take n xs) (omega (arith, length-take n xs)) ∙ ap (λ m. take m xs) (sym most))
    (λ long. let most : min BLOCK_DATA n ≡ BLOCK_DATA = omega arith in take-take BLOCK_DATA n xs long ∙ ap (λ m. take m xs) (sym most)) (cases_lt n BLOCK_DATA)

-- the block holds all of the bytes from it on, or as many as it has room for
pub least-count : (mark b : ℕ) → b % 512 ≡ 0 → min BLOCK_DATA (sn_of mark - sn_of b) ≡ sn_of (min mark (b + 512)) - sn_of b
least-count mark b aligned =
    let next : sn_of (b + 512) ≡ sn_of b + BLOCK_DATA = sn_of-next b aligned in
    ⊎_elim (λ inside. let low : min mark (b + 512) ≡ mark = omega arith in
    let most : sn_of mark ≤ sn_of (b + 512) = sn_of-rises mark (b + 512) (omega arith) in
    let all : min BLOCK_DATA (sn_of mark - sn_of b) ≡ sn_of mark - sn_of b = omega arith in all ∙ ap (λ n. sn_of n - sn_of b) (sym low))
    (λ behind. let high : min mark (b + 512) ≡ b + 512 = omega arith in
    let least : sn_of (b + 512) ≤ sn_of mark = sn_of-rises (b + 512) mark behind in
    let all : min BLOCK_DATA (sn_of mark - sn_of b) ≡ sn_of (b + 512) - sn_of b = omega arith in all ∙ ap (λ n. sn_of n - sn_of b) (sym high)) (cases_lt mark (b + 512))

pub content-part : (s from mark i : ℕ) (stream : List ℕ) → IsAtDataStart s → block_of s ≤ from → from % 512 ≡ 0 → BLOCK_DATA * i < sn_of mark - sn_of from
    → take BLOCK_DATA (drop (BLOCK_DATA * i) (stream_between s stream from mark)) ≡ content_at s stream mark (from + 512 * i)
unfolding stream_between content_at
content-part s from mark i stream start low aligned below =
    let b : ℕ = from + 512 * i in
    let rest : ℕ = sn_of mark - sn_of from - BLOCK_DATA * i in
    let first : sn_of s ≤ sn_of from = sn_of-start s from start low in
    let here : sn_of b ≡ sn_of from + BLOCK_DATA * i = sn_of-block from i aligned in
    let parts : sn_of mark - sn_of from ≡ BLOCK_DATA * i + rest = omega arith in
    let skip : sn_of from - sn_of s + BLOCK_DATA * i ≡ sn_of b - sn_of s = omega arith in
    let left : rest ≡ sn_of mark - sn_of b = omega arith in
    ap (λ n. take BLOCK_DATA (drop (BLOCK_DATA * i) (take n (drop (sn_of from - sn_of s) stream)))) parts
    ∙ ap (take BLOCK_DATA) (drop-take (BLOCK_DATA * i) rest (drop (sn_of from - sn_of s) stream))
    ∙ take-least rest (drop (BLOCK_DATA * i) (drop (sn_of from - sn_of s) stream))
    ∙ ap (take (min BLOCK_DATA rest)) (drop-drop (BLOCK_DATA * i) (sn_of from - sn_of s) stream ∙ ap (λ n. drop n stream) skip)
    ∙ ap (λ n. take n (drop (sn_of b - sn_of s) stream)) (ap (min BLOCK_DATA) left ∙ least-count mark b (omega arith))

-- a block that holds a byte below the boundary begins below it
pub some-below : (from mark i : ℕ) → from % 512 ≡ 0 → BLOCK_DATA * i < sn_of mark - sn_of from → from + 512 * i + 12 < mark
some-below from mark i aligned below =
    ⊎_elim (λ h. h) (λ late.
    let here : sn_of (from + 512 * i) ≡ sn_of from + BLOCK_DATA * i = sn_of-block from i aligned in
    let header : sn_of (from + 512 * i + 12) ≡ sn_of (from + 512 * i) = sn_of-header (from + 512 * i) (omega arith) in
    let most : sn_of mark ≤ sn_of (from + 512 * i + 12) = sn_of-rises mark (from + 512 * i + 12) late in
    absurd (omega arith)) (cases_lt (from + 512 * i + 12) mark)

-- there are as many blocks as hold the bytes
pub count-below : (from mark i : ℕ) → from % 512 ≡ 0 → i < blocks_between from mark → BLOCK_DATA * i < sn_of mark - sn_of from
count-below from mark i aligned below =
    let block : block_of from ≡ from = omega arith in
    let bytes : i < (sn_of mark - sn_of from + 495) / BLOCK_DATA = subst (λ (n : ℕ). i < (sn_of mark - sn_of n + 495) / BLOCK_DATA) block below in
    omega arith

pub given-framed : (s : ℕ) (wholes : List Whole) (from mark ckpt i : ℕ) (bytes firsts : List ℕ) → IsAtDataStart s → block_of s ≤ from → from % 512 ≡ 0 → ckpt < 2 ^ 32
    → IsGivenTo s wholes from mark bytes firsts → i < length firsts
    → IsBoundaryBlock s wholes mark (from + 512 * i) (take 512 (drop (512 * i) (framed bytes from firsts ckpt)))
given-framed s wholes from mark ckpt i bytes firsts start low aligned small given below =
    let b : ℕ = from + 512 * i in
    let stream : List ℕ = stream_of (groups_of wholes) in
    let some : BLOCK_DATA * i < sn_of mark - sn_of from = count-below from mark i aligned (subst (λ (n : ℕ). i < n) given.count below) in
    let reached : b + 12 < mark = some-below from mark i aligned some in
    record {
      aligned = omega arith;
      from = omega arith;
      reached = omega arith;
      ckpt = ckpt;
      ckpt_small = small;
      block = framed-part bytes firsts from ckpt i below
          ∙ ap (λ (x : List ℕ). block_text b (take BLOCK_DATA (drop (BLOCK_DATA * i) x)) (get_or firsts i 0) ckpt) given.bytes_are
          ∙ ap (λ (x : List ℕ). block_text b x (get_or firsts i 0) ckpt) (content-part s from mark i stream start low aligned some)
          ∙ ap (λ first. block_text b (content_at s stream mark b) first ckpt) (given.firsts_are i below);
    }
