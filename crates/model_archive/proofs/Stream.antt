-- The data of the blocks of an archive is the run's stream up to the mark.
use Rattle.std.proofs.Common.{◌≡◌, ◌≤◌, ◌<◌, ◌+◌, ◌-◌, ◌*◌, ◌/◌, ◌%◌, ℕ, zero, suc, min, List, [], ◌∷◌, ◌++◌, length, take, drop, sym, ap, subst, ◌∙◌, ⊎_elim, arith}
use Rattle.std.proofs.lemmas.List.{take-take, append-nil}
use Rattle.std.proofs.lemmas.Bool.{cases_lt}
use Rattle.model_log.specs.declared.layout.TheConstants.{BLOCK_DATA}
use Rattle.model_log.specs.{block_of, blocks_between, IsAtDataStart, IsDataLsn, sn_of, stream_between}
use Rattle.model_log.proofs.BoundaryLengths.{length-reached, sn_of-header, sn_of-next, sn_of-rises, sn_of-start, stream_between-is}
use Rattle.model_parts.proofs.LogRows.{pieces-join}
use Rattle.model_store.specs.{bytes_of, Source}
use Rattle.model_archive.specs.Restore.{data_of_blocks}

-- what a source gives at b: the run's bytes from there on, up to the mark or the block's end at least
pub record GivesData (s : ℕ) (stream : List ℕ) (mark b : ℕ) (bytes : List ℕ) : Type 0 where
  pub high : ℕ
  pub enough : min mark (b + 512) ≤ high
  pub within : high ≤ b + 512
  pub is : bytes ≡ stream_between s stream b high

no-bytes : (mark b : ℕ) → b % 512 ≡ 0 → blocks_between b mark ≡ 0 → sn_of mark - sn_of b ≡ 0
no-bytes mark b aligned none =
    let block : block_of b ≡ b = omega arith in
    let bytes : (sn_of mark - sn_of b + 495) / BLOCK_DATA ≡ 0 =
    subst (λ (n : ℕ). (sn_of mark - sn_of n + 495) / BLOCK_DATA ≡ 0) block none in
    omega arith

-- one block fewer is between the next block and the mark
pub fewer : (mark b n : ℕ) → b % 512 ≡ 0 → blocks_between b mark ≡ suc n → blocks_between (b + 512) mark ≡ n
fewer mark b n aligned some =
    let block : block_of b ≡ b = omega arith in
    let next_block : block_of (b + 512) ≡ b + 512 = omega arith in
    let next : sn_of (b + 512) ≡ sn_of b + BLOCK_DATA = sn_of-next b aligned in
    let bytes : (sn_of mark - sn_of b + 495) / BLOCK_DATA ≡ suc n =
    subst (λ (k : ℕ). (sn_of mark - sn_of k + 495) / BLOCK_DATA ≡ suc n) block some in
    let there : (sn_of mark - sn_of (b + 512) + 495) / BLOCK_DATA ≡ n = omega arith in
    subst (λ (k : ℕ). (sn_of mark - sn_of k + 495) / BLOCK_DATA ≡ n) (sym next_block) there

-- a block between begins below the mark
pub begins-below : (mark b n : ℕ) → b % 512 ≡ 0 → blocks_between b mark ≡ suc n → b + 12 < mark
begins-below mark b n aligned some =
    let block : block_of b ≡ b = omega arith in
    let bytes : (sn_of mark - sn_of b + 495) / BLOCK_DATA ≡ suc n =
    subst (λ (k : ℕ). (sn_of mark - sn_of k + 495) / BLOCK_DATA ≡ suc n) block some in
    ⊎_elim (λ h. h) (λ late.
    let header : sn_of (b + 12) ≡ sn_of b = sn_of-header b aligned in
    let most : sn_of mark ≤ sn_of (b + 12) = sn_of-rises mark (b + 12) late in
    absurd (omega arith)) (cases_lt (b + 12) mark)

pub within-block : (m b : ℕ) → IsDataLsn m → b % 512 ≡ 0 → b + 12 < m → m < b + 524 → m < b + 508
within-block m b place aligned low high = grind arith

nothing : (s mark b : ℕ) (stream : List ℕ) → sn_of mark - sn_of b ≡ 0 → [] ≡ stream_between s stream b mark
nothing s mark b stream none =
    sym (stream_between-is s stream b mark ∙ ap (λ n. take n (drop (sn_of b - sn_of s) stream)) none)

take-more : (p q : List ℕ) (n : ℕ) → take (length p + n) (p ++ q) ≡ p ++ take n q
take-more [] q n = let same : length {A = ℕ} [] + n ≡ n = omega arith in ap (λ k. take k q) same
take-more (x ∷ p) q n =
    let same : length (x ∷ p) + n ≡ suc (length p + n) = omega arith in
    ap (λ k. take k (x ∷ p ++ q)) same ∙ ap (λ xs. x ∷ xs) (take-more p q n)

pub blocks-stream : (s mark : ℕ) (stream : List ℕ) (source : Source) (n b : ℕ) → IsAtDataStart s → IsDataLsn mark
    → b % 512 ≡ 0 → block_of s ≤ b
    → blocks_between b mark ≡ n → sn_of mark ≤ sn_of s + length stream
    → ((i : ℕ) → i < n → GivesData s stream mark (b + 512 * i) (bytes_of (source (b + 512 * i))))
    → take (sn_of mark - sn_of b) (data_of_blocks source b n) ≡ stream_between s stream b mark
blocks-stream s mark stream source zero b start place aligned from count reaches gives =
    ap (λ k. take k []) (no-bytes mark b aligned count) ∙ nothing s mark b stream (no-bytes mark b aligned count)
blocks-stream s mark stream source (suc n) b start place aligned from count reaches gives =
    let zero_on : b + 512 * 0 ≡ b = omega arith in
    let first : GivesData s stream mark b (bytes_of (source b)) =
    subst (λ (k : ℕ). GivesData s stream mark k (bytes_of (source k))) zero_on (gives 0 (omega arith)) in
    let below : b + 12 < mark = begins-below mark b n aligned count in
    let rest : List ℕ = data_of_blocks source (b + 512) n in
    let next : sn_of (b + 512) ≡ sn_of b + BLOCK_DATA = sn_of-next b aligned in
    let start_b : sn_of s ≤ sn_of b = sn_of-start s b start from in
    ⊎_elim (λ part.
    let inside : mark < b + 508 = within-block mark b place aligned below part in
    let enough : mark ≤ first.high = omega (arith, first.enough) in
    let low : sn_of mark ≤ sn_of first.high = sn_of-rises mark first.high enough in
    let none : sn_of mark - sn_of (b + 512) ≡ 0 =
    (let less : sn_of mark ≤ sn_of (b + 512) = sn_of-rises mark (b + 512) (omega arith) in omega arith) in
    let other : blocks_between (b + 512) mark ≡ 0 = (let next_block : block_of (b + 512) ≡ b + 512 = omega arith in
    let there : (sn_of mark - sn_of (b + 512) + 495) / BLOCK_DATA ≡ 0 = omega arith in
    subst (λ (k : ℕ). (sn_of mark - sn_of k + 495) / BLOCK_DATA ≡ 0) (sym next_block) there) in
    let no_more : n ≡ 0 = sym (fewer mark b n aligned count) ∙ other in
    let size : ℕ = sn_of mark - sn_of b in
    ap (λ k. take size (bytes_of (source b) ++ data_of_blocks source (b + 512) k)) no_more
    ∙ ap (take size) (append-nil (bytes_of (source b)) ∙ first.is ∙ stream_between-is s stream b first.high)
    ∙ take-take size (sn_of first.high - sn_of b) (drop (sn_of b - sn_of s) stream) (omega arith)
    ∙ sym (stream_between-is s stream b mark))
    (λ full.
    let high : first.high ≡ b + 512 = omega (arith, first.enough, first.within) in
    let bytes : bytes_of (source b) ≡ stream_between s stream b (b + 512) = first.is
    ∙ ap (stream_between s stream b) high in
    let least : sn_of (b + 512) ≤ sn_of mark = sn_of-rises (b + 512) mark (omega arith) in
    let long : length (stream_between s stream b (b + 512)) ≡ BLOCK_DATA =
    length-reached s stream b (b + 512) start_b (omega arith) (omega arith) ∙ omega arith in
    let others : take (sn_of mark - sn_of (b + 512)) rest ≡ stream_between s stream (b + 512) mark =
    blocks-stream s mark stream source n (b + 512) start place (omega arith) (omega arith)
    (fewer mark b n aligned count) reaches
    (λ i less. let place : b + 512 * suc i ≡ b + 512 + 512 * i = omega arith in
    subst (λ (k : ℕ). GivesData s stream mark k (bytes_of (source k))) place (gives (suc i) (omega arith))) in
    let count_is : sn_of mark - sn_of b ≡ length (stream_between s stream b (b + 512)) +
    (sn_of mark - sn_of (b + 512)) = omega arith in
    ap (λ (x : List ℕ). take (sn_of mark - sn_of b) (x ++ rest)) bytes
    ∙ ap (λ k. take k (stream_between s stream b (b + 512) ++ rest)) count_is
    ∙ take-more (stream_between s stream b (b + 512)) rest (sn_of mark - sn_of (b + 512))
    ∙ ap (λ (x : List ℕ). stream_between s stream b (b + 512) ++ x) others
    ∙ pieces-join s stream b (b + 512) mark start_b (omega arith) least) (cases_lt mark (b + 524))
