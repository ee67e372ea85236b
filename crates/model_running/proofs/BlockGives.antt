-- A block of a run has the stream's bytes.
use Rattle.std.proofs.Common.{Bool, List, None, Some, [], ap, arith, cond, drop, length, min, refl, subst, sym, take, false, true, ℕ, ⊎_elim, ◌%◌, ◌*◌, ◌+◌, ◌-◌, ◌/◌, ◌∙◌, ◌∷◌, ◌≡◌, ◌≤◌}
use Rattle.std.specs.List.{All}
use Rattle.std.proofs.lemmas.Bool.{cases_lt}
use Rattle.std.proofs.lemmas.Bool.Decides.{nat_tests}
use Rattle.std.proofs.lemmas.List.{drop-drop, drop-take, take-take}
use Rattle.std.proofs.lemmas.List.Elements.{All-append, All-nil}
use Rattle.model_core.proofs.Lsns.{lsn_block, lsn_offset}
use Rattle.model_core.specs.{end_of, Entry, floor, lsn, stream, LogSide}
use Rattle.model_logcore.specs.LogLaws.{CanRead, HasBlock}
use Rattle.model_log.specs.{groups_of, IsAtDataStart, IsBoundary, IsBoundaryBlock, IsByte, IsRunOf, sn_of, spans_of, stream_of, block_view, data_of, is_block_at, read_block}
use Rattle.model_log.specs.Boundary.{content_at, first_at}
use Rattle.model_log.specs.declared.block.BlockView.{BlockView}
use Rattle.model_log.specs.declared.group.Whole.{Whole}
use Rattle.model_log.specs.declared.layout.TheConstants.{BLOCK_DATA}
use Rattle.model_log.proofs.BlockRound.{length-block_text}
use Rattle.model_log.proofs.BoundaryLengths.{content_at-is, content-short, sn_of-rises, stream_between-is}
use Rattle.model_log.proofs.BoundaryRound.{ReadsAs, reads-as}
use Rattle.model_log.proofs.Runs.{boundary-reached, data-start, IsReached}
use Rattle.model_parts.proofs.Bytes.{group-bytes}
use Rattle.model_running.proofs.Following.{AreTexts}
use Rattle.model_running.proofs.Groups.{run_of_log, streams}
use Rattle.model_running.proofs.Places.{sn_back}
use Rattle.model_running.specs.Histories.{AreWholesOf}

part : (k n long : ℕ) (xs : List ℕ) → k + n ≤ long → take n (drop k (take long xs)) ≡ take n (drop k xs)
part k n long xs within =
    let split : k + (long - k) ≡ long = omega arith in
    ap (λ (z : ℕ). take n (drop k (take z xs))) (sym split) ∙ ap (take n) (drop-take k (long - k) xs) ∙ take-take n (long - k) (drop k xs) (omega arith)

-- from a place of the stream in the block on, as far as the block holds bytes below m
pub block_gives : (s m b : ℕ) (stream bytes : List ℕ) → data_of (block_view bytes) bytes ≡ content_at s stream m b
    → sn_of s ≤ sn_of b → sn_of m ≤ sn_of s + length stream
    → (y n : ℕ) → sn_of b ≤ y → y + n ≤ sn_of (min m (b + 512))
    → take n (drop (y - sn_of b) (data_of (block_view bytes) bytes)) ≡ take n (drop (y - sn_of s) stream)
block_gives s m b stream bytes held low reaches y n from to =
    let k : ℕ = y - sn_of b in
    let d : ℕ = sn_of b - sn_of s in
    let wide : ℕ = sn_of (min m (b + 512)) - sn_of b in
    let is : content_at s stream m b ≡ take wide (drop d stream) =
    content_at-is s stream m b ∙ stream_between-is s stream b (min m (b + 512)) in
    let place : d + k ≡ y - sn_of s = omega arith in
    ap (λ (z : List ℕ). take n (drop k z)) (held ∙ is)
    ∙ part k n wide (drop d stream) (omega arith) ∙ ap (take n) (drop-drop k d stream)
    ∙ ap (λ (z : ℕ). take n (drop z stream)) place

-- a block that is read fits its lsn
fits_so : (x : ℕ) (bytes : List ℕ) (view : BlockView) → read_block x bytes ≡ Some view → is_block_at x bytes ≡ true
unfolding read_block
fits_so x bytes view read = by (is_block_at x bytes) read
  where
    by : (b : Bool) → cond b (Some (block_view bytes)) None ≡ Some view → b ≡ true
    by true is = refl
    by false is = absurd (cc)

-- it has the fields that are read
view_so : (x : ℕ) (bytes : List ℕ) (view : BlockView) → read_block x bytes ≡ Some view → block_view bytes ≡ view
unfolding read_block
view_so x bytes view read = by (is_block_at x bytes) read
  where
    by : (b : Bool) → cond b (Some (block_view bytes)) None ≡ Some view → block_view bytes ≡ view
    by true is = cc
    by false is = absurd (cc)

-- the groups of texts
pub wholes_there : (log : List Entry) → AreTexts log → (wholes : List Whole) × AreWholesOf log wholes
wholes_there [] texts = ([], tt)
wholes_there (e ∷ es) texts =
    let r = wholes_there es texts.1 in
    let whole : Whole = record { group = texts.0.0; start = lsn e.start; end = lsn (end_of e) } in
    (whole ∷ r.0, (record { place = refl; text = sym texts.0.1.spelled }, r.1))

-- are of bytes
bytes_there : (log : List Entry) → AreTexts log → All IsByte (stream log)
bytes_there [] texts = All-nil IsByte
bytes_there (e ∷ es) texts =
    let is = texts.0.1 in
    All-append IsByte e.bytes (stream es)
    (subst (All IsByte) (sym is.spelled) (group-bytes texts.0.0 is.is_group.each)) (bytes_there es texts.1)

-- SO A READER HAS THE STREAM from a block of the run for a boundary at or above the stable mark.
pub has_block : (D : LogSide) (blocks base x top mark : ℕ) (log : List Entry) (wholes : List Whole) (bytes : List ℕ)
    (p : D.Part) → CanRead D blocks base log x p → D.stable p ≡ lsn top → D.stable p ≤ mark → AreWholesOf log wholes
    → IsBoundary (lsn base) (spans_of wholes) mark → IsBoundaryBlock (lsn base) wholes mark x bytes
    → HasBlock D blocks base log top x bytes
has_block D blocks base x top mark log wholes bytes p may stable up are bound block = record {
  long = ap length block.block
      ∙ length-block_text x content (first_at (lsn base) (spans_of wholes) x) block.ckpt
      (content-short (lsn base) text mark x block.aligned);
  fits = fits_so x bytes reads.view reads.read;
  bytes_are = λ y n low within upto here. at y n low within upto here;
}
  where
    text : List ℕ
    text = stream_of (groups_of wholes)

    same : text ≡ stream log
    same = streams log wholes are

    content : List ℕ
    content = content_at (lsn base) text mark x

    starts : IsAtDataStart (lsn base)
    starts = let o = lsn_offset base in let e = may.base_even in omega arith

    run : IsRunOf (lsn base) wholes
    run = run_of_log log base may.end wholes may.tiles are

    reads : ReadsAs (lsn base) wholes mark x bytes
    reads =
        let all : All IsByte text = subst (All IsByte) (sym same) (bytes_there log may.texts) in
        let some = may.some in
        reads-as (lsn base) wholes mark x bytes starts run all bound (omega arith) block

    reached : IsReached (lsn base) wholes mark
    reached = boundary-reached (lsn base) wholes mark (data-start (lsn base) starts) run bound

    at : (y n : ℕ) → base ≤ y → y % BLOCK_DATA + n ≤ BLOCK_DATA → y + n ≤ top → floor (lsn y) ≡ x
        → take n (drop (y % BLOCK_DATA) (data_of (block_view bytes) bytes)) ≡ take n (drop (y - base) (stream log))
    at y n low within upto here =
        let row = lsn_block y in
        let even = may.base_even in
        let x_is : x ≡ 512 * (y / 496) = omega arith in
        let first : sn_of x ≡ 496 * (y / 496) = grind (arith, nat_tests) in
        let next : sn_of (x + 512) ≡ 496 * (y / 496) + 496 = grind (arith, nat_tests) in
        let from : sn_of (lsn base) ≡ base = sn_back base in
        let upper : top ≤ sn_of mark =
        subst (λ (z : ℕ). z ≤ sn_of mark) (sn_back top) (sn_of-rises (lsn top) mark (omega arith)) in
        let to : y + n ≤ sn_of (min mark (x + 512)) = ⊎_elim
        (λ less. let e : min mark (x + 512) ≡ mark = omega arith in omega (arith, ap sn_of e))
        (λ more. let e : min mark (x + 512) ≡ x + 512 = omega arith in omega (arith, ap sn_of e))
        (cases_lt mark (x + 512)) in
        let within_block : y - sn_of x ≡ y % 496 = omega arith in
        let back : y - sn_of (lsn base) ≡ y - base = omega arith in
        let in_use : List ℕ = data_of (block_view bytes) bytes in
        let held : in_use ≡ content =
        ap (λ (v : BlockView). data_of v bytes) (view_so x bytes reads.view reads.read) ∙ reads.content in
        ap (λ (z : ℕ). take n (drop z in_use)) (sym within_block)
        ∙ block_gives (lsn base) mark x text bytes held (omega arith) reached.reaches y n (omega arith) to
        ∙ ap (λ (z : ℕ). take n (drop z text)) back ∙ ap (λ (z : List ℕ). take n (drop (y - base) z)) same
