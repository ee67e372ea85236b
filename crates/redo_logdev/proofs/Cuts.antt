-- The blocks that are cut from what `write_to` is given.
use Rattle.std.proofs.Common.{◌≡◌, ◌≢◌, ◌≤◌, ◌<◌, ◌+◌, ◌-◌, ◌*◌, ◌/◌, ◌%◌, ◌^◌, ℕ, zero, suc, min, IsTrue, List, [], ◌∷◌, length, take, drop, get_or, refl, sym, ap, subst, ◌∙◌, ⊎_elim, length-take, length-drop, arith}
use Rattle.std.proofs.lemmas.List.{take_all, take-take, drop-take, drop-drop, get_or-take, get_or-drop}
use Rattle.std.proofs.lemmas.Bool.{cases_lt}
use Rattle.std.proofs.lemmas.Nat.{div-add-mod', mod-mul-add}
use Rattle.model_base.specs.{field}
use Rattle.model_base.specs.declared.shape.Shape.{Shape}
use Rattle.model_base.specs.declared.limits.TheConstants.{START_LSN}
use Rattle.model_device.specs.declared.write.Write.{Write}
use Rattle.model_log.specs.declared.group.Whole.{Whole}
use Rattle.model_log.specs.declared.layout.Layout.{Layout}
use Rattle.model_log.specs.declared.layout.TheConstants.{BLOCK_DATA}
use Rattle.model_log.specs.{block_of, block_text, framed, is_first, IsAtDataStart, IsBoundaryBlock, IsDataLsn, IsGivenTo, length_of, place_in, ring_start, round_of, run_layout, sector_of, sn_of, turn_of}
use Rattle.model_log.proofs.BoundaryLengths.{sn_of-block, sn_of-header, sn_of-rises}
use Rattle.model_log.proofs.CutStream.{framed-part, given-framed, length-framed}
use Rattle.model_log.proofs.Places.{place-within, sector-place}
use Rattle.model_log.proofs.Runs.{lsn-before}
use Rattle.model_parts.specs.declared.marks.LogMarks.{LogMarks}
use Rattle.model_parts.specs.{AreInOrder}
use Rattle.model_parts.proofs.Puts.{WritesFull, WritesTail}
use Rattle.model_parts.proofs.Tails.{ckpt-of_block}
use Rattle.redo_block.specs.{AreFirsts}
use Rattle.redo_disk.specs.{write_at}
use Rattle.redo_logdev.specs.Part.{back_of, front_of}

some-of : (stream : List ℕ) → stream ≢ [] → 1 ≤ length stream
some-of [] some = absurd (some refl)
some-of (x ∷ stream) some = omega arith

-- there are as many first offsets as the bytes fill blocks
pub count-firsts : (stream firsts : List ℕ) → AreFirsts stream firsts
    → (BLOCK_DATA * length firsts < length stream + BLOCK_DATA) × (length stream ≤ BLOCK_DATA * length firsts)
count-firsts stream [] is = (omega (arith, ap length is), omega (arith, ap length is))
count-firsts stream (first ∷ firsts) is =
    let rest = count-firsts (drop BLOCK_DATA stream) firsts is.2 in
    let some : 1 ≤ length stream = some-of stream is.0 in
    (omega (arith, rest.0, length-drop BLOCK_DATA stream), omega (arith, rest.1, length-drop BLOCK_DATA stream))

-- as many as there are full blocks, or one more
pub firsts-count : (stream firsts : List ℕ) → AreFirsts stream firsts
    → (length stream / BLOCK_DATA ≤ length firsts) × (length firsts ≤ length stream / BLOCK_DATA + 1)
firsts-count stream firsts is = let counts = count-firsts stream firsts is in (omega (arith, counts.0, counts.1), omega (arith, counts.0, counts.1))

-- THE FIRST OFFSETS OF THE FULL BLOCKS, AND OF THE OTHER ONE.

some-length : (stream : List ℕ) → 1 ≤ length stream → stream ≢ []
some-length stream some none = omega (arith, ap length none)

pub firsts-take : (n : ℕ) (stream firsts : List ℕ) → BLOCK_DATA * n ≤ length stream → AreFirsts stream firsts
    → AreFirsts (take (BLOCK_DATA * n) stream) (take n firsts)
firsts-take zero stream firsts long is = let none : BLOCK_DATA * 0 ≡ 0 = omega arith in ap (λ k. take k stream) none
firsts-take (suc n) stream [] long is = absurd (omega (arith, ap length is))
firsts-take (suc n) stream (first ∷ firsts) long is =
    let all : ℕ = BLOCK_DATA * suc n in
    let split : all ≡ BLOCK_DATA + BLOCK_DATA * n = omega arith in
    let front : take BLOCK_DATA (take all stream) ≡ take BLOCK_DATA stream = take-take BLOCK_DATA all stream (omega arith) in
    let back : drop BLOCK_DATA (take all stream) ≡ take (BLOCK_DATA * n) (drop BLOCK_DATA stream) =
    ap (λ k. drop BLOCK_DATA (take k stream)) split ∙ drop-take BLOCK_DATA (BLOCK_DATA * n) stream in
    let rest : AreFirsts (take (BLOCK_DATA * n) (drop BLOCK_DATA stream)) (take n firsts) = firsts-take n (drop BLOCK_DATA stream) firsts (omega (arith, length-drop BLOCK_DATA stream)) is.2 in (
      some-length (take all stream) (omega (arith, length-take all stream)),
      subst (λ (x : List ℕ). IsTrue (is_first (length_of (length x)) first)) (sym front) is.1,
      subst (λ (x : List ℕ). AreFirsts x (take n firsts)) (sym back) rest,
    )

pub firsts-drop : (n : ℕ) (stream firsts : List ℕ) → BLOCK_DATA * n ≤ length stream → AreFirsts stream firsts
    → AreFirsts (drop (BLOCK_DATA * n) stream) (drop n firsts)
firsts-drop zero stream firsts long is =
    let none : 0 ≡ BLOCK_DATA * 0 = omega arith in subst (λ (k : ℕ). AreFirsts (drop k stream) firsts) none is
firsts-drop (suc n) stream [] long is = absurd (omega (arith, ap length is))
firsts-drop (suc n) stream (first ∷ firsts) long is =
    let split : BLOCK_DATA + BLOCK_DATA * n ≡ BLOCK_DATA * suc n = omega arith in
    let rest : AreFirsts (drop (BLOCK_DATA * n) (drop BLOCK_DATA stream)) (drop n firsts) = firsts-drop n (drop BLOCK_DATA stream) firsts (omega (arith, length-drop BLOCK_DATA stream)) is.2 in
    subst (λ (x : List ℕ). AreFirsts x (drop n firsts)) (drop-drop (BLOCK_DATA * n) BLOCK_DATA stream ∙ ap (λ k. drop k stream) split) rest

-- WHERE THE BLOCKS END.

-- what is known of what `write_to` writes
pub record IsCut (shape : Shape) (marks : LogMarks) (mark ckpt full : ℕ) (bytes firsts : List ℕ) : Type 0 where
  pub some_blocks : 1 ≤ (run_layout shape).blocks
  pub few_blocks : (run_layout shape).blocks < 1073741824
  pub place : IsDataLsn mark
  pub later : marks.written ≤ mark
  pub room : mark ≤ marks.ckpt + round_of (run_layout shape)
  pub ckpt_small : ckpt < 2 ^ 32
  pub count : length bytes ≡ sn_of mark - sn_of (block_of marks.written)
  pub fit : AreFirsts bytes firsts
  pub low : BLOCK_DATA * full ≤ length bytes
  pub high : length bytes < BLOCK_DATA * full + BLOCK_DATA
  pub small : mark < 2 ^ 61

full-below : (from mark j : ℕ) → from % 512 ≡ 0 → IsDataLsn mark → BLOCK_DATA * j ≤ sn_of mark - sn_of from → 1 ≤ j → from + 512 * j + 12 ≤ mark
full-below from mark j aligned place most some =
    let here : sn_of (from + 512 * j) ≡ sn_of from + BLOCK_DATA * j = sn_of-block from j aligned in
    let header : sn_of (from + 512 * j + 12) ≡ sn_of (from + 512 * j) = sn_of-header (from + 512 * j) (omega arith) in
    lsn-before (from + 512 * j + 12) mark (omega arith, omega arith) place (omega arith)

mark-below : (from mark j : ℕ) → from % 512 ≡ 0 → sn_of mark - sn_of from < BLOCK_DATA * j → mark < from + 512 * j + 12
mark-below from mark j aligned few =
    let here : sn_of (from + 512 * j) ≡ sn_of from + BLOCK_DATA * j = sn_of-block from j aligned in
    let header : sn_of (from + 512 * j + 12) ≡ sn_of (from + 512 * j) = sn_of-header (from + 512 * j) (omega arith) in
    ⊎_elim (λ h. h) (λ late. let rises : sn_of (from + 512 * j + 12) ≤ sn_of mark = sn_of-rises (from + 512 * j + 12) mark late in absurd (omega arith)) (cases_lt mark (from + 512 * j + 12))

-- where the mark stands after the full blocks
pub record Ends (shape : Shape) (marks : LogMarks) (mark full : ℕ) (bytes firsts : List ℕ) : Type 0 where
  pub reached : mark < block_of marks.written + 512 * full + 524
  pub past : 1 ≤ full → block_of marks.written + 512 * full + 12 ≤ mark
  pub none : length bytes ≡ BLOCK_DATA * full → (mark ≤ block_of mark + 12) × (length firsts ≡ full)
  pub some : BLOCK_DATA * full < length bytes → (block_of mark ≡ block_of marks.written + 512 * full) × (block_of mark + 12 < mark) × (length firsts ≡ full + 1)

pub ends-of : (shape : Shape) (marks : LogMarks) (mark ckpt full : ℕ) (bytes firsts : List ℕ) → IsDataLsn marks.written → IsCut shape marks mark ckpt full bytes firsts → Ends shape marks mark full bytes firsts
ends-of shape marks mark ckpt full bytes firsts written_place cut =
    let from : ℕ = block_of marks.written in
    let aligned : from % 512 ≡ 0 = omega arith in
    let counts = count-firsts bytes firsts cut.fit in
    let reached : mark < from + 512 * (full + 1) + 12 = mark-below from mark (full + 1) aligned (omega (arith, cut.count, cut.high)) in
    record {
      reached = omega arith;
      past = λ some. full-below from mark full aligned cut.place (omega (arith, cut.count, cut.low)) some;
      none = λ same. (
        (let there : sn_of mark ≤ sn_of (from + 512 * full + 12) =
            (let here : sn_of (from + 512 * full) ≡ sn_of from + BLOCK_DATA * full = sn_of-block from full aligned in
            let header : sn_of (from + 512 * full + 12) ≡ sn_of (from + 512 * full) = sn_of-header (from + 512 * full) (omega arith) in omega (arith, cut.count)) in
            let most : mark ≤ from + 512 * full + 12 = lsn-before mark (from + 512 * full + 12) cut.place (omega arith, omega arith) there in
            ⊎_elim (λ zero. omega (arith, cut.later, written_place, cut.place))
            (λ one. let low : from + 512 * full + 12 ≤ mark = full-below from mark full aligned cut.place (omega (arith, cut.count, cut.low)) one in omega arith) (cases_lt full 1)),
        omega (arith, counts.0, counts.1),
      );
      some = λ more. (
          let low : from + 512 * full + 12 < mark =
          ⊎_elim (λ h. h) (λ late.
          let here : sn_of (from + 512 * full) ≡ sn_of from + BLOCK_DATA * full = sn_of-block from full aligned in
          let header : sn_of (from + 512 * full + 12) ≡ sn_of (from + 512 * full) = sn_of-header (from + 512 * full) (omega arith) in
          let rises : sn_of mark ≤ sn_of (from + 512 * full + 12) = sn_of-rises mark (from + 512 * full + 12) late in
          absurd (omega (arith, cut.count))) (cases_lt (from + 512 * full + 12) mark) in
          let same : block_of mark ≡ from + 512 * full = omega (arith, cut.place) in
          (same, omega arith, omega (arith, counts.0, counts.1)));
    }

-- THE FULL BLOCKS.

-- one of the blocks that are cut, whatever checkpoint it names
block-at : (s : ℕ) (wholes : List Whole) (from mark ckpt i : ℕ) (bytes firsts : List ℕ) → IsAtDataStart s → block_of s ≤ from → from % 512 ≡ 0 → ckpt < 2 ^ 32
    → IsGivenTo s wholes from mark bytes firsts → i < length firsts
    → IsBoundaryBlock s wholes mark (from + 512 * i) (block_text (from + 512 * i) (take BLOCK_DATA (drop (BLOCK_DATA * i) bytes)) (get_or firsts i 0) ckpt)
block-at s wholes from mark ckpt i bytes firsts start low aligned small given below =
    subst (λ (x : List ℕ). IsBoundaryBlock s wholes mark (from + 512 * i) x) (framed-part bytes firsts from ckpt i below)
    (given-framed s wholes from mark ckpt i bytes firsts start low aligned small given below)

-- the text of one of them
full-text : (from ckpt full i : ℕ) (bytes firsts : List ℕ) → i < full → full ≤ length firsts
    → take 512 (drop (512 * i) (framed (take (BLOCK_DATA * full) bytes) from (take full firsts) ckpt)) ≡ block_text (from + 512 * i) (take BLOCK_DATA (drop (BLOCK_DATA * i) bytes)) (get_or firsts i 0) ckpt
full-text from ckpt full i bytes firsts below few =
    let within : BLOCK_DATA * full ≡ BLOCK_DATA * i + (BLOCK_DATA * full - BLOCK_DATA * i) = omega arith in
    framed-part (take (BLOCK_DATA * full) bytes) (take full firsts) from ckpt i (omega (arith, length-take full firsts))
    ∙ ap (λ (x : List ℕ). block_text (from + 512 * i) x (get_or (take full firsts) i 0) ckpt)
    (ap (λ n. take BLOCK_DATA (drop (BLOCK_DATA * i) (take n bytes))) within
    ∙ ap (take BLOCK_DATA) (drop-take (BLOCK_DATA * i) (BLOCK_DATA * full - BLOCK_DATA * i) bytes)
    ∙ take-take BLOCK_DATA (BLOCK_DATA * full - BLOCK_DATA * i) (drop (BLOCK_DATA * i) bytes) (omega arith))
    ∙ ap (λ first. block_text (from + 512 * i) (take BLOCK_DATA (drop (BLOCK_DATA * i) bytes)) first ckpt) (get_or-take full firsts i 0 below)

-- c of them from the k-th on, as one write at their place
cut-full : (shape : Shape) (s : ℕ) (wholes : List Whole) (kept mark least from ckpt full k c : ℕ) (bytes firsts : List ℕ) (write : Write)
    → IsAtDataStart s → block_of s ≤ from → from % 512 ≡ 0 → least ≤ from → kept < from + 524 → IsDataLsn mark → ckpt < 2 ^ 32
    → BLOCK_DATA * full ≤ sn_of mark - sn_of from → full ≤ length firsts → IsGivenTo s wholes from mark bytes firsts
    → k + c ≤ full → from + 512 * (k + c) ≤ least + round_of (run_layout shape) → write.at ≡ place_in (run_layout shape) (from + 512 * k)
    → write.at + 512 * c ≤ ring_start (run_layout shape) + round_of (run_layout shape) → write.bytes ≡ take (512 * c) (drop (512 * k) (framed (take (BLOCK_DATA * full) bytes) from (take full firsts) ckpt))
    → WritesFull shape s wholes kept mark least (from + 512 * k) c write
cut-full shape s wholes kept mark least from ckpt full k c bytes firsts write start low aligned started not_kept place ckpt_small much few given within within_round at within_log text =
    let all : List ℕ = framed (take (BLOCK_DATA * full) bytes) from (take full firsts) ckpt in
    let long : length all ≡ 512 * length (take full firsts) = length-framed (take (BLOCK_DATA * full) bytes) (take full firsts) from ckpt in
    record {
      aligned = omega arith;
      started = omega arith;
      not_kept = omega arith;
      within_round = omega arith;
      at_place = at;
      within_log = within_log;
      long = ap length text ∙ length-take (512 * c) (drop (512 * k) all) ∙ omega (arith, length-drop (512 * k) all, length-take full firsts);
      full = λ i below. (let there : from + 512 * (k + i + 1) + 12 ≤ mark = full-below from mark (k + i + 1) aligned place (omega arith) (omega arith) in omega arith);
      each = λ i below. (
          let b : ℕ = from + 512 * (k + i) in
          let here : b ≡ from + 512 * k + 512 * i = omega arith in
          let skip : 512 * k + 512 * i ≡ 512 * (k + i) = omega arith in
          let inside : 512 * c ≡ 512 * i + (512 * c - 512 * i) = omega arith in
          let part : take 512 (drop (512 * i) write.bytes) ≡ take 512 (drop (512 * (k + i)) all) =
          ap (λ (x : List ℕ). take 512 (drop (512 * i) x)) text
          ∙ ap (λ n. take 512 (drop (512 * i) (take n (drop (512 * k) all)))) inside
          ∙ ap (take 512) (drop-take (512 * i) (512 * c - 512 * i) (drop (512 * k) all))
          ∙ take-take 512 (512 * c - 512 * i) (drop (512 * i) (drop (512 * k) all)) (omega arith)
          ∙ ap (take 512) (drop-drop (512 * i) (512 * k) all ∙ ap (λ n. drop n all) skip) in
          let block : IsBoundaryBlock s wholes mark b (take 512 (drop (512 * (k + i)) all)) =
          subst (λ (x : List ℕ). IsBoundaryBlock s wholes mark b x) (sym (full-text from ckpt full (k + i) bytes firsts (omega arith) few))
          (block-at s wholes from mark ckpt (k + i) bytes firsts start low aligned ckpt_small given (omega arith)) in
          subst (λ (x : ℕ). IsBoundaryBlock s wholes mark x (take 512 (drop (512 * i) write.bytes))) here
          (subst (λ (x : List ℕ). IsBoundaryBlock s wholes mark b x) (sym part) block));
    }

-- the ring's end is followed by its start
place-wrap : (layout : Layout) (b c : ℕ) → b % 512 ≡ 0 → START_LSN ≤ b → 1 ≤ layout.blocks → place_in layout b + 512 * c ≡ ring_start layout + round_of layout
    → place_in layout (b + 512 * c) ≡ ring_start layout
place-wrap layout b c aligned started some at_end =
    let n : ℕ = round_of layout in
    let x : ℕ = block_of b - START_LSN in
    let parts : x / n * n + x % n ≡ x = div-add-mod' x n in
    let next : block_of (b + 512 * c) - START_LSN ≡ (x / n + 1) * n + 0 = omega arith in
    let rest : ((x / n + 1) * n + 0) % n ≡ 0 = mod-mul-add (x / n + 1) n 0 (omega arith) in
    ap (λ m. ring_start layout + m % n) next ∙ ap (λ m. ring_start layout + m) rest ∙ omega arith

-- the two writes in place
pub record Cuts (shape : Shape) (s : ℕ) (wholes : List Whole) (marks : LogMarks) (kept mark from full : ℕ) (all : List ℕ) : Type 0 where
  pub first : ℕ
  pub second : ℕ
  pub front_long : length (front_of (run_layout shape) from all) ≡ 512 * first
  pub back_long : length (back_of (run_layout shape) from all) ≡ 512 * second
  pub front_writes : 1 ≤ first → WritesFull shape s wholes kept mark marks.ckpt from first (write_at (place_in (run_layout shape) from) (front_of (run_layout shape) from all))
  pub back_writes : 1 ≤ second → WritesFull shape s wholes kept mark marks.ckpt (from + 512 * first) second (write_at (ring_start (run_layout shape)) (back_of (run_layout shape) from all))
  pub both : first + second ≡ full

pub cuts-of : (shape : Shape) (s : ℕ) (wholes : List Whole) (marks : LogMarks) (kept mark ckpt full : ℕ) (bytes firsts : List ℕ) → AreInOrder (run_layout shape) s wholes marks → kept ≤ marks.written → IsDataLsn marks.written
    → IsCut shape marks mark ckpt full bytes firsts → IsGivenTo s wholes (block_of marks.written) mark bytes firsts
    → Cuts shape s wholes marks kept mark (block_of marks.written) full (framed (take (496 * full) bytes) (block_of marks.written) (take full firsts) ckpt)
cuts-of shape s wholes marks kept mark ckpt full bytes firsts order kept_written written_place cut given =
    let from : ℕ = block_of marks.written in
    let at : ℕ = place_in (run_layout shape) from in
    let all : List ℕ = framed (take (BLOCK_DATA * full) bytes) from (take full firsts) ckpt in
    let end : ℕ = ring_start (run_layout shape) + round_of (run_layout shape) in
    let aligned : from % 512 ≡ 0 = omega arith in
    let started : START_LSN ≤ from = omega (arith, order.ckpt_started, order.ckpt_asked, order.asked_stable, order.stable_written) in
    let later : marks.ckpt ≤ from = omega (arith, order.ckpt_aligned, order.ckpt_asked, order.asked_stable, order.stable_written) in
    let low : block_of s ≤ from = omega (arith, order.ckpt_from) in
    let ends : Ends shape marks mark full bytes firsts = ends-of shape marks mark ckpt full bytes firsts written_place cut in
    let counts = count-firsts bytes firsts cut.fit in
    let enough : full ≤ length firsts = omega (arith, counts.1, cut.low) in
    let long : length all ≡ 512 * full = length-framed (take (BLOCK_DATA * full) bytes) (take full firsts) from ckpt ∙ omega (arith, length-take full firsts) in
    let here : 512 * sector_of (run_layout shape) from ≡ at = sector-place (run_layout shape) from in
    let at_low : at + 512 ≤ end = place-within (run_layout shape) from (record { some = cut.some_blocks; few = cut.few_blocks }) in
    let rest : ℕ = (end - at) / 512 in
    let rest_is : end - at ≡ 512 * rest = omega (arith, cut.some_blocks) in
    let first : ℕ = min full rest in
    let second : ℕ = full - first in
    let split : min (length all) (end - at) ≡ 512 * first = omega arith in
    let within : from + 512 * full ≤ marks.ckpt + round_of (run_layout shape) =
    ⊎_elim (λ none. omega (arith, cut.later, cut.room))
    (λ some. let last : from + 512 * full + 12 ≤ mark = ends.past some in omega (arith, cut.room)) (cases_lt full 1) in
    let much : BLOCK_DATA * full ≤ sn_of mark - sn_of from = omega (arith, cut.low, cut.count) in
    let not_kept : kept < from + 524 = omega (arith, written_place) in
    let zero_before : 0 ≡ 512 * 0 = omega arith in
    let front_text : front_of (run_layout shape) from all ≡ take (512 * first) (drop (512 * 0) all) =
    ap (λ n. take n all) split ∙ ap (λ n. take (512 * first) (drop n all)) zero_before in
    record {
      first = first;
      second = second;
      front_long = ap (λ n. length (take n all)) split ∙ length-take (512 * first) all ∙ omega arith;
      back_long = ap (λ n. length (drop n all)) split ∙ length-drop (512 * first) all ∙ omega arith;
      front_writes = λ some. (
          let zero_on : from + 512 * 0 ≡ from = omega arith in
          subst (λ (p : ℕ). WritesFull shape s wholes kept mark marks.ckpt p first (write_at at (front_of (run_layout shape) from all))) zero_on
          (cut-full shape s wholes kept mark marks.ckpt from ckpt full 0 first bytes firsts (write_at at (front_of (run_layout shape) from all)) order.starts low aligned later not_kept cut.place cut.ckpt_small much enough given
          (omega arith) (omega arith) (ap (place_in (run_layout shape)) (sym zero_on)) (omega (arith, cut.some_blocks)) front_text));
      back_writes = λ some. (
          let wraps : at + 512 * first ≡ end = omega (arith, cut.some_blocks) in
          let place : place_in (run_layout shape) (from + 512 * first) ≡ ring_start (run_layout shape) = place-wrap (run_layout shape) from first aligned started cut.some_blocks wraps in
          let rest_all : length (drop (512 * first) all) ≤ 512 * second = omega (arith, length-drop (512 * first) all) in
          cut-full shape s wholes kept mark marks.ckpt from ckpt full first second bytes firsts (write_at (ring_start (run_layout shape)) (back_of (run_layout shape) from all)) order.starts low aligned later not_kept cut.place cut.ckpt_small much enough given
          (omega arith) (omega arith) (sym place) (omega (arith, cut.some_blocks))
          (ap (λ n. drop n all) split ∙ sym (take_all (512 * second) (drop (512 * first) all) rest_all)));
      both = omega arith;
    }

-- THE INCOMPLETE BLOCK.

pub tail-writes : (shape : Shape) (s : ℕ) (wholes : List Whole) (marks : LogMarks) (mark ckpt full k : ℕ) (bytes firsts : List ℕ) → AreInOrder (run_layout shape) s wholes marks → IsDataLsn marks.written
    → IsCut shape marks mark ckpt full bytes firsts → IsGivenTo s wholes (block_of marks.written) mark bytes firsts → BLOCK_DATA * full < length bytes
    → WritesTail s wholes mark k (write_at (512 * k) (framed (drop (BLOCK_DATA * full) bytes) (block_of marks.written + 512 * full) (drop full firsts) (turn_of (block_of marks.written + 512 * full))))
tail-writes shape s wholes marks mark ckpt full k bytes firsts order written_place cut given more =
    let from : ℕ = block_of marks.written in
    let b : ℕ = from + 512 * full in
    let turn : ℕ = turn_of b in
    let ends : Ends shape marks mark full bytes firsts = ends-of shape marks mark ckpt full bytes firsts written_place cut in
    let at = ends.some more in
    let aligned : from % 512 ≡ 0 = omega arith in
    let low : block_of s ≤ from = omega (arith, order.ckpt_from, order.ckpt_aligned, order.ckpt_asked, order.asked_stable, order.stable_written) in
    let part : List ℕ = framed (drop (BLOCK_DATA * full) bytes) b (drop full firsts) turn in
    let one : length (drop full firsts) ≡ 1 = omega (arith, at.2, length-drop full firsts) in
    let long : length part ≡ 512 = length-framed (drop (BLOCK_DATA * full) bytes) (drop full firsts) b turn ∙ omega arith in
    let turn_small : turn < 2 ^ 32 = omega (arith, cut.small, at.0, at.1) in
    let none : 512 * 0 ≡ 0 = omega arith in
    let none_before : BLOCK_DATA * 0 ≡ 0 = omega arith in
    let here : b + 512 * 0 ≡ b = omega arith in
    let index : full + 0 ≡ full = omega arith in
    let text : part ≡ block_text b (take BLOCK_DATA (drop (BLOCK_DATA * full) bytes)) (get_or firsts full 0) turn =
    sym (take_all 512 part (omega arith)) ∙ ap (λ n. take 512 (drop n part)) (sym none)
    ∙ framed-part (drop (BLOCK_DATA * full) bytes) (drop full firsts) b turn 0 (omega arith)
    ∙ ap (λ l. block_text l (take BLOCK_DATA (drop (BLOCK_DATA * 0) (drop (BLOCK_DATA * full) bytes))) (get_or (drop full firsts) 0 0) turn) here
    ∙ ap (λ n. block_text b (take BLOCK_DATA (drop n (drop (BLOCK_DATA * full) bytes))) (get_or (drop full firsts) 0 0) turn) none_before
    ∙ ap (λ first. block_text b (take 496 (drop (496 * full) bytes)) first turn) (get_or-drop full firsts 0 0 ∙ ap (λ n. get_or firsts n 0) index) in
    let block : IsBoundaryBlock s wholes mark b part =
    subst (λ (x : List ℕ). IsBoundaryBlock s wholes mark b x) (sym text) (block-at s wholes from mark turn full bytes firsts order.starts low aligned turn_small given (omega (arith, at.2))) in
    record {
      at_place = refl;
      long = long;
      some = at.1;
      is = record {
        block = subst (λ (c : ℕ). IsBoundaryBlock s wholes mark c part) (sym at.0) block;
        turn = ap (field 4 8) text ∙ ckpt-of_block b (take BLOCK_DATA (drop (BLOCK_DATA * full) bytes)) (get_or firsts full 0) turn (omega (arith, length-take BLOCK_DATA (drop (BLOCK_DATA * full) bytes))) turn_small ∙ ap turn_of (sym at.0);
      };
    }
