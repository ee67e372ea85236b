-- The numbers of pages, cut into runs, and the frames of the runs, joined.
use Rattle.std.proofs.Common.{◌≡◌, ◌≤◌, ◌<◌, ◌+◌, ◌-◌, ℕ, zero, suc, min, List, [], ◌∷◌, length, take, drop, map, Some, All, refl, sym, ap, subst, ◌∙◌, arith}
use Rattle.std.specs.Prelude.{IfOk, MatchResult}
use Rattle.std.specs.Borrow.{Bor}
use Rattle.std.specs.List.{AllZip, Contains, flat_map, range_with_len, slice_get}
use Rattle.std.specs.declared.alloc.Global.{Global}
use Rattle.std.specs.declared.result.Result.{Result}
use Rattle.std.specs.declared.result.Result.TheVariants.{Ok, Err}
use Rattle.std.specs.declared.vec.Vec.{Vec}
use Rattle.std.proofs.lemmas.List.{length-map}
use Rattle.std.proofs.lemmas.List.Elements.{All-cons, All-nil}
use Rattle.std.proofs.lemmas.List.FromFn.{length-range_with_len}
use Rattle.rayon.specs.Lists.{chunks_from, chunks_of}
use Rattle.rayon.proofs.ListFacts.{AllZip-append, AllZip-through}
use Rattle.rayon.proofs.ToStd.{chunks_of-concat}
use Rattle.model_base.specs.declared.shape.Shape.{Shape}
use Rattle.model_log.specs.declared.group.Whole.{Whole}
use Rattle.model_page.specs.declared.content.Content.{Content}
use Rattle.model_store.specs.{replayed}
use Rattle.redo_apply.specs.{ArePagesOf, AreReplayed}
use Rattle.redo_papply.specs.Frames.{content_of, IsFrameOf}
use Rattle.redo_papply.specs.Runs.{AreNumbersOf, HaveSizes}
use Rattle.redo_papply.specs.declared.frame.Frame.{Frame}

-- CUT

take-range : (k a n : ℕ) → take k (range_with_len a n) ≡ range_with_len a (min k n)
take-range zero a n = (let none : 0 ≡ min 0 n = omega arith in ap (range_with_len a) none)
take-range (suc k) a zero = (let none : 0 ≡ min (suc k) 0 = omega arith in ap (range_with_len a) none)
take-range (suc k) a (suc n) =
    ap (λ l. a ∷ l) (take-range k (a + 1) n) ∙ more (min k n) (min (suc k) (suc n)) (omega arith)
  where
    more : (m l : ℕ) → l ≡ suc m → range_with_len a (suc m) ≡ range_with_len a l
    more m l is = ap (range_with_len a) (sym is)

drop-range : (k a n : ℕ) → drop k (range_with_len a n) ≡ range_with_len (a + k) (n - k)
drop-range zero a n = (let at : a ≡ a + 0 = omega arith in let left : n ≡ n - 0 = omega arith in λ i. range_with_len (at i) (left i))
drop-range (suc k) a zero = (let left : 0 ≡ 0 - suc k = omega arith in ap (range_with_len (a + suc k)) left)
drop-range (suc k) a (suc n) =
    drop-range k (a + 1) n
    ∙ (let at : a + 1 + k ≡ a + suc k = omega arith in let left : n - k ≡ suc n - suc k = omega arith in λ i. range_with_len (at i) (left i))

-- numbers that stand side by side
run-of : (pages : List Content) (numbers : List ℕ) (a n : ℕ) → numbers ≡ range_with_len a n → 1 ≤ n → a + n ≤ length pages → AreNumbersOf pages numbers
run-of pages numbers a n are some within =
    let long : length numbers ≡ n = ap length are ∙ length-range_with_len a n in
    record {
      first = a;
      are = are ∙ ap (range_with_len a) (sym long);
      some = omega (arith, long, some);
      within = omega (arith, long, within);
    }

cut-from : (pages : List Content) (size : ℕ) → 0 < size → (fuel a n : ℕ) → (1 ≤ n → a + n ≤ length pages)
    → All (AreNumbersOf pages) (chunks_from fuel size (range_with_len a n))
cut-from pages size some zero a n within = All-nil (AreNumbersOf pages)
cut-from pages size some (suc fuel) a zero within = All-nil (AreNumbersOf pages)
cut-from pages size some (suc fuel) a (suc n) within =
    let low = within (omega arith) in
    let rest : All (AreNumbersOf pages) (chunks_from fuel size (drop size (range_with_len a (suc n)))) =
    subst (λ (l : List ℕ). All (AreNumbersOf pages) (chunks_from fuel size l)) (sym (drop-range size a (suc n)))
    (cut-from pages size some fuel (a + size) (suc n - size) (λ left. omega (arith, low, left))) in
    All-cons (AreNumbersOf pages) (take size (range_with_len a (suc n))) (chunks_from fuel size (drop size (range_with_len a (suc n))))
    (run-of pages (take size (range_with_len a (suc n))) a (min size (suc n)) (take-range size a (suc n)) (omega (arith, some)) (omega (arith, low)))
    rest

-- each run of the numbers of all pages
pub runs-cut : (pages : List Content) (numbers : List ℕ) (size : ℕ) → 0 < size → numbers ≡ range_with_len 0 (length pages)
    → All (AreNumbersOf pages) (chunks_of size numbers)
runs-cut pages numbers size some are =
    subst (λ (l : List ℕ). All (AreNumbersOf pages) (chunks_of size l)) (sym are)
    (cut-from pages size some (length (range_with_len 0 (length pages))) 0 (length pages) (λ any. omega arith))

-- JOINED

-- the runs of all workers, if all went well
well : (wholes : List Whole) (pages : List Content) (E : Type 0) (chunks : List (List ℕ)) (runs : List (Vec Frame Global))
    → AllZip (λ chunk (run : Result (Vec Frame Global) E). IfOk run (λ frames. AllZip (IsFrameOf wholes pages) chunk frames.items)) chunks (map Ok runs)
    → AllZip (λ chunk (frames : Vec Frame Global). AllZip (IsFrameOf wholes pages) chunk frames.items) chunks runs
well wholes pages E [] [] all = tt
well wholes pages E [] (run ∷ runs) all = absurd all
well wholes pages E (chunk ∷ chunks) [] all = absurd all
well wholes pages E (chunk ∷ chunks) (run ∷ runs) all = (all.0, well wholes pages E chunks runs all.1)

pub all-well : (wholes : List Whole) (pages : List Content) (E : Type 0) (chunks : List (List ℕ)) (lent : List (Bor (List ℕ)))
    (results : List (Result (Vec Frame Global) E)) (r : Result (Vec (Vec Frame Global) Global) E) → map (λ (x : Bor (List ℕ)). x.now) lent ≡ chunks
    → AllZip (λ (x : Bor (List ℕ)) (run : Result (Vec Frame Global) E). IfOk run (λ frames. AllZip (IsFrameOf wholes pages) x.now frames.items)) lent results
    → MatchResult r (λ runs. (ys : List (Vec Frame Global)) × (results ≡ map Ok ys) × (runs.items ≡ ys)) (λ e. Contains results (Err e))
    → IfOk r (λ runs. AllZip (λ chunk (frames : Vec Frame Global). AllZip (IsFrameOf wholes pages) chunk frames.items) chunks runs.items)
all-well wholes pages E chunks lent results (Err e) are all is = tt
all-well wholes pages E chunks lent results (Ok runs) are all is =
    let Holds = λ (chunk : List ℕ) (run : Result (Vec Frame Global) E). IfOk run (λ frames. AllZip (IsFrameOf wholes pages) chunk frames.items) in
    let shown : AllZip Holds (map (λ (x : Bor (List ℕ)). x.now) lent) results =
    AllZip-through (λ (x : Bor (List ℕ)). x.now) (λ x run. Holds x.now run) Holds (λ x run h. h) lent results all in
    subst (λ (ys : List (Vec Frame Global)). AllZip (λ chunk (frames : Vec Frame Global). AllZip (IsFrameOf wholes pages) chunk frames.items) chunks ys) (sym is.2)
    (well wholes pages E chunks is.0 (subst (λ (cs : List (List ℕ)). AllZip Holds cs (map Ok is.0)) are
    (subst (λ (rs : List (Result (Vec Frame Global) E)). AllZip Holds (map (λ (x : Bor (List ℕ)). x.now) lent) rs) is.1 shown)))

all-joined : (wholes : List Whole) (pages : List Content) (chunks : List (List ℕ)) (runs : List (Vec Frame Global)) → AllZip (λ chunk (frames : Vec Frame Global). AllZip (IsFrameOf wholes pages) chunk frames.items) chunks runs
    → AllZip (IsFrameOf wholes pages) (flat_map (λ chunk. chunk) chunks) (flat_map (λ (run : Vec Frame Global). run.items) runs)
all-joined wholes pages [] [] all = tt
all-joined wholes pages [] (run ∷ runs) all = absurd all
all-joined wholes pages (chunk ∷ chunks) [] all = absurd all
all-joined wholes pages (chunk ∷ chunks) (run ∷ runs) all =
    AllZip-append (IsFrameOf wholes pages) chunk (flat_map (λ c. c) chunks) run.items (flat_map (λ (r : Vec Frame Global). r.items) runs)
    all.0 (all-joined wholes pages chunks runs all.1)

-- the frames of all pages
pub frames-joined : (wholes : List Whole) (pages : List Content) (numbers : List ℕ) (size : ℕ) (runs : List (Vec Frame Global)) (frames : List Frame) → 0 < size
    → numbers ≡ range_with_len 0 (length pages)
    → AllZip (λ chunk (run : Vec Frame Global). AllZip (IsFrameOf wholes pages) chunk run.items) (chunks_of size numbers) runs
    → frames ≡ flat_map (λ (run : Vec Frame Global). run.items) runs → AllZip (IsFrameOf wholes pages) (range_with_len 0 (length pages)) frames
frames-joined wholes pages numbers size runs frames some are all frames_are =
    subst (λ (l : List Frame). AllZip (IsFrameOf wholes pages) (range_with_len 0 (length pages)) l) (sym frames_are)
    (subst (λ (l : List ℕ). AllZip (IsFrameOf wholes pages) l (flat_map (λ (run : Vec Frame Global). run.items) runs))
    (chunks_of-concat size numbers some ∙ are) (all-joined wholes pages (chunks_of size numbers) runs all))

-- the frame of each page
pub frame-at : (wholes : List Whole) (pages : List Content) (a n i : ℕ) (frames : List Frame) (frame : Frame)
    → AllZip (IsFrameOf wholes pages) (range_with_len a n) frames → slice_get frames i ≡ Some frame → IsFrameOf wholes pages (a + i) frame
frame-at wholes pages a zero i [] frame all at = absurd cc
frame-at wholes pages a zero i (f ∷ frames) frame all at = absurd all
frame-at wholes pages a (suc n) i [] frame all at = absurd all
frame-at wholes pages a (suc n) zero (f ∷ frames) frame all at =
    let same : f ≡ frame = cc in
    let here : a ≡ a + 0 = omega arith in
    subst (λ (q : ℕ). IsFrameOf wholes pages q frame) here (subst (λ (x : Frame). IsFrameOf wholes pages a x) same all.0)
frame-at wholes pages a (suc n) (suc i) (f ∷ frames) frame all at =
    let here : a + 1 + i ≡ a + suc i = omega arith in
    subst (λ (q : ℕ). IsFrameOf wholes pages q frame) here (frame-at wholes pages (a + 1) n i frames frame all.1 at)

pub frames-long : (wholes : List Whole) (pages : List Content) (a n : ℕ) (frames : List Frame)
    → AllZip (IsFrameOf wholes pages) (range_with_len a n) frames → length frames ≡ n
frames-long wholes pages a zero [] all = refl
frames-long wholes pages a zero (f ∷ frames) all = absurd all
frames-long wholes pages a (suc n) [] all = absurd all
frames-long wholes pages a (suc n) (f ∷ frames) all = ap suc (frames-long wholes pages (a + 1) n frames all.1)

pub frames-sized : (wholes : List Whole) (pages : List Content) (frames : List Frame)
    → AllZip (IsFrameOf wholes pages) (range_with_len 0 (length pages)) frames → HaveSizes frames pages
frames-sized wholes pages frames all p frame page at here =
    let is = frame-at wholes pages 0 (length pages) p frames frame all at in
    let own : slice_get pages p ≡ Some is.old = ap (slice_get pages) (omega arith) ∙ is.at in
    let same : is.old ≡ page = cc in
    is.size ∙ ap (λ (c : Content). length c.user) same

get-map : (frames : List Frame) (p : ℕ) (page : Content) → slice_get (map content_of frames) p ≡ Some page
    → (frame : Frame) × (slice_get frames p ≡ Some frame) × (page ≡ content_of frame)
get-map [] p page at = absurd cc
get-map (f ∷ frames) zero page at = (f, refl, cc)
get-map (f ∷ frames) (suc p) page at = get-map frames p page at

-- they are pages of the same sizes
pub frames-pages : (wholes : List Whole) (pages after : List Content) (frames : List Frame)
    → AllZip (IsFrameOf wholes pages) (range_with_len 0 (length pages)) frames → after ≡ map content_of frames → (shape : Shape) → ArePagesOf shape pages
    → ArePagesOf shape after
frames-pages wholes pages after frames all after_is shape its = record {
  count = ap length after_is ∙ length-map frames content_of ∙ frames-long wholes pages 0 (length pages) frames all ∙ its.count;
  sizes = λ p page at.
      let found = get-map frames p page (ap (λ xs. slice_get xs p) (sym after_is) ∙ at) in
      let is = frame-at wholes pages 0 (length pages) p frames found.0 all found.1 in
      ap (λ (c : Content). length c.user) found.2 ∙ is.size ∙ its.sizes (0 + p) is.old is.at;
}

-- the contents of the frames are the pages that are asked for
pub frames-replayed : (wholes : List Whole) (pages after : List Content) (frames : List Frame)
    → AllZip (IsFrameOf wholes pages) (range_with_len 0 (length pages)) frames → after ≡ map content_of frames → AreReplayed wholes pages after
frames-replayed wholes pages after frames all after_is = record {
  count = ap length after_is ∙ length-map frames content_of ∙ frames-long wholes pages 0 (length pages) frames all;
  each = λ p page at.
      let found = get-map frames p page (ap (λ xs. slice_get xs p) (sym after_is) ∙ at) in
      let is = frame-at wholes pages 0 (length pages) p frames found.0 all found.1 in
      let here : 0 + p ≡ p = omega arith in (
        is.old,
        ap (slice_get pages) (sym here) ∙ is.at,
        found.2 ∙ is.page ∙ ap (λ q. replayed q is.old.lsn wholes is.old) here,
      );
}
