-- For an lsn a device restores one thing, or is refused for one cause.
use Rattle.std.proofs.Common.{◌≡◌, ◌<◌, ℕ, inl, inr, List, length, Option, Some, None, refl, sym, ap, subst, ◌∙◌, ⊎_elim, arith}
use Rattle.std.proofs.lemmas.Bool.{cases_lt}
use Rattle.model_base.specs.declared.shape.Shape.{Shape}
use Rattle.model_log.specs.declared.group.Whole.{Whole}
use Rattle.model_log.specs.{header_block, IsFront, last_span_end, spans_of}
use Rattle.model_page.specs.declared.content.Content.{Content}
use Rattle.model_store.specs.{folded}
use Rattle.model_store.proofs.OneScan.{OneGroup, front-no_storable, same_groups}
use Rattle.model_store.proofs.Places.{has_place, same_places, same_some}
use Rattle.model_archive.specs.Restore.{archive_length, newest_mark, read_archive_head, archived_bytes, AreBasePages, base_lsn, block_count, block_lsn, ending_by, HasBadRecord, HasExtent, HasLongBlock, HasLongBlocks, IsArchive, IsBasePage, IsMissing, IsOutOf, IsReachedBy, IsRestored, RefusesRestore}
use Rattle.model_archive.specs.declared.extent.Extent.{Extent}
use Rattle.model_archive.specs.declared.refusal.RestoreRefusal.{RestoreRefusal}
use Rattle.model_archive.specs.declared.refusal.RestoreRefusal.TheVariants.{Missing, To, Page, Block, Record}

same-pair : (a c : ℕ) (b d : Shape) → (let o : Option (ℕ × Shape) = Some (a, b) in o ≡ Some (c, d)) → (a ≡ c) × (b ≡ d)
same-pair a c b d is =
    let first : ℕ × Shape = (a, b) in
    let second : ℕ × Shape = (c, d) in
    let same : first ≡ second = same_some (Some second) first second (sym is) refl in
    (ap (λ (p : ℕ × Shape). p.0) same, ap (λ (p : ℕ × Shape). p.1) same)

same-marks : (a c b d : ℕ) → (let o : Option (ℕ × ℕ) = Some (a, b) in o ≡ Some (c, d)) → b ≡ d
same-marks a c b d is =
    let first : ℕ × ℕ = (a, b) in
    let second : ℕ × ℕ = (c, d) in
    let same : first ≡ second = same_some (Some second) first second (sym is) refl in
    ap (λ (p : ℕ × ℕ). p.1) same

-- the head and the marks say one thing
pub same-extent : (image : List ℕ) (a b : Extent) → HasExtent image a → HasExtent image b → a ≡ b
same-extent image a b x y =
    let heads = same-pair a.start b.start a.shape b.shape (sym x.head ∙ y.head) in
    let mark : a.mark ≡ b.mark = same-marks x.number y.number a.mark b.mark
    (sym x.newest ∙ ap (λ s. newest_mark s image) heads.0 ∙ y.newest) in
    λ i. record { shape = heads.1 i; start = heads.0 i; mark = mark i }

pub missing-not : (image : List ℕ) (a : Extent) → IsMissing image → HasExtent image a → ⊥
missing-not image a missing has =
    elim missing [
      | inl short ↦ absurd (omega (arith, has.long))
      | inr (inl (long, none)) ↦ (let head = has.head in cc)
      | inr (inr (inl (start, shape, long, head, none))) ↦
          (let heads = same-pair start a.start shape a.shape (sym head ∙ has.head) in
          let newest : newest_mark a.start image ≡ None = subst (λ (s : ℕ). newest_mark s image ≡ None) heads.0 none in
          let some = has.newest in cc)
      | inr (inr (inr (start, shape, number, mark, long, head, newest, short))) ↦
          (missing-long image a start shape number mark head newest short has)
    ]
  where
    missing-long : (image : List ℕ) (a : Extent) (start : ℕ) (shape : Shape) (number mark : ℕ)
        → read_archive_head (header_block 0 image) ≡ Some (start, shape)
        → newest_mark start image ≡ Some (number, mark) → length image < archive_length shape start mark
        → HasExtent image a → ⊥
    missing-long image a start shape number mark head newest short has =
        let heads = same-pair start a.start shape a.shape (sym head ∙ has.head) in
        let same : mark ≡ a.mark = same-marks number has.number mark a.mark
        (sym newest ∙ ap (λ s. newest_mark s image) heads.0 ∙ has.newest) in
        let asked : archive_length shape start mark ≡ archive_length a.shape a.start a.mark =
        ap (λ (sh : Shape). archive_length sh start mark) heads.1
        ∙ ap (λ s. archive_length a.shape s mark) heads.0
        ∙ ap (archive_length a.shape a.start) same in
        let all = has.all in
        omega arith

-- A PAGE.

same-content : (x y : Content) → x.lsn ≡ y.lsn → x.user ≡ y.user → x ≡ y
same-content x y lsn user = λ i. record { lsn = lsn i; user = user i }

some-lsn : (o : Option ℕ) (a b : ℕ) → o ≡ Some a → o ≡ Some b → a ≡ b
some-lsn o a b x y = cc

same-base : (shape : Shape) (image : List ℕ) (xs ys : List Content) → AreBasePages shape image xs
    → AreBasePages shape image ys → xs ≡ ys
same-base shape image xs ys a b =
    same_places xs ys (a.count ∙ sym b.count) (λ p x y at there.
    let one : IsBasePage shape image p x = a.each p x at in
    let two : IsBasePage shape image p y = b.each p y there in
    same-content x y (some-lsn (base_lsn shape image p) x.lsn y.lsn one.passes two.passes) (one.user ∙ sym two.user))

page-not : (shape : Shape) (image : List ℕ) (pages : List Content) (p : ℕ) → AreBasePages shape image pages
    → p < shape.pages → base_lsn shape image p ≡ None → ⊥
page-not shape image pages p are below none =
    let there = has_place pages p (omega (arith, are.count)) in
    let passes = (are.each p there.0 there.1).passes in cc

-- THE GROUPS.

pub same-archive : OneGroup → (image : List ℕ) (extent : Extent) (xs ys : List Content) (ws vs : List Whole)
    → IsArchive image extent xs ws → IsArchive image extent ys vs → (xs ≡ ys) × (ws ≡ vs)
same-archive one image extent xs ys ws vs a b = (
  same-base extent.shape image xs ys a.pages_are b.pages_are,
  (same_groups one extent.shape (archived_bytes extent image) extent.start ws vs a.rest b.rest a.groups b.groups
      (front-no_storable one extent.shape a.rest a.front) (front-no_storable one extent.shape b.rest b.front)).0,
)

record-not : OneGroup → (image : List ℕ) (extent : Extent) (pages : List Content) (wholes : List Whole) (lsn : ℕ)
    → IsArchive image extent pages wholes → HasBadRecord image extent lsn → ⊥
record-not one image extent pages wholes lsn a bad =
    let same = same_groups one extent.shape
    (archived_bytes extent image) extent.start wholes bad.wholes a.rest bad.rest a.groups bad.groups
    (front-no_storable one extent.shape a.rest a.front) bad.no_storable in
    bad.no_front (subst IsFront same.1 a.front)

same-record : OneGroup → (image : List ℕ) (extent : Extent) (l k : ℕ) → HasBadRecord image extent l
    → HasBadRecord image extent k → l ≡ k
same-record one image extent l k a b =
    let same = same_groups one extent.shape (archived_bytes extent image) extent.start a.wholes b.wholes
    a.rest b.rest a.groups b.groups a.no_storable b.no_storable in
    a.at ∙ ap (λ (ws : List Whole). last_span_end extent.start (spans_of ws)) same.0 ∙ sym b.at

-- ONE ANSWER.

pub same-restored : OneGroup → (image : List ℕ) (lsn n m end last : ℕ) (xs ys : List Content)
    → IsRestored image lsn n end xs → IsRestored image lsn m last ys → (n ≡ m) × (end ≡ last) × (xs ≡ ys)
same-restored one image lsn n m end last xs ys a b =
    let extent : b.extent ≡ a.extent = same-extent image b.extent a.extent b.archive.has_extent a.archive.has_extent in
    let other : IsArchive image a.extent b.pages b.wholes =
    subst (λ (e : Extent). IsArchive image e b.pages b.wholes) extent b.archive in
    let same = same-archive one image a.extent a.pages b.pages a.wholes b.wholes a.archive other in
    let groups : ending_by lsn a.wholes ≡ ending_by lsn b.wholes = ap (ending_by lsn) same.1 in (
      a.n_is ∙ ap length groups ∙ sym b.n_is,
      a.end_is ∙ ap (λ (ws : List Whole). last_span_end a.extent.start (spans_of ws)) groups
          ∙ ap (λ (e : Extent). last_span_end e.start (spans_of (ending_by lsn b.wholes))) (sym extent) ∙ sym b.end_is,
      a.pages_are ∙ ap (λ (ps : List Content). folded ps (ending_by lsn a.wholes)) same.0 ∙ ap (folded b.pages) groups
          ∙ sym b.pages_are,
    )

out-not : (extent : Extent) (lsn : ℕ) → IsOutOf extent lsn → IsReachedBy extent lsn → ⊥
out-not extent lsn out reached = ⊎_elim (λ low. omega (arith, reached.from)) (λ high. omega (arith, reached.up_to)) out

pub restored-not_refused : OneGroup → (image : List ℕ) (lsn n end : ℕ) (xs : List Content) (refusal : RestoreRefusal)
    → IsRestored image lsn n end xs → RefusesRestore image lsn refusal → ⊥
restored-not_refused one image lsn n end xs Missing a b = missing-not image a.extent b a.archive.has_extent
restored-not_refused one image lsn n end xs (To l) a (extent, has, out, is) =
    let same : extent ≡ a.extent = same-extent image extent a.extent has a.archive.has_extent in
    out-not a.extent lsn (subst (λ (e : Extent). IsOutOf e lsn) same out) a.reached
restored-not_refused one image lsn n end xs (Page p) a (extent, has, reached, (below, none, first)) =
    let same : a.extent ≡ extent = same-extent image a.extent extent a.archive.has_extent has in
    let archive : IsArchive image extent a.pages a.wholes =
    subst (λ (e : Extent). IsArchive image e a.pages a.wholes) same a.archive in
    page-not extent.shape image a.pages p archive.pages_are below none
restored-not_refused one image lsn n end xs (Block l) a (extent, has, reached, pages, (i, below, at, not, first)) =
    let same : a.extent ≡ extent = same-extent image a.extent extent a.archive.has_extent has in
    let archive : IsArchive image extent a.pages a.wholes =
    subst (λ (e : Extent). IsArchive image e a.pages a.wholes) same a.archive in
    not (subst (λ (b : ℕ). HasLongBlock extent image b) (sym at) (archive.blocks i below))
restored-not_refused one image lsn n end xs (Record l) a (extent, has, reached, pages, blocks, bad) =
    let same : a.extent ≡ extent = same-extent image a.extent extent a.archive.has_extent has in
    let archive : IsArchive image extent a.pages a.wholes =
    subst (λ (e : Extent). IsArchive image e a.pages a.wholes) same a.archive in
    record-not one image extent a.pages a.wholes l archive bad

-- both are judged by the same head and marks
abbrev Judged : List ℕ → ℕ → Extent → Type 0
Judged image lsn extent = HasExtent image extent × IsReachedBy extent lsn

to-not : (image : List ℕ) (lsn : ℕ) (a b : Extent) → HasExtent image a → IsOutOf a lsn → HasExtent image b
    → IsReachedBy b lsn → ⊥
to-not image lsn a b x out y reached = out-not b lsn
    (subst (λ (e : Extent). IsOutOf e lsn) (same-extent image a b x y) out) reached

page-not_all : (image : List ℕ) (a b : Extent) (p : ℕ) (pages : List Content) → HasExtent image a → HasExtent image b
    → p < a.shape.pages → base_lsn a.shape image p ≡ None → AreBasePages b.shape image pages → ⊥
page-not_all image a b p pages x y below none are =
    page-not a.shape image pages p (subst (λ (e : Extent). AreBasePages e.shape image pages)
    (same-extent image b a y x) are) below none

block-not_all : (image : List ℕ) (a b : Extent) (i l : ℕ) → HasExtent image a → HasExtent image b → i < block_count a
    → l ≡ block_lsn a i → (HasLongBlock a image l → ⊥) → HasLongBlocks b image (block_count b) → ⊥
block-not_all image a b i l x y below at not all =
    let same : HasLongBlocks a image (block_count a) =
    subst (λ (e : Extent). HasLongBlocks e image (block_count e)) (same-extent image b a y x) all in
    not (subst (λ (c : ℕ). HasLongBlock a image c) (sym at) (same i below))

pub same-refusal : OneGroup → (image : List ℕ) (lsn : ℕ) (first second : RestoreRefusal)
    → RefusesRestore image lsn first → RefusesRestore image lsn second → first ≡ second
same-refusal one image lsn Missing Missing a b = refl
same-refusal one image lsn Missing (To l) a b = absurd (missing-not image b.0 a b.1)
same-refusal one image lsn Missing (Page p) a b = absurd (missing-not image b.0 a b.1)
same-refusal one image lsn Missing (Block l) a b = absurd (missing-not image b.0 a b.1)
same-refusal one image lsn Missing (Record l) a b = absurd (missing-not image b.0 a b.1)
same-refusal one image lsn (To l) Missing a b = absurd (missing-not image a.0 b a.1)
same-refusal one image lsn (Page p) Missing a b = absurd (missing-not image a.0 b a.1)
same-refusal one image lsn (Block l) Missing a b = absurd (missing-not image a.0 b a.1)
same-refusal one image lsn (Record l) Missing a b = absurd (missing-not image a.0 b a.1)
same-refusal one image lsn (To l) (To k) a b = ap To (a.3 ∙ sym b.3)
same-refusal one image lsn (To l) (Page p) a b = absurd (to-not image lsn a.0 b.0 a.1 a.2 b.1 b.2)
same-refusal one image lsn (To l) (Block k) a b = absurd (to-not image lsn a.0 b.0 a.1 a.2 b.1 b.2)
same-refusal one image lsn (To l) (Record k) a b = absurd (to-not image lsn a.0 b.0 a.1 a.2 b.1 b.2)
same-refusal one image lsn (Page p) (To k) a b = absurd (to-not image lsn b.0 a.0 b.1 b.2 a.1 a.2)
same-refusal one image lsn (Block l) (To k) a b = absurd (to-not image lsn b.0 a.0 b.1 b.2 a.1 a.2)
same-refusal one image lsn (Record l) (To k) a b = absurd (to-not image lsn b.0 a.0 b.1 b.2 a.1 a.2)
same-refusal one image lsn (Page p) (Page q) (x, has_x, reached_x, (below_x, none_x, first_x))
    (y, has_y, reached_y, (below_y, none_y, first_y)) =
    let same : x ≡ y = same-extent image x y has_x has_y in
    ⊎_elim (λ less. absurd (first_y p less (subst (λ (e : Extent). base_lsn e.shape image p ≡ None) same none_x)))
    (λ not_less. ⊎_elim (λ more. absurd (first_x q more
    (subst (λ (e : Extent). base_lsn e.shape image q ≡ None) (sym same) none_y)))
    (λ not_more. let is : p ≡ q = omega arith in ap Page is) (cases_lt q p)) (cases_lt p q)
same-refusal one image lsn (Page p) (Block l) a b =
    absurd (page-not_all image a.0 b.0 p b.3.0 a.1 b.1 a.3.0 a.3.1 b.3.1)
same-refusal one image lsn (Page p) (Record l) a b =
    absurd (page-not_all image a.0 b.0 p b.3.0 a.1 b.1 a.3.0 a.3.1 b.3.1)
same-refusal one image lsn (Block l) (Page p) a b =
    absurd (page-not_all image b.0 a.0 p a.3.0 b.1 a.1 b.3.0 b.3.1 a.3.1)
same-refusal one image lsn (Record l) (Page p) a b =
    absurd (page-not_all image b.0 a.0 p a.3.0 b.1 a.1 b.3.0 b.3.1 a.3.1)
same-refusal one image lsn (Block l) (Block k) (x, has_x, reached_x, pages_x, (i, below_i, at_i, not_i, first_i))
    (y, has_y, reached_y, pages_y, (j, below_j, at_j, not_j, first_j)) =
    let same : x ≡ y = same-extent image x y has_x has_y in
    ⊎_elim (λ less. absurd (not_i (subst (λ (c : ℕ). HasLongBlock x image c) (sym at_i)
    (subst (λ (e : Extent). HasLongBlock e image (block_lsn e i)) (sym same) (first_j i less)))))
    (λ not_less. ⊎_elim (λ more. absurd (not_j (subst (λ (c : ℕ). HasLongBlock y image c) (sym at_j)
    (subst (λ (e : Extent). HasLongBlock e image (block_lsn e j)) same (first_i j more)))))
    (λ not_more.
    let is : i ≡ j = omega arith in
    let lsns : l ≡ k = at_i ∙ ap (block_lsn x) is ∙ ap (λ (e : Extent). block_lsn e j) same ∙ sym at_j in
    ap Block lsns) (cases_lt j i)) (cases_lt i j)
same-refusal one image lsn (Block l) (Record k) (x, has_x, reached_x, pages_x, (i, below_i, at_i, not_i, first_i)) b =
    absurd (block-not_all image x b.0 i l has_x b.1 below_i at_i not_i b.4)
same-refusal one image lsn (Record k) (Block l) a (x, has_x, reached_x, pages_x, (i, below_i, at_i, not_i, first_i)) =
    absurd (block-not_all image x a.0 i l has_x a.1 below_i at_i not_i a.4)
same-refusal one image lsn (Record l) (Record k) (x, has_x, reached_x, pages_x, blocks_x, bad_x)
    (y, has_y, reached_y, pages_y, blocks_y, bad_y) =
    let same : y ≡ x = same-extent image y x has_y has_x in
    ap Record (same-record one image x l k bad_x (subst (λ (e : Extent). HasBadRecord image e k) same bad_y))
