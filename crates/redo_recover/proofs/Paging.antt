-- Pages that are kept, judged and replayed one after another.
use Rattle.std.proofs.Common.{◌≡◌, ℕ, ◌+◌, ◌<◌, ◌≤◌, cond, List, ◌∷◌, length, set, get_or, drop, Some, arith, refl, sym, ap, ◌∙◌}
use Rattle.std.specs.Prelude.{nat_le}
use Rattle.std.specs.List.{slice_get}
use Rattle.std.proofs.lemmas.List.{drop_more, drop_all}
use Rattle.std.proofs.lemmas.Option.{slice_get_within}
use Rattle.model_base.specs.declared.shape.Shape.{Shape}
use Rattle.model_log.specs.declared.group.Whole.{Whole}
use Rattle.model_page.proofs.Kept.{same_kept}
use Rattle.model_page.specs.{IsKept, IsLost}
use Rattle.model_page.specs.declared.content.Content.{Content}
use Rattle.model_store.specs.{AreKeptBelow, AreNotAheadBelow, AreReadPages, IsKeptAt, page_after, replayed}
use Rattle.model_store.proofs.Places.{has_place}
use Rattle.redo_apply.specs.{AreAfterWhere, AreReplayed, ArePagesOf, HaveLsns}
use Rattle.redo_recover.specs.Pages.{AreKept, AreNotAhead, IsFirstLost, IsFirstAhead}
use Rattle.redo_recover.proofs.Setting.{all-first, AreFirst, first-put}

-- KEPT PAGES

-- the pages below this number are as they are kept
abbrev pub AreKeptFirst : Shape → List ℕ → ℕ → List Content → Type 0
AreKeptFirst shape data_bytes count pages = AreFirst (IsKept shape data_bytes) shape count pages

pub kept-put : (shape : Shape) (data_bytes : List ℕ) (count : ℕ) (pages new : List Content) (kept : Content) → AreKeptFirst shape data_bytes count pages
    → IsKept shape data_bytes count kept → new ≡ set pages count kept → ArePagesOf shape new → AreKeptFirst shape data_bytes (count + 1) new
kept-put shape data_bytes count pages new kept a is new_is its =
    first-put (IsKept shape data_bytes) shape count pages new kept a is new_is its

-- a kept page has an lsn
kept-at : (shape : Shape) (data_bytes : List ℕ) (p : ℕ) (page : Content) → IsKept shape data_bytes p page → (lsn : ℕ) × IsKeptAt shape data_bytes p lsn
kept-at shape data_bytes p page kept = (page.lsn, record { kept = page; is_kept = kept; same = refl })

-- after kept pages comes one that is lost
pub first_lost : (shape : Shape) (data_bytes : List ℕ) (pages : List Content) (count : ℕ) → AreKeptFirst shape data_bytes count pages
    → count < shape.pages → IsLost shape data_bytes count → IsFirstLost shape data_bytes count
first_lost shape data_bytes pages count a below lost = record {
  below = below;
  lost = lost;
  kept = λ p h. (let page = has_place pages p (omega (arith, a.its_pages.count)) in kept-at shape data_bytes p page.0 (a.each p page.0 h page.1));
}

pub all-kept : (shape : Shape) (data_bytes : List ℕ) (pages : List Content) (count : ℕ) → AreKeptFirst shape data_bytes count pages
    → shape.pages ≤ count → AreKept shape data_bytes pages
all-kept shape data_bytes pages count a all =
    record { count = a.its_pages.count; each = all-first (IsKept shape data_bytes) shape pages count a all }

-- JUDGED

-- every page is kept, but one is ahead, the first that is
abbrev pub IsFirstKeptAhead : Shape → ℕ → ℕ → ℕ → List ℕ → Type 0
IsFirstKeptAhead shape end p lsn data_bytes =
    AreKeptBelow shape data_bytes shape.pages
    × (p < shape.pages) × IsKeptAt shape data_bytes p lsn × (end < lsn) × AreNotAheadBelow shape data_bytes end p

pub ahead-refused : (shape : Shape) (data_bytes : List ℕ) (pages : List Content) (end p lsn : ℕ) → AreKept shape data_bytes pages
    → IsFirstAhead pages end p lsn → IsFirstKeptAhead shape end p lsn data_bytes
ahead-refused shape data_bytes pages end p lsn a first =
    let within : p < length pages = slice_get_within pages p first.page first.at in (
      (λ q h. (let page = has_place pages q (omega (arith, a.count)) in kept-at shape data_bytes q page.0 (a.each q page.0 page.1))),
      omega (arith, a.count),
      record { kept = first.page; is_kept = a.each p first.page first.at; same = first.same },
      first.ahead,
      λ q other h kept. (
          let page = has_place pages q (omega arith) in
          let fine : page.0.lsn ≤ end = first.first q page.0 h page.1 in
          let one = same_kept shape data_bytes q kept.kept page.0 kept.is_kept (a.each q page.0 page.1) in
          omega (arith, kept.same, ap (λ (c : Content). c.lsn) one)),
    )

-- REPLAYED

-- what is left of the groups leads a page where all of them do
pub record IsReplaying (p from : ℕ) (groups : List Whole) (i : ℕ) (now : List Content) (kept : Content) : Type 0 where
  pub page : Content
  pub now_is : slice_get now p ≡ Some page
  pub rest : replayed p from (drop i groups) page ≡ replayed p from groups kept

-- the first of the groups are applied to the pages
abbrev pub AreReplaying : List Whole → ℕ → List Content → List Content → Type 0
AreReplaying groups i old now = (p : ℕ) (kept : Content) → slice_get old p ≡ Some kept → IsReplaying p kept.lsn groups i now kept

pub replaying-none : (groups : List Whole) (old : List Content) → AreReplaying groups 0 old old
replaying-none groups old p kept at = record { page = kept; now_is = at; rest = refl }

pub replaying-more : (groups : List Whole) (i : ℕ) (lsns : List ℕ) (old now new : List Content) (whole : Whole) → i < length groups
    → whole ≡ get_or groups i whole → HaveLsns old lsns → AreAfterWhere lsns whole.group whole.start whole.end now new
    → AreReplaying groups i old now → AreReplaying groups (i + 1) old new
replaying-more groups i lsns old now new whole h whole_is have after state p kept at =
    let was = state p kept at in
    let next : drop i groups ≡ whole ∷ drop (i + 1) groups = drop_more groups i whole h ∙ ap (λ (w : Whole). w ∷ drop (i + 1) groups) (sym whole_is) in
    record {
      page = cond (nat_le kept.lsn whole.start) (page_after p whole.group whole.end was.page) was.page;
      now_is = after p kept.lsn was.page (have.each p kept at) was.now_is;
      rest = ap (λ ws. replayed p kept.lsn ws was.page) (sym next) ∙ was.rest;
    }

pub replaying-all : (groups : List Whole) (i : ℕ) (old now : List Content) → length groups ≤ i → length now ≡ length old
    → AreReplaying groups i old now → AreReplayed groups old now
replaying-all groups i old now all many state = record {
  count = many;
  each = λ p page at.
      let here = has_place old p (omega (arith, slice_get_within now p page at, many)) in
      let was = state p here.0 here.1 in
      let both : Some page ≡ Some was.page = sym at ∙ was.now_is in
      let same : page ≡ was.page = cc in
      (here.0, here.1, same ∙ ap (λ ws. replayed p here.0.lsn ws was.page) (sym (drop_all i groups all)) ∙ was.rest);
}

-- READ

pub pages-read : (shape : Shape) (data_bytes : List ℕ) (wholes : List Whole) (end : ℕ) (pages new : List Content) → AreKept shape data_bytes pages
    → AreNotAhead pages end → AreReplayed wholes pages new → AreReadPages shape data_bytes wholes end new
pages-read shape data_bytes wholes end pages new a fine replay = record {
  count = replay.count ∙ a.count;
  each = λ p page at. (
      let from = replay.each p page at in
      record { kept = from.0; is_kept = a.each p from.0 from.1; not_ahead = fine p from.0 from.1; replay = from.2 });
}
