-- A group, while its records are applied to the pages that it may be applied to.
use Rattle.std.proofs.Common.{◌≡◌, ◌≤◌, ◌<◌, ◌+◌, ◌*◌, ℕ, List, [], ◌∷◌, length, take, drop, get_or, Bool, true, false, cond, refl, sym, ap, subst, ◌∙◌, arith}
use Rattle.std.specs.Prelude.{Some, slice_get, nat_le}
use Rattle.std.proofs.lemmas.Bool.Decides.{nat_tests}
use Rattle.model_base.specs.declared.shape.Shape.{Shape}
use Rattle.model_log.specs.{GroupFits, page_of, RecordFits}
use Rattle.model_log.specs.declared.rec.Rec.{Rec}
use Rattle.model_page.specs.declared.content.Content.{Content}
use Rattle.model_store.specs.{applied, page_after}
use Rattle.model_store.proofs.Folding.{get-applied}
use Rattle.redo_apply.specs.Fits.{ArePagesOf}
use Rattle.redo_apply.specs.Frames.{contents}
use Rattle.redo_apply.specs.Replay.{AreAfterWhere, HaveLsns}
use Rattle.redo_apply.proofs.Frames.{length-contents, slice_get-contents}
use Rattle.std.proofs.lemmas.Option.{slice_get-get_or, slice_get_within}
use Rattle.redo_apply.proofs.Records.{page_after-cons, page_after-other}
use Rattle.redo_apply.proofs.Grouped.{fits-at, page-of, are-applied, drop-item}

-- what is left to be done to a page leads it where the whole group does, if it may be applied to the page
pub record IsPageHeld (p from : ℕ) (group : List Rec) (start end i : ℕ) (now : List Content) (content : Content) : Type 0 where
  pub held : Content
  pub now_is : slice_get now p ≡ Some held
  pub left : cond (nat_le from start) (page_after p (drop i group) end held) held ≡ cond (nat_le from start) (page_after p group end content) content

-- the first i records are applied, as far as the group may be
pub record IsWhereUnderWay (froms : List ℕ) (group : List Rec) (start end i : ℕ) (old now : List Content) : Type 0 where
  pub each : (p from : ℕ) (content : Content) → slice_get froms p ≡ Some from → slice_get old p ≡ Some content → IsPageHeld p from group start end i now content
  pub its_pages : (shape : Shape) → ArePagesOf shape old → GroupFits shape group → ArePagesOf shape now

not-low : (from start : ℕ) → nat_le from start ≡ false → from ≤ start → ⊥
not-low from start test low = grind (arith, nat_tests)

not-high : (from start : ℕ) → nat_le from start ≡ true → start < from → ⊥
not-high from start test high = grind (arith, nat_tests)

-- a record that is applied
left-own : (p : ℕ) (rec : Rec) (rest all : List Rec) (end : ℕ) (held : Content) (b : Bool) → all ≡ rec ∷ rest → (b ≡ false → page_of rec ≡ p → ⊥)
    → cond b (page_after p rest end (page_after p (rec ∷ []) end held)) (page_after p (rec ∷ []) end held) ≡ cond b (page_after p all end held) held
left-own p rec rest all end held true is other = sym (page_after-cons p rec rest end held) ∙ ap (λ recs. page_after p recs end held) (sym is)
left-own p rec rest all end held false is other = page_after-other p rec end held (other refl)

-- a record that isn't
left-other : (p : ℕ) (rec : Rec) (rest all : List Rec) (end : ℕ) (held : Content) (b : Bool) → all ≡ rec ∷ rest → (b ≡ true → page_of rec ≡ p → ⊥)
    → cond b (page_after p rest end held) held ≡ cond b (page_after p all end held) held
left-other p rec rest all end held true is other =
    ap (page_after p rest end) (sym (page_after-other p rec end held (other refl))) ∙ sym (page_after-cons p rec rest end held)
    ∙ ap (λ recs. page_after p recs end held) (sym is)
left-other p rec rest all end held false is other = refl

same-from : (froms : List ℕ) (p q from own : ℕ) → slice_get froms p ≡ Some from → slice_get froms q ≡ Some own → q ≡ p → own ≡ from
same-from froms p q from own at_from at_own on = let both : Some own ≡ Some from = sym at_own ∙ ap (slice_get froms) on ∙ at_from in cc

pub where-own : (froms : List ℕ) (group : List Rec) (start end i : ℕ) (old now new : List Content) (rec : Rec) (own : ℕ) → slice_get froms (page_of rec) ≡ Some own
    → own ≤ start → slice_get group i ≡ Some rec → IsWhereUnderWay froms group start end i old now → new ≡ applied (rec ∷ []) end now
    → IsWhereUnderWay froms group start end (i + 1) old new
where-own froms group start end i old now new rec own at_own low here way done = record {
  each = λ p from content at_from at.
      let was = way.each p from content at_from at in
      record {
        held = page_after p (rec ∷ []) end was.held;
        now_is = ap (λ xs. slice_get xs p) done ∙ get-applied p (rec ∷ []) end now was.held was.now_is;
        left = left-own p rec (drop (i + 1) group) (drop i group) end was.held (nat_le from start) (drop-item group i rec here)
            (λ test on. not-low from start test (let same : own ≡ from = same-from froms p (page_of rec) from own at_from at_own on in omega (arith, same, low)))
            ∙ was.left;
      };
  its_pages = λ shape are fits.
      let fit : RecordFits shape rec = fits-at (RecordFits shape) group i rec fits here in
      let are_now = way.its_pages shape are fits in
      let its = page-of shape now rec are_now fit in
      subst (ArePagesOf shape) (sym done) (are-applied shape now rec end its.page are_now fit its.at);
}

pub where-other : (froms : List ℕ) (group : List Rec) (start end i : ℕ) (old now : List Content) (rec : Rec) (own : ℕ) → slice_get froms (page_of rec) ≡ Some own
    → start < own → slice_get group i ≡ Some rec → IsWhereUnderWay froms group start end i old now → IsWhereUnderWay froms group start end (i + 1) old now
where-other froms group start end i old now rec own at_own high here way = record {
  each = λ p from content at_from at.
      let was = way.each p from content at_from at in
      record {
        held = was.held;
        now_is = was.now_is;
        left = left-other p rec (drop (i + 1) group) (drop i group) end was.held (nat_le from start) (drop-item group i rec here)
            (λ test on. not-high from start test (let same : own ≡ from = same-from froms p (page_of rec) from own at_from at_own on in omega (arith, same, high)))
            ∙ was.left;
      };
  its_pages = way.its_pages;
}

pub where-ends : (froms : List ℕ) (group : List Rec) (start end i : ℕ) (old now : List Content) → drop i group ≡ [] → IsWhereUnderWay froms group start end i old now
    → AreAfterWhere froms group start end old now
where-ends froms group start end i old now none way p from content at_from at =
    let was = way.each p from content at_from at in
    let held_is : was.held ≡ cond (nat_le from start) (page_after p (drop i group) end was.held) was.held = all-done p (drop i group) end was.held (nat_le from start) none in
    was.now_is ∙ ap Some (held_is ∙ was.left)
  where
    all-done : (p : ℕ) (recs : List Rec) (end : ℕ) (held : Content) (b : Bool) → recs ≡ [] → held ≡ cond b (page_after p recs end held) held
    all-done p recs end held true is = sym (ap (λ rs. page_after p rs end held) is)
    all-done p recs end held false is = refl

-- the lsns of pages that are kept as lsns and joined user bytes
pub have-lsns : (size : ℕ) (lsns users : List ℕ) (pages : List Content) → contents size lsns users ≡ pages → HaveLsns pages lsns
have-lsns size lsns users pages are = record {
  count = sym (length-contents size lsns users) ∙ ap length are;
  each = λ p content at.
      let below : p < length lsns = omega (arith, slice_get_within pages p content at, ap length are, length-contents size lsns users) in
      let found = sym at ∙ ap (λ xs. slice_get xs p) (sym are) ∙ slice_get-contents size lsns users p 0 below in
      let same : Some content.lsn ≡ Some (get_or lsns p 0) = lsn-of content (get_or lsns p 0) (take size (drop (p * size) users)) found in
      slice_get-get_or lsns p 0 below ∙ sym same;
}
  where
    lsn-of : (content : Content) (lsn : ℕ) (user : List ℕ) → Some content ≡ Some (let x : Content = record { lsn = lsn; user = user } in x) → Some content.lsn ≡ Some lsn
    lsn-of content lsn user found = let same : content ≡ (let x : Content = record { lsn = lsn; user = user } in x) = cc in ap (λ (c : Content). Some c.lsn) same
