-- The pages that records are on, ascending.
use Rattle.std.proofs.Common.{Bool, List, [], add-one, ap, arith, cond, eqb, false, leb, ltb, refl, suc, sym, true, zero, ℕ, ⊎_elim, ◌&&◌, ◌++◌, ◌+◌, ◌<◌, ◌∙◌, ◌∷◌, ◌≡◌, ◌≤◌, ◌||◌}
use Rattle.std.proofs.lemmas.Bool.{and_cases, and_parts, cond-false, cond-true, eq-eqb, leb-false, leb-true, ltb-false, ltb-true, ne_eqb, or_from, or_left, or_right}
use Rattle.std.proofs.lemmas.List.{map-append}
use native.Mathlib.Decide.{dec_le}
use Rattle.model_base.specs.declared.shape.Shape.{Shape}
use Rattle.model_core.specs.{changed_cells, change_on, PageChange}
unfoldable use Rattle.model_core.specs.Changes.{collected}
use Rattle.model_log.specs.{page_of}
use Rattle.model_log.specs.declared.rec.Rec.{Rec}
use Rattle.model_store.specs.{touches}
use Rattle.redo_useractor.proofs.Parts.{collected_none, collected_skip, collected_suc}
use Rattle.redo_useractor.specs.Places.{changes_on, page_if_touched}
use Rattle.redo_useractor.specs.Written.{first_page, next_page}

first_most : (from : ℕ) (rec : Rec) (best : ℕ) → first_page from rec best ≤ best
first_most from rec best = by (leb from (page_of rec) && ltb (page_of rec) best) refl
  where
    by : (b : Bool) → (leb from (page_of rec) && ltb (page_of rec) best) ≡ b → cond b (page_of rec) best ≤ best
    by true e = let l = ltb-true (page_of rec) best (and_parts (leb from (page_of rec)) (ltb (page_of rec) best) e).1 in omega arith
    by false e = omega arith

pub next_most : (from : ℕ) (recs : List Rec) (best : ℕ) → next_page from recs best ≤ best
next_most from [] best = omega arith
next_most from (rec ∷ recs) best = let a = first_most from rec best in let b = next_most from recs (first_page from rec best) in omega arith

first_least : (from : ℕ) (rec : Rec) (best : ℕ) → from ≤ best → from ≤ first_page from rec best
first_least from rec best le = by (leb from (page_of rec) && ltb (page_of rec) best) refl
  where
    by : (b : Bool) → (leb from (page_of rec) && ltb (page_of rec) best) ≡ b → from ≤ cond b (page_of rec) best
    by true e = leb-true from (page_of rec) (and_parts (leb from (page_of rec)) (ltb (page_of rec) best) e).0
    by false e = le

pub next_least : (from : ℕ) (recs : List Rec) (best : ℕ) → from ≤ best → from ≤ next_page from recs best
next_least from [] best le = le
next_least from (rec ∷ recs) best le = next_least from recs (first_page from rec best) (first_least from rec best le)

-- no record is on a page before it
first_untouched : (from : ℕ) (rec : Rec) (best k : ℕ) → from ≤ k → k < first_page from rec best → eqb (page_of rec) k ≡ false
first_untouched from rec best k le lt = ne_eqb (page_of rec) k (λ is. by (leb from (page_of rec) && ltb (page_of rec) best) refl is)
  where
    by : (b : Bool) → (leb from (page_of rec) && ltb (page_of rec) best) ≡ b → page_of rec ≡ k → ⊥
    by true e is = let i : first_page from rec best ≡ page_of rec = cond-true (leb from (page_of rec) && ltb (page_of rec) best) (page_of rec) best e in absurd (omega arith)
    by false e is =
        let i : first_page from rec best ≡ best = cond-false (leb from (page_of rec) && ltb (page_of rec) best) (page_of rec) best e in
        ⊎_elim (λ (f : leb from (page_of rec) ≡ false). let l = leb-false from (page_of rec) f in absurd (omega arith)) (λ (f : ltb (page_of rec) best ≡ false). let l = ltb-false (page_of rec) best f in absurd (omega arith))
        (and_cases (leb from (page_of rec)) (ltb (page_of rec) best) e)

pub next_untouched : (from : ℕ) (recs : List Rec) (best k : ℕ) → from ≤ k → k < next_page from recs best → touches k recs ≡ false
next_untouched from [] best k le lt = refl
next_untouched from (rec ∷ recs) best k le lt =
    let l = next_most from recs (first_page from rec best) in
    or_from (eqb (page_of rec) k) (touches k recs) (first_untouched from rec best k le (omega arith)) (next_untouched from recs (first_page from rec best) k le lt)

-- and one is on it
pub next_touched : (from : ℕ) (recs : List Rec) (best : ℕ) → next_page from recs best < best → touches (next_page from recs best) recs ≡ true
next_touched from [] best lt = absurd (omega arith)
next_touched from (rec ∷ recs) best lt = by (dec_le (first_page from rec best) (next_page from recs (first_page from rec best)))
    (λ less. next_touched from recs (first_page from rec best) less)
  where
    own : (b : Bool) → (leb from (page_of rec) && ltb (page_of rec) best) ≡ b → next_page from recs (first_page from rec best) ≡ first_page from rec best → eqb (page_of rec) (next_page from recs (first_page from rec best)) ≡ true
    own true e is = eq-eqb (page_of rec) (next_page from recs (first_page from rec best)) (sym (is ∙ cond-true (leb from (page_of rec) && ltb (page_of rec) best) (page_of rec) best e))
    own false e is = absurd (let i : first_page from rec best ≡ best = cond-false (leb from (page_of rec) && ltb (page_of rec) best) (page_of rec) best e in omega arith)

    by : Dec (first_page from rec best ≤ next_page from recs (first_page from rec best))
        → (next_page from recs (first_page from rec best) < first_page from rec best → touches (next_page from recs (first_page from rec best)) recs ≡ true)
        → (eqb (page_of rec) (next_page from recs (first_page from rec best)) || touches (next_page from recs (first_page from rec best)) recs) ≡ true
    by (no d) later = or_right (eqb (page_of rec) (next_page from recs (first_page from rec best))) (touches (next_page from recs (first_page from rec best)) recs) (later (omega arith))
    by (yes d) later = or_left (eqb (page_of rec) (next_page from recs (first_page from rec best))) (touches (next_page from recs (first_page from rec best)) recs)
        (own (leb from (page_of rec) && ltb (page_of rec) best) refl (let m = next_most from recs (first_page from rec best) in omega arith))

-- COLLECTED up to it
pub none_between : (recs : List Rec) (from best : ℕ) → from ≤ best → collected (page_if_touched recs) (next_page from recs best) ≡ collected (page_if_touched recs) from
none_between recs from best le = collected_skip (page_if_touched recs) from (next_page from recs best) (next_least from recs best le)
    (λ k above below. cond-false (touches k recs) (k ∷ []) [] (next_untouched from recs best k above below))

pub one_more : (recs : List Rec) (page : ℕ) → touches page recs ≡ true → collected (page_if_touched recs) (page + 1) ≡ collected (page_if_touched recs) page ++ page ∷ []
one_more recs page is = ap (collected (page_if_touched recs)) (add-one page) ∙ collected_suc (page_if_touched recs) page ∙ ap (λ xs. collected (page_if_touched recs) page ++ xs) (cond-true (touches page recs) (page ∷ []) [] is)

-- with what changes there
pub changes_are : (shape : Shape) (recs : List Rec) (pages : ℕ) → changes_on shape recs (collected (page_if_touched recs) pages) ≡ collected (change_on shape recs) pages
changes_are shape recs zero = ap (changes_on shape recs) (collected_none (page_if_touched recs)) ∙ sym (collected_none (change_on shape recs))
changes_are shape recs (suc n) =
    ap (changes_on shape recs) (collected_suc (page_if_touched recs) n)
    ∙ map-append (λ (p : ℕ). let change : PageChange = record { page = p; cells = changed_cells shape p recs } in change) (collected (page_if_touched recs) n) (page_if_touched recs n)
    ∙ ap (λ (xs : List PageChange). xs ++ changes_on shape recs (page_if_touched recs n)) (changes_are shape recs n)
    ∙ ap (λ (xs : List PageChange). collected (change_on shape recs) n ++ xs) (by (touches n recs))
    ∙ sym (collected_suc (change_on shape recs) n)
  where
    by : (b : Bool) → changes_on shape recs (cond b (n ∷ []) []) ≡ cond b (let cs : List PageChange = record { page = n; cells = changed_cells shape n recs } ∷ [] in cs) []
    by true = refl
    by false = refl
