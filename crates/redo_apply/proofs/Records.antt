-- A group is applied record by record.
use Rattle.std.proofs.Common.{◌≡◌, ℕ, zero, suc, ◌+◌, ◌<◌, Bool, true, false, ◌||◌, List, [], ◌∷◌, set, arith, refl, ap, ap₂, ◌∙◌, ◌==◌, eqb, cond}
use Rattle.std.proofs.lemmas.Bool.Decides.{nat_tests}
use Rattle.std.specs.Prelude.{Some, slice_get}
use Rattle.model_log.specs.declared.rec.Rec.{Rec}
use Rattle.model_log.specs.{page_of}
use Rattle.model_page.specs.declared.content.Content.{Content}
use Rattle.model_store.specs.{applied, page_after, pages_after_from, touches, user_after, user_after_own}

neither_true : (a b : Bool) → (a || b) ≡ false → (a ≡ false) × (b ≡ false)
neither_true true b h = cc
neither_true false b h = (refl, h)

cond_false : {X : Type 0} (b : Bool) (x y : X) → b ≡ false → cond b x y ≡ y
cond_false b x y h = cc

-- a group that doesn't touch a page leaves its user bytes
user_after-untouched : (p : ℕ) (recs : List Rec) (user : List ℕ) → touches p recs ≡ false → user_after p recs user ≡ user
user_after-untouched p [] user h = refl
user_after-untouched p (rec ∷ recs) user h =
    let neither = neither_true (eqb (page_of rec) p) (touches p recs) h in
    let same = cond_false (eqb (page_of rec) p) (user_after_own rec user) user neither.0 in
    ap (λ u. user_after p recs u) same ∙ user_after-untouched p recs user neither.1

-- a page after a record and others, as it is after the record and then after the others
choose : (own others : Bool) (rest write : List ℕ → List ℕ) (end : ℕ) (page : Content) → (others ≡ false → (user : List ℕ) → rest user ≡ user)
    → cond (own || others) (let x : Content = record { lsn = end; user = rest (cond own (write page.user) page.user) } in x) page
    ≡ (let first : Content = cond (own || false) (record { lsn = end; user = cond own (write page.user) page.user }) page in
    cond others (record { lsn = end; user = rest first.user }) first)
choose true true rest write end page none = refl
choose true false rest write end page none = let same = none refl (write page.user) in λ i. record { lsn = end; user = same i }
choose false true rest write end page none = refl
choose false false rest write end page none = refl

pub page_after-cons : (p : ℕ) (rec : Rec) (recs : List Rec) (end : ℕ) (page : Content)
    → page_after p (rec ∷ recs) end page ≡ page_after p recs end (page_after p (rec ∷ []) end page)
page_after-cons p rec recs end page =
    choose (page_of rec == p) (touches p recs) (user_after p recs) (user_after_own rec) end page (λ none user. user_after-untouched p recs user none)

from-cons : (p : ℕ) (rec : Rec) (recs : List Rec) (end : ℕ) (pages : List Content)
    → pages_after_from p (rec ∷ recs) end pages ≡ pages_after_from p recs end (pages_after_from p (rec ∷ []) end pages)
from-cons p rec recs end [] = refl
from-cons p rec recs end (page ∷ pages) = ap₂ (λ x xs. x ∷ xs) (page_after-cons p rec recs end page) (from-cons (p + 1) rec recs end pages)

-- the first record, and then the others
pub applied-cons : (rec : Rec) (recs : List Rec) (end : ℕ) (pages : List Content) → applied (rec ∷ recs) end pages ≡ applied recs end (applied (rec ∷ []) end pages)
unfolding applied
applied-cons rec recs end pages = from-cons 0 rec recs end pages

from-none : (p : ℕ) (end : ℕ) (pages : List Content) → pages_after_from p [] end pages ≡ pages
from-none p end [] = refl
from-none p end (page ∷ pages) = ap (λ xs. page ∷ xs) (from-none (p + 1) end pages)

pub applied-none : (end : ℕ) (pages : List Content) → applied [] end pages ≡ pages
unfolding applied
applied-none end pages = from-none 0 end pages

equal-tests : (a b : ℕ) → a ≡ b → (a == b) ≡ true
equal-tests a b same = grind (arith, nat_tests)

other-tests : (a b : ℕ) → (a ≡ b → ⊥) → (a == b) ≡ false
other-tests a b other = grind (arith, nat_tests)

-- the page that a record is on
pub page_after-own : (p : ℕ) (rec : Rec) (end : ℕ) (page : Content) → page_of rec ≡ p
    → page_after p (rec ∷ []) end page ≡ record { lsn = end; user = user_after_own rec page.user }
page_after-own p rec end page on = go (page_of rec == p) (equal-tests (page_of rec) p on)
  where
    go : (b : Bool) → b ≡ true → cond (b || false) (let x : Content = record { lsn = end; user = cond b (user_after_own rec page.user) page.user } in x) page
        ≡ record { lsn = end; user = user_after_own rec page.user }
    go true test = refl
    go false test = absurd cc

-- another page
pub page_after-other : (p : ℕ) (rec : Rec) (end : ℕ) (page : Content) → (page_of rec ≡ p → ⊥) → page_after p (rec ∷ []) end page ≡ page
page_after-other p rec end page other = go (page_of rec == p) (other-tests (page_of rec) p other)
  where
    go : (b : Bool) → b ≡ false → cond (b || false) (let x : Content = record { lsn = end; user = cond b (user_after_own rec page.user) page.user } in x) page ≡ page
    go true test = absurd cc
    go false test = refl

-- pages after the one that a record is on stay
from-past : (p : ℕ) (rec : Rec) (end : ℕ) (pages : List Content) → page_of rec < p → pages_after_from p (rec ∷ []) end pages ≡ pages
from-past p rec end [] past = refl
from-past p rec end (page ∷ pages) past =
    ap₂ (λ x xs. x ∷ xs) (page_after-other p rec end page (λ on. omega arith)) (from-past (p + 1) rec end pages (omega arith))

from-set : (p i : ℕ) (rec : Rec) (end : ℕ) (pages : List Content) (page : Content) → page_of rec ≡ p + i → slice_get pages i ≡ Some page
    → pages_after_from p (rec ∷ []) end pages ≡ set pages i (record { lsn = end; user = user_after_own rec page.user })
from-set p i rec end [] page on at = absurd cc
from-set p zero rec end (first ∷ pages) page on at =
    let same : first ≡ page = cc in
    let here : page_of rec ≡ p = omega arith in
    let own : page_after p (rec ∷ []) end first ≡ record { lsn = end; user = user_after_own rec page.user } =
    page_after-own p rec end first here ∙ (λ i. record { lsn = end; user = user_after_own rec (same i).user }) in
    ap₂ (λ x xs. x ∷ xs) own (from-past (p + 1) rec end pages (omega arith))
from-set p (suc i) rec end (first ∷ pages) page on at =
    let further : page_of rec ≡ p + 1 + i = omega arith in
    ap₂ (λ x xs. x ∷ xs) (page_after-other p rec end first (λ here. omega arith)) (from-set (p + 1) i rec end pages page further at)

-- one record changes its own page
pub applied-one : (rec : Rec) (end : ℕ) (pages : List Content) (page : Content) → slice_get pages (page_of rec) ≡ Some page
    → applied (rec ∷ []) end pages ≡ set pages (page_of rec) (record { lsn = end; user = user_after_own rec page.user })
unfolding applied
applied-one rec end pages page at = from-set 0 (page_of rec) rec end pages page (omega arith) at
