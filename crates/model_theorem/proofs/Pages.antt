-- The page that is kept and then replayed.
use Rattle.std.proofs.Common.{◌≡◌, ℕ, ◌+◌, ◌<◌, ◌≤◌, Bool, true, false, cond, List, [], ◌∷◌, ◌++◌, arith, refl, sym, ap, ◌∙◌, ⊎_elim}
use Rattle.std.specs.Prelude.{nat_le}
use Rattle.std.specs.List.{AllByRecursion}
use Rattle.std.proofs.lemmas.Bool.{cases_lt}
use Rattle.std.proofs.lemmas.Bool.Decides.{nat_tests}
use Rattle.model_log.specs.declared.rec.Rec.{Rec}
use Rattle.model_log.specs.declared.group.Whole.{Whole}
use Rattle.model_page.specs.declared.content.Content.{Content}
use Rattle.model_store.specs.{page_after, page_folded, replayed, touches, upto, user_after}
use Rattle.model_theorem.specs.Kept.{HasPassed}

pub folded-append : (p : ℕ) (xs ys : List Whole) (page : Content) → page_folded p (xs ++ ys) page ≡ page_folded p ys (page_folded p xs page)
folded-append p [] ys page = refl
folded-append p (x ∷ xs) ys page = folded-append p xs ys (page_after p x.group x.end page)

pub upto-append : (p q : ℕ) (xs ys : List Whole) (page : Content) → upto p q (xs ++ ys) page ≡ upto p q ys (upto p q xs page)
upto-append p q [] ys page = refl
upto-append p q (x ∷ xs) ys page = upto-append p q xs ys (cond (nat_le x.end q) (page_after p x.group x.end page) page)

pub taken : {X : Type 0} (a b : ℕ) (x y : X) → a ≤ b → cond (nat_le a b) x y ≡ x
taken a b x y low = grind (arith, nat_tests)

pub left : {X : Type 0} (a b : ℕ) (x y : X) → b < a → cond (nat_le a b) x y ≡ y
left a b x y high = grind (arith, nat_tests)

-- none of the groups ends at or below the lsn
pub upto-none : (p q : ℕ) (wholes : List Whole) (page : Content) → AllByRecursion (λ (whole : Whole). q < whole.end) wholes
    → upto p q wholes page ≡ page
upto-none p q [] page above = refl
upto-none p q (whole ∷ wholes) page above =
    ap (upto p q wholes) (left whole.end q (page_after p whole.group whole.end page) page above.0) ∙ upto-none p q wholes page above.1

-- all of them start at or above the lsn
pub replayed-all : (p q : ℕ) (wholes : List Whole) (page : Content) → AllByRecursion (λ (whole : Whole). q ≤ whole.start) wholes
    → replayed p q wholes page ≡ page_folded p wholes page
replayed-all p q [] page above = refl
replayed-all p q (whole ∷ wholes) page above =
    ap (replayed p q wholes) (taken q whole.start (page_after p whole.group whole.end page) page above.0)
    ∙ replayed-all p q wholes (page_after p whole.group whole.end page) above.1

pub page_after-other : (p : ℕ) (recs : List Rec) (end : ℕ) (page : Content) → touches p recs ≡ false → page_after p recs end page ≡ page
page_after-other p recs end page none =
    ap (λ b. cond b (record { lsn = end; user = user_after p recs page.user }) page) none

-- a group is applied that ends at or below the lsn if it touches the page at all
after-passed : (p q : ℕ) (whole : Whole) (page : Content) (b : Bool) → touches p whole.group ≡ b → (b ≡ true → whole.end ≤ q)
    → cond (nat_le whole.end q) (page_after p whole.group whole.end page) page ≡ page_after p whole.group whole.end page
after-passed p q whole page true found passed = taken whole.end q (page_after p whole.group whole.end page) page (passed refl)
after-passed p q whole page false none passed =
    let same : page_after p whole.group whole.end page ≡ page = page_after-other p whole.group whole.end page none in
    ⊎_elim (λ low. taken whole.end q (page_after p whole.group whole.end page) page (omega arith))
    (λ high. left whole.end q (page_after p whole.group whole.end page) page (omega arith) ∙ sym same) (cases_lt whole.end (q + 1))

-- the groups that start below the checkpoint are all applied
pub upto-passed : (p q x : ℕ) (wholes : List Whole) (page : Content) → AllByRecursion (λ (whole : Whole). whole.start < x) wholes
    → HasPassed p wholes x q → upto p q wholes page ≡ page_folded p wholes page
upto-passed p q x [] page below passed = refl
upto-passed p q x (whole ∷ wholes) page below passed =
    ap (upto p q wholes) (after-passed p q whole page (touches p whole.group) refl (λ found. passed.0 found below.0))
    ∙ upto-passed p q x wholes (page_after p whole.group whole.end page) below.1 passed.1

-- The lsn lies between two of the groups.
pub record IsBetween (q : ℕ) (wholes : List Whole) : Type 0 where
  pub before : List Whole
  pub behind : List Whole
  pub parts : wholes ≡ before ++ behind
  pub done : AllByRecursion (λ (whole : Whole). (whole.start < q) × (whole.end ≤ q)) before
  pub starts : AllByRecursion (λ (whole : Whole). q ≤ whole.start) behind
  pub ends : AllByRecursion (λ (whole : Whole). q < whole.end) behind

upto-done : (p q : ℕ) (wholes : List Whole) (page : Content) → AllByRecursion (λ (whole : Whole). (whole.start < q) × (whole.end ≤ q)) wholes
    → upto p q wholes page ≡ page_folded p wholes page
upto-done p q [] page done = refl
upto-done p q (whole ∷ wholes) page done =
    ap (upto p q wholes) (taken whole.end q (page_after p whole.group whole.end page) page done.0.1)
    ∙ upto-done p q wholes (page_after p whole.group whole.end page) done.1

replayed-done : (p q : ℕ) (wholes : List Whole) (page : Content) → AllByRecursion (λ (whole : Whole). (whole.start < q) × (whole.end ≤ q)) wholes
    → replayed p q wholes page ≡ page
replayed-done p q [] page done = refl
replayed-done p q (whole ∷ wholes) page done =
    ap (replayed p q wholes) (left q whole.start (page_after p whole.group whole.end page) page done.0.0)
    ∙ replayed-done p q wholes page done.1

replayed-append : (p q : ℕ) (xs ys : List Whole) (page : Content) → replayed p q (xs ++ ys) page ≡ replayed p q ys (replayed p q xs page)
replayed-append p q [] ys page = refl
replayed-append p q (x ∷ xs) ys page = replayed-append p q xs ys (cond (nat_le q x.start) (page_after p x.group x.end page) page)

-- kept up to an lsn between the groups, and then replayed, all of the groups are applied
pub upto-replayed : (p q : ℕ) (wholes : List Whole) (page : Content) → IsBetween q wholes
    → replayed p q wholes (upto p q wholes page) ≡ page_folded p wholes page
upto-replayed p q wholes page between =
    let front : Content = page_folded p between.before page in
    let kept : upto p q (between.before ++ between.behind) page ≡ front =
    upto-append p q between.before between.behind page ∙ upto-none p q between.behind (upto p q between.before page) between.ends
    ∙ upto-done p q between.before page between.done in
    let kept_is : upto p q wholes page ≡ front = ap (λ (ws : List Whole). upto p q ws page) between.parts ∙ kept in
    ap (replayed p q wholes) kept_is ∙ ap (λ (ws : List Whole). replayed p q ws front) between.parts
    ∙ replayed-append p q between.before between.behind front
    ∙ ap (replayed p q between.behind) (replayed-done p q between.before front between.done)
    ∙ replayed-all p q between.behind front between.starts
    ∙ sym (folded-append p between.before between.behind page)
    ∙ ap (λ (ws : List Whole). page_folded p ws page) (sym between.parts)
