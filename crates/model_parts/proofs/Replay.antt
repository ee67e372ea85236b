-- Groups that were applied to a page are in it: replayed from the page's new lsn on, they change nothing.
use Rattle.std.proofs.Common.{◌≡◌, ◌≤◌, ◌<◌, ◌⊎◌, ℕ, inl, inr, Bool, true, false, cond, List, [], ◌∷◌, refl, ap, ◌∙◌, ⊎_elim, arith}
use Rattle.std.specs.Prelude.{nat_le}
use Rattle.std.specs.List.{AllByRecursion}
use Rattle.std.proofs.lemmas.Bool.{cases_Bool, cases_lt}
use Rattle.std.proofs.lemmas.Bool.Decides.{nat_tests}
use Rattle.model_base.specs.declared.shape.Shape.{Shape}
use Rattle.model_log.specs.declared.group.Whole.{Whole}
use Rattle.model_log.specs.{groups_of, IsDataLsn, IsRunOf}
use Rattle.model_log.proofs.Runs.{First, first-of, run-first}
use Rattle.model_page.specs.declared.content.Content.{Content}
use Rattle.model_store.specs.{IsStorable, page_after, replayed, touches, user_after}
use Rattle.model_parts.proofs.Splits.{first-ends}

-- The page has the lsn q from which groups are replayed, or the end of one of them; the next group starts at s.
abbrev IsOnTheWay : ℕ → ℕ → Content → Type 0
IsOnTheWay q s page = (page.lsn ≡ q) ⊎ ((q ≤ s) × (page.lsn ≤ s))

-- what a group that is replayed makes of the page
abbrev replayed_one : ℕ → ℕ → Whole → Content → Content
replayed_one p q whole page = cond (nat_le q whole.start) (page_after p whole.group whole.end page) page

after-untouched : (p : ℕ) (whole : Whole) (page : Content) → touches p whole.group ≡ false → page_after p whole.group whole.end page ≡ page
after-untouched p whole page none = ap (λ t. cond t (record { lsn = whole.end; user = user_after p whole.group page.user }) page) none

after-touched : (p : ℕ) (whole : Whole) (page : Content) → touches p whole.group ≡ true → (page_after p whole.group whole.end page).lsn ≡ whole.end
after-touched p whole page some = ap (λ t. (cond t (record { lsn = whole.end; user = user_after p whole.group page.user }) page).lsn) some

either-same : (t : Bool) (changed page : Content) → changed ≡ page → cond t changed page ≡ page
either-same true changed page same = same
either-same false changed page same = refl

not-replayed : (q start : ℕ) (changed page : Content) → start < q → cond (nat_le q start) changed page ≡ page
not-replayed q start changed page less = let test : nat_le q start ≡ false = grind (arith, nat_tests) in ap (λ t. cond t changed page) test

is-replayed : (q start : ℕ) (changed page : Content) → q ≤ start → cond (nat_le q start) changed page ≡ changed
is-replayed q start changed page from = let test : nat_le q start ≡ true = grind (arith, nat_tests) in ap (λ t. cond t changed page) test

-- The group isn't on the page; or it is, and starts before q; or it is applied.
abbrev IsStep : ℕ → ℕ → Whole → Content → Type 0
IsStep p q whole page =
    ((touches p whole.group ≡ false) × (replayed_one p q whole page ≡ page))
    ⊎ (((whole.start < q) × (replayed_one p q whole page ≡ page)) ⊎ ((q ≤ whole.start) × ((replayed_one p q whole page).lsn ≡ whole.end)))

step-of : (p q : ℕ) (whole : Whole) (page : Content) → IsStep p q whole page
step-of p q whole page =
    let changed : Content = page_after p whole.group whole.end page in
    ⊎_elim (λ some. ⊎_elim
    (λ less. inr (inl (less, not-replayed q whole.start changed page less)))
    (λ from. inr (inr (from, ap (λ (c : Content). c.lsn) (is-replayed q whole.start changed page from) ∙ after-touched p whole page some)))
    (cases_lt whole.start q))
    (λ none. inl (none, either-same (nat_le q whole.start) changed page (after-untouched p whole page none)))
    (cases_Bool (touches p whole.group))

-- it stays on the way, and its lsn doesn't fall
record GoesOn (q s end : ℕ) (old new : Content) : Type 0 where
  way : IsOnTheWay q end new
  rises : old.lsn ≤ new.lsn

goes-on : (p q s : ℕ) (whole : Whole) (page : Content) → First s whole → IsOnTheWay q s page → GoesOn q s whole.end page (replayed_one p q whole page)
goes-on p q s whole page first way =
    let stays : replayed_one p q whole page ≡ page → GoesOn q s whole.end page (replayed_one p q whole page) = λ same.
    (let lsn : (replayed_one p q whole page).lsn ≡ page.lsn = ap (λ (c : Content). c.lsn) same in
    record {
      way = ⊎_elim (λ own. inl (lsn ∙ own)) (λ later. inr (omega (arith, first.rises, later.0), omega (arith, first.rises, later.1))) way;
      rises = omega arith;
    }) in
    ⊎_elim (λ untouched. stays untouched.1) (λ other. ⊎_elim (λ before. stays before.1)
    (λ new. record {
      way = inr (omega (arith, first.start, first.rises, new.0), omega (arith, new.1));
      rises = ⊎_elim (λ own. omega (arith, first.start, first.rises, new.0, new.1)) (λ later. omega (arith, first.rises, new.1, later.1)) way;
    }) other) (step-of p q whole page)

rises-to : (p q s : ℕ) (wholes : List Whole) (page : Content) → IsDataLsn s → IsRunOf s wholes → IsOnTheWay q s page → page.lsn ≤ (replayed p q wholes page).lsn
rises-to p q s [] page place run way = omega arith
rises-to p q s (whole ∷ wholes) page place run way =
    let first : First s whole = first-of s whole wholes place run in
    let next : Content = replayed_one p q whole page in
    let on : GoesOn q s whole.end page next = goes-on p q s whole page first way in
    let others : next.lsn ≤ (replayed p q wholes next).lsn = rises-to p q whole.end wholes next first.place (run-first run).2 on.way in
    omega (arith, on.rises)

-- REPLAYED ONCE MORE, from its own lsn on, a page stays.
pub replay-again : (shape : Shape) (p q s : ℕ) (wholes : List Whole) (kept page : Content) → IsDataLsn s → IsRunOf s wholes
    → AllByRecursion (IsStorable shape) (groups_of wholes) → IsOnTheWay q s kept → page ≡ replayed p q wholes kept → replayed p page.lsn wholes page ≡ page
replay-again shape p q s [] kept page place run each way is = refl
replay-again shape p q s (whole ∷ wholes) kept page place run each way is =
    let first : First s whole = first-of s whole wholes place run in
    let next : Content = replayed_one p q whole kept in
    let on : GoesOn q s whole.end kept next = goes-on p q s whole kept first way in
    let later : IsRunOf whole.end wholes = (run-first run).2 in
    let rises : next.lsn ≤ page.lsn = (
    let up : next.lsn ≤ (replayed p q wholes next).lsn = rises-to p q whole.end wholes next first.place later on.way in
    omega (arith, ap (λ (c : Content). c.lsn) is)) in
    let ends : s < whole.end = first-ends shape s whole place first each.0 in
    let changed : Content = page_after p whole.group whole.end page in
    let stays : replayed_one p page.lsn whole page ≡ page =
    ⊎_elim (λ untouched. either-same (nat_le page.lsn whole.start) changed page (after-untouched p whole page untouched.0))
    (λ other. ⊎_elim
    (λ before. not-replayed page.lsn whole.start changed page
    (⊎_elim (λ own. omega (arith, before.0, ap (λ (c : Content). c.lsn) before.1)) (λ late. absurd (omega (arith, before.0, late.0, first.start))) way))
    (λ new. not-replayed page.lsn whole.start changed page (omega (arith, new.1, first.start))) other) (step-of p q whole kept) in
    ap (replayed p page.lsn wholes) stays ∙ replay-again shape p q whole.end wholes next page first.place later each.1 on.way is
