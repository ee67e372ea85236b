-- A flush list keeps its order, and has room for each page of its store.
use Rattle.std.proofs.Common.{◌≡◌, ◌≢◌, ◌≤◌, ◌<◌, ◌==◌, ℕ, zero, suc, Bool, true, false, ◌||◌, cond, eqb, eq-eqb, List, [], ◌∷◌, ◌++◌, length, map, get_or, Some, None, refl, sym, subst, arith}
use Rattle.std.specs.Prelude.{All, AllPairs, find, not, option_map}
use Rattle.std.specs.List.{IsDistinct, list_any}
use Rattle.std.proofs.lemmas.Bool.{eqb-true}
use Rattle.std.proofs.lemmas.Bool.Decides.{Decides-eqb}
use Rattle.std.proofs.lemmas.List.{length-map, get_or-map}
use Rattle.std.proofs.lemmas.List.Elements.{All-get_or, All-from_get_or, All-append, All-filter}
use Rattle.std.proofs.lemmas.List.Kept.{AllPairs-cons, AllPairs-filter}
use Rattle.std.proofs.lemmas.List.Quantifiers.{all_pairs_push}
use Rattle.std.proofs.lemmas.Map.Made.{IsDistinct-from_AllPairs}
use Rattle.std.proofs.lemmas.Map.Steps.{length-le_from_distinct_below}
use Rattle.redo_flushlist.specs.declared.dirty.Dirty.{Dirty}
use Rattle.redo_flushlist.specs.Order.{Listing, without_page}
use Rattle.redo_flushlist.specs.InOrder.{IsInOrder, IsOtherPage, MayFollow, listed_oldest}

nobody : Dirty
nobody = record { page = 0; oldest = 0 }

-- a page that isn't listed is no page of the list
unlisted : (entries : List Dirty) (page i : ℕ) (d : Dirty) → listed_oldest entries page ≡ None → i < length entries → (get_or entries i d).page ≢ page
unlisted [] page i d none below = absurd (omega arith)
unlisted (first ∷ later) page i d none below = go i (first.page == page) refl none below (λ k rest inside. unlisted later page k d rest inside)
  where
    go : (i : ℕ) (b : Bool) → (first.page == page) ≡ b → option_map (λ (dirty : Dirty). dirty.oldest) (cond b (Some first) (find (λ (dirty : Dirty). dirty.page == page) later)) ≡ None
        → i < suc (length later) → ((k : ℕ) → listed_oldest later page ≡ None → k < length later → (get_or later k d).page ≢ page) → (get_or (first ∷ later) i d).page ≢ page
    go i true test none below others = absurd cc
    go zero false test none below others = λ same. let yes : (first.page == page) ≡ true = eq-eqb first.page page same in absurd cc
    go (suc i) false test none below others = others i none (omega arith)

pages-apart : (entries : List Dirty) → AllPairs IsOtherPage entries → AllPairs (λ a b. a ≢ b) (map (λ (dirty : Dirty). dirty.page) entries)
pages-apart entries once = λ i j d before below.
    let long = length-map entries (λ (dirty : Dirty). dirty.page) in
    let inside : j < length entries = omega arith in
    let further : i < length entries = omega arith in
    subst (λ (n : ℕ). n ≢ get_or (map (λ (dirty : Dirty). dirty.page) entries) j d) (sym (get_or-map (λ (dirty : Dirty). dirty.page) entries i nobody d further))
    (subst (λ (n : ℕ). (get_or entries i nobody).page ≢ n) (sym (get_or-map (λ (dirty : Dirty). dirty.page) entries j nobody d inside)) (once i j nobody before inside))

page-below : (entries : List Dirty) (q n : ℕ) → All (λ (dirty : Dirty). dirty.page < n) entries → list_any (eqb q) (map (λ (dirty : Dirty). dirty.page) entries) ≡ true → q < n
page-below [] q n all is = absurd cc
page-below (first ∷ later) q n all is =
    go (eqb q first.page) refl is (λ any. page-below later q n (λ k d inside. all (suc k) d (omega arith)) any)
  where
    go : (b : Bool) → eqb q first.page ≡ b → (b || list_any (eqb q) (map (λ (dirty : Dirty). dirty.page) later)) ≡ true
        → (list_any (eqb q) (map (λ (dirty : Dirty). dirty.page) later) ≡ true → q < n) → q < n
    go true test any others = let same = eqb-true q first.page test in let own : first.page < n = all 0 first (omega arith) in omega arith
    go false test any others = others any

below-any : (q first : ℕ) (later : List ℕ) (n : ℕ) → first < n → (list_any (eqb q) later ≡ true → q < n) → list_any (eqb q) (first ∷ later) ≡ true → q < n
below-any q first later n own rest any = go (eqb q first) refl any
  where
    go : (b : Bool) → eqb q first ≡ b → (b || list_any (eqb q) later) ≡ true → q < n
    go true test any = let same = eqb-true q first test in omega arith
    go false test any = rest any

-- there is room for a page that isn't listed
pub room : (listing : Listing) (page : ℕ) → IsInOrder listing → page < listing.pages → listed_oldest listing.entries page ≡ None → length listing.entries < listing.pages
room listing page order below none =
    let pages = map (λ (dirty : Dirty). dirty.page) listing.entries in
    let long = length-map listing.entries (λ (dirty : Dirty). dirty.page) in
    let others : All (λ other. page ≢ other) pages =
    All-from_get_or (λ other. page ≢ other) pages 0 (λ i inside.
    let further : i < length listing.entries = omega arith in
    subst (λ (n : ℕ). page ≢ n) (sym (get_or-map (λ (dirty : Dirty). dirty.page) listing.entries i nobody 0 further))
    (λ same. unlisted listing.entries page i nobody none further (sym same))) in
    let distinct : IsDistinct eqb (page ∷ pages) =
    IsDistinct-from_AllPairs Decides-eqb (page ∷ pages) (AllPairs-cons (λ a b. a ≢ b) page pages others (pages-apart listing.entries order.once)) in
    let few : length (page ∷ pages) ≤ listing.pages =
    length-le_from_distinct_below (page ∷ pages) listing.pages distinct (λ q any.
    below-any q page pages listing.pages below (λ rest. page-below listing.entries q listing.pages order.below rest) any) in
    omega arith

-- a page more
pub order-added : (listing : Listing) (dirty : Dirty) → IsInOrder listing → dirty.page < listing.pages → listed_oldest listing.entries dirty.page ≡ None
    → All (λ (earlier : Dirty). MayFollow earlier dirty) listing.entries → IsInOrder (record { pages = listing.pages; entries = listing.entries ++ dirty ∷ [] })
order-added listing dirty order below none relaxed = record {
  below = All-append (λ (d : Dirty). d.page < listing.pages) listing.entries (dirty ∷ []) order.below (λ k d inside. one k d inside);
  once = all_pairs_push IsOtherPage listing.entries dirty order.once (λ k d inside. unlisted listing.entries dirty.page k d none inside);
  relaxed = all_pairs_push MayFollow listing.entries dirty order.relaxed (λ k d inside. All-get_or (λ (earlier : Dirty). MayFollow earlier dirty) listing.entries k d inside relaxed);
}
  where
    one : (k : ℕ) (d : Dirty) → k < 1 → (get_or (dirty ∷ []) k d).page < listing.pages
    one zero d inside = below
    one (suc k) d inside = absurd (omega arith)

-- a page less
pub order-removed : (listing : Listing) (page : ℕ) → IsInOrder listing → IsInOrder (record { pages = listing.pages; entries = without_page page listing.entries })
order-removed listing page order = record {
  below = All-filter (λ (dirty : Dirty). not (dirty.page == page)) (λ (dirty : Dirty). dirty.page < listing.pages) listing.entries order.below;
  once = AllPairs-filter IsOtherPage (λ (dirty : Dirty). not (dirty.page == page)) listing.entries order.once;
  relaxed = AllPairs-filter MayFollow (λ (dirty : Dirty). not (dirty.page == page)) listing.entries order.relaxed;
}
