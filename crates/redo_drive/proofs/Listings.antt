-- The flush lists, as the code and as the definition of a turn have them.
use Rattle.std.proofs.Common.{Bool, List, None, Some, [], ap, arith, cond, eq-eqb, false, get_or, length, map, refl, set, suc, sym, true, zero, ℕ, ◌%◌, ◌++◌, ◌+◌, ◌<◌, ◌==◌, ◌∙◌, ◌∷◌, ◌≡◌}
use Rattle.std.specs.Prelude.{IsSome, find, not, option_map}
use Rattle.std.proofs.lemmas.Bool.{eqb-true}
use Rattle.std.proofs.lemmas.List.{get_or-set_other}
use Rattle.std.proofs.lemmas.Grind.{get_or-set_at}
use Rattle.model_core.specs.{appended, Each, Listed, lists_left, oldest_of, without}
use Rattle.model_core.specs.declared.ops.Op.TheVariants as op
use Rattle.redo_flushlist.specs.{Listing}
use Rattle.redo_flushlist.specs.Order as own
use Rattle.redo_flushlist.specs.InOrder as inorder
use Rattle.redo_flushlist.specs.declared.dirty.Dirty.{Dirty}
use Rattle.redo_flushlist.specs.declared.dirty.TheConstants.{FLUSH_ORDER_LAG}
use Rattle.redo_drive.specs.Lists.{AreLists, Listings, added, empty_lists, listed_of, listing_at, lists_of, no_list, removed, with_list}

abbrev Listed_in : List Dirty → List Listed
Listed_in es = map listed_of es

-- a page enters after those that it may follow
pub may_follow : (es : List Dirty) (x : ℕ) → Each (λ (y : Listed). y.oldest < x + FLUSH_ORDER_LAG) (Listed_in es) → (k : ℕ) (d : Dirty) → k < length es → (get_or es k d).oldest < x + FLUSH_ORDER_LAG
may_follow [] x near k d l = absurd (omega arith)
may_follow (e ∷ es) x near zero d l = near.0
may_follow (e ∷ es) x near (suc k) d l = may_follow es x near.1 k d (omega arith)

-- a page that the definition doesn't find isn't there
pub none_there : (es : List Dirty) (p : ℕ) → Each (λ (y : Listed). 0 < y.oldest) (Listed_in es) → oldest_of p (Listed_in es) ≡ 0 → inorder.listed_oldest es p ≡ None
none_there [] p real none = refl
none_there (e ∷ es) p real none = by (e.page == p) real.0 none (none_there es p real.1)
  where
    by : (b : Bool) → 0 < e.oldest → cond b e.oldest (oldest_of p (Listed_in es)) ≡ 0 → (oldest_of p (Listed_in es) ≡ 0 → inorder.listed_oldest es p ≡ None)
        → option_map (λ (d : Dirty). d.oldest) (cond b (Some e) (find (λ (d : Dirty). d.page == p) es)) ≡ None
    by true some none rest = absurd (omega arith)
    by false some none rest = rest none

-- one that it finds is there
pub some_there : (es : List Dirty) (p : ℕ) → 0 < oldest_of p (Listed_in es) → IsSome (inorder.listed_oldest es p)
some_there [] p some = absurd (omega arith)
some_there (e ∷ es) p some = by (e.page == p) some (some_there es p)
  where
    by : (b : Bool) → 0 < cond b e.oldest (oldest_of p (Listed_in es)) → (0 < oldest_of p (Listed_in es) → IsSome (inorder.listed_oldest es p))
        → IsSome (option_map (λ (d : Dirty). d.oldest) (cond b (Some e) (find (λ (d : Dirty). d.page == p) es)))
    by true some rest = refl
    by false some rest = rest some

entered : (es : List Dirty) (p x : ℕ) → Listed_in (es ++ (record { page = p; oldest = x }) ∷ []) ≡ appended (Listed_in es) p x
entered [] p x = refl
entered (e ∷ es) p x = ap (λ (l : List Listed). listed_of e ∷ l) (entered es p x)

left : (es : List Dirty) (p : ℕ) → Listed_in (own.without_page p es) ≡ without p (Listed_in es)
left [] p = refl
left (e ∷ es) p = by (e.page == p) (left es p)
  where
    by : (b : Bool) → Listed_in (own.without_page p es) ≡ without p (Listed_in es) → Listed_in (cond (not b) (e ∷ own.without_page p es) (own.without_page p es)) ≡ cond b (without p (Listed_in es)) (listed_of e ∷ without p (Listed_in es))
    by true rest = rest
    by false rest = ap (λ (l : List Listed). listed_of e ∷ l) rest

-- each list after one is replaced
list_set : (ls : List Listing) (i j : ℕ) (new : Listing) → j < length ls → listing_at (set ls j new) i ≡ cond (i == j) new (listing_at ls i)
list_set ls i j new l = by (i == j) refl
  where
    by : (b : Bool) → (i == j) ≡ b → listing_at (set ls j new) i ≡ cond b new (listing_at ls i)
    by true is = get_or-set_at ls j i new no_list (eqb-true i j is) l
    by false is = get_or-set_other ls j i new no_list (λ same. let yes : (i == j) ≡ true = eq-eqb i j same in absurd cc)

listed_by : (b : Bool) (new : Listing) (old : Listing) → Listed_in (cond b new old).entries ≡ cond b (Listed_in new.entries) (Listed_in old.entries)
listed_by true new old = refl
listed_by false new old = refl

swap_by : (b : Bool) (x y z : List Listed) → x ≡ y → cond b x z ≡ cond b y z
swap_by true x y z e = e
swap_by false x y z e = refl

-- where a list is the one of this number, that one's pages are its
at_same : (listings : Listings) (i j : ℕ) (f : List Listed → List Listed) → cond (i == j) (f (lists_of listings j)) (lists_of listings i) ≡ cond (i == j) (f (lists_of listings i)) (lists_of listings i)
at_same listings i j f = by (i == j) refl
  where
    by : (b : Bool) → (i == j) ≡ b → cond b (f (lists_of listings j)) (lists_of listings i) ≡ cond b (f (lists_of listings i)) (lists_of listings i)
    by true is = let same : i ≡ j = eqb-true i j is in ap (λ (k : ℕ). f (lists_of listings k)) (sym same)
    by false is = refl

-- the pages of each list after a change of one of them
changed : (listings : Listings) (j : ℕ) (entries : List Dirty) (f : List Listed → List Listed) → AreLists listings → j < 4 → Listed_in entries ≡ f (lists_of listings j)
    → (i : ℕ) → lists_of (with_list listings j entries) i ≡ cond (i == j) (f (lists_of listings i)) (lists_of listings i)
changed listings j entries f are l is i =
    let new : Listing = record { pages = (listing_at listings.lists j).pages; entries = entries } in
    let n : j < length listings.lists = let c = are.count in omega arith in
    ap (λ (z : Listing). Listed_in z.entries) (list_set listings.lists i j new n)
    ∙ listed_by (i == j) new (listing_at listings.lists i)
    ∙ swap_by (i == j) (Listed_in entries) (f (lists_of listings j)) (lists_of listings i) is
    ∙ at_same listings i j f

same_choice : (b : Bool) (l : List Listed) → cond b l l ≡ l
same_choice true l = refl
same_choice false l = refl

-- the pages of each list where a page was added by whoever found the list's turn word free, and where one was removed
add_at : (old new : Listings) (p x i : ℕ) (b : Bool) → AreLists old → ◌≡◌ {A = Listings} new (cond b (added old p x) old)
    → lists_of new i ≡ cond (i == p % 4) (cond b (appended (lists_of old i) p x) (lists_of old i)) (lists_of old i)
add_at old new p x i true are is =
    ap (λ (z : Listings). lists_of z i) is ∙ changed old (p % 4) ((listing_at old.lists (p % 4)).entries ++ (record { page = p; oldest = x }) ∷ []) (λ l. appended l p x) are (omega arith) (entered (listing_at old.lists (p % 4)).entries p x) i
add_at old new p x i false are is = ap (λ (z : Listings). lists_of z i) is ∙ sym (same_choice (i == p % 4) (lists_of old i))

pub add_left : (old new : Listings) (word : ℕ → ℕ) (p x : ℕ) → AreLists old → ◌≡◌ {A = Listings} new (cond (word (p % 4) == 0) (added old p x) old)
    → ◌≡◌ {A = ℕ → List Listed} (lists_of new) (lists_left (lists_of old) word (op.TakeAdd p x))
add_left old new word p x are is k i = add_at old new p x i (word (p % 4) == 0) are is k

remove_at : (old new : Listings) (p i : ℕ) (b : Bool) → AreLists old → ◌≡◌ {A = Listings} new (cond b (removed old p) old)
    → lists_of new i ≡ cond (i == p % 4) (cond b (without p (lists_of old i)) (lists_of old i)) (lists_of old i)
remove_at old new p i true are is =
    ap (λ (z : Listings). lists_of z i) is ∙ changed old (p % 4) (own.without_page p (listing_at old.lists (p % 4)).entries) (λ l. without p l) are (omega arith) (left (listing_at old.lists (p % 4)).entries p) i
remove_at old new p i false are is = ap (λ (z : Listings). lists_of z i) is ∙ sym (same_choice (i == p % 4) (lists_of old i))

pub remove_left : (old new : Listings) (word : ℕ → ℕ) (p : ℕ) → AreLists old → ◌≡◌ {A = Listings} new (cond (word (p % 4) == 0) (removed old p) old)
    → ◌≡◌ {A = ℕ → List Listed} (lists_of new) (lists_left (lists_of old) word (op.TakeRemove p))
remove_left old new word p are is k i = remove_at old new p i (word (p % 4) == 0) are is k

-- a turn word that was found free
pub found_free : (b : Bool) → not b ≡ false → b ≡ true
found_free true e = refl
found_free false e = absurd (cc)

pub empty_are_lists : (pages : ℕ) → AreLists (empty_lists pages)
empty_are_lists pages = record { count = refl; its_pages = by }
  where
    by : (i : ℕ) → i < 4 → (listing_at (empty_lists pages).lists i).pages ≡ pages
    by zero l = refl
    by (suc zero) l = refl
    by (suc (suc zero)) l = refl
    by (suc (suc (suc zero))) l = refl
    by (suc (suc (suc (suc i)))) l = absurd (omega arith)

-- which number stands in for a list that isn't there makes no difference where it is
pub any_default : (ls : List Listing) (i : ℕ) (d e : Listing) → i < length ls → get_or ls i d ≡ get_or ls i e
any_default [] i d e l = absurd (omega arith)
any_default (x ∷ xs) zero d e l = refl
any_default (x ∷ xs) (suc i) d e l = any_default xs i d e (omega arith)
