-- A group, while its records are applied.
use Rattle.std.proofs.Common.{◌≡◌, ◌≤◌, ◌<◌, ◌+◌, ◌-◌, ℕ, zero, suc, List, [], ◌∷◌, ◌++◌, length, take, drop, set, get_or, refl, sym, ap, ap₂, subst, ◌∙◌, arith, length-append}
use Rattle.std.specs.Prelude.{Option, Some, None, IfSome, slice_get, replicate}
use Rattle.std.specs.List.{AllByRecursion}
use Rattle.std.specs.Int.{bytes_high_first}
use Rattle.std.proofs.lemmas.List.{drop_more, length-set, length-take-le, length-drop, length-replicate}
use Rattle.std.proofs.lemmas.Option.{slice_get-get_or, slice_get_within, get_or_from_slice_get}
use Rattle.model_base.specs.declared.shape.Shape.{Shape}
use Rattle.model_base.specs.{overwritten, user_length}
use Rattle.model_log.specs.{GroupFits, page_of, RecordFits}
use Rattle.model_log.specs.declared.rec.Rec.{Rec}
use Rattle.model_log.specs.declared.rec.Rec.TheVariants.{Num, Text, Init}
use Rattle.model_page.specs.{blank_page, blank_pages}
use Rattle.model_page.specs.declared.content.Content.{Content}
use Rattle.model_store.specs.{applied, page_after, user_after_own}
use Rattle.redo_apply.specs.Fits.{ArePagesOf}
use Rattle.redo_apply.specs.Writing.{WritesWithin}
use Rattle.redo_apply.proofs.Records.{page_after-cons, page_after-own, page_after-other, applied-one, applied-cons}

-- the first i records are applied, and the others lead where all lead
pub record IsUnderWay (group : List Rec) (end i : ℕ) (start now : List Content) : Type 0 where
  pub left : applied (drop i group) end now ≡ applied group end start
  pub its_pages : (shape : Shape) → ArePagesOf shape start → GroupFits shape group → ArePagesOf shape now

pub fits-at : (P : Rec → Type 0) (recs : List Rec) (i : ℕ) (rec : Rec) → AllByRecursion P recs → slice_get recs i ≡ Some rec → P rec
fits-at P [] i rec all at = absurd cc
fits-at P (first ∷ recs) zero rec all at = let same : first ≡ rec = cc in subst P same all.0
fits-at P (first ∷ recs) (suc i) rec all at = fits-at P recs i rec all.1 at

-- a record that fits a store is on one of its pages
pub page-below : (shape : Shape) (rec : Rec) → RecordFits shape rec → page_of rec < shape.pages
page-below shape (Num width space page offset value) fits = fits.0.below
page-below shape (Text space page offset bytes) fits = fits.0.below
page-below shape (Init space page) fits = fits.below

-- and writes within its user bytes
pub writes-within : (shape : Shape) (rec : Rec) → RecordFits shape rec → WritesWithin (user_length shape) rec
writes-within shape (Num width space page offset value) fits = (fits.2.after_header, omega (arith, fits.2.after_header, fits.2.before_trailer))
writes-within shape (Text space page offset bytes) fits = (fits.1.after_header, omega (arith, fits.1.after_header, fits.1.before_trailer))
writes-within shape (Init space page) fits = tt

length-overwritten : (at : ℕ) (bytes old : List ℕ) → at + length bytes ≤ length old → length (overwritten at bytes old) ≡ length old
length-overwritten at bytes old within =
    length-append (take at old ++ bytes) (drop (at + length bytes) old)
    ∙ (let front = length-append (take at old) bytes in let first = length-take-le at old (omega arith) in let last = length-drop (at + length bytes) old in omega arith)

length-bytes_high_first : (k n : ℕ) → length (bytes_high_first k n) ≡ k
length-bytes_high_first zero n = refl
length-bytes_high_first (suc k) n = ap suc (length-bytes_high_first k n)

length-user_after_own : (rec : Rec) (user : List ℕ) → WritesWithin (length user) rec → length (user_after_own rec user) ≡ length user
length-user_after_own (Num width space page offset value) user within =
    length-overwritten (offset - 38) (bytes_high_first width value) user (omega (arith, within.0, within.1, length-bytes_high_first width value))
length-user_after_own (Text space page offset bytes) user within = length-overwritten (offset - 38) bytes user (omega (arith, within.0, within.1))
length-user_after_own (Init space page) user within = length-replicate (length user) 0

pub within-page : (shape : Shape) (pages : List Content) (rec : Rec) (page : Content) → ArePagesOf shape pages → RecordFits shape rec → slice_get pages (page_of rec) ≡ Some page
    → WritesWithin (length page.user) rec
within-page shape pages rec page are fits at = subst (λ (n : ℕ). WritesWithin n rec) (sym (are.sizes (page_of rec) page at)) (writes-within shape rec fits)

-- an item of a list in which one was set
set-sizes : (shape : Shape) (pages : List Content) (p : ℕ) (new : Content) → ((q : ℕ) (page : Content) → slice_get pages q ≡ Some page → length page.user ≡ user_length shape)
    → length new.user ≡ user_length shape → (q : ℕ) (page : Content) → slice_get (set pages p new) q ≡ Some page → length page.user ≡ user_length shape
set-sizes shape [] p new sizes own q page at = absurd cc
set-sizes shape (first ∷ pages) zero new sizes own zero page at = let same : new ≡ page = cc in sym (ap (λ (x : Content). length x.user) same) ∙ own
set-sizes shape (first ∷ pages) zero new sizes own (suc q) page at = sizes (suc q) page at
set-sizes shape (first ∷ pages) (suc p) new sizes own zero page at = sizes 0 page at
set-sizes shape (first ∷ pages) (suc p) new sizes own (suc q) page at = set-sizes shape pages p new (λ r other here. sizes (suc r) other here) own q page at

-- the pages after a record are those of the same shape
pub are-applied : (shape : Shape) (pages : List Content) (rec : Rec) (end : ℕ) (page : Content) → ArePagesOf shape pages → RecordFits shape rec → slice_get pages (page_of rec) ≡ Some page
    → ArePagesOf shape (applied (rec ∷ []) end pages)
are-applied shape pages rec end page are fits at =
    let new : Content = record { lsn = end; user = user_after_own rec page.user } in
    let own : length new.user ≡ user_length shape = length-user_after_own rec page.user (within-page shape pages rec page are fits at) ∙ are.sizes (page_of rec) page at in
    subst (ArePagesOf shape) (sym (applied-one rec end pages page at)) (record {
      count = length-set pages (page_of rec) new ∙ are.count;
      sizes = set-sizes shape pages (page_of rec) new are.sizes own;
    })

item-below : (xs : List Content) (i : ℕ) → i < length xs → (x : Content) × (slice_get xs i ≡ Some x)
item-below [] i below = absurd (omega arith)
item-below (x ∷ xs) zero below = (x, refl)
item-below (x ∷ xs) (suc i) below = item-below xs i (omega arith)

-- the page of a record that fits
pub record PageOf (pages : List Content) (rec : Rec) : Type 0 where
  pub page : Content
  pub at : slice_get pages (page_of rec) ≡ Some page

pub page-of : (shape : Shape) (pages : List Content) (rec : Rec) → ArePagesOf shape pages → RecordFits shape rec → PageOf pages rec
page-of shape pages rec are fits =
    let there = item-below pages (page_of rec) (omega (arith, are.count, page-below shape rec fits)) in
    record { page = there.0; at = there.1 }

pub drop-item : (recs : List Rec) (i : ℕ) (rec : Rec) → slice_get recs i ≡ Some rec → drop i recs ≡ rec ∷ drop (i + 1) recs
drop-item recs i rec at =
    drop_more recs i rec (slice_get_within recs i rec at) ∙ ap (λ x. x ∷ drop (i + 1) recs) (get_or_from_slice_get recs i rec rec at)

-- one record more
pub under-way-more : (group : List Rec) (end i : ℕ) (start now new : List Content) (rec : Rec) (shape : Shape) → ArePagesOf shape start → GroupFits shape group
    → IsUnderWay group end i start now → slice_get group i ≡ Some rec → new ≡ applied (rec ∷ []) end now → IsUnderWay group end (i + 1) start new
under-way-more group end i start now new rec shape are fit way at done = record {
  left = ap (applied (drop (i + 1) group) end) done ∙ sym (applied-cons rec (drop (i + 1) group) end now)
      ∙ ap (λ recs. applied recs end now) (sym (drop-item group i rec at)) ∙ way.left;
  its_pages = λ other its fits.
      let own : RecordFits other rec = fits-at (RecordFits other) group i rec fits at in
      let here = way.its_pages other its fits in
      let own_page = page-of other now rec here own in
      subst (ArePagesOf other) (sym done) (are-applied other now rec end own_page.page here own own_page.at);
}

-- what is left to be done to a page leads it where the whole group does
pub record IsPageLeft (p : ℕ) (group : List Rec) (end i : ℕ) (start now : List Content) (content : Content) : Type 0 where
  pub held : Content
  pub left : page_after p (drop i group) end held ≡ page_after p group end content
  pub now_is : now ≡ set start p held

-- the first i records are applied to a page as far as they are on it, and the other pages stay
pub record IsPageUnderWay (p : ℕ) (group : List Rec) (end i : ℕ) (start now : List Content) : Type 0 where
  pub each : (content : Content) → slice_get start p ≡ Some content → IsPageLeft p group end i start now content
  pub its_pages : (shape : Shape) → ArePagesOf shape start → GroupFits shape group → ArePagesOf shape now

set-set : (xs : List Content) (i : ℕ) (a b : Content) → set (set xs i a) i b ≡ set xs i b
set-set [] i a b = refl
set-set (x ∷ xs) zero a b = refl
set-set (x ∷ xs) (suc i) a b = ap (λ rest. x ∷ rest) (set-set xs i a b)

set-own : (xs : List Content) (i : ℕ) (a : Content) → slice_get xs i ≡ Some a → xs ≡ set xs i a
set-own [] i a at = refl
set-own (x ∷ xs) zero a at = let same : x ≡ a = cc in ap (λ y. y ∷ xs) same
set-own (x ∷ xs) (suc i) a at = ap (λ rest. x ∷ rest) (set-own xs i a at)

slice_get-set : (xs : List Content) (i : ℕ) (a b : Content) → slice_get xs i ≡ Some a → slice_get (set xs i b) i ≡ Some b
slice_get-set [] i a b at = absurd cc
slice_get-set (x ∷ xs) zero a b at = refl
slice_get-set (x ∷ xs) (suc i) a b at = slice_get-set xs i a b at

-- no record is applied yet
pub page-way-begins : (p : ℕ) (group : List Rec) (end : ℕ) (start : List Content) → IsPageUnderWay p group end 0 start start
page-way-begins p group end start = record {
  each = λ content at. record { held = content; left = refl; now_is = set-own start p content at };
  its_pages = λ shape are fits. are;
}

-- one record more, on the page
pub page-way-own : (p : ℕ) (group : List Rec) (end i : ℕ) (start now new : List Content) (rec : Rec) → page_of rec ≡ p → slice_get group i ≡ Some rec
    → IsPageUnderWay p group end i start now → new ≡ applied (rec ∷ []) end now → IsPageUnderWay p group end (i + 1) start new
page-way-own p group end i start now new rec on here way done = record {
  each = λ content at.
      let old = way.each content at in
      let next : Content = record { lsn = end; user = user_after_own rec old.held.user } in
      let at_now : slice_get now (page_of rec) ≡ Some old.held =
      ap (slice_get now) on ∙ ap (λ xs. slice_get xs p) old.now_is ∙ slice_get-set start p content old.held at in
      record {
        held = next;
        left = ap (page_after p (drop (i + 1) group) end) (sym (page_after-own p rec end old.held on)) ∙ sym (page_after-cons p rec (drop (i + 1) group) end old.held)
            ∙ ap (λ recs. page_after p recs end old.held) (sym (drop-item group i rec here)) ∙ old.left;
        now_is = done ∙ applied-one rec end now old.held at_now ∙ ap₂ (λ xs n. set xs n next) old.now_is on ∙ set-set start p old.held next;
      };
  its_pages = λ shape are fits.
      let own : RecordFits shape rec = fits-at (RecordFits shape) group i rec fits here in
      let are_now = way.its_pages shape are fits in
      let its = page-of shape now rec are_now own in
      subst (ArePagesOf shape) (sym done) (are-applied shape now rec end its.page are_now own its.at);
}

-- one record more, on another page
pub page-way-other : (p : ℕ) (group : List Rec) (end i : ℕ) (start now : List Content) (rec : Rec) → (page_of rec ≡ p → ⊥) → slice_get group i ≡ Some rec
    → IsPageUnderWay p group end i start now → IsPageUnderWay p group end (i + 1) start now
page-way-other p group end i start now rec other here way = record {
  each = λ content at.
      let old = way.each content at in
      record {
        held = old.held;
        left = ap (page_after p (drop (i + 1) group) end) (sym (page_after-other p rec end old.held other)) ∙ sym (page_after-cons p rec (drop (i + 1) group) end old.held)
            ∙ ap (λ recs. page_after p recs end old.held) (sym (drop-item group i rec here)) ∙ old.left;
        now_is = old.now_is;
      };
  its_pages = way.its_pages;
}

-- no record is left
pub page-way-ends : (p : ℕ) (group : List Rec) (end i : ℕ) (start now : List Content) (found : Option Content) → drop i group ≡ [] → slice_get start p ≡ found
    → IsPageUnderWay p group end i start now → IfSome found (λ content. now ≡ set start p (page_after p group end content))
page-way-ends p group end i start now None none at way = tt
page-way-ends p group end i start now (Some content) none at way =
    let old = way.each content at in
    old.now_is ∙ ap (set start p) (sym (ap (λ recs. page_after p recs end old.held) none) ∙ old.left)

-- the item of a loop is the record there
pub item-at : (recs items : List Rec) (i : ℕ) (rec : Rec) → items ≡ recs → i < length items → rec ≡ get_or items i rec → slice_get recs i ≡ Some rec
item-at recs items i rec same below is = ap (λ xs. slice_get xs i) (sym same) ∙ slice_get-get_or items i rec below ∙ ap Some (sym is)

-- pages of a store's shape stay those of any shape that they were
pub same-shape : (shape other : Shape) (old new : List Content) → ArePagesOf shape old → ArePagesOf shape new → ArePagesOf other old → ArePagesOf other new
same-shape shape other old new are are_now others = record {
  count = are_now.count ∙ sym are.count ∙ others.count;
  sizes = λ p page at.
      let below : p < length new = slice_get_within new p page at in
      let was = item-below old p (omega (arith, are.count, are_now.count)) in
      are_now.sizes p page at ∙ sym (are.sizes p was.0 was.1) ∙ others.sizes p was.0 was.1;
}

-- a page with as many user bytes as it had
pub are-set : (shape : Shape) (pages : List Content) (p : ℕ) (found : Option Content) (new : Content) → slice_get pages p ≡ found
    → IfSome found (λ content. length new.user ≡ length content.user) → p < length pages → ArePagesOf shape pages → ArePagesOf shape (set pages p new)
are-set shape pages p None new at same below are =
    let there = item-below pages p below in let none = at in let some = there.1 in absurd cc
are-set shape pages p (Some content) new at same below are = record {
  count = length-set pages p new ∙ are.count;
  sizes = set-sizes shape pages p new are.sizes (same ∙ are.sizes p content at);
}

are-blank : (shape : Shape) (page : Content) (count p : ℕ) (found : Content) → slice_get (replicate count page) p ≡ Some found → found ≡ page
are-blank shape page zero p found at = absurd cc
are-blank shape page (suc count) zero found at = cc
are-blank shape page (suc count) (suc p) found at = are-blank shape page count p found at

pub are-blank_pages : (shape : Shape) → ArePagesOf shape (blank_pages shape)
are-blank_pages shape = record {
  count = length-replicate shape.pages (blank_page shape);
  sizes = λ p page at. ap (λ (x : Content). length x.user) (are-blank shape (blank_page shape) shape.pages p page at) ∙ length-replicate (user_length shape) 0;
}
