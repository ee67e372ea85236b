-- The pages of a store as a run finds them: their cells, and what they hold.
use Rattle.std.proofs.Common.{List, [], ap, append_assoc, arith, drop, get_or, length, length-append, refl, replicate, subst, suc, sym, take, zero, ℕ, ⊎_elim, ◌++◌, ◌+◌, ◌-◌, ◌<◌, ◌∙◌, ◌∷◌, ◌≡◌, ◌≤◌}
use Rattle.std.specs.Prelude.{Some, slice_get, slice_index}
use Rattle.std.proofs.lemmas.Bool.{cases_lt}
use Rattle.std.proofs.lemmas.List.{drop_at, get_or_past, length-replicate, take_at}
use Rattle.std.proofs.lemmas.Option.{get_or_from_slice_get, slice_get-get_or, slice_get_within}
use Rattle.model_base.proofs.ShapeLimits.{whole_sectors}
use Rattle.model_base.specs.{IsWithinLimits, user_length}
use Rattle.model_base.specs.declared.limits.TheConstants.{PAGE_TRAILER, USER_START}
use Rattle.model_base.specs.declared.shape.Shape.{Shape}
use Rattle.model_core.specs.{KeptPage, Setup}
use Rattle.model_running.specs.{HasItsPages, kept_content}
use Rattle.model_page.specs.{blank_page, user_part}
use Rattle.model_page.specs.declared.content.Content.{Content}
use Rattle.model_theorem.specs.{Opened}
use Rattle.redo_apply.specs.{ArePagesOf}
use Rattle.redo_drive.specs.Setups.{page_cells}
use Rattle.redo_drive.specs.StartWords.{HoldBytes, kept_page_of, opened_page}

-- in so many zeros, and past them, each number is 0
pub replicate_zero : (n i : ℕ) → slice_index (replicate n 0) i ≡ 0
replicate_zero zero i = refl
replicate_zero (suc n) zero = refl
replicate_zero (suc n) (suc i) = replicate_zero n i

-- two lists of numbers below a limit, joined
small_append : (limit : ℕ) (xs ys : List ℕ) → ((i : ℕ) → slice_index xs i < limit) → ((i : ℕ) → slice_index ys i < limit) → (i : ℕ) → slice_index (xs ++ ys) i < limit
small_append limit [] ys a b i = b i
small_append limit (x ∷ xs) ys a b zero = a zero
small_append limit (x ∷ xs) ys a b (suc i) = small_append limit xs ys (λ j. a (suc j)) b i

-- bytes with so many zeros before and after them
module _ (before behind : ℕ) (user : List ℕ) where
  abbrev framed : List ℕ
  framed = replicate before 0 ++ user ++ replicate behind 0

  framed-length : length framed ≡ before + length user + behind
  framed-length = omega (arith, length-append (replicate before 0 ++ user) (replicate behind 0), length-append (replicate before 0) user, length-replicate {A = ℕ})

  framed-user : take (length framed - behind - before) (drop before framed) ≡ user
  framed-user =
      ap (λ (n : ℕ). take n (drop before framed)) (let e : length framed - behind - before ≡ length user = omega (arith, framed-length) in e)
      ∙ ap (λ (xs : List ℕ). take (length user) (drop before xs)) (append_assoc (replicate before 0) user (replicate behind 0))
      ∙ ap (λ (xs : List ℕ). take (length user) xs) (drop_at (replicate before 0) (user ++ replicate behind 0) before (length-replicate {A = ℕ} before 0))
      ∙ take_at user (replicate behind 0) (length user) refl

  framed-small : (limit : ℕ) → 0 < limit → ((i : ℕ) → slice_index user i < limit) → (i : ℕ) → slice_index framed i < limit
  framed-small limit some small = small_append limit (replicate before 0 ++ user) (replicate behind 0) (small_append limit (replicate before 0) user (zeros before) small) (zeros behind)
    where
      zeros : (n i : ℕ) → slice_index (replicate n 0) i < limit
      zeros n i = subst (λ (k : ℕ). k < limit) (sym (replicate_zero n i)) some

-- the cells of a page by its user bytes
pub page_cells-length : (user : List ℕ) → length (page_cells user) ≡ USER_START + length user + PAGE_TRAILER
unfolding page_cells
page_cells-length user = framed-length USER_START PAGE_TRAILER user

pub user_part-page_cells : (user : List ℕ) → user_part (page_cells user) ≡ user
unfolding page_cells
user_part-page_cells user = framed-user USER_START PAGE_TRAILER user

pub page_cells-small : (limit : ℕ) (user : List ℕ) → 0 < limit → ((i : ℕ) → slice_index user i < limit) → (i : ℕ) → slice_index (page_cells user) i < limit
unfolding page_cells
page_cells-small limit user some small = framed-small USER_START PAGE_TRAILER user limit some small

-- a page that was never written holds 0 in each byte
blank-zero : (shape : Shape) (i : ℕ) → slice_index (blank_page shape).user i ≡ 0
blank-zero shape i = replicate_zero (user_length shape) i

-- what a run finds of a page
pub opened_page-is : (shape : Shape) (pages : List Content) (p : ℕ) (page : Content) → slice_get pages p ≡ Some page
    → ◌≡◌ {A = KeptPage} (opened_page shape pages p) (kept_page_of page)
opened_page-is shape pages p page at = ap {A = Content} {B = KeptPage} kept_page_of (get_or_from_slice_get pages p page (blank_page shape) at)

pub content_of-kept_page_of : (page : Content) → kept_content (kept_page_of page) ≡ page
content_of-kept_page_of page = ap (λ (user : List ℕ). let found : Content = record { lsn = page.lsn; user = user } in found) (user_part-page_cells page.user)

-- it holds the page
pub content_of-opened_page : (shape : Shape) (pages : List Content) (p : ℕ) (page : Content) → slice_get pages p ≡ Some page
    → kept_content (opened_page shape pages p) ≡ page
content_of-opened_page shape pages p page at =
    ap {A = KeptPage} {B = Content} kept_content (opened_page-is shape pages p page at) ∙ content_of-kept_page_of page

-- each page has all its bytes
module _ (shape : Shape) (limits : IsWithinLimits shape) (pages : List Content) (its_pages : ArePagesOf shape pages) where
  abbrev page_at : ℕ → Content
  page_at p = get_or pages p (blank_page shape)

  pub user_at : (p : ℕ) → length (page_at p).user ≡ user_length shape
  user_at p = ⊎_elim
      (λ below. its_pages.sizes p (page_at p) (slice_get-get_or pages p (blank_page shape) below))
      (λ above. ap (λ (page : Content). length page.user) (get_or_past pages p (blank_page shape) above) ∙ length-replicate {A = ℕ} (user_length shape) 0)
      (cases_lt p (length pages))

  pub opened_page-length : (p : ℕ) → length (opened_page shape pages p).bytes ≡ shape.page_size
  opened_page-length p = page_cells-length (page_at p).user ∙ omega (arith, user_at p, (whole_sectors shape limits).least)

-- where each page holds bytes, so does each cell of the opened pages
pub opened_pages-bytes : (shape : Shape) (pages : List Content) → ((p : ℕ) → p < length pages → (i : ℕ) → slice_index (get_or pages p (blank_page shape)).user i < 256)
    → HoldBytes shape pages
opened_pages-bytes shape pages each p i = page_cells-small 256 (get_or pages p (blank_page shape)).user (omega arith) (⊎_elim (each p) blank (cases_lt p (length pages))) i
  where
    blank : length pages ≤ p → (j : ℕ) → slice_index (get_or pages p (blank_page shape)).user j < 256
    blank above j = subst (λ (page : Content). slice_index page.user j < 256) (sym (get_or_past pages p (blank_page shape) above)) (let z = blank-zero shape j in omega arith)

-- a run on opened pages has the pages of its store
pub has_opened_pages : (c : Setup) (opened : Opened) → IsWithinLimits opened.shape → ArePagesOf opened.shape opened.pages → c.pages ≡ length opened.pages
    → c.page_size ≡ opened.shape.page_size → ((p : ℕ) → p < length opened.pages → ◌≡◌ {A = KeptPage} (c.opened p) (opened_page opened.shape opened.pages p)) → HasItsPages c opened
has_opened_pages c opened limits its_pages pages size each = record {
  count = pages ∙ its_pages.count;
  page_size = size;
  each = λ p page at. let there : p < length opened.pages = slice_get_within opened.pages p page at in let is = each p there in record {
    there = omega arith;
    content = ap {A = KeptPage} {B = Content} kept_content is ∙ content_of-opened_page opened.shape opened.pages p page at;
    whole = ap (λ (kept : KeptPage). length kept.bytes) is ∙ opened_page-length opened.shape limits opened.pages its_pages p ∙ sym size;
  };
}
