-- The texts of a batch, where they stand, and what the check of them finds.
use Rattle.std.proofs.Common.{◌≡◌, ◌+◌, ◌*◌, ◌==◌, ◌&&◌, ℕ, zero, suc, Bool, true, false, cond, List, [], ◌∷◌, ◌++◌, length, take, drop, Some, None, Option, refl, sym, ap, subst, ◌∙◌, length-append, arith}
use Rattle.std.specs.List.{slice_get}
use Rattle.std.proofs.lemmas.List.{take_at, drop_at, drop-drop}
use Rattle.std.proofs.lemmas.Bool.Decides.{nat_tests}
use Rattle.std.proofs.Math.Nat.{zero-mul}
use Rattle.model_base.proofs.ShapeLimits.{page_size_facts}
use Rattle.model_base.specs.{frame_length, IsPageSize, IsWithinLimits, user_length}
use Rattle.model_base.specs.declared.shape.Shape.{Shape}
use Rattle.model_page.specs.{copy_lsn_by, FitsPage, page_check, page_text, place_lsn_by, user_part}
use Rattle.model_page.specs.declared.page.PageState.TheVariants.{Sound}
use Rattle.model_page.proofs.NotBlank.{is_blank-page_text_whole}
use Rattle.model_page.proofs.ReadBack.{page_check-page_text, user_part-page_text}
use Rattle.model_parts.specs.Batch.{Fresh, new_text, batch_text}
use Rattle.model_parts.specs.BatchFits.{IsFreshPage}
use Rattle.model_parts.proofs.Rows.{one-more-row}

pub length-page_text : (number space lsn : ℕ) (user : List ℕ)
    → length (page_text number space lsn user) ≡ frame_length + length user
unfolding page_text
length-page_text number space lsn user = simp length-append (omega arith)

-- user bytes and those around them make the page
pub whole-page : (shape : Shape) → IsPageSize shape.page_size → frame_length + user_length shape ≡ shape.page_size
whole-page shape size = omega (arith, (page_size_facts shape.page_size size).least)

pub length-new_text : (shape : Shape) (new : Fresh) → IsPageSize shape.page_size
    → length new.content.user ≡ user_length shape
    → length (new_text shape new) ≡ shape.page_size
length-new_text shape new size long =
    length-page_text new.page shape.space new.content.lsn new.content.user
    ∙ ap (λ (n : ℕ). frame_length + n) long ∙ whole-page shape size

pub check-new_text : (shape : Shape) (new : Fresh) → IsWithinLimits shape → IsFreshPage shape new
    → page_check (new_text shape new) ≡ Sound new.page shape.space new.content.lsn
check-new_text shape new is fresh =
    let fits : FitsPage new.page shape.space new.content.lsn new.content.user = record {
      small_number = omega (arith, fresh.below, is.few_pages);
      small_space = is.space;
      small_lsn = fresh.small_lsn;
      bytes = fresh.bytes;
    } in
    page_check-page_text new.page shape.space new.content.lsn new.content.user fits
    (is_blank-page_text_whole new.page shape.space new.content.lsn new.content.user
    (subst IsPageSize (sym (ap (λ (n : ℕ). frame_length + n) fresh.long ∙ whole-page shape is.page_size)) is.page_size))

pub user-new_text : (shape : Shape) (new : Fresh) → user_part (new_text shape new) ≡ new.content.user
user-new_text shape new = user_part-page_text new.page shape.space new.content.lsn new.content.user

eqb-same : (n : ℕ) → (n == n) ≡ true
eqb-same n = grind (arith, nat_tests)

both-true : (a b : Bool) (x : Option ℕ) → a ≡ true → b ≡ true → cond (a && b) x None ≡ x
both-true a b x p q = rw (p, q) refl

pub place-sound : (shape : Shape) (page lsn : ℕ) → place_lsn_by shape page (Sound page shape.space lsn) ≡ Some lsn
place-sound shape page lsn = both-true (page == page) (shape.space == shape.space) (Some lsn) (eqb-same page) (eqb-same shape.space)

pub copy-sound : (shape : Shape) (page lsn : ℕ) → copy_lsn_by shape page (Sound page shape.space lsn) ≡ Some lsn
copy-sound shape page lsn = both-true (page == page) (shape.space == shape.space) (Some lsn) (eqb-same page) (eqb-same shape.space)

eqb-from : (a b : ℕ) → (a == b) ≡ true → a ≡ b
eqb-from a b test = grind (arith, nat_tests)

-- what passes is of the page and has that lsn
copy-of : (a b : Bool) (x found : ℕ) → cond (a && b) (Some x) None ≡ Some found → (a ≡ true) × (x ≡ found)
copy-of true true x found is = (refl, cc)
copy-of true false x found is = absurd cc
copy-of false b x found is = absurd cc

pub copy-named : (shape : Shape) (p number space lsn found : ℕ) → copy_lsn_by shape p (Sound number space lsn) ≡ Some found → (number ≡ p) × (lsn ≡ found)
copy-named shape p number space lsn found is =
    let here = copy-of (number == p) (space == shape.space) lsn found is in
    (eqb-from number p here.0, here.1)

pub length-batch_text : (shape : Shape) (batch : List Fresh) → IsPageSize shape.page_size
    → ((i : ℕ) (new : Fresh) → slice_get batch i ≡ Some new → IsFreshPage shape new)
    → length (batch_text shape batch) ≡ length batch * shape.page_size
length-batch_text shape [] size each = sym (zero-mul shape.page_size)
length-batch_text shape (new ∷ batch) size each =
    length-append (new_text shape new) (batch_text shape batch)
    ∙ omega (
      arith,
      one-more-row (length batch) shape.page_size,
      length-new_text shape new size (each 0 new refl).long,
      length-batch_text shape batch size (λ i other at. each (suc i) other at),
    )

pub text-at : (shape : Shape) (batch : List Fresh) (i : ℕ) (new : Fresh) → IsPageSize shape.page_size
    → ((i : ℕ) (new : Fresh) → slice_get batch i ≡ Some new → IsFreshPage shape new) → slice_get batch i ≡ Some new
    → take shape.page_size (drop (i * shape.page_size) (batch_text shape batch)) ≡ new_text shape new
text-at shape [] i new size each at = absurd cc
text-at shape (first ∷ batch) zero new size each at =
    let page : ℕ = shape.page_size in
    let same : first ≡ new = cc in
    let long : length (new_text shape first) ≡ page = length-new_text shape first size (each 0 first refl).long in
    ap (λ (n : ℕ). take page (drop n (new_text shape first ++ batch_text shape batch))) (zero-mul page)
    ∙ take_at (new_text shape first) (batch_text shape batch) page long ∙ ap (new_text shape) same
text-at shape (first ∷ batch) (suc i) new size each at =
    let page : ℕ = shape.page_size in
    let long : length (new_text shape first) ≡ page = length-new_text shape first size (each 0 first refl).long in
    let skip : drop (suc i * page) (new_text shape first ++ batch_text shape batch)
    ≡ drop (i * page) (batch_text shape batch) =
    ap (λ n. drop n (new_text shape first ++ batch_text shape batch)) (one-more-row i page)
    ∙ sym (drop-drop (i * page) page (new_text shape first ++ batch_text shape batch))
    ∙ ap (drop (i * page)) (drop_at (new_text shape first) (batch_text shape batch) page long) in
    ap (take page) skip ∙ text-at shape batch i new size (λ j other here. each (suc j) other here) at
