-- The kept page of an image, as its stretches tell it.
use Rattle.std.proofs.Common.{◌≡◌, ℕ, List, Some, None, refl, sym, ap, ◌∙◌}
use Rattle.model_base.specs.{IsWithinLimits}
use Rattle.model_base.specs.declared.shape.Shape.{Shape}
use Rattle.model_page.specs.{copy_lsn, copy_lsn_by, IsInPlace, page_check, place_bytes, place_lsn, place_lsn_by, slot_bytes, user_part}
use Rattle.model_page.specs.declared.content.Content.{Content}
use Rattle.model_page.specs.declared.page.PageState.TheVariants.{Broken}
use Rattle.model_page.proofs.Kept.{same_content}
use Rattle.model_parts.specs.Batch.{Fresh, new_text}
use Rattle.model_parts.specs.BatchFits.{IsFreshPage}
use Rattle.model_parts.specs.Stored.{copied}
use Rattle.model_parts.proofs.Batches.{check-new_text, user-new_text, place-sound, copy-sound, copy-named}

pub same-place : (shape : Shape) (old new : List ℕ) (p : ℕ) (content : Content) → place_bytes shape p new ≡ place_bytes shape p old → IsInPlace shape old p content → IsInPlace shape new p content
same-place shape old new p content same is = record {
  passes = ap (λ b. place_lsn_by shape p (page_check b)) same ∙ is.passes;
  user = is.user ∙ ap user_part (sym same);
}

pub same-place_lsn : (shape : Shape) (old new : List ℕ) (p : ℕ) → place_bytes shape p new ≡ place_bytes shape p old → place_lsn shape new p ≡ place_lsn shape old p
same-place_lsn shape old new p same = ap (λ b. place_lsn_by shape p (page_check b)) same

pub same-copy : (shape : Shape) (old new : List ℕ) (p slot : ℕ) → slot_bytes shape slot new ≡ slot_bytes shape slot old → copy_lsn shape new p slot ≡ copy_lsn shape old p slot
same-copy shape old new p slot same = ap (λ b. copy_lsn_by shape p (page_check b)) same

pub same-copied : (shape : Shape) (old new : List ℕ) (slot lsn : ℕ) → slot_bytes shape slot new ≡ slot_bytes shape slot old → copied shape new slot lsn ≡ copied shape old slot lsn
same-copied shape old new slot lsn same = same_content (copied shape new slot lsn) (copied shape old slot lsn) refl (ap user_part same)

pub broken-place : (shape : Shape) (image : List ℕ) (p : ℕ) → page_check (place_bytes shape p image) ≡ Broken → place_lsn shape image p ≡ None
broken-place shape image p is = ap (place_lsn_by shape p) is

pub broken-copy : (shape : Shape) (image : List ℕ) (p slot : ℕ) → page_check (slot_bytes shape slot image) ≡ Broken → copy_lsn shape image p slot ≡ None
broken-copy shape image p slot is = ap (copy_lsn_by shape p) is

-- a stretch with the text of a new page
pub place-new : (shape : Shape) (image : List ℕ) (new : Fresh) → IsWithinLimits shape → IsFreshPage shape new
    → place_bytes shape new.page image ≡ new_text shape new
    → IsInPlace shape image new.page new.content
place-new shape image new limits fresh is = record {
  passes = ap (λ b. place_lsn_by shape new.page (page_check b)) is ∙ ap (place_lsn_by shape new.page) (check-new_text shape new limits fresh) ∙ place-sound shape new.page new.content.lsn;
  user = sym (ap user_part is ∙ user-new_text shape new);
}

pub copy-new : (shape : Shape) (image : List ℕ) (new : Fresh) (slot : ℕ) → IsWithinLimits shape → IsFreshPage shape new
    → slot_bytes shape slot image ≡ new_text shape new
    → copy_lsn shape image new.page slot ≡ Some new.content.lsn
copy-new shape image new slot limits fresh is =
    ap (λ b. copy_lsn_by shape new.page (page_check b)) is ∙ ap (copy_lsn_by shape new.page) (check-new_text shape new limits fresh) ∙ copy-sound shape new.page new.content.lsn

pub record IsCopyOf (shape : Shape) (image : List ℕ) (p slot lsn : ℕ) (new : Fresh) : Type 0 where
  pub page : new.page ≡ p
  pub content : copied shape image slot lsn ≡ new.content

pub copy-is : (shape : Shape) (image : List ℕ) (new : Fresh) (p slot lsn : ℕ) → IsWithinLimits shape
    → IsFreshPage shape new → slot_bytes shape slot image ≡ new_text shape new
    → copy_lsn shape image p slot ≡ Some lsn → IsCopyOf shape image p slot lsn new
copy-is shape image new p slot lsn limits fresh is passes =
    let named = copy-named shape p new.page shape.space new.content.lsn lsn
    (sym (ap (λ b. copy_lsn_by shape p (page_check b)) is ∙ ap (copy_lsn_by shape p) (check-new_text shape new limits fresh)) ∙ passes) in
    record {
      page = named.0;
      content = same_content (copied shape image slot lsn) new.content (sym named.1) (ap user_part is ∙ user-new_text shape new);
    }
