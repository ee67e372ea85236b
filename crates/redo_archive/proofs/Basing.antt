-- The pages of an archive, one after another.
use Rattle.std.proofs.Common.{◌≡◌, ◌≤◌, ◌<◌, ◌+◌, ◌*◌, ℕ, List, take, drop, set, Option, Some, None, sym, ap, ◌∙◌, arith}
use Rattle.model_base.specs.{IsWithinLimits}
use Rattle.model_base.specs.declared.shape.Shape.{Shape}
use Rattle.model_base.proofs.ShapeLimits.{whole_sectors}
use Rattle.model_device.specs.{Disk}
use Rattle.model_page.specs.declared.content.Content.{Content}
use Rattle.model_page.specs.{page_check, place_lsn_by, user_part}
use Rattle.model_archive.specs.{AreBasePages, base_bytes, base_lsn, IsBasePage, IsFirstUnsound, pages_end}
use Rattle.model_archive.proofs.Images.{page-stands, PageStands}
use Rattle.model_store.proofs.Places.{has_place}
use Rattle.redo_apply.specs.{ArePagesOf}
use Rattle.redo_disk.specs.{IsRange, part}
use Rattle.redo_recover.specs.Devices.{OnContent}
use Rattle.redo_recover.proofs.Contents.{content-both, content-weaker}
use Rattle.redo_recover.proofs.Setting.{all-first, AreFirst, first-put}

-- the place of a page may be read and written
pub base-range : (shape : Shape) (p long : ℕ) → IsWithinLimits shape → p < shape.pages → pages_end shape ≤ long
    → IsRange long (1536 + p * shape.page_size) shape.page_size
base-range shape p long limits below room =
    let stands : PageStands shape p = page-stands shape p limits below in
    record {
      from_sector = omega (arith, stands.aligned);
      whole_sectors = (whole_sectors shape limits).sectors;
      within = omega (arith, stands.behind);
    }

-- the bytes of page p, as they were read
pub base-is : (shape : Shape) (p at : ℕ) (text image : List ℕ) → at ≡ 1536 + p * shape.page_size
    → text ≡ part image at shape.page_size → text ≡ base_bytes shape p image
unfolding base_bytes
base-is shape p at text image at_is is = is ∙ ap (part-from image shape.page_size) at_is
  where
    part-from : List ℕ → ℕ → ℕ → List ℕ
    part-from bytes count at = take count (drop at bytes)

-- the first so many pages of the archive
abbrev pub AreFirstBases : Shape → ℕ → List Content → List ℕ → Type 0
AreFirstBases shape count pages image = AreFirst (IsBasePage shape image) shape count pages

-- one page more
pub bases-next : (told : Option Disk) (shape : Shape) (p at : ℕ) (text : List ℕ) (pages new : List Content)
    (page : Content)
    → at ≡ 1536 + p * shape.page_size → place_lsn_by shape p (page_check text) ≡ Some page.lsn
    → page.user ≡ user_part text → new ≡ set pages p page → ArePagesOf shape new
    → OnContent told (AreFirstBases shape p pages) → OnContent told (λ image. text ≡ part image at shape.page_size)
    → OnContent told (AreFirstBases shape (p + 1) new)
bases-next told shape p at text pages new page at_is passes user new_is its first read =
    content-both told (AreFirstBases shape p pages) (λ image. text ≡ part image at shape.page_size)
    (AreFirstBases shape (p + 1) new)
    (λ image so_far is.
    let same : text ≡ base_bytes shape p image = base-is shape p at text image at_is is in
    first-put (IsBasePage shape image) shape p pages new page so_far (record {
      passes = ap (λ (bytes : List ℕ). place_lsn_by shape p (page_check bytes)) (sym same) ∙ passes;
      user = user ∙ ap user_part same;
    }) new_is its) first read

-- a page that doesn't pass
pub bases-fault : (told : Option Disk) (shape : Shape) (p at : ℕ) (text : List ℕ) (pages : List Content)
    → p < shape.pages → at ≡ 1536 + p * shape.page_size → place_lsn_by shape p (page_check text) ≡ None
    → OnContent told (AreFirstBases shape p pages) → OnContent told (λ image. text ≡ part image at shape.page_size)
    → OnContent told (λ image. IsFirstUnsound shape image p)
bases-fault told shape p at text pages below at_is none first read =
    content-both told (AreFirstBases shape p pages) (λ image. text ≡ part image at shape.page_size)
    (λ image. IsFirstUnsound shape image p)
    (λ image so_far is.
    let same : text ≡ base_bytes shape p image = base-is shape p at text image at_is is in (
      below,
      ap (λ (bytes : List ℕ). place_lsn_by shape p (page_check bytes)) (sym same) ∙ none,
      λ q less off. (
          let there = has_place pages q (omega (arith, so_far.its_pages.count, below)) in
          let passes : base_lsn shape image q ≡ Some there.0.lsn = (so_far.each q there.0 less there.1).passes in
          absurd (some-none (sym passes ∙ off))),
    )) first read
  where
    some-none : {lsn : ℕ} → (let some : Option ℕ = Some lsn in some ≡ None) → ⊥
    some-none is = cc

-- all pages
pub bases-all : (told : Option Disk) (shape : Shape) (count : ℕ) (pages : List Content) → shape.pages ≤ count
    → OnContent told (AreFirstBases shape count pages) → OnContent told (λ image. AreBasePages shape image pages)
bases-all told shape count pages all first =
    content-weaker told (AreFirstBases shape count pages) (λ image. AreBasePages shape image pages)
    (λ image so_far. record {
      count = so_far.its_pages.count;
      each = all-first (IsBasePage shape image) shape pages count so_far all;
    }) first
