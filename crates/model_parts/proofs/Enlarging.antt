-- The data device of a store of an earlier format gets the slots and places of a run: the old slots and places stay as
-- they are, and where an old place lies in a new slot it passes as a copy of its own page alone.
use Rattle.std.proofs.Common.{◌≡◌, ◌≤◌, ◌<◌, ◌+◌, ◌-◌, ◌⊎◌, ℕ, inl, inr, List, [], length, replicate, Some, None, false, refl, sym, ap, subst, ◌∙◌, ⊎_elim, arith}
use Rattle.std.proofs.lemmas.Bool.{cases_lt}
use Rattle.model_base.specs.{IsWithinLimits, run_shape}
use Rattle.model_base.specs.declared.limits.TheConstants.{SLOTS}
use Rattle.model_base.specs.declared.shape.Shape.{Shape}
use Rattle.model_base.proofs.ShapeLimits.{run_within}
use Rattle.model_device.specs.{IsImage, settled, Disk}
use Rattle.model_page.specs.{copy_lsn, copy_lsn_by, data_device_length, IsInPlace, page_check, place_bytes, place_lsn_by, slot_bytes, stretch_at, user_part}
use Rattle.model_page.specs.declared.content.Content.{Content}
use Rattle.model_page.specs.declared.page.PageState.{PageState}
use Rattle.model_page.specs.declared.page.PageState.TheVariants.{Blank, Sound, Broken}
use Rattle.model_page.proofs.Kept.{same_content}
use Rattle.model_store.specs.{IsOrderly, Reading}
use Rattle.model_store.proofs.Fairness.{base-fair}
use Rattle.model_parts.specs.Stored.{read_as, copied, IsUpTo, Stored}
use Rattle.model_parts.specs.Enlarging.{IsEnlarged, KeepsStretches}
use Rattle.model_parts.specs.Opened.{KeepsOpened}
use Rattle.model_parts.specs.Ready.{IsReadyBy}
use Rattle.model_parts.proofs.Batches.{copy-named}
use Rattle.model_parts.proofs.DataImages.{IsReady, ready-from, stored-from}
use Rattle.model_parts.proofs.Keeping.{ready-keeps}
use Rattle.model_parts.proofs.Kept.{same-copied, same-copy, same-place}
use Rattle.model_parts.proofs.Reread.{log-read}
use Rattle.model_parts.proofs.Stretches.{stretch-piece}
use Rattle.model_parts.proofs.Zeros.{check-blank, none-some, zeros-blank}

-- BY ITS OWN SIZES the device holds what it held.

kept-ready : (shape : Shape) (copies : ℕ → Content → Type 0) (was : ℕ → Content) (old new : List ℕ)
    → IsReady shape copies was old → KeepsStretches shape old new → IsReady shape copies was new
kept-ready shape copies was old new ready keeps = record {
  long = omega (arith, ready.long, keeps.same_length);
  places = λ p below.
      same-place shape old new p (was p) (keeps.each (shape.slots + p) (omega arith)) (ready.places p below);
  known = λ p slot lsn page below passes.
      let same : slot_bytes shape slot new ≡ slot_bytes shape slot old = keeps.each slot (omega arith) in
      subst (λ (c : Content). copies p c) (sym (same-copied shape old new slot lsn same))
      (ready.known p slot lsn page below (sym (same-copy shape old new p slot same) ∙ passes));
}

-- BY THE SIZES OF A RUN pages are as long, and a stretch of a number begins where it did.

run-stretch : (shape : Shape) (n : ℕ) (image : List ℕ) → stretch_at (run_shape shape) n image ≡ stretch_at shape n image
run-stretch shape n image = stretch-piece (run_shape shape) n image ∙ sym (stretch-piece shape n image)

run-copy_by : (shape : Shape) (p : ℕ) (state : PageState)
    → copy_lsn_by (run_shape shape) p state ≡ copy_lsn_by shape p state
run-copy_by shape p Blank = refl
run-copy_by shape p (Sound number space lsn) = refl
run-copy_by shape p Broken = refl

run-copy : (shape : Shape) (image : List ℕ) (p slot : ℕ)
    → copy_lsn (run_shape shape) image p slot ≡ copy_lsn shape image p slot
run-copy shape image p slot =
    run-copy_by shape p (page_check (stretch_at (run_shape shape) slot image))
    ∙ ap (λ b. copy_lsn_by shape p (page_check b)) (run-stretch shape slot image)

run-copied : (shape : Shape) (image : List ℕ) (slot lsn : ℕ)
    → copied (run_shape shape) image slot lsn ≡ copied shape image slot lsn
run-copied shape image slot lsn =
    same_content (copied (run_shape shape) image slot lsn) (copied shape image slot lsn) refl
    (ap user_part (run-stretch shape slot image))

-- what passes as the place of one page and as a copy of another is of one page and of one lsn
one-page : (shape : Shape) (p q lsn found : ℕ) (state : PageState) → place_lsn_by shape q state ≡ Some lsn
    → copy_lsn_by shape p state ≡ Some found → (q ≡ p) × (lsn ≡ found)
one-page shape p q lsn found Blank place copy = absurd cc
one-page shape p q lsn found (Sound number space here) place copy =
    let of_place = copy-named shape q number space here lsn place in
    let of_copy = copy-named shape p number space here found copy in
    (sym of_place.0 ∙ of_copy.0, sym of_place.1 ∙ of_copy.1)
one-page shape p q lsn found Broken place copy = absurd cc

-- an old place that passes as a copy is that of the page
place-copy : (shape : Shape) (pages : ℕ → Content) (image : List ℕ) (p q lsn : ℕ) → IsInPlace shape image q (pages q)
    → copy_lsn shape image p (shape.slots + q) ≡ Some lsn → IsUpTo pages p (copied shape image (shape.slots + q) lsn)
place-copy shape pages image p q lsn is passes =
    let own = one-page shape p q (pages q).lsn lsn (page_check (place_bytes shape q image)) is.passes passes in
    inr (same_content (copied shape image (shape.slots + q) lsn) (pages q) (sym own.1) (sym is.user) ∙ ap pages own.0)

zeros-copy : (shape : Shape) (image : List ℕ) (p slot : ℕ) → stretch_at shape slot image ≡ replicate shape.page_size 0
    → copy_lsn shape image p slot ≡ None
zeros-copy shape image p slot zeros =
    ap (λ b. copy_lsn_by shape p (page_check b)) zeros
    ∙ ap (copy_lsn_by shape p) (check-blank (replicate shape.page_size 0) (zeros-blank shape.page_size))

-- so a slot of a run has an old copy, an old place, or no copy
run-known : (shape : Shape) (pages : ℕ → Content) (old new : List ℕ) (p slot lsn : ℕ)
    → IsReady shape (IsUpTo pages) pages new → IsEnlarged shape pages old new → p < shape.pages → slot < SLOTS
    → copy_lsn shape new p slot ≡ Some lsn → IsUpTo pages p (copied shape new slot lsn)
run-known shape pages old new p slot lsn ready is page below passes =
    ⊎_elim (λ low. ready.known p slot lsn page low passes)
    (λ high. ⊎_elim
    (λ inside.
    let q : ℕ = slot - shape.slots in
    let at : shape.slots + q ≡ slot = omega arith in
    let there : copy_lsn shape new p (shape.slots + q) ≡ Some lsn = ap (copy_lsn shape new p) at ∙ passes in
    subst (λ (n : ℕ). IsUpTo pages p (copied shape new n lsn)) at
    (place-copy shape pages new p q lsn (ready.places q (omega arith)) there))
    (λ behind.
    let zeros : stretch_at shape slot new ≡ replicate shape.page_size 0 = is.slots slot behind below in
    absurd (none-some lsn (copy_lsn shape new p slot) (zeros-copy shape new p slot zeros) passes))
    (cases_lt slot (shape.slots + shape.pages)))
    (cases_lt slot shape.slots)

run-ready : (shape : Shape) (pages : ℕ → Content) (old new : List ℕ) → IsReady shape (IsUpTo pages) pages new
    → data_device_length (run_shape shape) ≤ length new → IsEnlarged shape pages old new
    → IsReady (run_shape shape) (IsUpTo pages) pages new
run-ready shape pages old new ready room is = record {
  long = room;
  places = is.places;
  known = λ p slot lsn page below passes.
      subst (λ (c : Content). IsUpTo pages p c) (sym (run-copied shape new slot lsn))
      (run-known shape pages old new p slot lsn ready is page below (sym (run-copy shape new p slot) ∙ passes));
}

pub enlarged-stored : (shape by : Shape) (pages : ℕ → Content) (old new : Disk) → IsWithinLimits shape
    → (by ≡ shape) ⊎ (by ≡ run_shape shape) → Stored shape (IsUpTo pages) pages [] false old → new ≡ settled new.base
    → data_device_length (run_shape shape) ≤ length new.base → IsEnlarged shape pages old.base new.base
    → Stored by (IsUpTo pages) pages [] false new
enlarged-stored shape by pages old new limits sizes stored nothing room is =
    let before : IsReady shape (IsUpTo pages) pages old.base = ready-from shape (IsUpTo pages) pages old stored in
    let ready : IsReady shape (IsUpTo pages) pages new.base =
    kept-ready shape (IsUpTo pages) pages old.base new.base before is.keeps in
    ⊎_elim
    (λ own. subst (λ (s : Shape). Stored s (IsUpTo pages) pages [] false new) (sym own)
    (stored-from shape (IsUpTo pages) pages new limits ready nothing))
    (λ run. subst (λ (s : Shape). Stored s (IsUpTo pages) pages [] false new) (sym run)
    (stored-from (run_shape shape) (IsUpTo pages) pages new (run_within shape limits)
    (run-ready shape pages old.base new.base ready room is) nothing)) sizes

-- WHILE IT GETS THEM each image is a device that is ready by the old sizes.

pub enlarging-keeps : (opened : Reading) (log_bytes data_bytes : List ℕ) (log_disk old data_disk : Disk)
    → IsOrderly log_bytes data_bytes opened → IsReadyBy opened.shape opened log_disk old
    → ((image : List ℕ) → IsImage data_disk image → KeepsStretches opened.shape old.base image)
    → KeepsOpened opened log_disk data_disk
enlarging-keeps opened log_bytes data_bytes log_disk old data_disk orderly ready keeps log image is fair =
    let top : ℕ → Content = read_as opened in
    let limits : IsWithinLimits opened.shape = (log-read log_bytes data_bytes opened orderly.reads).limits in
    let kept : IsReady opened.shape (IsUpTo top) top image =
    kept-ready opened.shape (IsUpTo top) top old.base image (ready-from opened.shape (IsUpTo top) top old ready.pages)
    (keeps image fair.possible) in
    let stored : Stored opened.shape (IsUpTo top) top [] false (settled image) =
    stored-from opened.shape (IsUpTo top) top (settled image) limits kept refl in
    let still : IsReadyBy opened.shape opened log_disk (settled image) = record { log = ready.log; pages = stored } in
    ready-keeps opened log_bytes data_bytes opened.shape log_disk (settled image) orderly (inl refl) still log image is
    (base-fair opened.shape (settled image))
