-- A device of zeros is that of a store whose pages were never written.
use Rattle.std.proofs.Common.{◌≡◌, ◌≤◌, ◌<◌, ◌+◌, ◌-◌, ◌*◌, ℕ, zero, suc, true, List, length, take, drop, replicate, Option, Some, None, refl, sym, ap, ◌∙◌, arith}
use Rattle.std.proofs.lemmas.List.{take-replicate, drop-replicate, length-replicate}
use Rattle.model_base.specs.declared.limits.TheConstants.{PAGE_TRAILER, USER_START}
use Rattle.model_base.specs.declared.shape.Shape.{Shape}
use Rattle.model_page.specs.{blank_page, copy_lsn, copy_lsn_by, data_device_length, is_blank, page_check, place_lsn_by, stretch_at, user_part}
use Rattle.model_page.specs.declared.page.PageState.TheVariants.{Blank}
use Rattle.model_device.specs.{settled}
use Rattle.model_base.specs.{IsWithinLimits, user_length}
use Rattle.model_parts.specs.Stored.{IsOpened}
use Rattle.model_parts.proofs.Stretches.{stretch-piece}
use Rattle.model_parts.proofs.Writes.{sizes-from, stretch-ends}

pub zeros-blank : (n : ℕ) → is_blank (replicate n 0) ≡ true
zeros-blank zero = refl
zeros-blank (suc n) = zeros-blank n

pub check-blank : (bytes : List ℕ) → is_blank bytes ≡ true → page_check bytes ≡ Blank
unfolding page_check
check-blank bytes blank = rw blank refl

stretch-zeros : (shape : Shape) (n long : ℕ) → n * shape.page_size + shape.page_size ≤ long
    → stretch_at shape n (replicate long 0) ≡ replicate shape.page_size 0
stretch-zeros shape n long within =
    stretch-piece shape n (replicate long 0)
    ∙ ap (take shape.page_size) (drop-replicate (n * shape.page_size) long 0)
    ∙ take-replicate shape.page_size (long - n * shape.page_size) 0 (omega arith)

user-zeros : (shape : Shape) → user_part (replicate shape.page_size 0) ≡ replicate (user_length shape) 0
user-zeros shape =
    let size : ℕ = shape.page_size in
    let long : length {A = ℕ} (replicate size 0) ≡ size = length-replicate size 0 in
    let end : size - PAGE_TRAILER - USER_START ≡ user_length shape = omega arith in
    ap (λ k. take (k - PAGE_TRAILER - USER_START) (drop USER_START (replicate size 0))) long
    ∙ ap (take (size - PAGE_TRAILER - USER_START)) (drop-replicate USER_START size 0)
    ∙ take-replicate (size - PAGE_TRAILER - USER_START) (size - USER_START) 0 (omega arith) ∙ ap (λ k. replicate k 0) end

pub none-some : (x : ℕ) (o : Option ℕ) → o ≡ None → o ≡ Some x → ⊥
none-some x o none some = let both : None ≡ Some x = sym none ∙ some in absurd cc

pub zeros-opened : (shape : Shape) (long : ℕ) → IsWithinLimits shape → data_device_length shape ≤ long
    → IsOpened shape (λ p. blank_page shape) (λ p. blank_page shape) (settled (replicate long 0))
zeros-opened shape long is room =
    let size : ℕ = shape.page_size in
    let whole : length {A = ℕ} (replicate long 0) ≡ long = length-replicate long 0 in
    let zeros : (n : ℕ) → n < shape.slots + shape.pages → stretch_at shape n (replicate long 0) ≡ replicate size 0 = λ n below.
    stretch-zeros shape n long (stretch-ends shape n long (sizes-from shape long is room) below) in
    let blank : (n : ℕ) → n < shape.slots + shape.pages → page_check (stretch_at shape n (replicate long 0)) ≡ Blank = λ n below.
    ap page_check (zeros n below) ∙ check-blank (replicate size 0) (zeros-blank size) in
    record {
      long = omega arith;
      nothing_pending = refl;
      places = λ p below. record {
        passes = ap (place_lsn_by shape p) (blank (shape.slots + p) (omega arith));
        user = sym (ap user_part (zeros (shape.slots + p) (omega arith)) ∙ user-zeros shape);
      };
      known = λ p slot lsn page below passes. absurd (none-some lsn (copy_lsn shape (replicate long 0) p slot) (ap (copy_lsn_by shape p) (blank slot (omega arith))) passes);
    }
