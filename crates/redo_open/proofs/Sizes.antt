-- Shapes that have the sizes of a run, and others.
use Rattle.std.proofs.Common.{◌≡◌, ◌==◌, ◌&&◌, ◌∙◌, ℕ, Bool, true, false, refl, sym, ap, ⊎_elim, arith}
use Rattle.std.proofs.lemmas.Bool.{and_parts}
use Rattle.std.proofs.lemmas.Bool.Decides.{nat_tests}
use Rattle.model_base.specs.{IsEarly, IsWithinLimits, run_shape}
use Rattle.model_base.specs.declared.shape.Shape.{Shape}

-- the test of all sizes
abbrev pub are_equal : Shape → Shape → Bool
are_equal one other =
    one.page_size == other.page_size &&
    (one.pages == other.pages &&
    (one.space == other.space && (one.log_blocks == other.log_blocks && one.slots == other.slots)))

same-number : (a b : ℕ) → a ≡ b → (a == b) ≡ true
same-number a b same = grind (arith, nat_tests)

number-same : (a b : ℕ) → (a == b) ≡ true → a ≡ b
number-same a b test = grind (arith, nat_tests)

-- the shape with so many slots
abbrev pub with_slots : Shape → ℕ → Shape
with_slots shape n = record {
  page_size = shape.page_size;
  pages = shape.pages;
  space = shape.space;
  log_blocks =
      shape.log_blocks;
  slots = n;
}

-- a shape that passes as that of a run is one
pub equal-run : (shape run : Shape) → run ≡ run_shape shape → are_equal shape run ≡ true → shape ≡ run_shape shape
equal-run shape run is test =
    let first = and_parts (shape.page_size == run.page_size) _ test in
    let second = and_parts (shape.pages == run.pages) _ first.1 in
    let third = and_parts (shape.space == run.space) _ second.1 in
    let fourth = and_parts (shape.log_blocks == run.log_blocks) (shape.slots == run.slots) third.1 in
    ap (with_slots shape) (number-same shape.slots run.slots fourth.1 ∙ ap (λ (s : Shape). s.slots) is)

-- and one that doesn't is an early one
pub other-run_early : (shape run : Shape) → IsWithinLimits shape → run ≡ run_shape shape → are_equal shape run ≡ false
    → IsEarly shape
other-run_early shape run limits is test =
    ⊎_elim (λ slots. (
    let page_size : (shape.page_size == run.page_size) ≡ true = same-number shape.page_size run.page_size
    (sym (ap (λ (s : Shape). s.page_size) is)) in
    let pages : (shape.pages == run.pages) ≡ true = same-number shape.pages run.pages
    (sym (ap (λ (s : Shape). s.pages) is)) in
    let space : (shape.space == run.space) ≡ true = same-number shape.space run.space
    (sym (ap (λ (s : Shape). s.space) is)) in
    let log_blocks : (shape.log_blocks == run.log_blocks) ≡ true = same-number shape.log_blocks run.log_blocks
    (sym (ap (λ (s : Shape). s.log_blocks) is)) in
    let same_slots : (shape.slots == run.slots) ≡ true = same-number shape.slots run.slots
    (slots ∙ sym (ap (λ (s : Shape). s.slots) is)) in
    let all : are_equal shape run ≡ true = rw (page_size, pages, space, log_blocks, same_slots) refl in
    let both : true ≡ false = sym all ∙ test in
    absurd cc))
    (λ early. early) limits.slots
