-- The test of a shape's sizes against the facts that it tells.
use Rattle.std.proofs.Common.{ap, arith, Bool, false, inl, inr, refl, subst, sym, true, true≢false, nat_le, ℕ, ⊎_elim, ◌%◌, ◌&&◌, ◌<◌, ◌==◌, ◌||◌, ◌≡◌, ◌≤◌, ◌⊎◌}
use Rattle.std.proofs.lemmas.Bool.{and_parts, eq-eqb, eqb-true}
use Rattle.std.proofs.lemmas.Bool.Decides.{nat_tests}
use Rattle.model_base.specs.declared.limits.TheConstants.{EARLY_SLOTS, LARGE_PAGE_SIZE, MAX_EARLY_PAGES, MAX_LOG_BLOCKS, MAX_PAGES, MIN_LOG_BLOCKS, PAGE_SIZE, SLOTS}
use Rattle.model_base.specs.declared.shape.Shape.{Shape}
use Rattle.model_base.specs.Limits.{default_shape, has_early_sizes, has_sizes, is_page_size, is_within_limits, IsEarly, IsWholeSectors, IsWithinLimits, run_shape, space_limit}
unfoldable use Rattle.model_base.specs.Limits.{IsPageSize}

-- where either test passes, the one that does
either : (first second : Bool) → (first || second) ≡ true → (first ≡ true) ⊎ (second ≡ true)
either true second is = inl refl
either false second is = inr is

-- one test that passes is enough
either-true : (first second : Bool) → (first ≡ true) ⊎ (second ≡ true) → (first || second) ≡ true
either-true true second is = refl
either-true false second (inl never) = absurd (true≢false (sym never))
either-true false second (inr is) = is

-- a page size passes its test, and what passes is one
pub page_size_test : (n : ℕ) → is_page_size n ≡ true → IsPageSize n
unfolding IsPageSize
page_size_test n is = ⊎_elim (λ small. inl (eqb-true n PAGE_SIZE small)) (λ large. inr (eqb-true n LARGE_PAGE_SIZE large))
    (either (n == PAGE_SIZE) (n == LARGE_PAGE_SIZE) is)

pub page_size_true : (n : ℕ) → IsPageSize n → is_page_size n ≡ true
unfolding IsPageSize
page_size_true n is = either-true (n == PAGE_SIZE) (n == LARGE_PAGE_SIZE)
    (⊎_elim (λ small. inl (eq-eqb n PAGE_SIZE small)) (λ large. inr (eq-eqb n LARGE_PAGE_SIZE large)) is)

-- what the sizes of a store are, one by one
pub sizes_facts : (shape : Shape) → has_sizes shape ≡ true → IsPageSize shape.page_size × ((shape.pages ≤ MAX_PAGES) × (shape.slots ≡ SLOTS))
sizes_facts shape has =
    let parts = and_parts (is_page_size shape.page_size && nat_le shape.pages MAX_PAGES) (shape.slots == SLOTS) has in
    let front = and_parts (is_page_size shape.page_size) (nat_le shape.pages MAX_PAGES) parts.0 in
    (page_size_test shape.page_size front.0, (grind (arith, nat_tests), grind (arith, nat_tests)))

pub early_facts : (shape : Shape) → has_early_sizes shape ≡ true → IsEarly shape
early_facts shape has = record {
  page_size = grind (arith, nat_tests);
  few_pages = grind (arith, nat_tests);
  slots = grind (arith, nat_tests);
}

-- sizes that are so pass their test
pub sizes_true : (shape : Shape) → IsPageSize shape.page_size → shape.pages ≤ MAX_PAGES → shape.slots ≡ SLOTS → has_sizes shape ≡ true
sizes_true shape size few slots =
    let tested : is_page_size shape.page_size ≡ true = page_size_true shape.page_size size in
    grind (arith, nat_tests)

pub early_true : (shape : Shape) → IsEarly shape → has_early_sizes shape ≡ true
early_true shape early =
    let size = early.page_size in
    let few = early.few_pages in
    let slots = early.slots in
    grind (arith, nat_tests)

-- a shape that passes the test keeps each limit
of_sizes : (shape : Shape) → is_within_limits shape ≡ true → (has_sizes shape ≡ true) ⊎ (has_early_sizes shape ≡ true) → IsWithinLimits shape
unfolding IsPageSize
of_sizes shape good (inl has) = record {
  page_size = (sizes_facts shape has).0;
  some_pages = grind (arith, nat_tests);
  few_pages = (sizes_facts shape has).1.0;
  space = grind (arith, nat_tests);
  many_blocks = grind (arith, nat_tests);
  few_blocks = grind (arith, nat_tests);
  slots = inl (sizes_facts shape has).1.1;
}
of_sizes shape good (inr has) = record {
  page_size = inl (early_facts shape has).page_size;
  some_pages = grind (arith, nat_tests);
  few_pages = omega (arith, (early_facts shape has).few_pages);
  space = grind (arith, nat_tests);
  many_blocks = grind (arith, nat_tests);
  few_blocks = grind (arith, nat_tests);
  slots = inr (early_facts shape has);
}

pub is_within_limits_facts : (shape : Shape) → is_within_limits shape ≡ true → IsWithinLimits shape
is_within_limits_facts shape good = of_sizes shape good (either (has_sizes shape) (has_early_sizes shape) (grind (arith, nat_tests)))

-- limits that hold pass the test
pub is_within_limits_true : (shape : Shape) → IsWithinLimits shape → is_within_limits shape ≡ true
unfolding IsPageSize
is_within_limits_true shape within =
    let sizes : (has_sizes shape || has_early_sizes shape) ≡ true
    = either-true (has_sizes shape) (has_early_sizes shape) (⊎_elim
    (λ slots. inl (sizes_true shape within.page_size within.few_pages slots))
    (λ early. inr (early_true shape early)) within.slots) in
    grind (arith, nat_tests)

-- how many slots such a shape has
pub record HasSlots (shape : Shape) : Type 0 where
  pub some : 1 ≤ shape.slots
  pub early : EARLY_SLOTS ≤ shape.slots
  pub few : shape.slots ≤ SLOTS

pub slots_within : (shape : Shape) → IsWithinLimits shape → HasSlots shape
slots_within shape within = ⊎_elim
    (λ slots. record { some = omega (arith, slots); early = omega (arith, slots); few = omega (arith, slots) })
    (λ early. record { some = omega (arith, early.slots); early = omega (arith, early.slots); few = omega (arith, early.slots) }) within.slots

-- a page size that a store may have is of whole sectors
pub page_size_facts : (n : ℕ) → IsPageSize n → IsWholeSectors n
unfolding IsPageSize
page_size_facts n (inl size) = record { sectors = ap (λ (x : ℕ). x % 512) size; least = omega (arith, size); most = omega (arith, size) }
page_size_facts n (inr size) = record { sectors = ap (λ (x : ℕ). x % 512) size; least = omega (arith, size); most = omega (arith, size) }

pub whole_sectors : (shape : Shape) → IsWithinLimits shape → IsWholeSectors shape.page_size
whole_sectors shape within = page_size_facts shape.page_size within.page_size

-- the default sizes are within the limits
pub default_within : IsWithinLimits default_shape
default_within = is_within_limits_facts default_shape refl

-- so are these sizes, each being one that a store may have
pub within_limits : (shape : Shape) → IsPageSize shape.page_size → 1 ≤ shape.pages → shape.pages ≤ MAX_PAGES → shape.space < space_limit
    → MIN_LOG_BLOCKS ≤ shape.log_blocks → shape.log_blocks ≤ MAX_LOG_BLOCKS → shape.slots ≡ SLOTS → IsWithinLimits shape
within_limits shape size some few space many blocks slots = record {
  page_size = size;
  some_pages = some;
  few_pages = few;
  space = space;
  many_blocks = many;
  few_blocks = blocks;
  slots = inl slots;
}

pub default_page_size : IsPageSize PAGE_SIZE
unfolding IsPageSize
default_page_size = inl refl

-- so is a shape that is the default one
pub default_limits : (shape : Shape) → shape ≡ default_shape → IsWithinLimits shape
default_limits shape is = subst IsWithinLimits (sym is) default_within

-- the sizes of a run on a store are within the limits where the store's are
pub run_within : (shape : Shape) → IsWithinLimits shape → IsWithinLimits (run_shape shape)
run_within shape is = record {
  page_size = is.page_size;
  some_pages = is.some_pages;
  few_pages = is.few_pages;
  space = is.space;
  many_blocks = is.many_blocks;
  few_blocks = is.few_blocks;
  slots = inl refl;
}
