-- The format of a run on a store of a shape, and the formats that a shape's sizes allow.
use Rattle.std.proofs.Common.{◌≡◌, ◌≢◌, ◌==◌, ap, Bool, cond, false, inl, inr, refl, subst, sym, true, ℕ, ◌∙◌, ◌⊎◌, ⊎_elim}
use Rattle.std.proofs.lemmas.Bool.{eq-eqb}
use Rattle.model_base.proofs.ShapeLimits.{early_facts, early_true, sizes_facts, sizes_true}
use Rattle.model_base.specs.declared.shape.Shape.{Shape}
use Rattle.model_base.specs.declared.limits.TheConstants.{EARLY_SLOTS, SLOTS}
use Rattle.model_base.specs.{IsWithinLimits}
use Rattle.model_log.specs.Device.{layout_of, run_layout, has_sizes_of, run_format}
use Rattle.model_log.specs.declared.head.Format.{Format}
use Rattle.model_log.specs.declared.head.Format.TheVariants.{One, Two, Three}
use Rattle.model_log.specs.declared.layout.Layout.{Layout}

pub two-not_one : Two ≢ One
two-not_one is = absurd cc

either-layout : (many : Bool) (shape : Shape) → layout_of (cond many Three Two) shape ≡ run_layout shape
either-layout true shape = refl
either-layout false shape = refl

-- the layout of a run is that of its format
pub run_format-layout : (shape : Shape) → layout_of (run_format shape) shape ≡ run_layout shape
run_format-layout shape = either-layout (shape.slots == SLOTS) shape

-- so what holds of the one holds of the other
pub of_run : (P : Layout → Type 0) (shape : Shape) → P (run_layout shape) → P (layout_of (run_format shape) shape)
of_run P shape is = subst P (sym (run_format-layout shape)) is

run-not_one : (many : Bool) → cond many Three Two ≢ One
run-not_one true is = absurd cc
run-not_one false is = absurd cc

pub run_format-not_one : (shape : Shape) → run_format shape ≢ One
run_format-not_one shape = run-not_one (shape.slots == SLOTS)

-- and so is that of each format but the first
pub other-layout : (format : Format) (shape : Shape) → format ≢ One → layout_of format shape ≡ run_layout shape
other-layout One shape other = absurd (other refl)
other-layout Two shape other = refl
other-layout Three shape other = refl

-- which has tail blocks
pub other-tails : (format : Format) (shape : Shape) → format ≢ One → (layout_of format shape).format ≢ One
other-tails One shape other = other
other-tails Two shape other = other
other-tails Three shape other = two-not_one

-- its format by the shape's slots
pub full-format : (shape : Shape) → shape.slots ≡ SLOTS → run_format shape ≡ Three
full-format shape slots = ap (λ (b : Bool). cond b Three Two) (eq-eqb shape.slots SLOTS slots)

pub early-format : (shape : Shape) → shape.slots ≡ EARLY_SLOTS → run_format shape ≡ Two
early-format shape slots = ap (λ (n : ℕ). cond (n == SLOTS) Three Two) slots

-- a shape within the limits has the sizes of that format
pub run_format-sizes : (shape : Shape) → IsWithinLimits shape → has_sizes_of (run_format shape) shape ≡ true
run_format-sizes shape within = ⊎_elim
    (λ slots. ap (λ (f : Format). has_sizes_of f shape) (full-format shape slots)
    ∙ sizes_true shape within.page_size within.few_pages slots)
    (λ early. ap (λ (f : Format). has_sizes_of f shape) (early-format shape early.slots)
    ∙ early_true shape early) within.slots

-- a store of another format than the first has that of its runs
pub format-of_run : (format : Format) (shape : Shape) → has_sizes_of format shape ≡ true → format ≢ One → format ≡ run_format shape
format-of_run One shape sizes other = absurd (other refl)
format-of_run Two shape sizes other = sym (early-format shape (early_facts shape sizes).slots)
format-of_run Three shape sizes other = sym (full-format shape (sizes_facts shape sizes).1.1)

-- and a store of the first leads to runs of the second
pub one-run : (shape : Shape) → has_sizes_of One shape ≡ true → run_format shape ≡ Two
one-run shape sizes = early-format shape (early_facts shape sizes).slots

-- every store is of the first format or of another
pub one-or_other : (format : Format) → (format ≡ One) ⊎ (format ≢ One)
one-or_other One = inl refl
one-or_other Two = inr two-not_one
one-or_other Three = inr (λ is. absurd cc)
