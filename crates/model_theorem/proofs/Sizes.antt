-- The sizes with which a run is made on a store.
use Rattle.std.proofs.Common.{◌≡◌, ℕ, ◌+◌, ◌<◌, List, arith, ap, sym, ⊎_elim}
use Rattle.model_base.specs.declared.limits.TheConstants.{SLOTS}
use Rattle.model_base.specs.declared.shape.Shape.{Shape}
use Rattle.model_base.specs.{IsWithinLimits, run_shape}
use Rattle.model_device.specs.{Disk}
use Rattle.model_page.specs.{stretch_at}
use Rattle.model_store.specs.{IsFair, IsWholeContent}

-- the sizes of a store, with so many slots
abbrev with-slots : Shape → ℕ → Shape
with-slots shape slots = record {
  page_size = shape.page_size;
  pages = shape.pages;
  space = shape.space;
  log_blocks = shape.log_blocks;
  slots = slots;
}

-- where a store has the slots of the latest format, a run is made with its own sizes
pub run-alike : (shape : Shape) → shape.slots ≡ SLOTS → run_shape shape ≡ shape
run-alike shape slots = ap (with-slots shape) (sym slots)

-- and so it is where they are those of a run on another
pub run-slots : (was shape : Shape) → run_shape was ≡ shape → shape.slots ≡ SLOTS
run-slots was shape is = ap (λ (s : Shape). s.slots) (sym is)

-- the slots and places of a store are no more than those of a run on it
pub run-stretches : (shape : Shape) (n : ℕ) → IsWithinLimits shape → n < shape.slots + shape.pages
    → n < (run_shape shape).slots + (run_shape shape).pages
run-stretches shape n limits below =
    ⊎_elim (λ full. omega (arith, full, below)) (λ early. omega (arith, early.slots, below)) limits.slots

-- so an image that is fair by the sizes of a run is fair by the store's own
pub own-fair : (shape : Shape) (disk : Disk) (image : List ℕ) → IsWithinLimits shape
    → IsFair (run_shape shape) disk image → IsFair shape disk image
unfolding stretch_at
own-fair shape disk image limits fair = record {
  possible = fair.possible;
  each = λ n below sound.
      let whole : IsWholeContent (run_shape shape) disk n (stretch_at (run_shape shape) n image) =
      fair.each n (run-stretches shape n limits below) sound in
      record { count = whole.count; some = whole.some; same = whole.same };
}
