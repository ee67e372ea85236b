-- Words that are no turn words: where they stand, and what a compare-exchange leaves.
use Rattle.std.proofs.Common.{Bool, List, arith, cond, eqb, false, refl, true, ℕ, ◌+◌, ◌<◌, ◌==◌, ◌≡◌, ◌≢◌}
use Rattle.std.specs.Prelude.{slice_index, slice_set}
use Rattle.std.proofs.lemmas.List.{set-get_or}
use prog.Atomic.{either}
use Rattle.model_core.proofs.TurnWords.{IsPlain}
use Rattle.model_core.specs.{index}
use Rattle.model_core.specs.declared.words.Layout.{Layout}
use Rattle.model_core.specs.declared.words.Word.{Word}
use Rattle.model_core.specs.declared.words.Word.TheVariants as word

pub plain_off : (layout : Layout) (w : Word) → IsPlain w → (k : ℕ) → k < 5 → 7 + k ≢ index layout w
plain_off layout word.Sn off k l e = omega arith
plain_off layout word.Write off k l e = omega arith
plain_off layout word.Wtail off k l e = omega arith
plain_off layout word.Flushed off k l e = omega arith
plain_off layout word.Ckpt off k l e = omega arith
plain_off layout word.Ctail off k l e = omega arith
plain_off layout word.Failed off k l e = omega arith
plain_off layout word.Device off k l e = off
plain_off layout (word.List i) off k l e = off
plain_off layout (word.Wlink i) off k l e = omega arith
plain_off layout (word.Clink i) off k l e = omega arith
plain_off layout (word.Cell i) off k l e = omega arith
plain_off layout (word.First i) off k l e = omega arith
plain_off layout (word.Place i) off k l e = omega arith
plain_off layout (word.Latch p) off k l e = omega arith
plain_off layout (word.Newest p) off k l e = omega arith
plain_off layout (word.Oldest p) off k l e = omega arith
plain_off layout (word.Frame p i) off k l e = omega arith

-- what a compare-exchange leaves
pub swapped : (ws : List ℕ) (i x y : ℕ) → slice_set ws i (either (eqb (slice_index ws i) x) y (slice_index ws i)) ≡ cond (slice_index ws i == x) (slice_set ws i y) ws
swapped ws i x y = by (eqb (slice_index ws i) x)
  where
    by : (t : Bool) → slice_set ws i (either t y (slice_index ws i)) ≡ cond t (slice_set ws i y) ws
    by true = refl
    by false = set-get_or ws i 0
