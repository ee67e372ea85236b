-- The seats while they are cut off the first one, and while they are taken in again.
use Rattle.std.specs.Prelude.{List, ℕ, ◌<◌, ◌≡◌, ◌⊎◌}
use lib.ListN.{get_elem?}
use mathlib.Core.Option.{some}
use Rattle.atomic_table.specs.declared.shared.Seat.{Seat}
use Rattle.model_core.specs.States as model
use Rattle.redo_rule.specs.Seating.{HasPart, IsCleaner}
use Rattle.redo_rule.specs.declared.law.Slot.{Slot}
use Rattle.redo_rule.specs.declared.law.View.{View}

abbrev pub HasOneCleaner : List model.Actor → Type 0
HasOneCleaner actors = (i j : ℕ) (a b : model.Actor) → get_elem? actors i ≡ some a → get_elem? actors j ≡ some b → IsCleaner a → IsCleaner b → i ≡ j

module _ {L D : Type 0} where
  -- the first seat keeps the data part, or the cleaner is among the first so many actors
  abbrev pub PartIsKept : ℕ → List model.Actor → Seat (Slot L D) (View L D) → Type 0
  PartIsKept n actors first = HasPart first.me.0 ⊎ ((i : ℕ) × (a : model.Actor) × (i < n) × (get_elem? actors i ≡ some a) × IsCleaner a)
