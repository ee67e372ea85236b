-- When a seat may be cut off, and when it may be taken in.
use Rattle.std.specs.Prelude.{List, None, Some, [], false, ℕ, ◌∷◌, ◌≡◌, ◌≢◌}
use lib.ListN.{get_elem?}
use mathlib.Core.Option.{some}
use Rattle.atomic_table.specs.Seated.{TableId}
use Rattle.atomic_table.specs.declared.shared.Seat.{Seat}
use Rattle.model_core.specs.States as model
use Rattle.model_core.specs.{word_count, HoldsNothing}
use Rattle.redo_rule.specs.OwnSide.{HasNoWork}
use Rattle.redo_rule.specs.declared.law.Keeping.{Keeping}
use Rattle.redo_rule.specs.declared.law.Numbered.{Numbered}
use Rattle.redo_rule.specs.declared.law.Slot.{Slot}
use Rattle.redo_rule.specs.declared.law.TheConstants.{SLOTS}
use Rattle.redo_rule.specs.declared.law.View.{View}

-- a number that isn't one of these
abbrev pub IsApart : ℕ → List Numbered → Type 0
IsApart n l = (i : ℕ) (y : Numbered) → get_elem? l i ≡ some y → y.number ≢ n

-- nothing is held by any of these
abbrev pub AreAtRest : List Numbered → Type 0
AreAtRest l = (i : ℕ) (y : Numbered) → get_elem? l i ≡ some y → HoldsNothing y.actor × HasNoWork y.errand

abbrev pub HoldNothing : List model.Actor → Type 0
HoldNothing actors = (i : ℕ) (a : model.Actor) → get_elem? actors i ≡ some a → HoldsNothing a

module _ {L D : Type 0} where
  -- the data part, if the seat keeps it, lies in its slot
  abbrev pub IsHome : View L D → Type 0
  IsHome v = (d : Keeping D) → v.data_part ≡ Some d → d.out ≡ false

  -- the seat that knows all actors that have no seat of their own
  pub record IsFirst (table : TableId) (first : Seat (Slot L D) (View L D)) : Type 0 where
    pub of : first.table_id ≡ table
    pub slots : table.slots ≡ SLOTS
    pub words : table.words ≡ word_count first.me.0.layout
    pub none : first.me.1 ≡ []
    pub empty : first.me.0.held ≡ None
    pub rest : AreAtRest first.me.0.seats
    pub home : IsHome first.me.0

  -- one of its actors is the first, and has a number of its own
  pub record MayCut (v : View L D) : Type 0 where
    pub head : Numbered
    pub others : List Numbered
    pub are : v.seats ≡ head ∷ others
    pub apart : IsApart head.number others

  pub record MayTakeIn (table : TableId) (first other : Seat (Slot L D) (View L D)) : Type 0 where
    pub of : other.table_id ≡ table
    pub words : table.words ≡ word_count other.me.0.layout
    pub none : other.me.1 ≡ []
    pub some : (x : Numbered) × (get_elem? other.me.0.seats 0 ≡ some x)
    pub rest : AreAtRest other.me.0.seats
    pub home : IsHome other.me.0
