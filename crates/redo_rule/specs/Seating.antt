-- The seats of a table, each with its actor.
use Rattle.std.specs.Prelude.{Some, false, ℕ, ◌≡◌}
use Rattle.atomic_table.specs.Seated.{TableId}
use Rattle.atomic_table.specs.declared.shared.Seat.{Seat}
use Rattle.model_core.specs.{next}
use Rattle.model_core.specs.States as model
use Rattle.model_core.specs.declared.ops.Op.{Op}
use Rattle.model_core.specs.declared.ops.Op.TheVariants as op
use Rattle.redo_rule.specs.Cutting.{IsHome}
use Rattle.redo_rule.specs.Mine.{Mine}
use Rattle.redo_rule.specs.declared.law.Slot.{Slot}
use Rattle.redo_rule.specs.declared.law.View.{View}
use Rattle.redo_store.specs.Part as store

abbrev pub IsCleaner : model.Actor → Type 0
IsCleaner (model.Cleaner v) = Unit {0}
IsCleaner _ = ⊥

-- it asks for an append to the archive
abbrev pub Appends : model.Actor → Type 0
Appends a = (mark : ℕ) × (next a ≡ op.Append mark)

-- an Op that is played on the words, the log part and the lists
abbrev pub IsBare : Op → Type 0
IsBare op.WriteBatch = ⊥
IsBare op.Rest = ⊥
IsBare (op.Append x) = ⊥
IsBare _ = Unit {0}

module _ {L D : Type 0} where
  -- the seat keeps the data part, which lies in its slot
  abbrev pub HasPart : View L D → Type 0
  HasPart v = (d : store.Part D) × (v.data_part ≡ Some (record { part = d; out = false }))

  -- it is the actor's seat at this table; the cleaner's keeps the data part
  pub record IsSeatOf (table : TableId) (seat : Seat (Slot L D) (View L D)) (a : model.Actor) : Type 0 where
    pub mine : Mine table seat a
    pub home : IsHome seat.me.0
    pub cleaner : IsCleaner a → HasPart seat.me.0
