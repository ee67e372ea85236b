-- What an append leaves of the archiver and its seat.
use Rattle.std.proofs.Common.{List, Option, ℕ, ◌≡◌}
use Rattle.atomic_table.specs.Seated.{TableId}
use Rattle.atomic_table.specs.declared.shared.Seat.{Seat}
use Rattle.model_core.specs.{Given}
use Rattle.model_core.specs.declared.ops.Step.{Step}
use Rattle.redo_archiver.specs.{append_answer}
use Rattle.redo_disk.specs.{Seen}
use Rattle.redo_disk.specs.declared.error.DevError.{DevError}
use Rattle.redo_drive.specs.{HasTaken, view_of}
use Rattle.redo_drive.specs.declared.actor.Actor.{Actor}
use Rattle.redo_rule.proofs.Stepping.{append_leaves}
use Rattle.redo_rule.proofs.Took.{Steps}
use Rattle.redo_rule.specs.Plays.{appended}
use Rattle.redo_rule.specs.Seating.{Appends, IsSeatOf}
use Rattle.redo_rule.specs.declared.law.Slot.{Slot}
use Rattle.redo_rule.specs.declared.law.View.{View}

module _ {L D R : Type 0} {table : TableId} {seat : Seat (Slot L D) (View L D)} (old : Actor R)
    (was : IsSeatOf table seat (view_of old)) (log_seen : L → Seen) (data_seen : D → Seen)
    (stands : R → List Given → Type 0) (after : Seat (Slot L D) (View L D)) (new : Actor R) (step : Step)
    (asks : Appends (view_of old)) (met : Option DevError) (n : ℕ)
    (made : (after.table_id ≡ seat.table_id) × (after.id ≡ seat.id)
    × appended log_seen data_seen met seat.me n after.me)
    (h : HasTaken stands old (append_answer met) step new) where
  pub its : Steps log_seen data_seen stands table seat old step after new
  its = append_leaves old was log_seen data_seen stands after made.0 made.1 new step asks met n made.2 h
