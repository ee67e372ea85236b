-- No Op of a running store changes the shape of its log part.
use Rattle.std.proofs.Common.{List, ap, suc, zero, ℕ, ◌∙◌, ◌≡◌}
use Rattle.model_base.specs.declared.shape.Shape.{Shape}
use Rattle.model_core.specs.{Batch, Blocks, Core, filled, Lent, lent, LogServed, next, Nothing, Room, DataSide, LogSide}
use Rattle.model_core.specs.declared.ops.Op.{Op}
use Rattle.model_core.specs.declared.ops.Step.{Step}
use Rattle.model_running.specs.{TakesTurns, actor_store}
use Rattle.redo_disk.specs.{Seen}
use Rattle.redo_logdev.specs.Part.{Part}
use Rattle.redo_drive.specs.LogPartSide.{LogCheckpointed, LogRead, LogSynced, LogWrote, log_side}
use Rattle.model_core.specs.declared.ops.Op.TheVariants as op

module _ {L : Type 0} (seen : L → Seen) (faults number : ℕ) (Begun : Type 0) where
  abbrev side : LogSide
  side = log_side seen faults number Begun

  module _ (p q : Part L) (code : ℕ) where
    abbrev IsSame : Type 0
    IsSame = ◌≡◌ {A = Shape} q.shape p.shape

    wrote : (t : ℕ) (bytes firsts : List ℕ) → LogWrote seen t bytes firsts code p q → IsSame
    wrote t bytes firsts w = w.called.stays.shape

    synced : LogSynced seen code p q → IsSame
    synced w = w.called.stays.shape

    checkpointed : (x : ℕ) → LogCheckpointed seen x code p q → IsSame
    checkpointed x w = w.called.stays.shape

    was_read : (x : ℕ) (bytes : List ℕ) → LogRead seen x bytes code p q → IsSame
    was_read x bytes w = w.called.stays.shape

    as_is : ◌≡◌ {A = Part L} q p → IsSame
    as_is same = ap (λ (z : Part L). z.shape) same

    pub served_shape : (l : Lent) (o : Op) → LogServed side p l o code q → IsSame
    served_shape (Blocks bytes firsts) (op.WriteTo t) w = wrote t bytes firsts w
    served_shape Nothing (op.WriteTo t) w = absurd w
    served_shape (Batch batch) (op.WriteTo t) w = absurd w
    served_shape (Room bytes) (op.WriteTo t) w = absurd w
    served_shape (Room bytes) (op.ReadBlock x) w = was_read x bytes w
    served_shape Nothing (op.ReadBlock x) w = absurd w
    served_shape (Blocks bytes firsts) (op.ReadBlock x) w = absurd w
    served_shape (Batch batch) (op.ReadBlock x) w = absurd w
    served_shape l op.Sync w = synced w
    served_shape l (op.Checkpoint x) w = checkpointed x w
    served_shape l _ w = as_is w

  -- so no turn does, and no run of turns
  pub run_shape : (E : DataSide) (Tells : Core side E → ℕ → Step → Core side E → Type 0) (seed max n : ℕ)
      (first last : Core side E) → TakesTurns (actor_store side E Tells) seed max n first last
      → ◌≡◌ {A = Shape} last.log_part.shape first.log_part.shape
  run_shape E Tells seed max zero first last same = ap (λ (s : Core side E). s.log_part.shape) same
  run_shape E Tells seed max (suc n) first last r =
      let turn = r.turn.turn in
      let given : Lent = lent (filled turn.who turn.filling) in
      served_shape r.before.log_part last.log_part turn.code given (next turn.who) turn.log_served
      ∙ run_shape E Tells seed max n first r.before r.earlier
