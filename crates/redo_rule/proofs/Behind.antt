-- The seat after an Op is still its actor's.
use Rattle.std.proofs.Common.{Bool, None, Option, Some, ap, subst, sym, true, ◌∙◌, ◌≡◌}
use Rattle.atomic_table.specs.Seated.{TableId}
use Rattle.atomic_table.specs.declared.shared.Seat.{Seat}
use Rattle.model_core.proofs.Asks.{batch_writer}
use Rattle.model_core.proofs.Later.{later_trans, took_later}
use Rattle.model_core.specs.{filled, next, took, IsSameActor}
use Rattle.model_core.specs.States as model
use Rattle.model_core.specs.declared.ops.Op.TheVariants as op
use Rattle.model_core.specs.declared.ops.Step.{Step}
use Rattle.model_running.proofs.SeatsKeep.{filled_later}
use Rattle.redo_disk.specs.{Seen}
use Rattle.redo_rule.specs.Mine.{HasPlayed, Mine}
use Rattle.redo_rule.specs.Seating.{HasPart, IsCleaner, IsSeatOf}
use Rattle.redo_rule.specs.declared.law.Keeping.{Keeping}
use Rattle.redo_rule.specs.declared.law.Slot.{Slot}
use Rattle.redo_rule.specs.declared.law.View.{View}

was_kind : (a b : model.Actor) → IsSameActor a b → IsCleaner b → IsCleaner a
was_kind (model.Cleaner v) b later is = tt
was_kind _ b later is = absurd (subst IsCleaner later.1 is)

-- a turn, with whatever it puts into an actor, leaves it the same
pub played_later : {L D : Type 0} (log_seen : L → Seen) (data_seen : D → Seen) {v : View L D}
    (a b : model.Actor) (step : Step) → HasPlayed log_seen data_seen v a step b → IsSameActor a b
played_later log_seen data_seen a b step h =
    let with : model.Actor = filled a h.shown.turn.filling in
    subst (IsSameActor a) (sym h.is)
    (later_trans a with (took with h.answer) (filled_later a h.shown.turn.filling) (took_later with h.answer))

pub was_cleaner : {L D : Type 0} (log_seen : L → Seen) (data_seen : D → Seen) {v : View L D}
    (a b : model.Actor) (step : Step) → HasPlayed log_seen data_seen v a step b → IsCleaner b → IsCleaner a
was_cleaner log_seen data_seen a b step h is = was_kind a b (played_later log_seen data_seen a b step h) is

-- the cleaner alone writes batches
pub batch_cleaner : (a : model.Actor) → next a ≡ op.WriteBatch → IsCleaner a
batch_cleaner a e = subst IsCleaner (sym (batch_writer a e).1) tt

pub seat_behind : {L D : Type 0} (table : TableId) (old new : Seat (Slot L D) (View L D)) (a b : model.Actor) → IsSeatOf table old a → Mine table new b → new.me.0.data_part ≡ old.me.0.data_part → (IsCleaner b → IsCleaner a) → IsSeatOf table new b
seat_behind table old new a b was mine part kind = record {
  mine = mine;
  home = λ d is. was.home d (sym part ∙ is);
  cleaner = λ is. let c = was.cleaner (kind is) in (c.0, part ∙ c.1);
}

abbrev is_out : {D : Type 0} → Option (Keeping D) → Bool
is_out None = true
is_out (Some d) = d.out

pub batch_behind : {L D : Type 0} (table : TableId) (new : Seat (Slot L D) (View L D)) (b : model.Actor) → Mine table new b → HasPart new.me.0 → IsSeatOf table new b
batch_behind table new b mine part = record {
  mine = mine;
  home = λ d is. sym (ap (λ o. is_out o) (sym part.1 ∙ is));
  cleaner = λ is. part;
}
