-- A turn over the sides of the invariant is a turn over those that tell nothing of what a device holds.
use Rattle.std.proofs.Common.{ℕ}
use Rattle.model_core.specs.{Batch, Blocks, Core, DataServed, filled, Lent, lent, LogServed, next, Nothing, Room}
use Rattle.model_core.specs.Program.{Turn}
use Rattle.model_core.specs.declared.ops.Answer.{Answer}
use Rattle.model_core.specs.declared.ops.Op.{Op}
use Rattle.model_core.specs.declared.ops.Op.TheVariants as op
use Rattle.model_core.specs.declared.ops.Step.{Step}
use Rattle.redo_disk.specs.{Seen}
use Rattle.redo_drive.specs.DataPartSide.{DataWrote}
use Rattle.redo_drive.specs.LogPartSide.{LogCheckpointed, LogRead, LogSynced, LogWrote}
use Rattle.redo_drive.specs.Sides.{RunOf, run_data_side, run_log_side}
use Rattle.redo_drive.specs.Asking.{BatchCalled, turn_data_side, turn_log_side}
use Rattle.redo_logdev.specs.Part as log
use Rattle.redo_store.specs.Part as store

module _ {L D : Type 0} (log_seen : L → Seen) (data_seen : D → Seen) (run : RunOf L D) where
  pub log_thin : (p q : log.Part L) (code : ℕ) (l : Lent) (o : Op)
      → LogServed (run_log_side log_seen data_seen run) p l o code q → LogServed (turn_log_side log_seen) p l o code q
  log_thin p q code (Blocks bytes firsts) (op.WriteTo t) w =
      let wrote : LogWrote log_seen t bytes firsts code p q = w in wrote.called
  log_thin p q code Nothing (op.WriteTo t) w = absurd w
  log_thin p q code (Batch batch) (op.WriteTo t) w = absurd w
  log_thin p q code (Room bytes) (op.WriteTo t) w = absurd w
  log_thin p q code (Room bytes) (op.ReadBlock x) w = let read : LogRead log_seen x bytes code p q = w in
      record { called = read.called; given = read.given }
  log_thin p q code Nothing (op.ReadBlock x) w = absurd w
  log_thin p q code (Blocks bytes firsts) (op.ReadBlock x) w = absurd w
  log_thin p q code (Batch batch) (op.ReadBlock x) w = absurd w
  log_thin p q code l op.Sync w = let synced : LogSynced log_seen code p q = w in synced.called
  log_thin p q code l (op.Checkpoint x) w =
      let checkpointed : LogCheckpointed log_seen x code p q = w in checkpointed.called
  log_thin p q code l _ w = w

  wrote_thin : (batch : _) (code : ℕ) (d e : store.Part D) → DataWrote data_seen batch code d e
      → BatchCalled data_seen code d e
  wrote_thin batch code d e w = record { result = w.result; code_is = w.code_is; step = w.step }

  pub data_thin : (d e : store.Part D) (code : ℕ) (l : Lent) (o : Op)
      → DataServed (run_data_side log_seen data_seen run) d l o code e
      → DataServed (turn_data_side data_seen) d l o code e
  data_thin d e code (Batch batch) op.WriteBatch w = wrote_thin batch code d e w
  data_thin d e code Nothing op.WriteBatch w = w
  data_thin d e code (Blocks bytes firsts) op.WriteBatch w = w
  data_thin d e code (Room bytes) op.WriteBatch w = w
  data_thin d e code l _ w = w

  -- the state of the one as that of the other
  abbrev pub thin : Core (run_log_side log_seen data_seen run) (run_data_side log_seen data_seen run)
      → Core (turn_log_side log_seen) (turn_data_side data_seen)
  thin s = record {
    layout = s.layout;
    words = s.words;
    log_part = s.log_part;
    data_part = s.data_part;
    lists = s.lists;
    actors = s.actors;
  }

  pub turn_thin : (old new : Core (run_log_side log_seen data_seen run) (run_data_side log_seen data_seen run))
      (seat : ℕ) (answer : Answer) (how : Step)
      → Turn (run_log_side log_seen data_seen run) (run_data_side log_seen data_seen run) old seat answer how new
      → Turn (turn_log_side log_seen) (turn_data_side data_seen) (thin old) seat answer how (thin new)
  turn_thin old new seat answer how t = record {
    who = t.who;
    who_is = t.who_is;
    filling = t.filling;
    fills = t.fills;
    code = t.code;
    log_served = log_thin old.log_part new.log_part t.code (lent (filled t.who t.filling)) (next t.who) t.log_served;
    data_served = data_thin old.data_part new.data_part t.code (lent (filled t.who t.filling)) (next t.who)
        t.data_served;
    own_served = t.own_served;
    layout = t.layout;
    words = t.words;
    lists = t.lists;
    answered = t.answered;
    actors = t.actors;
    ends = t.ends;
  }
