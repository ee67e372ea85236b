use Rattle.std.proofs.Common.{Option, refl, subst, sym}
use Rattle.model_parts.specs.{after_asked, after_checkpoint, next_number, tails_synced}
use Rattle.redo_disk.specs.{MakesCalls, Serve}
use Rattle.redo_disk.specs.declared.error.DevError.{DevError}
use Rattle.redo_drive.proofs.Served.{log_called}
use Rattle.redo_drive.proofs.calling.call_checkpoint.Goals as goal
use Rattle.redo_drive.specs.Asking.{checkpoint_requests}

pub returns-clause-checkpointed : goal.returns-clause-checkpointed
returns-clause-checkpointed g c = let p = c.args.log.now in let e = c.checkpoint.ensures in record {
  called = log_called g.L.Sectors.seen c.checkpoint.result p c.checkpoint.new.self (after_checkpoint (next_number p.marks.number) c.args.lsn p.marks) (after_asked c.args.lsn p.marks) (tails_synced p.marks.written p.tails) p.tails e.ok e.err e.stays refl;
  holds = e.holds;
}

pub returns-clause-ended : goal.returns-clause-ended
returns-clause-ended g c = c.checkpoint.ensures.stays.failed

pub returns-clause-calls : goal.returns-clause-calls
returns-clause-calls g c =
    subst (λ (e : Option DevError). MakesCalls g.L.Sectors.gives c.args.log.now.dev c.checkpoint.new.self.dev (Serve (checkpoint_requests c.args.log.now c.args.lsn) e)) (sym c.checkpoint.ensures.stays.failed) c.checkpoint.ensures.calls
