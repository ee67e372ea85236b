use Rattle.std.proofs.Common.{Option, refl, subst, sym}
use Rattle.model_parts.specs.{after_synced, tails_synced}
use Rattle.redo_disk.specs.{MakesCalls, Serve}
use Rattle.redo_disk.specs.declared.error.DevError.{DevError}
use Rattle.redo_drive.proofs.Served.{log_called}
use Rattle.redo_drive.proofs.calling.call_sync.Goals as goal
use Rattle.redo_drive.specs.Asking.{sync_requests}

pub returns-clause-synced : goal.returns-clause-synced
returns-clause-synced g c = let p = c.args.log.now in let e = c.sync.ensures in record {
  called = log_called g.L.Sectors.seen c.sync.result p c.sync.new.self (after_synced p.marks) p.marks (tails_synced p.marks.written p.tails) p.tails e.ok e.err e.stays refl;
  holds = e.holds;
}

pub returns-clause-ended : goal.returns-clause-ended
returns-clause-ended g c = c.sync.ensures.stays.failed

pub returns-clause-calls : goal.returns-clause-calls
returns-clause-calls g c =
    subst (λ (e : Option DevError). MakesCalls g.L.Sectors.gives c.args.log.now.dev c.sync.new.self.dev (Serve sync_requests e)) (sym c.sync.ensures.stays.failed) c.sync.ensures.calls
