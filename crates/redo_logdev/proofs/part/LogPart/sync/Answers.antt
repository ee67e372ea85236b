use Rattle.std.proofs.Common.{◌≡◌, [], ◌∷◌, Some, None, ap, subst, sym, ◌∙◌}
use Rattle.model_device.specs.{synced, Disk}
use Rattle.model_parts.specs.{after_synced}
use Rattle.model_parts.specs.declared.marks.TailMarks.{TailMarks}
use Rattle.redo_logdev.specs.Part.{Part}
use Rattle.redo_logdev.specs.Holding.{PartHolds, DiskHolds}
use Rattle.redo_disk.proofs.Told.{told-step}
use Rattle.redo_logdev.proofs.Parts.{sync-ok}
use Rattle.redo_disk.specs.{MakesCalls, Serve, ToSync}
use Rattle.redo_disk.proofs.Made.{call_serves}
use Rattle.redo_logdev.proofs.part.LogPart.sync.Goals as goal

pub returns-in-Ok-clause-holds : goal.returns-in-Ok-clause-holds
returns-in-Ok-clause-holds g c s wholes known =
    let part = c.self.inside in
    let before = subst (λ (p : Part _). PartHolds g.L.Sectors.seen s wholes p) (sym c.self.view_is) known in
    told-step _ _ (DiskHolds part.shape s wholes part.marks part.tails part.failed) (DiskHolds part.shape s wholes (after_synced part.marks) c.tails_synced-self-inside.result part.failed)
    (λ (old new : Disk). new ≡ synced old)
    (λ a b before is. subst (λ (tails : TailMarks). DiskHolds part.shape s wholes (after_synced part.marks) tails part.failed b) (sym c.tails_synced-self-inside.ensures)
    (sync-ok part.shape s wholes part.marks part.tails part.failed a b (ap (λ (p : Part _). p.failed) c.self.view_is ∙ c.requires) before is)) before c.in-Ok.ensures.step.ok

pub returns-in-Ok-clause-calls : goal.returns-in-Ok-clause-calls
returns-in-Ok-clause-calls g c =
    subst (λ (p : Part _). MakesCalls g.L.Sectors.gives p.dev c.sync.new.self (Serve (ToSync ∷ []) None)) c.self.view_is (call_serves c.in-Ok.ensures.gives)

pub returns-in-Err-clause-calls : goal.returns-in-Err-clause-calls
returns-in-Err-clause-calls g c =
    subst (λ (p : Part _). MakesCalls g.L.Sectors.gives p.dev c.sync.new.self (Serve (ToSync ∷ []) (Some c.in-Err.error))) c.self.view_is (call_serves c.in-Err.ensures.gives)
