use Rattle.std.proofs.Common.{refl, arith}
use Rattle.std.proofs.lemmas.Grind.{common_steps}
use Rattle.redo_memdisk.proofs.Crashed.{CrashStep-pending}
use Rattle.redo_memdisk.proofs.memory.MemDiskSectors.crash.Goals as goal

pub returns-clause-step : goal.returns-clause-step
returns-clause-step c =
    let base = c.self.inside.medium.base.items in
    let writes = c.self.inside.medium.pending.items in
    rw (← c.self.view_is) (CrashStep-pending c.self.inside.cut c.args.pick base writes _ _ _ c.self.inside.plan.faults c.self.invariant.0 (grind (arith, common_steps)) (rw c.of.ensures refl))
