use Rattle.std.proofs.Common.{◌≡◌, ◌∷◌, [], ◌++◌, length, refl, ap, sym, subst, ◌∙◌, arith}
use Rattle.std.proofs.lemmas.Grind.{common_steps}
use Rattle.model_device.specs.{FailsWrite}
use Rattle.redo_disk.specs.{IsRange, write_at}
use Rattle.redo_memdisk.specs.Memory.{MemState, pending_disk}
use Rattle.redo_memdisk.proofs.Crashed.{FailsWrite-pending, written_is}
use Rattle.redo_memdisk.proofs.Answered.{OnErr-always, OnOk-always}
use Rattle.redo_memdisk.proofs.memory.MemDiskSectors.write.Goals as goal

pub returns-clause-step : goal.returns-clause-step
returns-clause-step c =
    let base = c.self.inside.medium.base.items in
    let before = c.self.inside.medium.pending.items in
    let write = write_at c.args.at c.args.bytes.now in
    let range = subst (λ (s : MemState). IsRange (length s.disk.base) c.args.at (length c.args.bytes.now)) (sym c.self.view_is) c.requires in
    let writes : c.push.new.self.items ≡ before ++ write ∷ [] = grind (arith, common_steps) in
    let after = pending_disk base c.push.new.self.items in
    let pending : after ≡ pending_disk base (before ++ write ∷ []) = ap (pending_disk base) writes in
    let fails = subst (λ disk. FailsWrite write (pending_disk base before) disk) (sym pending) (FailsWrite-pending c.args.at c.args.bytes.now base before c.self.invariant.0 range) in
    rw (← c.self.view_is) (record {
      ok = OnOk-always c.count_call.result _ (after, refl, pending ∙ written_is base before write);
      err = OnErr-always c.count_call.result _ (after, refl, fails);
      size = refl;
      cause = c.count_call.ensures.cause;
    })
