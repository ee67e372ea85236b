use Rattle.std.proofs.Common.{refl, sym, ◌∙◌, arith}
use Rattle.redo_disk.proofs.Told.{still-same}
use Rattle.redo_memdisk.proofs.Counts.{HasCause-own, own-after_failed_call}
use Rattle.redo_memdisk.proofs.fused.FusedSectors.read.Goals as goal

pub returns-then-fails_next-clause-step : goal.returns-then-fails_next-clause-step
returns-then-fails_next-clause-step g c =
    let fuse = c.args.self.now.fuse in
    let counted = own-after_failed_call fuse c.note_call.new.self _ (sym c.fails_next.ensures ∙ c.if-fails_next.true) c.note_call.ensures.after in
    record {
      bytes = tt;
      same = still-same _ _ refl;
      same_crash = refl;
      size = refl;
      cause = HasCause-own _ _ fuse.own _ _ (omega arith) counted c.note_call.ensures.later;
    }
