use Rattle.std.proofs.Common.{◌≡◌, subst, sym, ap, ◌∙◌}
use Rattle.std.proofs.lemmas.Result.{on_ok_weaker}
use Rattle.model_base.specs.{overwritten}
use Rattle.model_device.specs.{after_write, HasOneImage, synced, written, Disk}
use Rattle.redo_disk.specs.Sight.{write_at}
use Rattle.model_device.proofs.Images.{settled_images}
use Rattle.redo_disk.proofs.Told.{OnTold-then}
use Rattle.redo_disk.proofs.Made.{put_synced}
use Rattle.redo_disk.proofs.put.write_and_sync.Goals as goal

pub returns-clause-stays : goal.returns-clause-stays
returns-clause-stays g c =
    let write = write_at c.args.at c.args.bytes.now in
    on_ok_weaker c.sync.result
    (OnTold-then _ _ _ (λ old new. new ≡ written old write) (λ old new. new ≡ synced old)
    (λ old new. HasOneImage new (overwritten c.args.at c.args.bytes.now old.reads))
    (λ a b d first second.
    let same : d ≡ synced (written a write) = second ∙ ap synced first in
    subst (λ (disk : Disk). HasOneImage disk (after_write a.reads write)) (sym same) (settled_images (after_write a.reads write)).1)
    c.in_ok-write.ensures.step.ok)
    c.sync.ensures.step.ok

pub returns-clause-calls : goal.returns-clause-calls
returns-clause-calls g c = put_synced c.in_ok-write.ensures.gives c.sync.ensures.gives
