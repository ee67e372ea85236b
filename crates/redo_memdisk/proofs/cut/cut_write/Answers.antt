use Rattle.std.proofs.Common.{◌≡◌}
use Rattle.model_device.specs.{FailsWrite, written}
use Rattle.redo_disk.specs.{HasSize, OnTold, write_at}
use Rattle.redo_disk.proofs.Told.{OnTold-weaker}
use Rattle.redo_memdisk.proofs.Answered.{at_either}
use Rattle.redo_memdisk.proofs.Writes.{FailsWrite-written}
use Rattle.redo_memdisk.proofs.cut.cut_write.Goals as goal

pub returns-clause-told : goal.returns-clause-told
returns-clause-told g c =
    let write = write_at c.args.at c.args.bytes.now in
    let old = g.D.Sectors.seen c.args.device.now in
    let new = g.D.Sectors.seen c.write.new.self in
    at_either c.write.result
    (OnTold old.tells new.tells (λ a b. b ≡ written a write))
    (OnTold old.tells new.tells (FailsWrite write))
    (OnTold-weaker _ _ (HasSize old.size) (λ a b. b ≡ written a write) (FailsWrite write)
    (λ a b sized is_written. rw is_written (FailsWrite-written old.size c.args.at c.args.bytes.now a c.requires sized))
    c.len.ensures.told)
    c.write.ensures.step.ok c.write.ensures.step.err
