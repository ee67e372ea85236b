use Rattle.std.proofs.Common.{◌≡◌, ◌∙◌, List, length, ap, subst, sym, take, drop, arith}
use Rattle.std.specs.Prelude.{vec_len}
use Rattle.model_device.specs.{Disk}
use Rattle.model_log.specs.{IsBoundaryBlock}
use Rattle.redo_disk.proofs.Told.{known-as}
use Rattle.redo_logdev.specs.Part.{Part}
use Rattle.redo_logdev.specs.Holding.{DiskHolds}
use Rattle.redo_logdev.specs.PartConditions.{IsSoundLogPart}
use Rattle.redo_logdev.proofs.ReadBlock.{read-there}
use Rattle.redo_logdev.proofs.part.LogPart.read_block.Goals as goal

pub returns-in-Ok-clause-block : goal.returns-in-Ok-clause-block
returns-in-Ok-clause-block g c some s wholes =
    let part = c.args.self.now in
    let lsn = c.args.lsn in
    let at = c.block_place-at.result in
    let size = (g.L.Sectors.seen c.self.inside.dev).size in
    let room = vec_len c.self.inside.buffer in
    let sound : IsSoundLogPart size part.shape part.marks part.tails room =
    subst (λ (p : Part _). IsSoundLogPart size p.shape p.marks p.tails room) c.self.view_is c.self.invariant in
    let Holds : Disk → Type 0 = DiskHolds part.shape s wholes part.marks part.tails part.failed in
    let Is : List _ → Type 0 = IsBoundaryBlock s wholes part.marks.written lsn in
    let long : length c.args.out.now ≡ 512 = omega (arith, c.fits-out) in
    known-as (g.L.Sectors.seen c.read.new.self).tells
    (λ (disk : Disk). c.read.new.out ≡ take (length c.args.out.now) (drop at disk.reads))
    (λ (disk : Disk). Holds disk → Is c.read.new.out)
    (λ disk is before.
    let front = ap (λ n. take n (drop at disk.reads)) long in
    let place = ap (λ n. take 512 (drop n disk.reads)) c.block_place-at.ensures in
    subst Is (sym (is ∙ front ∙ place)) (read-there part size room lsn sound c.requires some s wholes disk before))
    c.in-Ok.ensures.step.bytes
