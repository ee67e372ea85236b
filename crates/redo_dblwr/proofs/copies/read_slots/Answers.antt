use Rattle.std.proofs.Common.{◌≡◌, ℕ, take, drop, length, subst, sym, arith}
use Rattle.std.proofs.lemmas.Result.{on_ok_weaker}
use Rattle.model_device.specs.{Disk}
use Rattle.model_parts.specs.{SameSlots}
use Rattle.redo_dblwr.proofs.Ranges.{front-range}
use Rattle.redo_dblwr.proofs.Slots.{front-slots}
use Rattle.redo_disk.specs.{IsRange}
use Rattle.redo_disk.proofs.Told.{known-as}
use Rattle.redo_dblwr.proofs.copies.read_slots.Goals as goal

pub returns-clause-bytes : goal.returns-clause-bytes
returns-clause-bytes g c =
    let shape = c.args.shape.now in
    let count = length c.args.slots.now in
    on_ok_weaker c.read.result
    (known-as (g.D.Sectors.seen c.read.new.self).tells
    (λ (disk : Disk). c.read.new.out ≡ take count (drop 0 disk.reads))
    (λ (disk : Disk). SameSlots shape disk.reads c.read.new.out)
    (λ disk out. front-slots shape disk.reads c.read.new.out count c.requires.room out))
    c.read.ensures.step.bytes

pub read-requires : goal.read-requires
read-requires g c =
    let shape = c.args.shape.now in
    let size = (g.D.Sectors.seen c.args.device.now).size in
    subst (λ (n : ℕ). IsRange size 0 n) (sym c.requires.room)
    (front-range shape size shape.slots c.requires.limits.page_size c.requires.long (omega arith))
