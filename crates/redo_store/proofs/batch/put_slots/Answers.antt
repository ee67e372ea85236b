use Rattle.std.proofs.Common.{◌≤◌, ◌*◌, ℕ, length, subst, sym, length-take-le, arith}
use Rattle.std.proofs.Math.Nat.{mul-le-mul_right}
use Rattle.redo_dblwr.proofs.Ranges.{front-range}
use Rattle.redo_disk.specs.{IsRange}
use Rattle.redo_store.proofs.batch.put_slots.Goals as goal

pub write_and_sync-requires : goal.write_and_sync-requires
write_and_sync-requires g c =
    let shape = c.args.shape.now in
    let count : ℕ = length c.args.batch.now in
    let size = (g.D.Sectors.seen c.args.device.now).size in
    let room : count * shape.page_size ≤ shape.slots * shape.page_size =
    mul-le-mul_right shape.page_size c.requires.batch.few in
    subst (λ (n : ℕ). IsRange size 0 n) (sym (length-take-le (count * shape.page_size) c.fill_texts.new.out
    (omega (arith, c.requires.room, room))))
    (front-range shape size count c.requires.limits.page_size c.requires.long (omega (arith, c.requires.batch.few)))
