-- One block is filled with zeros, or none.
use Rattle.std.proofs.Common.{◌*◌, ℕ, ⊎_elim, arith, rules}
use Rattle.model_device.specs.{Covers}
use Rattle.redo_disk.specs.{IsRange}
use Rattle.redo_open.specs.Clear.{IsStaleAt}
use Rattle.redo_open.proofs.Clears.{block-covers, covers-block}
use Rattle.redo_open.proofs.Puts.{put_nothing, put_one}
use Rattle.redo_open.proofs.Zeroing.{written_zeros, zero_as, zero_nothing, zeros-within, zeros_write}
use Rattle.redo_open.proofs.clear.clear_tail.Goals as goal

pub returns-then-is_taken-clause-step : goal.returns-then-is_taken-clause-step
returns-then-is_taken-clause-step g c =
    zero_nothing (IsStaleAt c.args.tail c.args.k) 3072 (g.L.Sectors.seen c.args.log.now) tt (λ j is. is.not_taken (search rules))

pub returns-then-is_taken-clause-calls : goal.returns-then-is_taken-clause-calls
returns-then-is_taken-clause-calls g c = put_nothing g.L.Sectors.gives c.args.log.now

pub returns-else-is_taken-clause-step : goal.returns-else-is_taken-clause-step
returns-else-is_taken-clause-step g c =
    let k : ℕ = c.args.k in
    let range : IsRange (g.L.Sectors.seen c.args.log.now).size (512 * k) 512 = record { from_sector = omega arith; whole_sectors = omega arith; within = ⊎_elim (λ e. omega (arith, c.requires.long)) (λ o. omega (arith, c.requires.long)) c.requires.place } in
    zero_as (Covers (zeros_write (512 * k) 512)) (IsStaleAt c.args.tail k) 3072 (g.L.Sectors.seen c.args.log.now) c.write_zeros.result (g.L.Sectors.seen c.write_zeros.new.device)
    (λ j covers. record { is = covers-block k j covers; not_taken = search rules })
    (λ j is. block-covers k j is.is)
    (written_zeros (g.L.Sectors.seen c.args.log.now).size (512 * k) 512 3072 (g.L.Sectors.seen c.args.log.now) c.write_zeros.result (g.L.Sectors.seen c.write_zeros.new.device) range
    (⊎_elim (λ e. omega arith) (λ o. omega arith) c.requires.place) c.write_zeros.ensures.step)

pub returns-else-is_taken-clause-calls : goal.returns-else-is_taken-clause-calls
returns-else-is_taken-clause-calls g c =
    put_one (zeros-within 3072 (512 * c.args.k) 512 (⊎_elim (λ e. omega arith) (λ o. omega arith) c.requires.place)) c.write_zeros.ensures.gives
