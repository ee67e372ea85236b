use Rattle.std.proofs.Common.{Ok, Err}
use Rattle.std.proofs.lemmas.Result.{err_from_is_err_and}
use Rattle.redo_store.proofs.Repaired.{slots-asked}
use Rattle.redo_store.proofs.mend.find_copy.Goals as goal

pub returns-in_err-read_slots-clause-calls : goal.returns-in_err-read_slots-clause-calls
returns-in_err-read_slots-clause-calls g c =
    let p = err_from_is_err_and c.from_residual.result c.from_residual.ensures.1 in
    rw (p.1, p.2) (slots-asked g.D.Sectors.gives c.args.device.now c.read_slots.new.device c.args.shape.now c.args.slots.now c.read_slots.new.slots (Err c.in_err-read_slots.field-0.0) c.requires.room c.in_err-read_slots.ensures.call)

pub returns-clause-calls : goal.returns-clause-calls
returns-clause-calls g c =
    slots-asked g.D.Sectors.gives c.args.device.now c.read_slots.new.device c.args.shape.now c.args.slots.now c.read_slots.new.slots (Ok c.in_ok-read_slots.field-0) c.requires.room c.in_ok-read_slots.ensures.call
