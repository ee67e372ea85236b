use Rattle.std.proofs.Common.{refl}
use Rattle.redo_disk.proofs.Made.{serves_end}
use Rattle.redo_rule.proofs.slots.read_slot.Goals as goal

pub returns-clause-called : goal.returns-clause-called
returns-clause-called g c = record {
  was = c.in-Log.desk;
  now = record { part = c.call_read-ended.new.log; block = c.call_read-ended.new.room; work = c.in-Log.desk.work };
  old_is = c.in-Log.is;
  new_is = refl;
  served = λ faults start first. c.call_read-ended.ensures.read;
  told = c.call_read-ended.ensures.ended;
  work = refl;
  calls = serves_end c.call_read-ended.ensures.calls;
}
