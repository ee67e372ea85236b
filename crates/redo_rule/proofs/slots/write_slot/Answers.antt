use Rattle.std.proofs.Common.{refl}
use Rattle.redo_rule.proofs.slots.write_slot.Goals as goal

pub returns : goal.returns
returns g c = record {
  was = c.in-Log.desk;
  now = record { part = c.call_write.new.log; block = c.in-Log.desk.block; work = c.in-Log.desk.work };
  old_is = c.in-Log.is;
  new_is = refl;
  served = c.call_write.ensures.served;
  told = c.call_write.ensures.ended;
  work = refl;
  calls = c.call_write.ensures.calls;
}
