use Rattle.std.proofs.Common.{refl}
use Rattle.redo_ownrule.proofs.slots.write_at.Goals as goal

pub returns : goal.returns
returns g c = record {
  was = c.in-Log.desk;
  now = c.write_desk.new.desk;
  old_is = c.in-Log.is;
  new_is = refl;
  written = c.write_desk.ensures;
}
