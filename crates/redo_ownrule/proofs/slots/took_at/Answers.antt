use Rattle.std.proofs.Common.{ap}
use Rattle.redo_ownrule.specs.OwnPlays.{with_work}
use Rattle.redo_rule.specs.declared.law.Slot.TheVariants as slot
use Rattle.redo_ownrule.proofs.slots.took_at.Goals as goal

pub returns : goal.returns
returns g c = record {
  work = c.in-Some.work;
  lies = record { desk = c.in-Log.desk; is = c.in-Log.is; its = c.in-Some.is };
  now = ap (λ k. slot.Log (with_work c.in-Log.desk k)) c.took.ensures.work;
  user = c.took.ensures.user;
  ends = c.took.ensures.step;
}
