use Rattle.std.proofs.Common.{refl, subst, sym, ◌∙◌}
use Rattle.model_own.specs.{own_lends}
use Rattle.redo_ownrule.proofs.OwnDesk.{same_work}
use Rattle.redo_rule.proofs.Calling.{write_live}
use Rattle.redo_words.specs.{Lends}
use Rattle.redo_ownrule.proofs.slots.write_desk.Goals as goal

pub returns : goal.returns
returns g c = λ work its. record {
  live = write_live c.args.desk.now.part c.args.mark c.lent.result
      (c.requires.may c.lent.result (subst (λ k. Lends c.lent.result (own_lends c.args.user.now k))
      (same_work c.in-Some.work c.requires.work (sym c.in-Some.is ∙ c.requires.its)) c.lent.ensures));
  served = λ faults start first. c.call_write.ensures.served faults start first _
      (subst (λ k. Lends c.lent.result (own_lends c.args.user.now k))
      (same_work c.in-Some.work work (sym c.in-Some.is ∙ its)) c.lent.ensures);
  told = c.call_write.ensures.ended;
  work_stays = refl;
  calls = c.call_write.ensures.calls;
}
