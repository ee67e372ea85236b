use Rattle.std.proofs.Common.{subst, sym, ◌∙◌}
use Rattle.model_core.specs.declared.ops.Answer.TheVariants as answer
use Rattle.redo_ownrule.specs.OwnMine.{IsAnswering}
use Rattle.redo_ownrule.proofs.steps.saw.Goals as goal

pub answered_at-requires : goal.answered_at-requires
answered_at-requires g c = (
  c.requires.0,
  subst (λ b. IsAnswering g.L.Sectors.seen g.D.Sectors.seen
      c.args.table.now.table_id b c.requires.0 c.args.token.now c.args.user.now (answer.Old c.args.n))
      (sym c.has_work.ensures ∙ c.if-has_work.true) c.requires.1,
)

pub answered_alone-requires : goal.answered_alone-requires
answered_alone-requires g c = (
  c.requires.0,
  subst (λ b. IsAnswering g.L.Sectors.seen g.D.Sectors.seen
      c.args.table.now.table_id b c.requires.0 c.args.token.now c.args.user.now (answer.Old c.args.n))
      (sym c.has_work.ensures ∙ c.if-has_work.false) c.requires.1,
)

pub returns-then-has_work-clause-played : goal.returns-then-has_work-clause-played
returns-then-has_work-clause-played g c = λ v I. c.answered_at.ensures.played v
    (subst (λ b. IsAnswering g.L.Sectors.seen g.D.Sectors.seen c.args.table.now.table_id b v c.args.token.now
    c.args.user.now (answer.Old c.args.n)) (sym c.has_work.ensures ∙ c.if-has_work.true) I)

pub returns-else-has_work-clause-played : goal.returns-else-has_work-clause-played
returns-else-has_work-clause-played g c = λ v I. c.answered_alone.ensures.played v
    (subst (λ b. IsAnswering g.L.Sectors.seen g.D.Sectors.seen c.args.table.now.table_id b v c.args.token.now
    c.args.user.now (answer.Old c.args.n)) (sym c.has_work.ensures ∙ c.if-has_work.false) I)
