use Rattle.std.proofs.Common.{ap, sym, ◌∙◌}
use Rattle.model_core.specs.{index}
use Rattle.model_core.specs.declared.ops.Answer.TheVariants as answer
use Rattle.model_core.specs.declared.ops.Op.TheVariants as op
use Rattle.model_core.specs.declared.words.Layout.{Layout}
use Rattle.redo_drive.specs.{view_of}
use Rattle.redo_rule.proofs.Stepping.{add_ok, word_leaves}
use Rattle.redo_rule.proofs.Took.{may_take}
use Rattle.redo_rule.specs.Plays.{no_filling}
use Rattle.redo_rule.proofs.steps.add.Goals as goal

pub fetch_add-n-requires : goal.fetch_add-n-requires
fetch_add-n-requires g c = add_ok c.requires.may.seat.mine g.L.Sectors.seen g.L.Sectors.gives g.D.Sectors.seen
    g.D.Sectors.gives c.args.table.now.key c.args.word c.args.number c.number_of.result c.requires.may.asks
    (c.number_of.ensures ∙ ap (λ (l : Layout). index l c.args.word) (sym c.requires.layout))

pub took-requires : goal.took-requires
took-requires g c =
    let mine = c.requires.may.seat.mine in
    let may = may_take g.L.Sectors.seen g.D.Sectors.seen mine.who (view_of c.args.actor.now) no_filling
    (answer.Old c.fetch_add-n.result) _ _ _ _ _ mine.state (c.fetch_add-n.ensures.2 mine.who mine.one) in
    record { fits = may.0; mark = may.1 }

pub returns : goal.returns
returns g c = word_leaves c.args.actor.now c.requires.may.seat g.L.Sectors.seen g.D.Sectors.seen g.R.Receiver.stands_for
    c.fetch_add-n.new.seat c.fetch_add-n.ensures.0 c.fetch_add-n.ensures.1 c.took.new.self c.took.result
    (op.Add c.args.word c.args.number) c.requires.may.asks tt tt c.fetch_add-n.result c.fetch_add-n.ensures.2
    c.took.ensures
