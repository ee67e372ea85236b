use Rattle.std.proofs.Common.{ap, sym, ◌∙◌}
use Rattle.model_core.specs.{index}
use Rattle.model_core.specs.declared.ops.Answer.TheVariants as answer
use Rattle.model_core.specs.declared.ops.Op.TheVariants as op
use Rattle.model_core.specs.declared.words.Layout.{Layout}
use Rattle.redo_drive.specs.{view_of}
use Rattle.redo_rule.proofs.Stepping.{load_ok, word_leaves}
use Rattle.redo_rule.proofs.Took.{may_take}
use Rattle.redo_rule.specs.Plays.{no_filling}
use Rattle.redo_rule.proofs.steps.load.Goals as goal

pub load-n-requires : goal.load-n-requires
load-n-requires g c = load_ok c.requires.may.seat.mine g.L.Sectors.seen g.L.Sectors.gives g.D.Sectors.seen
    g.D.Sectors.gives c.args.table.now.key c.args.word c.number_of.result c.requires.may.asks
    (c.number_of.ensures ∙ ap (λ (l : Layout). index l c.args.word) (sym c.requires.layout))

pub took-requires : goal.took-requires
took-requires g c =
    let mine = c.requires.may.seat.mine in
    let may = may_take g.L.Sectors.seen g.D.Sectors.seen mine.who (view_of c.args.actor.now) no_filling
    (answer.Old c.load-n.result) _ _ _ _ _ mine.state (c.load-n.ensures.2 mine.who mine.one) in
    record { fits = may.0; mark = may.1 }

pub returns : goal.returns
returns g c = word_leaves c.args.actor.now c.requires.may.seat g.L.Sectors.seen g.D.Sectors.seen g.R.Receiver.stands_for
    c.load-n.new.seat c.load-n.ensures.0 c.load-n.ensures.1 c.took.new.self c.took.result
    (op.Load c.args.word) c.requires.may.asks tt tt c.load-n.result c.load-n.ensures.2
    c.took.ensures
