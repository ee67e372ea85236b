use Rattle.std.proofs.Common.{ap, sym, ◌∙◌}
use Rattle.model_core.specs.{index}
use Rattle.model_core.specs.declared.words.Layout.{Layout}
use Rattle.model_core.specs.declared.ops.Op.TheVariants as op
use Rattle.redo_ownrule.proofs.OwnStepping.{load_ok, sees}
use Rattle.redo_ownrule.proofs.OwnPlaying.{op_played}
use Rattle.redo_ownrule.proofs.steps.load.Goals as goal

pub load-n-requires : goal.load-n-requires
load-n-requires g c = load_ok c.requires.may.seat.mine g.L.Sectors.seen g.L.Sectors.gives g.D.Sectors.seen
    g.D.Sectors.gives c.args.table.now.key c.args.word
    c.number_of.result c.requires.may.asks
    (c.number_of.ensures ∙ ap (λ (l : Layout). index l c.args.word) (sym c.requires.layout))

pub saw-requires : goal.saw-requires
saw-requires g c = (
  c.args.token.now.me.0,
  sees c.requires.may.seat.mine g.L.Sectors.seen g.D.Sectors.seen c.load-n.new.seat c.load-n.ensures.0 (op.Load
      c.args.word) c.requires.may.asks tt
      c.load-n.result c.load-n.ensures.2,
)

pub returns : goal.returns
returns g c =
    op_played c.requires.may.seat c.saw.ensures.mine
    (c.saw.ensures.played c.args.token.now.me.0 (sees c.requires.may.seat.mine g.L.Sectors.seen g.D.Sectors.seen
    c.load-n.new.seat c.load-n.ensures.0
    (op.Load c.args.word) c.requires.may.asks tt c.load-n.result c.load-n.ensures.2))
