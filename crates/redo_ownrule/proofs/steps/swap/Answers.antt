use Rattle.std.proofs.Common.{ap, sym, ◌∙◌}
use Rattle.model_core.specs.{index}
use Rattle.model_core.specs.declared.words.Layout.{Layout}
use Rattle.model_core.specs.declared.ops.Op.TheVariants as op
use Rattle.redo_ownrule.proofs.OwnStepping.{swap_ok, sees}
use Rattle.redo_ownrule.proofs.OwnPlaying.{op_played}
use Rattle.redo_ownrule.proofs.steps.swap.Goals as goal

pub compare_exchange-n-requires : goal.compare_exchange-n-requires
compare_exchange-n-requires g c = swap_ok c.requires.may.seat.mine g.L.Sectors.seen g.L.Sectors.gives g.D.Sectors.seen
    g.D.Sectors.gives c.args.table.now.key c.args.word c.args.old c.args.new
    c.number_of.result c.requires.may.asks
    (c.number_of.ensures ∙ ap (λ (l : Layout). index l c.args.word) (sym c.requires.layout))

pub saw-requires : goal.saw-requires
saw-requires g c = (
  c.args.token.now.me.0,
  sees c.requires.may.seat.mine g.L.Sectors.seen g.D.Sectors.seen c.compare_exchange-n.new.seat
      c.compare_exchange-n.ensures.0 (op.Swap c.args.word c.args.old c.args.new) c.requires.may.asks tt
      c.compare_exchange-n.result c.compare_exchange-n.ensures.2,
)

pub returns : goal.returns
returns g c =
    op_played c.requires.may.seat c.saw.ensures.mine
    (c.saw.ensures.played c.args.token.now.me.0 (sees c.requires.may.seat.mine g.L.Sectors.seen g.D.Sectors.seen
    c.compare_exchange-n.new.seat c.compare_exchange-n.ensures.0
    (op.Swap c.args.word c.args.old c.args.new) c.requires.may.asks tt c.compare_exchange-n.result
    c.compare_exchange-n.ensures.2))
