use Rattle.std.proofs.Common.{ap, sym, ◌∙◌}
use Rattle.model_core.specs.{index}
use Rattle.model_core.specs.declared.words.Layout.{Layout}
use Rattle.model_core.specs.declared.ops.Op.TheVariants as op
use Rattle.redo_ownrule.proofs.OwnStepping.{store_ok, sees}
use Rattle.redo_ownrule.proofs.OwnPlaying.{op_played}
use Rattle.redo_ownrule.proofs.steps.store.Goals as goal

pub swap-n-requires : goal.swap-n-requires
swap-n-requires g c = store_ok c.requires.may.seat.mine g.L.Sectors.seen g.L.Sectors.gives g.D.Sectors.seen
    g.D.Sectors.gives c.args.table.now.key c.args.word c.args.number
    c.number_of.result c.requires.may.asks
    (c.number_of.ensures ∙ ap (λ (l : Layout). index l c.args.word) (sym c.requires.layout))

pub saw-requires : goal.saw-requires
saw-requires g c = (
  c.args.token.now.me.0,
  sees c.requires.may.seat.mine g.L.Sectors.seen g.D.Sectors.seen c.swap-n.new.seat c.swap-n.ensures.0 (op.Store
      c.args.word c.args.number) c.requires.may.asks tt
      c.swap-n.result c.swap-n.ensures.2,
)

pub returns : goal.returns
returns g c =
    op_played c.requires.may.seat c.saw.ensures.mine
    (c.saw.ensures.played c.args.token.now.me.0 (sees c.requires.may.seat.mine g.L.Sectors.seen g.D.Sectors.seen
    c.swap-n.new.seat c.swap-n.ensures.0
    (op.Store c.args.word c.args.number) c.requires.may.asks tt c.swap-n.result c.swap-n.ensures.2))
