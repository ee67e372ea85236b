use Rattle.std.proofs.Common.{List, ap, length, subst, sym, ◌∙◌}
use Rattle.redo_ownrule.proofs.LiveEnded.{ends_given, given_out, leaves_given}
use Rattle.redo_ownrule.proofs.shared.Shared.finish_live.Goals as goal
use Rattle.redo_ownrule.specs.Sharing.{AllAtRest}
use Rattle.redo_ownrule.specs.declared.player.Player.{Player}

pub take_all-requires-clause-apart : goal.take_all-requires-clause-apart
take_all-requires-clause-apart g c = (
  _,
  given_out c.args.self.board.shared.table_id c.args.players.items c.as_slice.result.now c.as_slice.ensures.value
      c.args.seats.items c.args.self.first c.requires.seats c.requires.seated.first c.requires.seated.none,
)

pub take_all-requires-clause-rest : goal.take_all-requires-clause-rest
take_all-requires-clause-rest g c = subst (λ (l : List (Player g.row.R.Denot)). AllAtRest l)
    (sym c.as_slice.ensures.value) c.requires.rest

pub take_all-requires-clause-all : goal.take_all-requires-clause-all
take_all-requires-clause-all g c = c.requires.seats.count
    ∙ ap (λ (l : List (Player g.row.R.Denot)). length l) (sym c.as_slice.ensures.value)

pub close_known-requires-clause-ends : goal.close_known-requires-clause-ends
close_known-requires-clause-ends g c = λ words slots final.
    let V = c.requires.live in
    let E = ends_given g.L.Sectors.seen g.L.Sectors.gives g.D.Sectors.seen g.D.Sectors.gives c.args.self.board.shared.key V.live
    V.is_live V.no_script V.plan_is c.requires.seated.ready.runnable c.args.self.board.shared.table_id
    c.args.seats.items c.args.players.items c.as_slice.result.now c.as_slice.ensures.value c.requires.seats
    c.requires.others c.requires.rest c.take_all.new.first
    (c.take_all.ensures.all _ (given_out c.args.self.board.shared.table_id c.args.players.items
    c.as_slice.result.now c.as_slice.ensures.value c.args.seats.items c.args.self.first c.requires.seats
    c.requires.seated.first c.requires.seated.none))
    c.take_all.ensures.cleaner (λ alone. c.take_all.ensures.part (c.requires.seated.alone alone)) words slots final in
    (E.all_heard, E.actors, E.reaches)

pub returns : goal.returns
returns g c =
    let V = c.requires.live in
    leaves_given g.L.Sectors.seen g.L.Sectors.gives g.D.Sectors.seen g.D.Sectors.gives c.args.self.board.shared.key V.live
    V.is_live V.no_script V.plan_is c.requires.seated.ready.runnable c.args.self.board.shared.table_id
    c.args.seats.items c.args.players.items c.as_slice.result.now c.as_slice.ensures.value c.requires.seats
    c.requires.others c.requires.rest c.take_all.new.first
    (c.take_all.ensures.all _ (given_out c.args.self.board.shared.table_id c.args.players.items
    c.as_slice.result.now c.as_slice.ensures.value c.args.seats.items c.args.self.first c.requires.seats
    c.requires.seated.first c.requires.seated.none))
    c.take_all.ensures.cleaner (λ alone. c.take_all.ensures.part (c.requires.seated.alone alone)) _
    c.close_known.ensures
