use Rattle.std.proofs.Common.{ap, refl, sym, ◌∙◌}
use Rattle.redo_live.proofs.Answered.{has_played, its_place}
use Rattle.redo_live.proofs.user.User.play.Goals as goal
use Rattle.redo_live.specs.declared.user.User.{User}

pub play_to_end-requires-clause-layout : goal.play_to_end-requires-clause-layout
play_to_end-requires-clause-layout g c = c.requires.1.layout ∙ sym c.layout-layout.ensures

pub play_to_end-requires-clause-seat : goal.play_to_end-requires-clause-seat
play_to_end-requires-clause-seat g c =
    its_place (λ f l. Unit {0}) c.args.store.now c.requires.0 c.args.self.now c.args.self.now
    c.ring.result.now.table_id (ap (λ r. r.table_id) c.ring.ensures) c.requires.1

pub returns : goal.returns
returns g c u may =
    let new : User g.row.L.Denot g.row.D.Denot = record {
      seat = c.play_to_end.new.seat;
      player = c.play_to_end.new.player;
      used = c.args.self.now.used;
    } in
    has_played _ c.args.store.now u c.args.self.now new c.ring.result.now.table_id
    (ap (λ r. r.table_id) c.ring.ensures) may c.play_to_end.ensures.goes_on c.play_to_end.ensures.at_end refl
