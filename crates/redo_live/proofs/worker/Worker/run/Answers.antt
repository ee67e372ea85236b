use Rattle.std.proofs.Common.{ap, sym, ◌∙◌}
use Rattle.redo_live.proofs.Workers.{is_same, is_worker, its_seat}
use Rattle.redo_live.proofs.worker.Worker.run.Goals as goal
use Rattle.redo_live.specs.declared.worker.Worker.{Worker}

pub play_to_end-requires-clause-layout : goal.play_to_end-requires-clause-layout
play_to_end-requires-clause-layout g c = c.requires.layout ∙ sym c.layout-layout.ensures

pub play_to_end-requires-clause-seat : goal.play_to_end-requires-clause-seat
play_to_end-requires-clause-seat g c =
    its_seat (λ f l. Unit {0}) c.args.store.now c.args.self.now c.args.self.now c.ring.result.now.table_id
    (ap (λ r. r.table_id) c.ring.ensures) c.requires

pub returns-clause-mine : goal.returns-clause-mine
returns-clause-mine g c =
    let new : Worker g.row.L.Denot g.row.D.Denot = record {
      seat = c.play_to_end.new.seat;
      player = c.play_to_end.new.player;
    } in
    is_worker _ c.args.store.now c.args.self.now new c.ring.result.now.table_id
    (ap (λ r. r.table_id) c.ring.ensures) c.requires c.play_to_end.ensures.goes_on

pub returns-clause-same : goal.returns-clause-same
returns-clause-same g c =
    let new : Worker g.row.L.Denot g.row.D.Denot = record {
      seat = c.play_to_end.new.seat;
      player = c.play_to_end.new.player;
    } in
    is_same _ c.args.store.now c.args.self.now new c.ring.result.now.table_id
    (ap (λ r. r.table_id) c.ring.ensures) c.requires c.play_to_end.ensures.goes_on
