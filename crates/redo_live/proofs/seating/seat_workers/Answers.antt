use Rattle.std.proofs.Common.{List, ap, arith, length, length-append, refl, subst, ◌+◌, ◌∙◌, ◌≡◌}
use Rattle.redo_live.proofs.Seatings.{no_workers, worker_taken}
use Rattle.redo_live.proofs.seating.seat_workers.Goals as goal
use Rattle.redo_live.specs.Seating.{AreSeatedFrom}
use Rattle.redo_live.specs.declared.worker.Worker.{Worker}

pub loop-seats-init : goal.loop-seats-init
loop-seats-init g c =
    let none : length c.args.workers.items ≡ 0 = ap (λ (l : List (Worker _ _)). length l) c.requires.none in record {
      same = c.requires.same;
      left = omega arith;
      room = refl;
      seated = λ plan first are. (
        no_workers plan first c.args.workers.items c.requires.none,
        subst (λ n. AreSeatedFrom plan n c.args.seats.items c.args.players.items)
            (let e : first ≡ first + length c.args.workers.items = omega arith in e) are,
      );
    }

pub loop-seats-preserved : goal.loop-seats-preserved
loop-seats-preserved g c =
    let t = c.take_first-seat.ensures in
    let a = ap (λ l. length l) t.seat in
    let b = ap (λ l. length l) t.player in
    let m = ap (λ l. length l) c.push_reserved.ensures.items ∙ length-append c.loop-seats.workers.items _ in record {
      same = (let s = c.loop-seats.invariant.same in omega arith);
      left = (let s = c.loop-seats.invariant.left in omega arith);
      room = c.push_reserved.ensures.capacity ∙ c.loop-seats.invariant.room;
      seated = λ plan first are. worker_taken plan first c.take_first-seat.result.0 c.loop-seats.seats.items _
          c.take_first-seat.result.1 c.loop-seats.players.items _ t.seat t.player c.loop-seats.workers.items _
          c.push_reserved.ensures.items (c.loop-seats.invariant.seated plan first are);
    }

pub returns-clause-seated : goal.returns-clause-seated
returns-clause-seated g c plan first are = (c.loop-seats.invariant.seated plan first are).0
