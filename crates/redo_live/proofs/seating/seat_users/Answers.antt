use Rattle.std.proofs.Common.{List, ap, arith, length, length-append, refl, subst, sym, ◌∙◌, ◌≡◌}
use Rattle.redo_live.proofs.Seatings.{no_users, user_taken}
use Rattle.redo_live.proofs.seating.seat_users.Goals as goal
use Rattle.redo_live.specs.Seating.{AreSeatedFrom}
use Rattle.redo_live.specs.declared.user.User.{User}

pub loop-seats-init : goal.loop-seats-init
loop-seats-init g c =
    let none : length c.args.users.items ≡ 0 = ap (λ (l : List (User _ _)). length l) c.requires.none in record {
      same = c.requires.same;
      few = omega arith;
      left = omega arith;
      room = refl;
      seated = λ plan are. (
        no_users plan c.args.users.items c.requires.none,
        subst (λ n. AreSeatedFrom plan n c.args.seats.now.items c.args.players.now.items) (sym none) are,
      );
    }

pub loop-seats-preserved : goal.loop-seats-preserved
loop-seats-preserved g c =
    let t = c.take_first-seat.ensures in
    let a = ap (λ l. length l) t.seat in
    let b = ap (λ l. length l) t.player in
    let m = ap (λ l. length l) c.push_reserved.ensures.items ∙ length-append c.loop-seats.users.items _ in
    let k = c.len.ensures in
    let low = c.loop-seats-test.true in record {
      same = (let s = c.loop-seats.invariant.same in omega arith);
      few = omega arith;
      left = (let s = c.loop-seats.invariant.left in omega arith);
      room = c.push_reserved.ensures.capacity ∙ c.loop-seats.invariant.room;
      seated = λ plan are. user_taken plan c.take_first-seat.result.0 c.loop-seats.seats.items _
          c.take_first-seat.result.1
          c.loop-seats.players.items _ t.seat t.player c.loop-seats.users.items _ c.push_reserved.ensures.items
          (c.loop-seats.invariant.seated plan are);
    }

pub returns-clause-seated : goal.returns-clause-seated
returns-clause-seated g c plan are =
    let so = c.loop-seats.invariant.seated plan are in
    let k = c.len.ensures in
    let few = c.loop-seats.invariant.few in
    let stop = c.loop-seats-test.false in
    let n : length c.loop-seats.users.items ≡ c.args.count = omega arith in (
      so.0,
      subst (λ n. AreSeatedFrom plan n c.loop-seats.seats.items c.loop-seats.players.items) n so.1,
    )
