use Rattle.std.proofs.Common.{List, arith, subst, sym}
use Rattle.model_own.specs.{OwnUser}
use Rattle.redo_drive.proofs.CallsOn.{both_then, none_called}
use Rattle.redo_ownmachine.proofs.Runs.{InOwnRun, ends_done, ends_spent, goes_on, no_change, no_changes, some_seat, starts_run}
use Rattle.redo_ownmachine.proofs.machine.OwnMachine.run.Goals as goal
use Rattle.redo_ownmachine.specs.OpenOwn.{IsFirstOpenUser, UsersHaveEnded}

pub loop-turn-init : goal.loop-turn-init
loop-turn-init g c = record {
  run = subst (λ draws. InOwnRun g.L.Sectors.seen g.L.Sectors.gives g.D.Sectors.seen g.D.Sectors.gives g.A.Sectors.seen c.args.seed
      c.args.max 0 draws c.seats-seats.result c.args.self.now c.args.self.now) (sym c.new-draws.ensures)
      (starts_run g.L.Sectors.seen g.L.Sectors.gives g.D.Sectors.seen g.D.Sectors.gives g.A.Sectors.seen c.args.seed c.args.max
      c.seats-seats.result c.args.self.now c.requires (sym c.seats-seats.ensures));
  from = λ run archive starts before F. F;
  calls = none_called g.L.Sectors.gives g.D.Sectors.gives c.args.self.now.parts;
  stay = no_change c.args.self.now;
}

pub seat_of-seat-requires : goal.seat_of-seat-requires
seat_of-seat-requires g c = some_seat c.loop-turn.self.users.items c.loop-turn.self.others.items c.seats-seats.result
    c.loop-turn.invariant.run.count
    (subst (λ (users : List OwnUser). UsersHaveEnded users → ⊥) c.as_slice.ensures.value c.in-Some.ensures)

pub loop-turn-preserved : goal.loop-turn-preserved
loop-turn-preserved g c =
    let I = c.loop-turn.invariant in
    record {
      run = goes_on g.L.Sectors.seen g.L.Sectors.gives g.D.Sectors.seen g.D.Sectors.gives g.A.Sectors.seen c.args.seed c.args.max
          c.loop-turn.turn c.loop-turn.draws c.seat_of-seat.new.draws c.seats-seats.result c.seat_of-seat.result
          c.turn.result c.args.self.now c.loop-turn.self c.turn.new.self I.run
          (subst (λ (users : List OwnUser). UsersHaveEnded users → ⊥) c.as_slice.ensures.value c.in-Some.ensures)
          (c.seat_of-seat.ensures.seat c.args.seed I.run.drawn)
          (c.seat_of-seat.ensures.drawn c.args.seed I.run.drawn) c.turn.ensures.on_run c.turn.ensures.turn
          c.turn.ensures.seats;
      from = λ run archive starts before F. c.turn.ensures.from run archive starts before
          (I.from run archive starts before F);
      calls = both_then g.L.Sectors.gives g.D.Sectors.gives c.args.self.now.parts c.loop-turn.self.parts
          c.turn.new.self.parts I.calls c.turn.ensures.calls;
      stay = no_changes c.args.self.now c.loop-turn.self c.turn.new.self I.stay c.turn.ensures.seats;
    }

pub returns-in-None-clause-ends : goal.returns-in-None-clause-ends
returns-in-None-clause-ends g c = ends_done g.L.Sectors.seen g.L.Sectors.gives g.D.Sectors.seen g.D.Sectors.gives g.A.Sectors.seen
    c.args.seed c.args.max c.loop-turn.turn c.loop-turn.draws c.seats-seats.result c.args.self.now c.loop-turn.self
    c.loop-turn.invariant.run (omega arith)
    (subst (λ (users : List OwnUser). UsersHaveEnded users) c.as_slice.ensures.value c.in-None.ensures)

pub returns-in-None-clause-from : goal.returns-in-None-clause-from
returns-in-None-clause-from g c = c.loop-turn.invariant.from

pub returns-in-None-clause-on_run : goal.returns-in-None-clause-on_run
returns-in-None-clause-on_run g c = c.loop-turn.invariant.run.on_run

pub returns-in-None-open_user-clause-ends : goal.returns-in-None-open_user-clause-ends
returns-in-None-open_user-clause-ends g c = ends_done g.L.Sectors.seen g.L.Sectors.gives g.D.Sectors.seen
    g.D.Sectors.gives g.A.Sectors.seen c.args.seed c.args.max c.loop-turn.turn c.loop-turn.draws c.seats-seats.result c.args.self.now
    c.loop-turn.self c.loop-turn.invariant.run (omega arith)
    (subst (λ (users : List OwnUser). UsersHaveEnded users) c.as_slice-2.ensures.value c.in-None-open_user.ensures)

pub returns-in-None-open_user-clause-from : goal.returns-in-None-open_user-clause-from
returns-in-None-open_user-clause-from g c = c.loop-turn.invariant.from

pub returns-in-None-open_user-clause-on_run : goal.returns-in-None-open_user-clause-on_run
returns-in-None-open_user-clause-on_run g c = c.loop-turn.invariant.run.on_run

pub returns-in-Some-open_user-clause-ends : goal.returns-in-Some-open_user-clause-ends
returns-in-Some-open_user-clause-ends g c = ends_spent g.L.Sectors.seen g.L.Sectors.gives g.D.Sectors.seen
    g.D.Sectors.gives g.A.Sectors.seen c.args.seed c.args.max c.loop-turn.turn c.loop-turn.draws c.seats-seats.result
    c.in-Some-open_user.user c.args.self.now c.loop-turn.self c.loop-turn.invariant.run (omega arith)
    (subst (λ (users : List OwnUser). IsFirstOpenUser users c.in-Some-open_user.user) c.as_slice-2.ensures.value
    c.in-Some-open_user.ensures)

pub returns-in-Some-open_user-clause-from : goal.returns-in-Some-open_user-clause-from
returns-in-Some-open_user-clause-from g c = c.loop-turn.invariant.from

pub returns-in-Some-open_user-clause-on_run : goal.returns-in-Some-open_user-clause-on_run
returns-in-Some-open_user-clause-on_run g c = c.loop-turn.invariant.run.on_run
