use Rattle.std.proofs.Common.{Bool, ap, arith, set, subst, sym, ◌-◌, ◌∙◌}
use mathlib.Core.Option.{some}
use Rattle.model_core.specs.{lent, next}
use Rattle.redo_drive.specs.{AskOfBoth, view_of, views_of}
use Rattle.redo_drive.specs.declared.actor.Actor.{Actor}
use Rattle.redo_machine.specs.Reading.{IsServedWith, MayServeWith}
use Rattle.redo_ownmachine.proofs.Comes as user
use Rattle.redo_ownmachine.proofs.OtherBeside as other
use Rattle.redo_ownmachine.proofs.Places.{sits}
use Rattle.redo_ownmachine.proofs.Serves.{may_serve_user}
use Rattle.redo_ownmachine.proofs.Turned.{alone_then, cause_then, other_takes, runs_then, user_takes}
use Rattle.redo_ownmachine.proofs.UserBeside.{beside_user}
use Rattle.redo_ownmachine.proofs.machine.OwnMachine.turn.Goals as goal
use Rattle.redo_ownmachine.specs.OwnCrew.{seats_of}
use Rattle.redo_ownmachine.specs.OwnStore.{OwnRunsWith}

pub serve_user-requires : goal.serve_user-requires
serve_user-requires g c =
    let m = c.args.self.now in let O = c.requires.on_run in let who = c.index_mut.result.now in
    may_serve_user g.L.Sectors.seen g.D.Sectors.seen O.run m.parts (seats_of m) O.runs c.args.seat who
    (sits m.users.items c.args.seat who (omega arith) ∙ ap some (sym c.index_mut.ensures.value))

pub returns-then-seat-users-clause-on_run : goal.returns-then-seat-users-clause-on_run
returns-then-seat-users-clause-on_run g c =
    let O = c.requires.on_run in
    let m = c.args.self.now in let who = c.index_mut.result.now in let did = c.serve_user in
    let at = sits m.users.items c.args.seat who (omega arith) ∙ ap some (sym c.index_mut.ensures.value) in
    let t = user_takes g.L.Sectors.seen g.D.Sectors.seen O.run m.parts did.new.parts m.users.items m.work did.new.work
    (views_of m.others.items) c.args.seat who did.new.user did.result at (did.ensures.served O.run) g.L.Sectors.gives
    g.D.Sectors.gives did.ensures.asked in
    let later = runs_then g.L.Sectors.seen g.D.Sectors.seen O.run m.parts did.new.parts (seats_of m) _ c.args.seat t.answer
    did.result did.ensures.pages t.turn O.runs in
    record {
      run = O.run;
      runs = later;
      beside = beside_user g.L.Sectors.seen g.D.Sectors.seen O.run m.parts did.new.parts m.users.items m.work did.new.work
          m.others.items c.args.seat who did.new.user did.result at (did.ensures.served O.run) O.runs later
          g.A.Sectors.seen c.archive_stays.ensures.pace m.archive O.beside;
      numbered = user.numbered g.L.Sectors.seen g.D.Sectors.seen O.run m.parts did.new.parts m.users.items m.work
          did.new.work m.others.items c.args.seat who did.new.user did.result at (did.ensures.served O.run) O.numbered;
    }

pub returns-then-seat-users-clause-turn : goal.returns-then-seat-users-clause-turn
returns-then-seat-users-clause-turn g c = λ run archive R.
    let m = c.args.self.now in let who = c.index_mut.result.now in let did = c.serve_user in
    let at = sits m.users.items c.args.seat who (omega arith) ∙ ap some (sym c.index_mut.ensures.value) in
    let t = user_takes g.L.Sectors.seen g.D.Sectors.seen run m.parts did.new.parts m.users.items m.work did.new.work
    (views_of m.others.items) c.args.seat who did.new.user did.result at (did.ensures.served run) g.L.Sectors.gives
    g.D.Sectors.gives did.ensures.asked in (
      t,
      runs_then g.L.Sectors.seen g.D.Sectors.seen run m.parts did.new.parts (seats_of m) _ c.args.seat t.answer
          did.result did.ensures.pages t.turn R,
    )

pub returns-then-seat-users-clause-from : goal.returns-then-seat-users-clause-from
returns-then-seat-users-clause-from g c = λ run archive starts before F.
    let m = c.args.self.now in let who = c.index_mut.result.now in let did = c.serve_user in
    let at = sits m.users.items c.args.seat who (omega arith) ∙ ap some (sym c.index_mut.ensures.value) in
    let t = user_takes g.L.Sectors.seen g.D.Sectors.seen run m.parts did.new.parts m.users.items m.work did.new.work
    (views_of m.others.items) c.args.seat who did.new.user did.result at (did.ensures.served run) g.L.Sectors.gives
    g.D.Sectors.gives did.ensures.asked in
    let C = user.user_comes g.L.Sectors.seen g.D.Sectors.seen run m.parts did.new.parts m.users.items m.work did.new.work
    m.others.items c.args.seat who did.new.user did.result at (did.ensures.served run) g.A.Sectors.seen
    g.A.Sectors.gives g.R.Receiver.stands_for c.archive_stays.ensures.pace F.errands
    (λ (R : OwnRunsWith g.L.Sectors.seen g.D.Sectors.seen run archive m.parts (seats_of m)). runs_then g.L.Sectors.seen g.D.Sectors.seen run m.parts did.new.parts (seats_of m) _ c.args.seat t.answer
    did.result did.ensures.pages t.turn R) starts
    before m.archive (F.from, F.come) in
    record {
      from = C.0;
      errands = (runs_then g.L.Sectors.seen g.D.Sectors.seen run m.parts did.new.parts (seats_of m) _ c.args.seat t.answer
          did.result did.ensures.pages t.turn (user.runs_there g.L.Sectors.seen g.D.Sectors.seen g.A.Sectors.seen
          g.R.Receiver.stands_for run archive starts before m F)).errands;
      come = C.1;
    }

pub returns-then-seat-users-clause-cause : goal.returns-then-seat-users-clause-cause
returns-then-seat-users-clause-cause g c = λ run archive code R failed.
    let m = c.args.self.now in let who = c.index_mut.result.now in let did = c.serve_user in
    let at = sits m.users.items c.args.seat who (omega arith) ∙ ap some (sym c.index_mut.ensures.value) in
    let t = user_takes g.L.Sectors.seen g.D.Sectors.seen run m.parts did.new.parts m.users.items m.work did.new.work
    (views_of m.others.items) c.args.seat who did.new.user did.result at (did.ensures.served run) g.L.Sectors.gives
    g.D.Sectors.gives did.ensures.asked in
    cause_then g.L.Sectors.seen g.D.Sectors.seen run m.parts did.new.parts (seats_of m) _ c.args.seat t.answer
    did.result did.ensures.pages t.turn R code failed

pub returns-then-seat-users-clause-alone : goal.returns-then-seat-users-clause-alone
returns-then-seat-users-clause-alone g c = λ run alone.
    let m = c.args.self.now in let who = c.index_mut.result.now in let did = c.serve_user in
    let at = sits m.users.items c.args.seat who (omega arith) ∙ ap some (sym c.index_mut.ensures.value) in
    let t = user_takes g.L.Sectors.seen g.D.Sectors.seen run m.parts did.new.parts m.users.items m.work did.new.work
    (views_of m.others.items) c.args.seat who did.new.user did.result at (did.ensures.served run) g.L.Sectors.gives
    g.D.Sectors.gives did.ensures.asked in
    alone_then g.L.Sectors.seen g.D.Sectors.seen run m.parts did.new.parts (seats_of m) _ c.args.seat t.answer
    did.result t.turn alone

pub serve_with-requires : goal.serve_with-requires
serve_with-requires g c =
    let m = c.args.self.now in let O = c.requires.on_run in
    let j = c.args.seat - c.len-users.result in
    subst (λ (z : Actor g.row.R.Denot). MayServeWith g.A.Sectors.seen m.parts m.archive z)
    (sym c.index_mut-else-seat-users.ensures.value)
    (other.may_serve_other m.users.items m.work m.others.items c.args.seat j (omega arith) (omega arith)
    (let in_seat = c.requires.seat in omega arith) g.L.Sectors.seen g.D.Sectors.seen g.A.Sectors.seen O.run m.parts
    O.runs c.archiver_may_append.ensures _ O.numbered m.archive O.beside)

pub returns-else-seat-users-clause-on_run : goal.returns-else-seat-users-clause-on_run
returns-else-seat-users-clause-on_run g c =
    let O = c.requires.on_run in
    let m = c.args.self.now in let d = c.index_mut-else-seat-users.result.now in let did = c.serve_with in
    let j = c.args.seat - c.len-users.result in let value = c.index_mut-else-seat-users.ensures.value in
    let served = subst (λ (z : Actor g.row.R.Denot). IsServedWith g.L.Sectors.seen g.D.Sectors.seen g.A.Sectors.seen
    g.A.Sectors.gives g.R.Receiver.stands_for O.run m.parts m.archive z did.result did.new.parts did.new.archive
    did.new.actor) value
    (did.ensures.served O.run) in
    let asked = subst (λ (z : Actor g.row.R.Denot). AskOfBoth g.L.Sectors.gives g.D.Sectors.gives (lent (view_of z))
    (next (view_of z)) m.parts did.new.parts) value did.ensures.asked in
    let t = other_takes g.L.Sectors.seen g.L.Sectors.gives g.D.Sectors.seen g.D.Sectors.gives g.R.Receiver.stands_for O.run
    m.parts did.new.parts m.users.items m.work m.others.items c.args.seat j d did.new.actor did.result (omega arith)
    (omega arith) (let in_seat = c.requires.seat in omega arith) served.served asked in
    record {
      run = O.run;
      runs = subst (λ (b : Bool). OwnRunsWith g.L.Sectors.seen g.D.Sectors.seen O.run b did.new.parts
          (record { users = m.users.items; work = m.work; others = views_of (set m.others.items j did.new.actor) }))
          (sym (other.some_stays g.L.Sectors.seen g.D.Sectors.seen g.A.Sectors.seen g.R.Receiver.stands_for O.run m.parts
          did.new.parts m.users.items m.work m.others.items c.args.seat j d did.new.actor did.result (omega arith) (omega arith)
          (let in_seat = c.requires.seat in omega arith) m.archive did.new.archive served did.ensures.pages))
          (runs_then g.L.Sectors.seen g.D.Sectors.seen O.run m.parts did.new.parts (seats_of m) _ c.args.seat t.answer
          did.result did.ensures.pages t.turn O.runs);
      beside = other.beside_other g.L.Sectors.seen g.D.Sectors.seen g.A.Sectors.seen g.R.Receiver.stands_for O.run m.parts
          did.new.parts m.users.items m.work m.others.items c.args.seat j d did.new.actor did.result (omega arith) (omega arith)
          (let in_seat = c.requires.seat in omega arith) m.archive did.new.archive served did.ensures.pages O.runs O.beside;
      numbered = other.numbered g.L.Sectors.seen g.D.Sectors.seen g.A.Sectors.seen g.R.Receiver.stands_for O.run m.parts
          did.new.parts m.users.items m.work m.others.items c.args.seat j d did.new.actor did.result (omega arith) (omega arith)
          (let in_seat = c.requires.seat in omega arith) m.archive did.new.archive served did.ensures.pages O.numbered;
    }

pub returns-else-seat-users-clause-turn : goal.returns-else-seat-users-clause-turn
returns-else-seat-users-clause-turn g c = λ run archive R.
    let m = c.args.self.now in let d = c.index_mut-else-seat-users.result.now in let did = c.serve_with in
    let j = c.args.seat - c.len-users.result in let value = c.index_mut-else-seat-users.ensures.value in
    let served = subst (λ (z : Actor g.row.R.Denot). IsServedWith g.L.Sectors.seen g.D.Sectors.seen g.A.Sectors.seen
    g.A.Sectors.gives g.R.Receiver.stands_for run m.parts m.archive z did.result did.new.parts did.new.archive
    did.new.actor) value
    (did.ensures.served run) in
    let asked = subst (λ (z : Actor g.row.R.Denot). AskOfBoth g.L.Sectors.gives g.D.Sectors.gives (lent (view_of z))
    (next (view_of z)) m.parts did.new.parts) value did.ensures.asked in
    let t = other_takes g.L.Sectors.seen g.L.Sectors.gives g.D.Sectors.seen g.D.Sectors.gives g.R.Receiver.stands_for run
    m.parts did.new.parts m.users.items m.work m.others.items c.args.seat j d did.new.actor did.result (omega arith)
    (omega arith) (let in_seat = c.requires.seat in omega arith) served.served asked in (
      t,
      runs_then g.L.Sectors.seen g.D.Sectors.seen run m.parts did.new.parts (seats_of m) _ c.args.seat t.answer
          did.result did.ensures.pages t.turn R,
    )

pub returns-else-seat-users-clause-from : goal.returns-else-seat-users-clause-from
returns-else-seat-users-clause-from g c = λ run archive starts before F.
    let m = c.args.self.now in let d = c.index_mut-else-seat-users.result.now in let did = c.serve_with in
    let j = c.args.seat - c.len-users.result in let value = c.index_mut-else-seat-users.ensures.value in
    let served = subst (λ (z : Actor g.row.R.Denot). IsServedWith g.L.Sectors.seen g.D.Sectors.seen g.A.Sectors.seen
    g.A.Sectors.gives g.R.Receiver.stands_for run m.parts m.archive z did.result did.new.parts did.new.archive
    did.new.actor) value
    (did.ensures.served run) in
    let asked = subst (λ (z : Actor g.row.R.Denot). AskOfBoth g.L.Sectors.gives g.D.Sectors.gives (lent (view_of z))
    (next (view_of z)) m.parts did.new.parts) value did.ensures.asked in
    let t = other_takes g.L.Sectors.seen g.L.Sectors.gives g.D.Sectors.seen g.D.Sectors.gives g.R.Receiver.stands_for run
    m.parts did.new.parts m.users.items m.work m.others.items c.args.seat j d did.new.actor did.result (omega arith)
    (omega arith) (let in_seat = c.requires.seat in omega arith) served.served asked in
    let C = other.come_other g.L.Sectors.seen g.D.Sectors.seen g.A.Sectors.seen g.R.Receiver.stands_for run m.parts
    did.new.parts m.users.items m.work m.others.items c.args.seat j d did.new.actor did.result (omega arith) (omega arith)
    (let in_seat = c.requires.seat in omega arith) m.archive did.new.archive served did.ensures.pages archive starts before
    (F.from, F.come) in
    record {
      from = C.0;
      errands = (runs_then g.L.Sectors.seen g.D.Sectors.seen run m.parts did.new.parts (seats_of m) _ c.args.seat t.answer
          did.result did.ensures.pages t.turn (user.runs_there g.L.Sectors.seen g.D.Sectors.seen g.A.Sectors.seen
          g.R.Receiver.stands_for run archive starts before m F)).errands;
      come = C.1;
    }

pub returns-else-seat-users-clause-cause : goal.returns-else-seat-users-clause-cause
returns-else-seat-users-clause-cause g c = λ run archive code R failed.
    let m = c.args.self.now in let d = c.index_mut-else-seat-users.result.now in let did = c.serve_with in
    let j = c.args.seat - c.len-users.result in let value = c.index_mut-else-seat-users.ensures.value in
    let served = subst (λ (z : Actor g.row.R.Denot). IsServedWith g.L.Sectors.seen g.D.Sectors.seen g.A.Sectors.seen
    g.A.Sectors.gives g.R.Receiver.stands_for run m.parts m.archive z did.result did.new.parts did.new.archive
    did.new.actor) value
    (did.ensures.served run) in
    let asked = subst (λ (z : Actor g.row.R.Denot). AskOfBoth g.L.Sectors.gives g.D.Sectors.gives (lent (view_of z))
    (next (view_of z)) m.parts did.new.parts) value did.ensures.asked in
    let t = other_takes g.L.Sectors.seen g.L.Sectors.gives g.D.Sectors.seen g.D.Sectors.gives g.R.Receiver.stands_for run
    m.parts did.new.parts m.users.items m.work m.others.items c.args.seat j d did.new.actor did.result (omega arith)
    (omega arith) (let in_seat = c.requires.seat in omega arith) served.served asked in
    cause_then g.L.Sectors.seen g.D.Sectors.seen run m.parts did.new.parts (seats_of m) _ c.args.seat t.answer
    did.result did.ensures.pages t.turn R code failed

pub returns-else-seat-users-clause-alone : goal.returns-else-seat-users-clause-alone
returns-else-seat-users-clause-alone g c = λ run alone.
    let m = c.args.self.now in let d = c.index_mut-else-seat-users.result.now in let did = c.serve_with in
    let j = c.args.seat - c.len-users.result in let value = c.index_mut-else-seat-users.ensures.value in
    let served = subst (λ (z : Actor g.row.R.Denot). IsServedWith g.L.Sectors.seen g.D.Sectors.seen g.A.Sectors.seen
    g.A.Sectors.gives g.R.Receiver.stands_for run m.parts m.archive z did.result did.new.parts did.new.archive
    did.new.actor) value
    (did.ensures.served run) in
    let asked = subst (λ (z : Actor g.row.R.Denot). AskOfBoth g.L.Sectors.gives g.D.Sectors.gives (lent (view_of z))
    (next (view_of z)) m.parts did.new.parts) value did.ensures.asked in
    let t = other_takes g.L.Sectors.seen g.L.Sectors.gives g.D.Sectors.seen g.D.Sectors.gives g.R.Receiver.stands_for run
    m.parts did.new.parts m.users.items m.work m.others.items c.args.seat j d did.new.actor did.result (omega arith)
    (omega arith) (let in_seat = c.requires.seat in omega arith) served.served asked in
    alone_then g.L.Sectors.seen g.D.Sectors.seen run m.parts did.new.parts (seats_of m) _ c.args.seat t.answer
    did.result t.turn alone
