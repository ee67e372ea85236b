use Rattle.std.proofs.Common.{Bool, set, subst, sym}
use Rattle.model_core.specs.{lsn}
use Rattle.model_logcore.specs.LogLaws.{LogLaws}
use Rattle.model_pagecore.specs.DataLaws.{DataLaws}
use Rattle.redo_drive.proofs.DataPartLaws.{data_laws}
use Rattle.redo_drive.proofs.LogPartLaws.{log_laws}
use Rattle.redo_drive.proofs.TurnsOf.{runs_from, runs_on, takes_turn}
use Rattle.redo_drive.proofs.Viewed.{own_at}
use Rattle.redo_drive.specs.DataPartSide as data_part
use Rattle.redo_drive.specs.LogPartSide as log_part
use Rattle.redo_drive.specs.{RunOf, run_data_side, run_log_side, RunsWith, views_of}
use Rattle.redo_drive.specs.declared.actor.Actor.{Actor}
use Rattle.redo_machine.proofs.Beside.{serves_with}
use Rattle.redo_machine.proofs.TurnBeside as beside
use Rattle.redo_machine.proofs.machine.Machine.turn.Given as given
use Rattle.redo_machine.proofs.machine.Machine.turn.Goals as goal
use Rattle.redo_machine.specs.Reading.{IsServedWith, MayServeWith}

-- both parts keep the laws by which the running store speaks of them
its_log_laws : (g : given.Over) (run : RunOf g.row.L.Denot g.row.D.Denot) → LogLaws
    (run_log_side g.L.Sectors.seen g.D.Sectors.seen run)
its_log_laws g run = log_laws g.L.Sectors.seen (g.L.Sectors.seen run.first_log.dev).faults run.first_log.marks.number
    (log_part.HasBegun g.L.Sectors.seen (lsn run.setup.base) run.first_log)

its_data_laws : (g : given.Over) (run : RunOf g.row.L.Denot g.row.D.Denot) → DataLaws
    (run_data_side g.L.Sectors.seen g.D.Sectors.seen run)
its_data_laws g run = data_laws g.D.Sectors.seen (g.D.Sectors.seen run.first_data.dev).faults run.shape
    (data_part.HasBegun g.D.Sectors.seen run.setup.opened run.first_data)

pub serve_with-requires : goal.serve_with-requires
serve_with-requires g c =
    let O = c.requires.on_run in
    let parts = c.args.self.now.parts in
    let actors = c.args.self.now.actors.items in
    subst (λ (z : Actor g.row.R.Denot). MayServeWith g.A.Sectors.seen parts c.args.self.now.archive z)
    (sym c.index_mut.ensures.value)
    (serves_with g.L.Sectors.seen g.D.Sectors.seen g.A.Sectors.seen O.run parts actors O.runs (its_log_laws g O.run)
    (its_data_laws g O.run) c.archiver_may_append.ensures c.args.seat _
    (own_at actors c.args.seat _ c.requires.seat) O.numbered c.args.self.now.archive O.beside)

pub returns-clause-on_run : goal.returns-clause-on_run
returns-clause-on_run g c =
    let O = c.requires.on_run in
    let old = c.args.self.now.parts in
    let actors = c.args.self.now.actors.items in
    let served = subst
    (λ (z : Actor g.row.R.Denot). IsServedWith g.L.Sectors.seen g.D.Sectors.seen g.A.Sectors.seen g.A.Sectors.gives
    g.R.Receiver.stands_for O.run old c.args.self.now.archive z c.serve_with.result c.serve_with.new.parts
    c.serve_with.new.archive
    c.serve_with.new.actor) c.index_mut.ensures.value (c.serve_with.ensures.served O.run) in
    record {
      run = O.run;
      runs = subst (λ (b : Bool). RunsWith g.L.Sectors.seen g.D.Sectors.seen O.run b c.serve_with.new.parts
          (views_of (set actors c.args.seat c.serve_with.new.actor)))
          (sym (beside.some_stays g.L.Sectors.seen g.D.Sectors.seen g.A.Sectors.seen g.R.Receiver.stands_for O.run old
          c.serve_with.new.parts actors c.args.seat c.index_mut.result.now c.serve_with.new.actor c.serve_with.result
          c.requires.seat c.args.self.now.archive c.serve_with.new.archive served (its_log_laws g O.run)
          (its_data_laws g O.run) c.serve_with.ensures.pages))
          (runs_on g.L.Sectors.seen g.D.Sectors.seen g.R.Receiver.stands_for O.run old c.serve_with.new.parts actors
          c.args.seat c.index_mut.result.now c.serve_with.new.actor c.serve_with.result c.requires.seat served.served
          (its_log_laws g O.run) (its_data_laws g O.run) c.serve_with.ensures.pages O.runs);
      beside = beside.beside_then g.L.Sectors.seen g.D.Sectors.seen g.A.Sectors.seen g.R.Receiver.stands_for O.run old
          c.serve_with.new.parts actors c.args.seat c.index_mut.result.now c.serve_with.new.actor c.serve_with.result
          c.requires.seat c.args.self.now.archive c.serve_with.new.archive served (its_log_laws g O.run)
          (its_data_laws g O.run) c.serve_with.ensures.pages O.runs O.beside;
      numbered = beside.numbered g.L.Sectors.seen g.D.Sectors.seen g.A.Sectors.seen g.R.Receiver.stands_for O.run old
          c.serve_with.new.parts actors c.args.seat c.index_mut.result.now c.serve_with.new.actor c.serve_with.result
          c.requires.seat c.args.self.now.archive c.serve_with.new.archive served (its_log_laws g O.run)
          (its_data_laws g O.run) c.serve_with.ensures.pages O.numbered;
    }

pub returns-clause-turn : goal.returns-clause-turn
returns-clause-turn g c = λ run archive R.
    let served = subst
    (λ (z : Actor g.row.R.Denot). IsServedWith g.L.Sectors.seen g.D.Sectors.seen g.A.Sectors.seen g.A.Sectors.gives
    g.R.Receiver.stands_for run c.args.self.now.parts c.args.self.now.archive z c.serve_with.result
    c.serve_with.new.parts
    c.serve_with.new.archive c.serve_with.new.actor) c.index_mut.ensures.value (c.serve_with.ensures.served run) in
    let old = c.args.self.now.parts in let actors = c.args.self.now.actors.items in (
      takes_turn g.L.Sectors.seen g.D.Sectors.seen g.R.Receiver.stands_for run old c.serve_with.new.parts actors
          c.args.seat c.index_mut.result.now c.serve_with.new.actor c.serve_with.result c.requires.seat served.served,
      runs_on g.L.Sectors.seen g.D.Sectors.seen g.R.Receiver.stands_for run old c.serve_with.new.parts actors c.args.seat
          c.index_mut.result.now c.serve_with.new.actor c.serve_with.result c.requires.seat served.served
          (its_log_laws g run) (its_data_laws g run) c.serve_with.ensures.pages R,
    )

pub returns-clause-from : goal.returns-clause-from
returns-clause-from g c = λ run archive starts before F.
    let served = subst
    (λ (z : Actor g.row.R.Denot). IsServedWith g.L.Sectors.seen g.D.Sectors.seen g.A.Sectors.seen g.A.Sectors.gives
    g.R.Receiver.stands_for run c.args.self.now.parts c.args.self.now.archive z c.serve_with.result
    c.serve_with.new.parts
    c.serve_with.new.archive c.serve_with.new.actor) c.index_mut.ensures.value (c.serve_with.ensures.served run) in
    record {
      from = runs_from g.L.Sectors.seen g.D.Sectors.seen g.R.Receiver.stands_for run c.args.self.now.parts
          c.serve_with.new.parts c.args.self.now.actors.items c.args.seat c.index_mut.result.now c.serve_with.new.actor
          c.serve_with.result c.requires.seat served.served (its_log_laws g run) (its_data_laws g run)
          c.serve_with.ensures.pages starts F.from;
      come = beside.come_then g.L.Sectors.seen g.D.Sectors.seen g.A.Sectors.seen g.R.Receiver.stands_for run
          c.args.self.now.parts c.serve_with.new.parts c.args.self.now.actors.items c.args.seat c.index_mut.result.now
          c.serve_with.new.actor c.serve_with.result c.requires.seat c.args.self.now.archive c.serve_with.new.archive
          served (its_log_laws g run) (its_data_laws g run) c.serve_with.ensures.pages F.from.runs before F.come;
    }

pub returns-clause-cause : goal.returns-clause-cause
returns-clause-cause g c = λ run archive code R failed.
    let served = subst
    (λ (z : Actor g.row.R.Denot). IsServedWith g.L.Sectors.seen g.D.Sectors.seen g.A.Sectors.seen g.A.Sectors.gives
    g.R.Receiver.stands_for run c.args.self.now.parts c.args.self.now.archive z c.serve_with.result
    c.serve_with.new.parts
    c.serve_with.new.archive c.serve_with.new.actor) c.index_mut.ensures.value (c.serve_with.ensures.served run) in
    beside.met g.L.Sectors.seen g.D.Sectors.seen g.A.Sectors.seen g.R.Receiver.stands_for run
    c.args.self.now.parts c.serve_with.new.parts c.args.self.now.actors.items c.args.seat c.index_mut.result.now
    c.serve_with.new.actor c.serve_with.result c.requires.seat c.args.self.now.archive c.serve_with.new.archive
    served (its_log_laws g run) (its_data_laws g run) c.serve_with.ensures.pages R code failed
