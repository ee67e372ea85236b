-- The machine begins the run, its turns lead to the end, and what `finish` tells of that end is what the run comes to.
use Rattle.std.proofs.Common.{Global, List, Option, Vec, arith, false, is_some, length, refl, subst, sym, vec_capacity, ◌≤◌}
use Rattle.model_report.specs.declared.entry.Entry.{Entry}
use Rattle.std.proofs.lemmas.Result.{err_from_is_err_and}
use Rattle.redo_archive.specs.Part.{Part}
use Rattle.redo_drive.proofs.LogCount.{log_within_script}
use Rattle.redo_drive.specs.{HasComeTo, HaveArchived, plan_with, views_of}
use Rattle.redo_drive.specs.Followed.{HaveFollowed}
use Rattle.redo_drive.specs.declared.actor.Actor.{Actor}
use Rattle.redo_drive.specs.declared.drive.Driven.{Driven}
use Rattle.redo_machine.proofs.ArchiveStarts.{comes}
use Rattle.redo_machine.proofs.RunLeft.{TurnsLead, archived, by_turns, followed, owes}
use Rattle.redo_machine.specs.Reading.{ComesFrom}
use Rattle.redo_machine.specs.ByTurns.{RunsByTurns}
use Rattle.redo_machine.proofs.drive.run_by_turns.Given as given
use Rattle.redo_machine.proofs.drive.run_by_turns.Goals as goal

pub run-ended-requires : goal.run-ended-requires
run-ended-requires g c = c.in_ok-machine.ensures.on_run

pub finish-closed-requires : goal.finish-closed-requires
finish-closed-requires g c = let O = c.run-ended.ensures.on_run in
    record { run = O.run; archive = is_some c.run-ended.new.self.archive; runs = O.runs }

-- the archive comes to the end with the run
came : (g : given.Over) (c : goal.After-finish-closed g)
    → (let B = c.in_ok-machine.ensures.begins in
    ComesFrom g.L.Sectors.seen g.D.Sectors.seen g.A.Sectors.seen g.A.Sectors.gives g.R.Receiver.stands_for B.run
    (is_some c.args.archive) c.in_ok-machine.machine.actors.items c.args.archive c.run-ended.new.self)
came g c =
    let B = c.in_ok-machine.ensures.begins in
    c.run-ended.ensures.from B.run (is_some c.args.archive) c.in_ok-machine.machine.actors.items c.args.archive (record {
      from = B.from;
      come = subst (λ (a : Option (Part g.row.A.Denot)). HasComeTo g.L.Sectors.seen g.D.Sectors.seen g.A.Sectors.seen
          g.A.Sectors.gives B.run c.in_ok-machine.machine.parts (views_of c.in_ok-machine.machine.actors.items)
          B.from.runs c.args.archive a)
          (sym c.in_ok-machine.ensures.archive)
          (comes g.L.Sectors.seen g.D.Sectors.seen g.A.Sectors.seen g.R.Receiver.stands_for c.args.opened c.args.script.now
          (plan_with c.args.turns.now.log_only c.args.archive c.args.followers.items) c.args.followers.items _ B
          c.requires.may g.A.Sectors.gives
          c.args.archive refl c.requires.archive);
    })

leads : (g : given.Over) (c : goal.After-finish-closed g)
    → TurnsLead g.L.Sectors.seen g.L.Sectors.gives g.D.Sectors.seen g.D.Sectors.gives g.A.Sectors.seen g.A.Sectors.gives
    g.R.Receiver.stands_for c.args.opened c.args.script.now c.args.turns.now c.args.archive
    c.args.followers.items c.run-ended.new.self.actors.items
    (record { ended = c.run-ended.result; closed = c.finish-closed.result.0 }) c.run-ended.new.self.archive
leads g c =
    let B = c.in_ok-machine.ensures.begins in
    let end = came g c in
    let R = end.from.runs in
    let E = c.run-ended.ensures.ends B.run (is_some c.args.archive) B.from.runs in
    let within = log_within_script B.run.setup c.args.script.now c.args.opened.shape R.running.shared.sn
    R.running.log_ghost.log R.running.log_ghost.place R.running.both.logged.global.tiled B.is_run.of_script in
    let room = subst (λ (entries : Vec Entry Global). length R.running.log_ghost.log ≤ vec_capacity entries)
    (sym c.run-ended.ensures.entries) (omega arith) in
    record {
      first = record {
        parts = c.in_ok-machine.machine.parts;
        actors = c.in_ok-machine.machine.actors;
        entries = c.in_ok-machine.machine.entries;
      };
      begins = B;
      last = c.run-ended.new.self.parts;
      from = end.from;
      come = end.come;
      lost = c.finish-closed.ensures.kept.2;
      ends = E;
      calls = c.run-ended.ensures.calls;
      log = c.finish-closed.ensures.parts.0;
      data_part = c.finish-closed.ensures.parts.1;
      marks = c.finish-closed.ensures.marks;
      code = c.finish-closed.ensures.code;
      history = c.finish-closed.ensures.history B.run (is_some c.args.archive) R B.is_run.live_is
          (rw c.run-ended.ensures.entries B.no_entries) room;
      listed = c.finish-closed.ensures.listed B.run (is_some c.args.archive) R B.is_run.live_is
          (rw c.run-ended.ensures.entries B.no_entries) room;
    }

pub returns-in_err-machine : goal.returns-in_err-machine
returns-in_err-machine g c =
    let p = err_from_is_err_and c.from_residual.result c.from_residual.ensures.1 in
    record {
      err = rw (p.1, p.2) c.in_err-machine.ensures.err;
      owed = rw (p.1) tt;
      turns = rw (p.1) tt;
      followed = rw (p.1) tt;
      archived = rw (p.1) tt;
    }

pub returns-clause-owed : goal.returns-clause-owed
returns-clause-owed g c = owes g.L.Sectors.seen g.L.Sectors.gives g.D.Sectors.seen g.D.Sectors.gives g.A.Sectors.seen
    g.R.Receiver.stands_for c.args.opened c.args.script.now
    c.args.turns.now c.args.archive c.args.followers.items c.run-ended.new.self.actors.items _
    c.run-ended.new.self.archive (leads g c) c.requires.may

pub returns-clause-turns : goal.returns-clause-turns
returns-clause-turns g c =
    let driven : Driven g.row.L.Denot g.row.D.Denot =
    record { ended = c.run-ended.result; closed = c.finish-closed.result.0 } in
    subst (λ (actors : List (Actor g.row.R.Denot)). RunsByTurns g.L.Sectors.seen g.L.Sectors.gives g.D.Sectors.seen
    g.D.Sectors.gives false c.args.opened c.args.script.now c.args.turns.now
    (plan_with c.args.turns.now.log_only c.args.archive c.args.followers.items) (views_of actors) driven)
    (sym c.finish-closed.ensures.kept.0)
    (by_turns g.L.Sectors.seen g.L.Sectors.gives g.D.Sectors.seen g.D.Sectors.gives g.A.Sectors.seen
    g.R.Receiver.stands_for c.args.opened c.args.script.now
    c.args.turns.now c.args.archive c.args.followers.items c.run-ended.new.self.actors.items driven
    c.run-ended.new.self.archive (leads g c) c.requires.may)

pub returns-clause-followed : goal.returns-clause-followed
returns-clause-followed g c =
    subst (λ (actors : List (Actor g.row.R.Denot)). HaveFollowed g.L.Sectors.seen g.D.Sectors.seen
    g.R.Receiver.stands_for c.args.opened
    c.args.script.now c.args.followers.items actors c.finish-closed.result.0) (sym c.finish-closed.ensures.kept.0)
    (followed g.L.Sectors.seen g.L.Sectors.gives g.D.Sectors.seen g.D.Sectors.gives g.A.Sectors.seen
    g.R.Receiver.stands_for c.args.opened c.args.script.now
    c.args.turns.now c.args.archive c.args.followers.items c.run-ended.new.self.actors.items _
    c.run-ended.new.self.archive (leads g c) c.requires.new)

pub returns-clause-archived : goal.returns-clause-archived
returns-clause-archived g c =
    subst (λ (a : Option (Part g.row.A.Denot)). HaveArchived g.L.Sectors.seen g.D.Sectors.seen g.A.Sectors.seen
    g.A.Sectors.gives c.args.opened c.args.script.now c.finish-closed.result.0 (views_of c.finish-closed.result.1.items)
    c.args.archive a)
    (sym c.finish-closed.ensures.kept.1)
    (subst (λ (actors : List (Actor g.row.R.Denot)). HaveArchived g.L.Sectors.seen g.D.Sectors.seen g.A.Sectors.seen
    g.A.Sectors.gives c.args.opened c.args.script.now c.finish-closed.result.0 (views_of actors) c.args.archive
    c.run-ended.new.self.archive)
    (sym c.finish-closed.ensures.kept.0) (archived g.L.Sectors.seen g.L.Sectors.gives g.D.Sectors.seen g.D.Sectors.gives g.A.Sectors.seen
    g.R.Receiver.stands_for c.args.opened c.args.script.now
    c.args.turns.now c.args.archive c.args.followers.items c.run-ended.new.self.actors.items _
    c.run-ended.new.self.archive (leads g c)))
