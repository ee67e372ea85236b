-- The machine begins the run, its turns lead to the end, and what `finish` tells of that end is what the run comes to.
use Rattle.std.proofs.Common.{Option, length, subst, sym}
use Rattle.std.proofs.lemmas.Result.{err_from_is_err_and}
use Rattle.redo_archive.specs.Part.{Part}
use Rattle.redo_drive.proofs.LogCount.{log_within_script}
use Rattle.redo_drive.specs.{HaveArchived, plan_with, views_of}
use Rattle.redo_ownmachine.proofs.RunLeft.{OwnTurnsLead, archived, by_turns, followed, owes}
use Rattle.redo_ownmachine.proofs.drive.run_own_by_turns.Given as given
use Rattle.redo_ownmachine.proofs.drive.run_own_by_turns.Goals as goal
use Rattle.redo_ownmachine.proofs.Starts.{for_all, from_start, has_still_room, no_entries}
use Rattle.std.specs.Prelude.{is_some}

pub run-ended-requires : goal.run-ended-requires
run-ended-requires g c = c.in_ok-machine.ensures.on_run

pub finish-closed-requires-clause-on_run : goal.finish-closed-requires-clause-on_run
finish-closed-requires-clause-on_run g c = c.run-ended.ensures.on_run

pub finish-closed-requires-clause-room : goal.finish-closed-requires-clause-room
finish-closed-requires-clause-room g c = has_still_room c.in_ok-machine.machine c.run-ended.new.self
    c.in_ok-machine.ensures.begins.has_room c.run-ended.ensures.seats

leads : (g : given.Over) (c : goal.After-finish-closed g)
    → OwnTurnsLead g.L.Sectors.seen g.L.Sectors.gives g.D.Sectors.seen g.D.Sectors.gives g.A.Sectors.seen
    g.A.Sectors.gives
    g.R.Receiver.stands_for c.args.opened c.args.script.now c.args.turns.now c.args.archive c.args.followers.items
    c.finish-closed.result.1.items (record { ended = c.run-ended.result; closed = c.finish-closed.result.0 })
leads g c =
    let B = c.in_ok-machine.ensures.begins in
    let comes = c.run-ended.ensures.from B.begins.run (is_some c.args.archive) B.start.actors.items c.args.archive
    (from_start g.L.Sectors.seen g.D.Sectors.seen g.A.Sectors.seen g.A.Sectors.gives g.R.Receiver.stands_for
    c.args.opened
    c.args.script.now c.args.turns.now.log_only c.args.archive c.args.followers.items c.in_ok-machine.machine B
    c.requires.may c.requires.archive c.in_ok-machine.ensures.archive) in
    let R = comes.from.runs in
    let within = log_within_script B.begins.run.setup c.args.script.now c.args.opened.shape R.running.shared.sn
    R.running.log_ghost.log R.running.log_ghost.place R.running.both.logged.global.tiled B.begins.is_run.of_script in
    let empty = no_entries g.L.Sectors.seen g.D.Sectors.seen g.R.Receiver.stands_for c.args.opened c.args.script.now
    (plan_with c.args.turns.now.log_only c.args.archive c.args.followers.items) c.args.followers.items
    c.in_ok-machine.machine
    c.run-ended.new.self B c.run-ended.ensures.seats in
    let room = for_all g.L.Sectors.seen g.D.Sectors.seen g.R.Receiver.stands_for c.args.opened c.args.script.now
    (plan_with c.args.turns.now.log_only c.args.archive c.args.followers.items) c.args.followers.items
    c.in_ok-machine.machine
    c.run-ended.new.self B c.run-ended.ensures.seats (length R.running.log_ghost.log) within in
    record {
      first = c.in_ok-machine.machine;
      start = B;
      last = c.run-ended.new.self;
      actors_are = c.finish-closed.ensures.kept.0;
      comes = comes;
      lost = c.finish-closed.ensures.kept.2;
      ends = c.run-ended.ensures.ends B.begins.run (is_some c.args.archive) B.runs;
      calls = c.run-ended.ensures.calls;
      log = c.finish-closed.ensures.parts.0;
      data_part = c.finish-closed.ensures.parts.1;
      marks = c.finish-closed.ensures.marks;
      code = c.finish-closed.ensures.code;
      history = c.finish-closed.ensures.history B.begins.run (is_some c.args.archive) R
          B.begins.is_run.live_is empty room;
      listed = c.finish-closed.ensures.listed B.begins.run (is_some c.args.archive) R
          B.begins.is_run.live_is empty room;
    }

pub returns-in_err-machine : goal.returns-in_err-machine
returns-in_err-machine g c =
    let p = err_from_is_err_and c.from_residual.result c.from_residual.ensures.1 in
    record {
      err = rw (p.1, p.2) c.in_err-machine.ensures.err;
      owed = rw (p.1) tt;
      turns = rw (p.1) tt;
      followed = rw (p.1) tt;
      archived = rw (p.1) tt;
    }

pub returns-clause-owed : goal.returns-clause-owed
returns-clause-owed g c = owes g.L.Sectors.seen g.L.Sectors.gives g.D.Sectors.seen g.D.Sectors.gives g.A.Sectors.seen
    g.R.Receiver.stands_for c.args.opened c.args.script.now c.args.turns.now c.args.archive c.args.followers.items
    c.finish-closed.result.1.items _ (leads g c) c.requires.may

pub returns-clause-turns : goal.returns-clause-turns
returns-clause-turns g c = by_turns g.L.Sectors.seen g.L.Sectors.gives g.D.Sectors.seen g.D.Sectors.gives
    g.A.Sectors.seen g.R.Receiver.stands_for c.args.opened c.args.script.now c.args.turns.now c.args.archive
    c.args.followers.items c.finish-closed.result.1.items _ (leads g c)

pub returns-clause-followed : goal.returns-clause-followed
returns-clause-followed g c = followed g.L.Sectors.seen g.L.Sectors.gives g.D.Sectors.seen g.D.Sectors.gives
    g.A.Sectors.seen g.R.Receiver.stands_for c.args.opened c.args.script.now c.args.turns.now c.args.archive
    c.args.followers.items c.finish-closed.result.1.items _ (leads g c) c.requires.new

pub returns-clause-archived : goal.returns-clause-archived
unfolding leads
returns-clause-archived g c =
    subst (λ (a : Option (Part g.row.A.Denot)). HaveArchived g.L.Sectors.seen g.D.Sectors.seen g.A.Sectors.seen
    g.A.Sectors.gives c.args.opened c.args.script.now c.finish-closed.result.0 (views_of c.finish-closed.result.1.items)
    c.args.archive a)
    (sym c.finish-closed.ensures.kept.1)
    (archived g.L.Sectors.seen g.L.Sectors.gives g.D.Sectors.seen g.D.Sectors.gives g.A.Sectors.seen
    g.R.Receiver.stands_for c.args.opened c.args.script.now c.args.turns.now c.args.archive c.args.followers.items
    c.finish-closed.result.1.items _ (leads g c))
