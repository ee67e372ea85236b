use Rattle.std.proofs.Common.{IfSome, Some, refl, subst, sym, ◌≡◌}
use lib.ListN.{get_elem?}
use mathlib.Core.Option.{some}
use Rattle.redo_archive.specs.Part.{Part}
use Rattle.redo_rule.specs.declared.law.About.{About}
use Rattle.redo_threads.proofs.CrewArchive.{ends_with, may_work, stays}
use Rattle.redo_threads.proofs.Ending.{past}
use Rattle.redo_threads.proofs.Keeping.{as_many, has_place, keep_back, rest_seated}
use Rattle.redo_threads.proofs.Laid.{rest_laid, taken_laid}
use Rattle.redo_threads.proofs.Workers.{worker as sitting}
use Rattle.redo_threads.specs.Archiving.{AtItsEnd, LeavesArchive, MayBeArchived, WorksOn}
use Rattle.redo_threads.specs.Working.{AreAtEnd}
use Rattle.redo_threads.specs.declared.crew.Worker.{Worker}
use Rattle.redo_threads.proofs.run.play_crew.Goals as goal

pub take_out-seat-requires-clause-seated : goal.take_out-seat-requires-clause-seated
take_out-seat-requires-clause-seated g c =
    as_many g.F.Receiver.stands_for c.args.table.now.table_id c.args.crew.seats.items c.args.crew.players.items
    c.requires.seated

pub take_out-seat-requires-clause-there : goal.take_out-seat-requires-clause-there
take_out-seat-requires-clause-there g c =
    let p = c.archiver_at-place.ensures in
    past c.args.crew.players.items c.archiver_at-place.result p.0
    (subst (λ l. get_elem? l c.archiver_at-place.result ≡ some p.0) c.as_slice.ensures.value p.1)

pub play_all-played-requires-clause-seated : goal.play_all-played-requires-clause-seated
play_all-played-requires-clause-seated g c κs within =
    let w = c.take_out-seat.result in
    rest_seated g.F.Receiver.stands_for c.args.table.now.table_id c.args.crew c.take_out-seat.new.self
    c.archiver_at-place.result (sitting w.seat w.player) c.requires.seated c.take_out-seat.ensures

pub play_all-played-requires-clause-archiver : goal.play_all-played-requires-clause-archiver
play_all-played-requires-clause-archiver g c κs within =
    let x = c.args.crew in
    let w : Worker g.row.L.Denot g.row.D.Denot g.row.A.Denot g.row.F.Denot = record {
      seat = c.take_out-seat.result.seat;
      player = c.take_out-seat.result.player;
      archive = Some c.in-Some.part;
    } in
    let p = c.archiver_at-place.ensures in
    may_work g.F.Receiver.stands_for c.args.table.now.table_id g.A.Sectors.seen g.A.Sectors.gives x
    c.take_out-seat.new.self c.archiver_at-place.result w c.requires.seated c.take_out-seat.ensures
    (as_many g.F.Receiver.stands_for c.args.table.now.table_id x.seats.items x.players.items c.requires.seated)
    c.in-Some.part refl p.0
    (subst (λ l. get_elem? l c.archiver_at-place.result ≡ some p.0) c.as_slice.ensures.value p.1) p.2
    (subst (λ a. IfSome a (λ part. (about : About g.row.L.Denot g.row.D.Denot) × (before : Part g.row.A.Denot)
    × MayBeArchived g.A.Sectors.seen g.A.Sectors.gives about before x part)) c.in-Some.is c.requires.archive)

pub put_back-requires : goal.put_back-requires
put_back-requires g c =
    let w = c.take_out-seat.result in
    has_place g.F.Receiver.stands_for c.args.table.now.table_id c.args.crew c.take_out-seat.new.self
    c.archiver_at-place.result (sitting w.seat w.player) c.requires.seated c.take_out-seat.ensures
    c.play_all-played.result.0 c.play_all-played.ensures.goes_on

pub returns-clause-goes_on : goal.returns-clause-goes_on
returns-clause-goes_on g c =
    let w : Worker g.row.L.Denot g.row.D.Denot g.row.A.Denot g.row.F.Denot = record {
      seat = c.take_out-seat.result.seat;
      player = c.take_out-seat.result.player;
      archive = Some c.in-Some.part;
    } in
    let v = c.in-Some-archiver.worker in
    let on = subst (WorksOn g.A.Sectors.seen g.A.Sectors.gives g.F.Receiver.stands_for c.args.table.now.table_id
    (Some w)) c.in-Some-archiver.is c.play_all-played.ensures.archiver in
    keep_back g.F.Receiver.stands_for c.args.table.now.table_id c.args.crew c.take_out-seat.new.self
    c.archiver_at-place.result (sitting w.seat w.player) c.requires.seated c.take_out-seat.ensures
    c.play_all-played.result.0 c.put_back.new.self (sitting v.seat v.player) c.play_all-played.ensures.goes_on
    on.player c.put_back.ensures

pub returns-clause-at_end : goal.returns-clause-at_end
returns-clause-at_end g c =
    let v = c.in-Some-archiver.worker in
    subst (λ l. AreAtEnd l) (sym c.put_back.ensures.players)
    (ends_with c.play_all-played.result.0.players.items c.archiver_at-place.result v.player c.play_all-played.ensures.at_end
    (subst (λ w. AtItsEnd w) c.in-Some-archiver.is c.play_all-played.ensures.its_end))

pub returns-clause-archive : goal.returns-clause-archive
returns-clause-archive g c =
    let x = c.args.crew in
    let w : Worker g.row.L.Denot g.row.D.Denot g.row.A.Denot g.row.F.Denot = record {
      seat = c.take_out-seat.result.seat;
      player = c.take_out-seat.result.player;
      archive = Some c.in-Some.part;
    } in
    let v = c.in-Some-archiver.worker in
    let z = c.put_back.new.self in
    let p = c.archiver_at-place.ensures in
    let on = subst (WorksOn g.A.Sectors.seen g.A.Sectors.gives g.F.Receiver.stands_for c.args.table.now.table_id
    (Some w)) c.in-Some-archiver.is c.play_all-played.ensures.archiver in
    subst (λ a. LeavesArchive g.A.Sectors.seen g.A.Sectors.gives x a z v.archive) (sym c.in-Some.is)
    (stays g.F.Receiver.stands_for c.args.table.now.table_id g.A.Sectors.seen g.A.Sectors.gives x
    c.take_out-seat.new.self c.archiver_at-place.result w c.requires.seated c.take_out-seat.ensures
    (as_many g.F.Receiver.stands_for c.args.table.now.table_id x.seats.items x.players.items c.requires.seated)
    c.in-Some.part refl p.0
    (subst (λ l. get_elem? l c.archiver_at-place.result ≡ some p.0) c.as_slice.ensures.value p.1) p.2
    c.play_all-played.result.0 z v c.play_all-played.ensures.goes_on on c.put_back.ensures)

pub play_all-played-requires-clause-laid : goal.play_all-played-requires-clause-laid
play_all-played-requires-clause-laid g c κs within =
    let w = c.take_out-seat.result in
    rest_laid g.F.Receiver.stands_for c.args.table.now.table_id c.args.layout c.args.crew c.take_out-seat.new.self
    c.archiver_at-place.result (sitting w.seat w.player) c.requires.seated c.requires.laid c.take_out-seat.ensures

pub play_all-played-requires-clause-its : goal.play_all-played-requires-clause-its
play_all-played-requires-clause-its g c κs within =
    let w = c.take_out-seat.result in
    taken_laid g.F.Receiver.stands_for c.args.table.now.table_id c.args.layout c.args.crew c.take_out-seat.new.self
    c.archiver_at-place.result (sitting w.seat w.player) c.requires.seated c.requires.laid c.take_out-seat.ensures
