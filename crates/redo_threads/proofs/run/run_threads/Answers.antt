use Rattle.std.proofs.Common.{None, Option, Some, ap, is_some, length, map, refl, subst, sym, ◌+◌, ◌∙◌, ◌≡◌}
use Rattle.std.specs.List.{AllZip}
use Rattle.model_core.specs.{IsSameActor}
use Rattle.redo_threads.proofs.ReadMarks.{reads_marks}
use Rattle.model_own.specs.{LogWork}
use Rattle.redo_ownrule.proofs.Crews.{crew_later, same_order}
use Rattle.redo_ownrule.specs.Leaving.{LeavesHeard}
use Rattle.redo_drive.specs.{views_of, IsNewArchive, HaveArchived}
use Rattle.redo_ownrule.specs.Players.{actor_of, AreInOrder, crew, workers}
use Rattle.redo_ownrule.specs.Sharing.{AreSeatsOf, opened_of, own_of, shared_script, table_of}
use Rattle.redo_rule.specs.Closing.{done_with, TellsLoss}
use Rattle.redo_rule.specs.Ruled.{starts_about}
use Rattle.redo_archive.specs.Part.{Part}
use Rattle.redo_rule.specs.Sharing.{AreFresh, AreLaidOut}
use Rattle.redo_rule.specs.declared.law.About.{About}
use Rattle.std.specs.Prelude.{IfSome}
use Rattle.redo_threads.proofs.ArchiveBegins.{may_be}
use Rattle.redo_threads.proofs.ArchiveRun.{leaves_archive, tells}
use Rattle.redo_threads.proofs.Ending.{all_rest, have_answered, have_ended}
use Rattle.redo_threads.proofs.Heard.{all_same, have_heard, in_order, seated}
use Rattle.redo_threads.proofs.Keeping.{keep_long}
use Rattle.redo_threads.specs.Archiving.{LeavesArchive, lost_of, MayBeArchived}
use Rattle.redo_threads.specs.Working.{AreSeated, KeepOn}
use Rattle.redo_threads.specs.declared.crew.Crew.{Crew}
use Rattle.redo_threads.proofs.run.run_threads.Goals.{After-drop-bells-20}
use Rattle.redo_threads.proofs.run.run_threads.Goals as goal

pub play_crew-crew-requires-clause-seated : goal.play_crew-crew-requires-clause-seated
play_crew-crew-requires-clause-seated g c κs within =
    let S = c.seats-seats.new.self in
    let x : Crew g.row.L.Denot g.row.D.Denot g.row.F.Denot = record { seats = c.seats-seats.result; players = c.args.players } in
    let at = subst (λ l. AreSeatsOf (table_of S) (own_of S) c.seats-seats.result.items l) c.as_slice-3.ensures.value
    c.seats-seats.ensures.seats in
    subst (λ s. AreSeated s.table_id c.seats-seats.result.items c.args.players.items) (sym c.ring.ensures)
    (seated g.F.Receiver.stands_for (table_of S) (own_of S) x at)

pub play_crew-crew-requires-clause-laid : goal.play_crew-crew-requires-clause-laid
play_crew-crew-requires-clause-laid g c κs within = subst (λ m. AreLaidOut m c.seats-seats.result.items)
    (sym c.layout-layout.ensures) c.seats-seats.ensures.layout.1

pub finish-closed-requires-clause-seats : goal.finish-closed-requires-clause-seats
finish-closed-requires-clause-seats g c =
    let S = c.seats-seats.new.self in
    let x : Crew g.row.L.Denot g.row.D.Denot g.row.F.Denot = record { seats = c.seats-seats.result; players = c.args.players } in
    let y = c.play_crew-crew.result.0 in
    let at = subst (λ l. AreSeatsOf (table_of S) (own_of S) c.seats-seats.result.items l) c.as_slice-3.ensures.value
    c.seats-seats.ensures.seats in
    let keep = subst (λ s. KeepOn g.F.Receiver.stands_for s.table_id x y) c.ring.ensures
    c.play_crew-crew.ensures.goes_on in
    in_order g.F.Receiver.stands_for (table_of S) x y at.count keep (own_of S) at

pub finish-closed-requires-clause-fixed : goal.finish-closed-requires-clause-fixed
finish-closed-requires-clause-fixed g c = ap (λ b. b.shared.key.live) c.seats-seats.ensures.same ∙ c.requires.fixed

pub finish-closed-requires-clause-order : goal.finish-closed-requires-clause-order
finish-closed-requires-clause-order g c =
    let S = c.seats-seats.new.self in
    let x : Crew g.row.L.Denot g.row.D.Denot g.row.F.Denot = record { seats = c.seats-seats.result; players = c.args.players } in
    let y = c.play_crew-crew.result.0 in
    let many = c.seats-seats.ensures.seats.count ∙ ap length c.as_slice-3.ensures.value in
    let order = subst (λ b. AreInOrder b.shared.key.own_writes c.args.players.items) (sym c.seats-seats.ensures.same)
    c.requires.unseated.order in
    same_order (own_of S) c.args.players.items y.players.items
    (all_same g.F.Receiver.stands_for c.ring.result.now.table_id x y many c.play_crew-crew.ensures.goes_on) order

pub finish-closed-requires-clause-all : goal.finish-closed-requires-clause-all
finish-closed-requires-clause-all g c =
    let S = c.seats-seats.new.self in
    let x : Crew g.row.L.Denot g.row.D.Denot g.row.F.Denot = record { seats = c.seats-seats.result; players = c.args.players } in
    let y = c.play_crew-crew.result.0 in
    let many = c.seats-seats.ensures.seats.count ∙ ap length c.as_slice-3.ensures.value in
    ap (λ n. n + workers (own_of S))
    (keep_long g.F.Receiver.stands_for c.ring.result.now.table_id x y many c.play_crew-crew.ensures.goes_on)
    ∙ subst (λ b. length c.args.players.items + workers b.shared.key.own_writes ≡ length (starts_about b.shared.key))
    (sym c.seats-seats.ensures.same) c.requires.unseated.count

pub finish-closed-requires-clause-rest : goal.finish-closed-requires-clause-rest
finish-closed-requires-clause-rest g c = all_rest c.play_crew-crew.result.0.players.items c.play_crew-crew.ensures.at_end

-- what the run leaves, with what its seats have heard
heard_so : (g : _) (c : After-drop-bells-20 g) (work : Option LogWork) → is_some work ≡ own_of c.args.shared
    → LeavesHeard g.L.Sectors.seen g.L.Sectors.gives g.D.Sectors.seen g.D.Sectors.gives g.F.Receiver.stands_for
    (opened_of c.args.shared) (shared_script c.args.shared) c.args.shared.board.shared.key.plan
    (crew work c.args.players.items)
    c.finish-closed.result.1.items c.play_crew-crew.result.0.seats.items c.finish-closed.result.0
heard_so g c work works =
    let x : Crew g.row.L.Denot g.row.D.Denot g.row.F.Denot = record { seats = c.seats-seats.result; players = c.args.players } in
    let y = c.play_crew-crew.result.0 in
    let starts = c.args.players.items in
    let table = c.ring.result.now.table_id in
    let many = c.seats-seats.ensures.seats.count ∙ ap length c.as_slice-3.ensures.value in
    let keep = c.play_crew-crew.ensures.goes_on in
    let same = c.seats-seats.ensures.same in
    let left = c.finish-closed.ensures.leaves work starts (works ∙ ap (λ b. b.shared.key.own_writes) (sym same))
    (all_same g.F.Receiver.stands_for table x y many keep)
    (have_heard g.F.Receiver.stands_for table x y many keep _ c.seats-seats.ensures.fresh) in
    subst (λ b. LeavesHeard g.L.Sectors.seen g.L.Sectors.gives g.D.Sectors.seen g.D.Sectors.gives
    g.F.Receiver.stands_for b.shared.key.opened.value b.shared.key.script.value b.shared.key.plan
    (crew work starts) c.finish-closed.result.1.items y.seats.items
    c.finish-closed.result.0) same left

pub returns-clause-leaves : goal.returns-clause-leaves
returns-clause-leaves g c work works = (heard_so g c work works).by

pub returns-clause-run : goal.returns-clause-run
returns-clause-run g c work works =
    let x : Crew g.row.L.Denot g.row.D.Denot g.row.F.Denot = record { seats = c.seats-seats.result; players = c.args.players } in
    let y = c.play_crew-crew.result.0 in
    let starts = c.args.players.items in
    let many = c.seats-seats.ensures.seats.count ∙ ap length c.as_slice-3.ensures.value in
    let key = c.args.shared.board.shared.key in
    let end = c.finish-closed.ensures.actors in
    let ended = have_ended end.work y.players.items c.finish-closed.result.1.items end.are c.play_crew-crew.ensures.at_end in
    let alike = works ∙ ap (λ b. b.shared.key.own_writes) (sym c.seats-seats.ensures.same) ∙ sym end.works in
    let same = all_same g.F.Receiver.stands_for c.ring.result.now.table_id x y many
    c.play_crew-crew.ensures.goes_on in
    record {
      each = subst (λ l. AllZip IsSameActor (views_of (crew work starts)) (views_of l)) (sym end.are)
          (crew_later work end.work alike starts y.players.items same);
      ended = ended;
      answered = have_answered g.L.Sectors.seen g.L.Sectors.gives g.D.Sectors.seen g.D.Sectors.gives
          g.F.Receiver.stands_for (opened_of c.args.shared) (shared_script c.args.shared) key.plan
          (crew work starts) c.finish-closed.result.1.items c.finish-closed.result.0 (returns-clause-leaves g c work works) ended;
      listed = c.finish-closed.ensures.listed;
    }

pub returns-clause-reads : goal.returns-clause-reads
returns-clause-reads g c kept =
    let key = c.args.shared.board.shared.key in
    let end = c.finish-closed.ensures.actors in
    let works = end.works ∙ ap (λ b. b.shared.key.own_writes) c.seats-seats.ensures.same in
    reads_marks g.L.Sectors.seen g.L.Sectors.gives g.D.Sectors.seen g.D.Sectors.gives g.F.Receiver.stands_for
    (opened_of c.args.shared) (shared_script c.args.shared) key.plan
    (crew end.work c.args.players.items) c.finish-closed.result.1.items (done_with c.finish-closed.result.0)
    (returns-clause-leaves g c end.work works) (c.requires.unseated.ready.may c.requires.fixed) kept
    c.finish-closed.ensures.rest

-- the archive as it begins, and what it has met
pub play_crew-crew-requires-clause-archive : goal.play_crew-crew-requires-clause-archive
play_crew-crew-requires-clause-archive g c κs within = by c.args.archive refl
  where
    x : Crew g.row.L.Denot g.row.D.Denot g.row.F.Denot
    x = record { seats = c.seats-seats.result; players = c.args.players }

    by : (a : Option (Part g.row.A.Denot)) → c.args.archive ≡ a
        → IfSome a (λ part. (about : About g.row.L.Denot g.row.D.Denot) × (before : Part g.row.A.Denot)
        × MayBeArchived g.A.Sectors.seen g.A.Sectors.gives about before x part)
    by None is = tt
    by (Some part) is = (
      c.args.shared.board.shared.key,
      part,
      may_be g.A.Sectors.seen c.args.shared c.args.players.items c.requires.readers
          c.requires.fixed g.A.Sectors.gives part
          (subst (λ a. IfSome a (IsNewArchive g.A.Sectors.seen (opened_of c.args.shared) (shared_script c.args.shared))) is
          c.requires.archive)
          (c.requires.unseated.ready.may c.requires.fixed) x refl
          (subst (λ b. AreFresh (Some b.shared.key) c.seats-seats.result.items) c.seats-seats.ensures.same
          c.seats-seats.ensures.fresh)
          (c.requires.is_archived ∙ ap is_some is),
    )

pub finish-closed-requires-clause-lost : goal.finish-closed-requires-clause-lost
finish-closed-requires-clause-lost g c =
    subst (λ b. TellsLoss b.shared.key.plan.archive (views_of (map actor_of y.players.items)) c.lost_by-lost.result)
    (sym c.seats-seats.ensures.same) (by c.args.archive refl)
  where
    x : Crew g.row.L.Denot g.row.D.Denot g.row.F.Denot
    x = record { seats = c.seats-seats.result; players = c.args.players }

    y : Crew g.row.L.Denot g.row.D.Denot g.row.F.Denot
    y = c.play_crew-crew.result.0

    by : (a : Option (Part g.row.A.Denot)) → c.args.archive ≡ a → TellsLoss c.args.shared.board.shared.key.plan.archive
        (views_of (map actor_of y.players.items)) c.lost_by-lost.result
    by None is =
        let gone : c.play_crew-crew.result.1 ≡ None =
        subst (λ a. LeavesArchive g.A.Sectors.seen g.A.Sectors.gives x a y c.play_crew-crew.result.1) is
        c.play_crew-crew.ensures.archive in
        subst (λ b. TellsLoss b (views_of (map actor_of y.players.items)) c.lost_by-lost.result)
        (sym (c.requires.is_archived ∙ ap is_some is))
        (c.lost_by-lost.ensures ∙ ap (λ (a : Option (Part g.row.A.Denot)). lost_of a) gone)
    by (Some part) is =
        tells g.A.Sectors.seen c.args.shared c.args.players.items c.requires.readers
        c.requires.fixed g.F.Receiver.stands_for
        c.ring.result.now.table_id x y refl (c.seats-seats.ensures.seats.count ∙ ap length c.as_slice-3.ensures.value)
        c.play_crew-crew.ensures.goes_on
        (subst (λ b. AreFresh (Some b.shared.key) c.seats-seats.result.items) c.seats-seats.ensures.same
        c.seats-seats.ensures.fresh) part
        (subst (λ a. IfSome a (IsNewArchive g.A.Sectors.seen (opened_of c.args.shared) (shared_script c.args.shared))) is
        c.requires.archive)
        (c.requires.unseated.ready.may c.requires.fixed) (c.requires.is_archived ∙ ap is_some is)
        c.play_crew-crew.result.1
        (subst (λ a. LeavesArchive g.A.Sectors.seen g.A.Sectors.gives x a y c.play_crew-crew.result.1) is
        c.play_crew-crew.ensures.archive) c.lost_by-lost.result c.lost_by-lost.ensures

pub returns-clause-archived : goal.returns-clause-archived
returns-clause-archived g c = by c.args.archive refl
  where
    x : Crew g.row.L.Denot g.row.D.Denot g.row.F.Denot
    x = record { seats = c.seats-seats.result; players = c.args.players }

    y : Crew g.row.L.Denot g.row.D.Denot g.row.F.Denot
    y = c.play_crew-crew.result.0

    Have : Option (Part g.row.A.Denot) → Option (Part g.row.A.Denot) → Type 0
    Have = HaveArchived g.L.Sectors.seen g.D.Sectors.seen g.A.Sectors.seen g.A.Sectors.gives (opened_of c.args.shared)
        (shared_script c.args.shared) c.finish-closed.result.0 (views_of c.finish-closed.result.1.items)

    told : c.finish-closed.result.0.lost ≡ lost_of c.play_crew-crew.result.1
    told = c.finish-closed.ensures.loses ∙ c.lost_by-lost.ensures

    by : (a : Option (Part g.row.A.Denot)) → c.args.archive ≡ a → Have c.args.archive c.play_crew-crew.result.1
    by None is =
        let gone : c.play_crew-crew.result.1 ≡ None =
        subst (λ a. LeavesArchive g.A.Sectors.seen g.A.Sectors.gives x a y c.play_crew-crew.result.1) is
        c.play_crew-crew.ensures.archive in
        subst (λ a. Have a c.play_crew-crew.result.1) (sym is)
        (subst (λ a. Have None a) (sym gone) (told ∙ ap (λ (a : Option (Part g.row.A.Denot)). lost_of a) gone))
    by (Some part) is =
        let end = c.finish-closed.ensures.actors in
        let works = end.works ∙ ap (λ b. b.shared.key.own_writes) c.seats-seats.ensures.same in
        subst (λ a. Have a c.play_crew-crew.result.1) (sym is)
        (leaves_archive g.A.Sectors.seen c.args.shared c.args.players.items c.requires.readers
        c.requires.fixed g.F.Receiver.stands_for
        c.ring.result.now.table_id x y refl (c.seats-seats.ensures.seats.count ∙ ap length c.as_slice-3.ensures.value)
        c.play_crew-crew.ensures.goes_on
        (subst (λ b. AreFresh (Some b.shared.key) c.seats-seats.result.items) c.seats-seats.ensures.same
        c.seats-seats.ensures.fresh) part
        (subst (λ a. IfSome a (IsNewArchive g.A.Sectors.seen (opened_of c.args.shared) (shared_script c.args.shared))) is
        c.requires.archive)
        (c.requires.unseated.ready.may c.requires.fixed) (c.requires.is_archived ∙ ap is_some is)
        c.play_crew-crew.result.1
        (subst (λ a. LeavesArchive g.A.Sectors.seen g.A.Sectors.gives x a y c.play_crew-crew.result.1) is
        c.play_crew-crew.ensures.archive)
        g.L.Sectors.seen g.L.Sectors.gives g.D.Sectors.seen g.D.Sectors.gives end.work works c.finish-closed.result.1.items
        end.are c.finish-closed.result.0 (heard_so g c end.work works) told)
