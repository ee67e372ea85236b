use Rattle.std.proofs.Common.{IfSome, ap, subst, sym, ◌∙◌}
use Rattle.redo_drive.specs.Begins.{EndsWithReaders}
use Rattle.redo_drive.specs.{AreNewFollowers, IsNewArchive, views_of}
use Rattle.redo_ownrule.specs.Players.{crew}
use Rattle.redo_ownrule.specs.Sharing.{opened_of, shared_script}
use Rattle.redo_rule.specs.Ruled.{starts_with}
use Rattle.redo_threads.proofs.Driving.{archived, followed, has_cause, owes, reads_so, runs_in_threads}
use Rattle.redo_threads.proofs.drive.drive_in_threads.Goals as goal

pub run_threads-closed-requires-clause-readers : goal.run_threads-closed-requires-clause-readers
run_threads-closed-requires-clause-readers g c κs within =
    let shared = c.in-Ok.made.0 in
    let new = c.in-Ok.ensures.new in
    record {
      followers = c.args.followers.items;
      new = subst (λ o. AreNewFollowers o.start c.args.followers.items) (sym new.opened_is) c.requires.new;
      many = new.followers_are;
      work = new.work;
      works = new.works ∙ sym new.own_is;
      actors_are = new.actors_are;
      readers = subst (λ b. EndsWithReaders (opened_of shared).start b (crew new.work c.in-Ok.made.1.items)
          c.args.followers.items) (sym (ap (λ p. p.archive) new.plan_is))
          (subst (λ o. EndsWithReaders o.start c.is_some.result (crew new.work c.in-Ok.made.1.items)
          c.args.followers.items) (sym new.opened_is) new.readers);
    }

pub run_threads-closed-requires-clause-archive : goal.run_threads-closed-requires-clause-archive
run_threads-closed-requires-clause-archive g c κs within =
    let shared = c.in-Ok.made.0 in
    let new = c.in-Ok.ensures.new in
    subst (λ o. IfSome c.args.archive (IsNewArchive g.A.Sectors.seen o (shared_script shared))) (sym new.opened_is)
    (subst (λ s. IfSome c.args.archive (IsNewArchive g.A.Sectors.seen c.args.opened s)) (sym new.script_is) c.requires.archive)

pub returns-clause-owed : goal.returns-clause-owed
returns-clause-owed g c =
    let shared = c.in-Ok.made.0 in
    let new = c.in-Ok.ensures.new in
    owes g.L.Sectors.seen g.L.Sectors.gives g.D.Sectors.seen g.D.Sectors.gives (opened_of shared) c.args.opened
    (shared_script shared) c.args.script.now c.run_threads-closed.result.0 new.opened_is new.script_is
    (views_of c.run_threads-closed.result.1.items) (c.run_threads-closed.ensures.run new.work (new.works ∙ sym new.own_is)).ended
    c.run_threads-closed.ensures.owed

pub returns-clause-says : goal.returns-clause-says
returns-clause-says g c =
    let shared = c.in-Ok.made.0 in
    let new = c.in-Ok.ensures.new in
    let key = shared.board.shared.key in
    runs_in_threads g.L.Sectors.seen g.L.Sectors.gives g.D.Sectors.seen g.D.Sectors.gives (opened_of shared)
    c.args.opened (shared_script shared) c.args.script.now c.run_threads-closed.result.0 new.opened_is new.script_is
    g.F.Receiver.stands_for key.plan _ new.plan_is (crew new.work c.in-Ok.made.1.items)
    c.run_threads-closed.result.1.items (c.run_threads-closed.ensures.leaves new.work (new.works ∙ sym new.own_is))
    (c.run_threads-closed.ensures.run new.work (new.works ∙ sym new.own_is))

pub returns-clause-reads : goal.returns-clause-reads
returns-clause-reads g c none =
    let shared = c.in-Ok.made.0 in
    let new = c.in-Ok.ensures.new in
    reads_so g.L.Sectors.seen g.L.Sectors.gives g.D.Sectors.seen g.D.Sectors.gives (opened_of shared) c.args.opened
    (shared_script shared) c.args.script.now c.run_threads-closed.result.0 new.opened_is new.script_is
    (c.run_threads-closed.ensures.reads none)

pub returns-clause-cause : goal.returns-clause-cause
returns-clause-cause g c =
    let shared = c.in-Ok.made.0 in
    let new = c.in-Ok.ensures.new in
    has_cause g.L.Sectors.seen g.L.Sectors.gives g.D.Sectors.seen g.D.Sectors.gives (opened_of shared) c.args.opened
    (shared_script shared) c.args.script.now c.run_threads-closed.result.0 new.opened_is new.script_is
    c.run_threads-closed.ensures.cause

pub returns-clause-followed : goal.returns-clause-followed
returns-clause-followed g c =
    let shared = c.in-Ok.made.0 in
    let new = c.in-Ok.ensures.new in
    let key = shared.board.shared.key in
    followed g.L.Sectors.seen g.L.Sectors.gives g.D.Sectors.seen g.D.Sectors.gives (opened_of shared) c.args.opened
    (shared_script shared) c.args.script.now c.run_threads-closed.result.0 new.opened_is new.script_is
    g.F.Receiver.stands_for key.plan _ new.plan_is (crew new.work c.in-Ok.made.1.items)
    c.run_threads-closed.result.1.items (c.run_threads-closed.ensures.leaves new.work (new.works ∙ sym new.own_is))
    c.args.followers.items c.requires.new (sym (ap (λ p. p.followers) new.plan_is) ∙ new.followers_are) new.readers
    (sym (ap (starts_with key) new.fixed) ∙ new.actors_are)

pub returns-clause-archived : goal.returns-clause-archived
returns-clause-archived g c =
    let shared = c.in-Ok.made.0 in
    let new = c.in-Ok.ensures.new in
    archived g.L.Sectors.seen g.L.Sectors.gives g.D.Sectors.seen g.D.Sectors.gives (opened_of shared) c.args.opened
    (shared_script shared) c.args.script.now c.run_threads-closed.result.0 new.opened_is new.script_is g.A.Sectors.seen
    g.A.Sectors.gives (views_of c.run_threads-closed.result.1.items) c.args.archive c.run_threads-closed.result.2
    c.run_threads-closed.ensures.archived
