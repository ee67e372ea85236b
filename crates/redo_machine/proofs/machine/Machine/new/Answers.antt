use Rattle.std.proofs.Common.{arith, length, refl, subst, ◌≡◌}
use Rattle.redo_drive.specs.{plan_with}
use Rattle.redo_drive.specs.Begins.{BeginsWith}
use Rattle.redo_drive.specs.declared.plan.Plan.{Plan}
use Rattle.redo_machine.proofs.ArchiveStarts.{beside_of, comes, numbered}
use Rattle.redo_machine.proofs.machine.Machine.new.Given as given
use Rattle.redo_machine.proofs.machine.Machine.new.Goals as goal

-- the run begins with the archive that there is, and with the followers
begun : (g : given.Over) (c : goal.In-Ok g)
    → BeginsWith g.L.Sectors.seen g.D.Sectors.seen g.R.Receiver.stands_for c.args.opened c.args.script.now
    (plan_with c.args.log_only c.args.archive c.args.followers.items) c.args.followers.items c.in-Ok.field-0
begun g c =
    let many : c.len.result ≡ length c.args.followers.items = let n = c.len.ensures in omega arith in
    subst (λ (p : Plan). BeginsWith g.L.Sectors.seen g.D.Sectors.seen g.R.Receiver.stands_for c.args.opened
    c.args.script.now p c.args.followers.items c.in-Ok.field-0)
    (λ i. record { log_only = c.args.log_only; archive = c.is_some.ensures i; followers = many i })
    c.in-Ok.ensures.begins

pub returns-in-Ok-clause-begins : goal.returns-in-Ok-clause-begins
returns-in-Ok-clause-begins g c = begun g c

pub returns-in-Ok-clause-on_run : goal.returns-in-Ok-clause-on_run
returns-in-Ok-clause-on_run g c =
    let B = begun g c in
    let come = comes g.L.Sectors.seen g.D.Sectors.seen g.A.Sectors.seen g.R.Receiver.stands_for c.args.opened
    c.args.script.now (plan_with c.args.log_only c.args.archive c.args.followers.items) c.args.followers.items
    c.in-Ok.field-0 B c.requires.may g.A.Sectors.gives c.args.archive refl c.requires.archive in
    record {
      run = B.run;
      runs = B.from.runs;
      beside = beside_of g.L.Sectors.seen g.D.Sectors.seen g.A.Sectors.seen g.A.Sectors.gives B.run
          c.in-Ok.field-0.parts _ B.from.runs c.args.archive c.args.archive come;
      numbered = numbered g.L.Sectors.seen g.D.Sectors.seen g.A.Sectors.seen g.R.Receiver.stands_for c.args.opened
          c.args.script.now (plan_with c.args.log_only c.args.archive c.args.followers.items) c.args.followers.items
          c.in-Ok.field-0 B c.requires.may c.requires.new;
    }
