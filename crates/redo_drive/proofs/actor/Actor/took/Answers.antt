use Rattle.std.proofs.Common.{subst, sym}
use Rattle.redo_drive.proofs.Taken.{archiver_took, follower_took}
use Rattle.redo_drive.specs.Receiving.{HasTaken, MarkFits}
use Rattle.redo_drive.specs.History.{view_of}
use Rattle.redo_drive.specs.declared.actor.Actor.{Actor}
use Rattle.redo_drive.specs.declared.actor.Actor.TheVariants as own
use Rattle.redo_drive.proofs.actor.Actor.took.Goals as goal

pub returns-in-Archiver : goal.returns-in-Archiver
returns-in-Archiver g c =
    let stands = g.R.Receiver.stands_for in
    let took = c.took-in-Archiver in
    subst (λ (z : Actor g.row.R.Denot). HasTaken stands z c.args.answer took.result (own.Archiver took.new.self))
    (sym c.in-Archiver.is)
    (archiver_took stands c.in-Archiver.archiver took.new.self c.args.answer took.result took.ensures.kind
    took.ensures.state took.ensures.step)

pub returns-in-Follower : goal.returns-in-Follower
returns-in-Follower g c =
    let stands = g.R.Receiver.stands_for in
    let took = c.took-in-Follower in
    subst (λ (z : Actor g.row.R.Denot). HasTaken stands z c.args.answer took.result (own.Follower took.new.self))
    (sym c.in-Follower.is)
    (follower_took stands took.new.self c.args.answer took.result c.in-Follower.follower
    (subst (λ (z : Actor g.row.R.Denot). MarkFits (view_of z) c.args.answer) c.in-Follower.is c.requires.mark)
    took.ensures.some took.ensures.state took.ensures.step)
