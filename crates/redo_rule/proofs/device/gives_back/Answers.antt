use Rattle.std.proofs.Common.{None, subst, sym}
use Rattle.model_core.specs.declared.ops.Answer.TheVariants as answer
use Rattle.redo_drive.proofs.Taken.{follower_took}
use Rattle.redo_drive.specs.{MarkFits, view_of}
use Rattle.redo_drive.specs.declared.actor.Actor.{Actor}
use Rattle.redo_drive.specs.declared.actor.Actor.TheVariants as own
use Rattle.redo_rule.proofs.GivenBack.{archiver_gives, follower_gives}
use Rattle.redo_rule.specs.Readers.{HasGivenBack}
use Rattle.redo_rule.proofs.device.gives_back.Goals as goal

pub returns-in-Archiver : goal.returns-in-Archiver
returns-in-Archiver g c =
    let stands = g.R.Receiver.stands_for in
    let took = c.took in
    subst (λ (z : Actor g.row.R.Denot). HasGivenBack stands z took.result (own.Archiver took.new.self))
    (sym c.in-Archiver.is)
    (archiver_gives stands c.in-Archiver.archiver took.new.self took.result took.ensures.kind took.ensures.state
    took.ensures.step)

pub returns-in-Follower : goal.returns-in-Follower
returns-in-Follower g c =
    let stands = g.R.Receiver.stands_for in
    let took = c.took-in-Follower in
    subst (λ (z : Actor g.row.R.Denot). HasGivenBack stands z took.result (own.Follower took.new.self))
    (sym c.in-Follower.is)
    (follower_gives stands c.in-Follower.follower took.new.self took.result took.ensures.some
    (follower_took stands took.new.self (answer.Taken None) took.result c.in-Follower.follower
    (subst (λ (z : Actor g.row.R.Denot). MarkFits (view_of z) (answer.Taken None)) c.in-Follower.is c.requires.mark)
    took.ensures.some took.ensures.state took.ensures.step))
