use Rattle.std.proofs.Common.{arith, subst, sym}
use mathlib.Core.Option.{some-ne-none}
use Rattle.redo_drive.specs.{AreNewFollowers}
use Rattle.tests_store.proofs.turns.store.no_followers.Goals as goal

pub returns : goal.returns
returns c = λ start. subst (AreNewFollowers start) (sym c.new.ensures.items)
    (record { few = omega arith; each = λ i follower at. absurd (some-ne-none follower (sym at)) })
