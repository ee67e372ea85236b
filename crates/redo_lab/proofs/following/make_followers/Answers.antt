use Rattle.std.proofs.Common.{arith, length, length-append, subst, sym, ap, [], ◌∷◌, ◌∙◌}
use Rattle.redo_follow.specs.{HasTally, Kept}
use Rattle.redo_lab.proofs.Tallied.{AreNew, none-new, one-new}
use Rattle.redo_lab.proofs.following.make_followers.Goals as goal

pub loop-number-init : goal.loop-number-init
loop-number-init c = record {
  room = c.in_ok-followers.ensures.exact;
  long = omega (arith, ap length c.in_ok-followers.ensures.items);
  new = subst (AreNew c.args.start) (sym c.in_ok-followers.ensures.items) (none-new c.args.start);
}

pub loop-number-preserved : goal.loop-number-preserved
loop-number-preserved c =
    let was = c.loop-number.invariant in
    let followers = c.loop-number.followers.items in
    let items = c.push_reserved.ensures.items in
    record {
      room = c.push_reserved.ensures.capacity ∙ was.room;
      long = omega (arith, was.long, ap length items, length-append followers (c.in_ok-follower.follower ∷ []));
      new = subst (AreNew c.args.start) (sym items)
          (one-new c.args.start c.loop-number.number followers c.in_ok-follower.follower was.new was.long
          c.in_ok-follower.ensures.state
          (subst (λ (r : Kept). HasTally r []) (sym c.in_ok-follower.ensures.receiver) c.new.ensures));
    }
