use Rattle.std.proofs.Common.{Global, List, Vec, [], ap, arith, drop, length, refl, subst, sym, vec_capacity, ◌+◌, ◌++◌, ◌<◌, ◌∙◌, ◌∷◌, ◌≡◌}
use Rattle.model_report.specs.declared.entry.Followed.{Followed}
use Rattle.redo_drive.specs.{followers_in}
use Rattle.redo_follow.specs.Following.{Following}
use Rattle.redo_follow.specs.{Kept}
use Rattle.redo_lab.proofs.Tallied.{all-told, AreToldUpto, has-room, next-is, next-none, none-told, one-told}
use Rattle.redo_lab.proofs.following.told_of.Goals.{in-Some+then-len-capacity, in-Some+else-len-capacity, in_default}
use Rattle.redo_lab.proofs.following.told_of.Goals as goal

pub loop-actor-init : goal.loop-actor-init
loop-actor-init c = record {
  capacity = refl;
  so_far = λ empty room. none-told (followers_in c.args.actors.now) c.args.follows.items empty;
}

pub loop-actor-preserved : goal.loop-actor-preserved
loop-actor-preserved c =
    let actors = c.args.actors.now in
    let at = c.loop-actor.actor-index in
    let actor = c.actor-item.result in
    let was = c.loop-actor.invariant in
    let follows : List Followed = c.loop-actor.follows.items in
    let all : List (Following Kept) = followers_in actors in
    let rest : List (Following Kept) = followers_in (drop (at + 1) actors) in
    elim c.match-follower.branch [
      | in-Some+then-len-capacity w ↦ record {
        capacity = ap vec_capacity w.follows-is ∙ w.push_reserved.ensures.capacity ∙ was.capacity;
        so_far = λ empty room.
            let f : Following Kept = w.in-Some.follower.now in
            let items : c.match-follower.follows.items ≡ follows ++ w.told.result ∷ [] =
            ap (λ (v : Vec Followed Global). v.items) w.follows-is ∙ w.push_reserved.ensures.items in
            let next = next-is actors at actor c.actor-item.is c.loop-actor-test.true f w.in-Some.ensures in
            subst (AreToldUpto all rest) (sym items)
            (one-told all rest follows f w.told.result
            (subst (λ (l : List (Following Kept)). AreToldUpto all l follows) next (was.so_far empty room))
            w.told.ensures);
      }
      | in-Some+else-len-capacity w ↦ record {
        capacity = ap vec_capacity w.follows-is ∙ was.capacity;
        so_far = λ empty room. absurd (
            let f : Following Kept = w.in-Some.follower.now in
            let next = next-is actors at actor c.actor-item.is c.loop-actor-test.true f w.in-Some.ensures in
            let more : length follows < vec_capacity c.args.follows =
            has-room all rest follows f (vec_capacity c.args.follows)
            (subst (λ (l : List (Following Kept)). AreToldUpto all l follows) next (was.so_far empty room)) room in
            let same = was.capacity in
            omega arith);
      }
      | in_default w ↦ record {
        capacity = ap vec_capacity w.follows-is ∙ was.capacity;
        so_far = λ empty room.
            let items : c.match-follower.follows.items ≡ follows =
            ap (λ (v : Vec Followed Global). v.items) w.follows-is in
            let next = next-none actors at actor c.actor-item.is c.loop-actor-test.true w.in_default.ensures in
            subst (AreToldUpto all rest) (sym items)
            (subst (λ (l : List (Following Kept)). AreToldUpto all l follows) next (was.so_far empty room));
      }
    ]

pub returns : goal.returns
returns c = λ empty room.
    all-told c.args.actors.now c.loop-actor.actor-index c.loop-actor.follows.items c.loop-actor-test.false
    (c.loop-actor.invariant.so_far empty room)
