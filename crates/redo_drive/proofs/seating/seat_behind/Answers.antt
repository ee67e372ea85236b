use Rattle.std.proofs.Common.{Global, List, Vec, ap, map, subst, sym, ◌++◌, ◌∙◌, ◌≡◌}
use Rattle.model_core.specs.States as model
use Rattle.redo_drive.proofs.SeatedFollowers.{AreSeatedSo, if_seated, seated_so}
use Rattle.redo_drive.specs.Begins.{EndsWithReaders, new_archiver}
use Rattle.redo_drive.specs.Setups.{other_actors, with_others}
use Rattle.redo_drive.specs.History.{views_of}
use Rattle.redo_drive.specs.declared.actor.Actor.{Actor}
use Rattle.redo_drive.specs.declared.actor.Actor.TheVariants as own
use Rattle.redo_drive.proofs.seating.seat_behind.Given as given
use Rattle.redo_drive.proofs.seating.seat_behind.Goals as goal

-- what is seated behind the other actors is in its seat
so : (g : given.Over) (c : goal.After-seat_followers g) (v : Vec (Actor g.row.R.Denot) Global)
    → v.items ≡ c.in_ok-actors.actors.items ++ map own.Follower c.args.followers.items
    → AreSeatedSo (views_of c.args.users.items) c.args.shape.now c.args.start c.args.plan
    c.args.followers.items v.items
so g c v is =
    let users : List model.Actor = views_of c.args.users.items in
    let shape = c.args.shape.now in
    let start = c.args.start in
    let plan = c.args.plan in
    let fs = c.args.followers.items in
    let before = c.in_ok-before.before.items in
    let are : views_of before ≡ users ++ other_actors shape start plan = c.in_ok-before.ensures in
    let joined : v.items ≡ (before ++ new_archiver start plan.archive) ++ map own.Follower fs =
    is ∙ ap (λ (l : List (Actor g.row.R.Denot)). l ++ map own.Follower fs) c.in_ok-actors.ensures in
    subst (AreSeatedSo users shape start plan fs) (sym joined)
    (seated_so users shape start plan before fs c.requires.new are)

pub returns-clause-actors : goal.returns-clause-actors
returns-clause-actors g c =
    if_seated c.seat_followers.result
    (λ (v : Vec (Actor g.row.R.Denot) Global). v.items ≡ c.in_ok-actors.actors.items
    ++ map own.Follower c.args.followers.items)
    (λ (v : Vec (Actor g.row.R.Denot) Global). views_of v.items ≡ with_others (views_of c.args.users.items)
    c.args.shape.now c.args.start c.args.plan)
    (λ v is. (so g c v is).are) c.seat_followers.ensures

pub returns-clause-readers : goal.returns-clause-readers
returns-clause-readers g c =
    if_seated c.seat_followers.result
    (λ (v : Vec (Actor g.row.R.Denot) Global). v.items ≡ c.in_ok-actors.actors.items
    ++ map own.Follower c.args.followers.items)
    (λ (v : Vec (Actor g.row.R.Denot) Global). EndsWithReaders c.args.start c.args.plan.archive v.items
    c.args.followers.items)
    (λ v is. (so g c v is).ends) c.seat_followers.ensures
