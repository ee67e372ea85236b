use Rattle.std.proofs.Common.{List, [], ap, arith, length, refl, reverse, ◌++◌, ◌∙◌, ◌∷◌}
use Rattle.std.proofs.lemmas.List.{length-append}
use Rattle.model_core.specs.{UserState}
use Rattle.redo_drive.specs.declared.actor.Actor.{Actor}
use Rattle.redo_drive.specs.declared.actor.Actor.TheVariants as own
use Rattle.redo_ownmachine.proofs.Putting.{no_users, put_all, put_one, user_last}
use Rattle.redo_ownmachine.proofs.seats.put_users.Goals as goal
use Rattle.redo_ownmachine.specs.OwnCrew.{users_alone}

pub loop-user-init : goal.loop-user-init
loop-user-init g c = record { all = refl; enough = c.requires; capacity = refl }

pub push_reserved-requires : goal.push_reserved-requires
push_reserved-requires g c =
    let front = c.pop.new.self.items in
    let long = ap length c.in-Some.ensures.items ∙ length-append front _ in
    let enough = c.loop-user.invariant.enough in omega arith

pub loop-user-preserved : goal.loop-user-preserved
loop-user-preserved g c =
    let front = c.pop.new.self.items in
    let long = ap length c.in-Some.ensures.items ∙ length-append front _ in
    let room = ap length c.push_reserved.ensures.items ∙ length-append c.loop-user.room.items _ in
    let enough = c.loop-user.invariant.enough in
    let capacity = c.push_reserved.ensures.capacity in
    record {
      all = ap (λ (r : List (Actor g.row.R.Denot)). r ++ reverse (users_alone front)) (c.push_reserved.ensures.items
          ∙ ap (λ (u : UserState). c.loop-user.room.items ++ own.User u ∷ []) c.into_user.ensures)
          ∙ put_one c.loop-user.room.items (users_alone front) (users_alone c.loop-user.users.items) _
          (own.User c.in-Some.user.user) (user_last front c.loop-user.users.items c.in-Some.user c.in-Some.ensures.items)
          c.loop-user.invariant.all;
      enough = omega arith;
      capacity = capacity ∙ c.loop-user.invariant.capacity;
    }

pub returns-clause-items : goal.returns-clause-items
returns-clause-items g c =
    let none = c.in_default.ensures.cases.0 in
    put_all c.loop-user.room.items (users_alone c.loop-user.users.items) _
    (no_users g.row.R.Denot c.loop-user.users.items (omega arith)) c.loop-user.invariant.all
