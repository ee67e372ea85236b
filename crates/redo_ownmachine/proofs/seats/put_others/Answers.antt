use Rattle.std.proofs.Common.{ap, arith, length, refl, reverse, ◌++◌, ◌∙◌}
use Rattle.std.proofs.lemmas.List.{length-append}
use Rattle.redo_ownmachine.proofs.Putting.{put_all, put_one}
use Rattle.redo_ownmachine.proofs.seats.put_others.Goals as goal

pub loop-other-init : goal.loop-other-init
loop-other-init g c = record { all = refl; enough = c.requires; capacity = refl }

pub push_reserved-requires : goal.push_reserved-requires
push_reserved-requires g c =
    let front = c.pop.new.self.items in
    let long = ap length c.in-Some.ensures.items ∙ length-append front _ in
    let enough = c.loop-other.invariant.enough in omega arith

pub loop-other-preserved : goal.loop-other-preserved
loop-other-preserved g c =
    let front = c.pop.new.self.items in
    let long = ap length c.in-Some.ensures.items ∙ length-append front _ in
    let room = ap length c.push_reserved.ensures.items ∙ length-append c.loop-other.room.items _ in
    let enough = c.loop-other.invariant.enough in
    let capacity = c.push_reserved.ensures.capacity in
    record {
      all = ap (λ r. r ++ reverse front) c.push_reserved.ensures.items
          ∙ put_one c.loop-other.room.items front c.loop-other.others.items _ c.in-Some.other c.in-Some.ensures.items
          c.loop-other.invariant.all;
      enough = omega arith;
      capacity = capacity ∙ c.loop-other.invariant.capacity;
    }

pub returns-clause-items : goal.returns-clause-items
returns-clause-items g c =
    let none = c.in_default.ensures.cases.0 in
    put_all c.loop-other.room.items c.loop-other.others.items _ (omega arith) c.loop-other.invariant.all
