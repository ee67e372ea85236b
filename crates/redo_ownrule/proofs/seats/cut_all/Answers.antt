use Rattle.std.proofs.Common.{rules, ◌+◌, List, [], ap, arith, inl, length, length-append, refl, subst, sym, ℕ, ◌∙◌, ◌∷◌, ◌≡◌}
use Rattle.atomic_table.specs.declared.shared.Seat.{Seat}
use Rattle.redo_ownrule.proofs.Seatings.{cut_next, cut_part, head, none_heard_yet, one_place, players_at, views}
use Rattle.redo_ownrule.specs.Gathering.{AreHandedOut}
use Rattle.redo_ownrule.specs.Players.{place}
use Rattle.redo_rule.proofs.Gathered.{none_know, none_laid, one_knows, one_laid}
use Rattle.redo_rule.specs.Gathering.{PartIsKept}
use Rattle.redo_rule.specs.Ruled.{none_heard}
use Rattle.redo_rule.specs.declared.law.Slot.{Slot}
use Rattle.redo_rule.specs.declared.law.View.{View}
use Rattle.redo_ownrule.proofs.seats.cut_all.Goals as goal

pub loop-first-init : goal.loop-first-init
loop-first-init g c = record {
  apart = λ own A. A;
  part = inl c.requires.part;
  room = c.requires.room;
  few = (let a = c.requires.apart in a.1.few);
  same = refl;
  told = none_know _ _ c.requires.none;
  layout = refl;
  laid = none_laid _ _ c.requires.none;
}

pub cut_one-seat-requires-clause-head : goal.cut_one-seat-requires-clause-head
cut_one-seat-requires-clause-head g c =
    let a = c.requires.apart in
    let n = c.len.ensures in
    let m : c.len-in-loop-first.result ≡ length c.loop-first.seats.items = search rules in
    head c.args.table.now.table_id _ none_heard c.args.players.now
    c.loop-first.first c.loop-first.seats.items (c.loop-first.invariant.apart a.0 a.1) c.index-players-len.result
    (players_at c.args.players.now c.len-in-loop-first.result (length c.loop-first.seats.items)
    c.index-players-len.result c.index-players-len.is m (let t = c.loop-first-test.true in omega arith))
    (one_place a.0 c.args.players.now)

pub cut_one-seat-requires-clause-first : goal.cut_one-seat-requires-clause-first
cut_one-seat-requires-clause-first g c =
    let a = c.requires.apart in (c.loop-first.invariant.apart a.0 a.1).is_first

pub loop-first-preserved : goal.loop-first-preserved
loop-first-preserved g c =
    let a = c.requires.apart in
    let e = c.cut_one-seat.ensures in
    let n = c.len.ensures in
    let m : c.len-in-loop-first.result ≡ length c.loop-first.seats.items = search rules in
    let at = players_at c.args.players.now c.len-in-loop-first.result (length c.loop-first.seats.items)
    c.index-players-len.result c.index-players-len.is m (let t = c.loop-first-test.true in omega arith) in
    record {
      apart = λ own A. subst (AreHandedOut c.args.table.now.table_id (place own c.args.players.now) none_heard
          c.args.players.now c.cut_one-seat.new.first) (sym {A = List (Seat (Slot _ _) (View _ _))}
          c.push_reserved.ensures.items)
          (cut_next c.args.table.now.table_id _ none_heard c.args.players.now
          c.loop-first.first c.loop-first.seats.items (c.loop-first.invariant.apart own A) c.index-players-len.result at
          c.cut_one-seat.new.first c.cut_one-seat.result e.first e.left e.right e.mine c.requires.cleaner
          c.loop-first.invariant.part);
      part = subst (λ (l : List (Seat (Slot _ _) (View _ _))). PartIsKept (length l) (views c.args.players.now)
          c.cut_one-seat.new.first) (sym c.push_reserved.ensures.items)
          (cut_part c.args.table.now.table_id _ none_heard c.args.players.now
          c.loop-first.first c.loop-first.seats.items (c.loop-first.invariant.apart a.0 a.1) c.index-players-len.result at
          c.cut_one-seat.new.first c.cut_one-seat.result e.first e.left e.right e.mine c.requires.cleaner
          c.loop-first.invariant.part);
      room = (let n = c.loop-first.invariant.room in let m = c.push_reserved.ensures.capacity in omega arith);
      few = (let i : length c.push_reserved.new.self.items ≡ length c.loop-first.seats.items + 1 = ap length c.push_reserved.ensures.items ∙ length-append c.loop-first.seats.items (c.cut_one-seat.result ∷ []) in let t = c.loop-first-test.true in omega arith);
      same = ap (λ (v : View _ _). v.about) e.left ∙ c.loop-first.invariant.same;
      told = one_knows _ c.loop-first.seats.items _ c.cut_one-seat.result c.push_reserved.ensures.items
          c.loop-first.invariant.told (ap (λ (v : View _ _). v.about) e.right ∙ c.loop-first.invariant.same);
      layout = ap (λ (v : View _ _). v.layout) e.left ∙ c.loop-first.invariant.layout;
      laid = one_laid _ c.loop-first.seats.items _ c.cut_one-seat.result c.push_reserved.ensures.items
          c.loop-first.invariant.laid (ap (λ (v : View _ _). v.layout) e.right ∙ c.loop-first.invariant.layout);
    }

pub returns-clause-all : goal.returns-clause-all
returns-clause-all g c =
    let few = c.loop-first.invariant.few in
    let stop = c.loop-first-test.false in
    let n = c.len.ensures in
    omega arith

pub returns-clause-part : goal.returns-clause-part
returns-clause-part g c =
    let few = c.loop-first.invariant.few in
    let stop = c.loop-first-test.false in
    let n = c.len.ensures in
    subst (λ (n : ℕ). PartIsKept n (views c.args.players.now) c.loop-first.first)
    (let e : length c.loop-first.seats.items ≡ length c.args.players.now = omega arith in e)
    c.loop-first.invariant.part

pub returns-clause-fresh : goal.returns-clause-fresh
returns-clause-fresh g c = let a = c.requires.apart in record {
  knows = c.loop-first.invariant.told;
  none = none_heard_yet c.args.table.now.table_id _ none_heard c.args.players.now
      c.loop-first.first c.loop-first.seats.items (c.loop-first.invariant.apart a.0 a.1) (λ n. refl);
}

pub returns-clause-layout : goal.returns-clause-layout
returns-clause-layout g c = c.loop-first.invariant.laid
