use Rattle.std.proofs.Common.{arith, rules}
use Rattle.redo_ownrule.proofs.Seatings.{all_back, may_take_in, taken_before, taken_cleaner, taken_part, views, views_length}
use Rattle.redo_rule.proofs.Gathered.{none_beyond}
use Rattle.redo_rule.specs.Sharing.{heard_by}
use Rattle.redo_ownrule.proofs.seats.take_all.Goals as goal

pub loop-seat-init : goal.loop-seat-init
loop-seat-init g c = record {
  apart = λ number A. A;
  part = λ p. p;
  cleaner = λ i a l at is. absurd (none_beyond (views c.args.players.now) i a
      (let n = c.requires.all in let m = views_length c.args.players.now in omega arith) at);
}

pub take_in-requires-clause-first : goal.take_in-requires-clause-first
take_in-requires-clause-first g c =
    let a = c.requires.apart in (c.loop-seat.invariant.apart a.0 a.1).is_first

pub take_in-requires-clause-other : goal.take_in-requires-clause-other
take_in-requires-clause-other g c =
    let a = c.requires.apart in
    may_take_in c.args.table.now.table_id _ (heard_by c.args.seats.items)
    c.args.players.now c.loop-seat.first c.loop-seat.seats.items (c.loop-seat.invariant.apart a.0 a.1)
    c.pop.new.self.items c.in-Some.seat c.in-Some.ensures.items c.requires.rest

pub loop-seat-preserved : goal.loop-seat-preserved
loop-seat-preserved g c = let a = c.requires.apart in record {
  apart = λ number A. taken_before c.args.table.now.table_id _
      (heard_by c.args.seats.items) c.args.players.now c.loop-seat.first c.loop-seat.seats.items
      (c.loop-seat.invariant.apart number A) c.pop.new.self.items c.in-Some.seat c.in-Some.ensures.items c.requires.rest
      c.take_in.new.first c.take_in.ensures.first c.take_in.ensures.both;
  part = λ p. taken_part c.args.table.now.table_id _
      (heard_by c.args.seats.items) c.args.players.now c.loop-seat.first c.loop-seat.seats.items
      (c.loop-seat.invariant.apart a.0 a.1) c.pop.new.self.items c.in-Some.seat c.in-Some.ensures.items c.requires.rest
      c.take_in.new.first c.take_in.ensures.first c.take_in.ensures.both (c.loop-seat.invariant.part p);
  cleaner = taken_cleaner c.args.table.now.table_id _
      (heard_by c.args.seats.items) c.args.players.now c.loop-seat.first c.loop-seat.seats.items
      (c.loop-seat.invariant.apart a.0 a.1) c.pop.new.self.items c.in-Some.seat c.in-Some.ensures.items c.requires.rest
      c.take_in.new.first c.take_in.ensures.first c.take_in.ensures.both c.loop-seat.invariant.cleaner;
}

pub returns-clause-first : goal.returns-clause-first
returns-clause-first g c =
    let a = c.requires.apart in (c.loop-seat.invariant.apart a.0 a.1).is_first

pub returns-clause-all : goal.returns-clause-all
returns-clause-all g c = λ number A. all_back c.args.table.now.table_id _
    (heard_by c.args.seats.items) c.args.players.now c.loop-seat.first c.loop-seat.seats.items
    (c.loop-seat.invariant.apart number A) (search rules)

pub returns-clause-cleaner : goal.returns-clause-cleaner
returns-clause-cleaner g c = λ i a at is. c.loop-seat.invariant.cleaner i a (search rules) at is
