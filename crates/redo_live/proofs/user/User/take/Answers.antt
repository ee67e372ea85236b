use Rattle.std.proofs.Common.{ap, arith, refl, ◌+◌}
use Rattle.redo_live.proofs.TakenLine.{has_taken, may_give}
use Rattle.redo_live.proofs.user.User.take.Goals as goal
use Rattle.redo_live.specs.Holding.{state_of}

pub give_line-requires-clause-may : goal.give_line-requires-clause-may
give_line-requires-clause-may g c = (
  state_of c.args.self.now,
  may_give c.fitting_script.ensures c.args.store.now c.args.self.now c.args.line.now c.requires.user c.requires.line
      c.in-Ok.ensures.fits c.in-Ok.made.1 c.in-Ok.ensures.length c.if-store-self.false c.ring.result.now.table_id
      c.ring.result.now.key (ap (λ r. r.table_id) c.ring.ensures) (ap (λ r. r.key) c.ring.ensures) c.requires.done
      c.in-Ok.made.0 c.in-Ok.ensures.group,
)

pub overflow_add-self : goal.overflow_add-self
overflow_add-self g c =
    let w = c.requires.user.within in
    let q = c.requires.user.is_open.quota_small in
    let f = c.if-store-self.false in omega arith

pub returns-clause-ok : goal.returns-clause-ok
returns-clause-ok g c =
    let may = may_give c.fitting_script.ensures c.args.store.now c.args.self.now c.args.line.now c.requires.user
    c.requires.line c.in-Ok.ensures.fits c.in-Ok.made.1 c.in-Ok.ensures.length c.if-store-self.false
    c.ring.result.now.table_id c.ring.result.now.key (ap (λ r. r.table_id) c.ring.ensures)
    (ap (λ r. r.key) c.ring.ensures) c.requires.done c.in-Ok.made.0 c.in-Ok.ensures.group in
    has_taken c.fitting_script.ensures c.args.store.now c.args.self.now c.args.line.now c.requires.user c.requires.line
    c.in-Ok.ensures.fits c.in-Ok.made.1 c.in-Ok.ensures.length c.if-store-self.false c.ring.result.now.table_id
    c.ring.result.now.key (ap (λ r. r.table_id) c.ring.ensures) (ap (λ r. r.key) c.ring.ensures)
    (record {
      seat = c.give_line.new.seat;
      player = c.give_line.new.player;
      used = c.args.self.now.used + c.in-Ok.made.1;
    })
    c.requires.done (c.in-Ok-give_line.ensures.ok (state_of c.args.self.now) may) refl
