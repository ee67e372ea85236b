use Rattle.std.proofs.Common.{ap, arith, refl, subst, sym, ◌%◌, ◌∙◌, ◌≡◌}
use Rattle.model_reads.specs.declared.read.ReadEnd.TheVariants as read_end
use Rattle.redo_live.proofs.PageReads.{failed_stays, has_failed, has_read, may_read, read_stays, whole_words}
use Rattle.redo_live.proofs.user.User.read_page.Goals as goal
use Rattle.redo_rule.proofs.LoadsOn.{ended_behind, may_still, none_on, none_still, read_on}

pub loop-init : goal.loop-init
loop-init g c = record {
  plays = refl;
  used = refl;
  none = none_still c.args.self.now.seat c.args.self.now.seat refl refl refl;
}

pub look-requires-clause-may : goal.look-requires-clause-may
look-requires-clause-may g c = may_still c.ring.result.now.table_id c.layout-layout.result c.args.number
    c.args.self.now.seat c.loop.self.seat
    (may_read c.args.store.now c.args.self.now c.requires.user c.ring.result.now.table_id
    (ap (λ r. r.table_id) c.ring.ensures) c.layout-layout.result c.layout-layout.ensures c.args.number
    c.requires.page.there)
    c.loop.invariant.none

pub look-requires-clause-size : goal.look-requires-clause-size
look-requires-clause-size g c =
    (whole_words c.args.store.now c.args.self.now c.requires.user c.layout-layout.result c.layout-layout.ensures).0

pub look-requires-clause-long : goal.look-requires-clause-long
look-requires-clause-long g c =
    let w = whole_words c.args.store.now c.args.self.now c.requires.user c.layout-layout.result
    c.layout-layout.ensures in
    let most = w.1 in let same = w.2 in let l = c.requires.page.long in let a = c.loop.auto.bytes in omega arith

pub returns-in-Some-look-clause-mine : goal.returns-in-Some-look-clause-mine
returns-in-Some-look-clause-mine g c = read_stays c.args.store.now c.args.self.now c.requires.user _
    c.loop.invariant.plays c.loop.invariant.used c.args.number c.in-Some-look.as_of c.look.new.bytes
    (read_on c.args.self.now.seat c.loop.self.seat c.look.new.token c.loop.invariant.none c.args.number
    c.in-Some-look.as_of c.look.new.bytes c.in-Some-look.ensures.read)

pub returns-in-Some-look-clause-ok : goal.returns-in-Some-look-clause-ok
returns-in-Some-look-clause-ok g c = has_read c.args.store.now c.args.self.now c.requires.user _
    c.loop.invariant.plays c.loop.invariant.used c.args.number c.in-Some-look.as_of c.look.new.bytes
    (read_on c.args.self.now.seat c.loop.self.seat c.look.new.token c.loop.invariant.none c.args.number
    c.in-Some-look.as_of c.look.new.bytes c.in-Some-look.ensures.read) c.if-store.false

pub failure-requires : goal.failure-requires
failure-requires g c = (
  c.args.number,
  may_still c.ring-in-loop.result.now.table_id c.layout-layout.result c.args.number c.args.self.now.seat
      c.look.new.token
      (may_read c.args.store.now c.args.self.now c.requires.user c.ring-in-loop.result.now.table_id
      (ap (λ r. r.table_id) c.ring-in-loop.ensures) c.layout-layout.result c.layout-layout.ensures c.args.number
      c.requires.page.there)
      (none_on c.args.self.now.seat c.loop.self.seat c.look.new.token c.loop.invariant.none c.in_default.ensures.read),
)

pub loop-preserved : goal.loop-preserved
loop-preserved g c = record {
  plays = c.loop.invariant.plays;
  used = c.loop.invariant.used;
  none = none_on c.args.self.now.seat c.look.new.token c.failure.new.token
      (none_on c.args.self.now.seat c.loop.self.seat c.look.new.token c.loop.invariant.none c.in_default.ensures.read)
      c.in_default-failure.ensures.read;
}

pub returns-in-Some-failure-clause-mine : goal.returns-in-Some-failure-clause-mine
returns-in-Some-failure-clause-mine g c = failed_stays c.args.store.now c.args.self.now c.requires.user _
    c.loop.invariant.plays c.loop.invariant.used c.in-Some-failure.code
    (ended_behind c.args.self.now.seat c.look.new.token c.failure.new.token
    (none_on c.args.self.now.seat c.loop.self.seat c.look.new.token c.loop.invariant.none c.in_default.ensures.read)
    (read_end.Failed c.in-Some-failure.code) c.in-Some-failure.ensures.read)

pub returns-in-Some-failure-clause-err : goal.returns-in-Some-failure-clause-err
returns-in-Some-failure-clause-err g c = (
  c.if-store.false,
  c.in-Some-failure.ensures.code,
  has_failed c.args.store.now c.args.self.now c.requires.user _ c.loop.invariant.plays c.loop.invariant.used
      c.in-Some-failure.code
      (ended_behind c.args.self.now.seat c.look.new.token c.failure.new.token
      (none_on c.args.self.now.seat c.loop.self.seat c.look.new.token c.loop.invariant.none c.in_default.ensures.read)
      (read_end.Failed c.in-Some-failure.code) c.in-Some-failure.ensures.read),
)
