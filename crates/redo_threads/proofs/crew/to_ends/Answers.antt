use Rattle.std.proofs.Common.{refl, rules}
use Rattle.redo_threads.proofs.Ending.{all_end, none_below, one_more}
use Rattle.redo_threads.proofs.Keeping.{as_many, keep_long, keep_refl, keep_set, sits_at}
use Rattle.redo_threads.proofs.Laid.{laid_at}
use Rattle.redo_threads.proofs.crew.to_ends.Goals as goal

pub loop-number-init : goal.loop-number-init
loop-number-init g c = record {
  goes_on = keep_refl g.F.Receiver.stands_for c.args.table.now.table_id c.args.crew.now c.requires.seated;
  ended = none_below c.args.crew.now.players.items;
}

pub index_mut-requires : goal.index_mut-requires
index_mut-requires g c =
    let was = c.args.crew.now in
    let on = c.loop-number.invariant.goes_on in
    let count = as_many g.F.Receiver.stands_for c.args.table.now.table_id was.seats.items was.players.items c.requires.seated in
    let m = keep_long g.F.Receiver.stands_for c.args.table.now.table_id was c.loop-number.crew count on in
    let n = on.count in grind rules

pub index_mut-requires-in-loop-number : goal.index_mut-requires-in-loop-number
index_mut-requires-in-loop-number g c =
    let was = c.args.crew.now in
    let on = c.loop-number.invariant.goes_on in
    let count = as_many g.F.Receiver.stands_for c.args.table.now.table_id was.seats.items was.players.items c.requires.seated in
    let m = keep_long g.F.Receiver.stands_for c.args.table.now.table_id was c.loop-number.crew count on in grind rules

pub work_alone-requires-clause-seat : goal.work_alone-requires-clause-seat
work_alone-requires-clause-seat g c κs within =
    let was = c.args.crew.now in
    let on = c.loop-number.invariant.goes_on in
    let count = as_many g.F.Receiver.stands_for c.args.table.now.table_id was.seats.items was.players.items c.requires.seated in
    let m = keep_long g.F.Receiver.stands_for c.args.table.now.table_id was c.loop-number.crew count on in
    sits_at g.F.Receiver.stands_for c.args.table.now.table_id was c.loop-number.crew c.loop-number.number
    c.index_mut.result.now c.index_mut-in-loop-number.result.now on (grind rules)
    c.index_mut.ensures.value c.index_mut-in-loop-number.ensures.value

pub work_alone-requires-clause-layout : goal.work_alone-requires-clause-layout
work_alone-requires-clause-layout g c κs within =
    let was = c.args.crew.now in
    let on = c.loop-number.invariant.goes_on in
    let count = as_many g.F.Receiver.stands_for c.args.table.now.table_id was.seats.items was.players.items c.requires.seated in
    let m = keep_long g.F.Receiver.stands_for c.args.table.now.table_id was c.loop-number.crew count on in
    laid_at g.F.Receiver.stands_for c.args.table.now.table_id c.args.layout was c.loop-number.crew c.requires.seated
    c.requires.laid on c.loop-number.number c.index_mut.result.now (grind rules) c.index_mut.ensures.value

pub loop-number-preserved : goal.loop-number-preserved
loop-number-preserved g c =
    let was = c.args.crew.now in
    let on = c.loop-number.invariant.goes_on in
    let count = as_many g.F.Receiver.stands_for c.args.table.now.table_id was.seats.items was.players.items c.requires.seated in
    let m = keep_long g.F.Receiver.stands_for c.args.table.now.table_id was c.loop-number.crew count on in
    record {
      goes_on = keep_set g.F.Receiver.stands_for c.args.table.now.table_id was c.loop-number.crew _ c.loop-number.number
          c.index_mut.result.now c.work_alone.new.seat c.index_mut-in-loop-number.result.now c.work_alone.new.player on (grind rules)
          c.index_mut.ensures.value c.index_mut-in-loop-number.ensures.value c.work_alone.ensures.goes_on refl refl refl refl;
      ended = one_more c.loop-number.crew.players.items c.loop-number.number c.work_alone.new.player
          c.loop-number.invariant.ended c.work_alone.ensures.at_end;
    }

pub returns-clause-at_end : goal.returns-clause-at_end
returns-clause-at_end g c =
    let was = c.args.crew.now in
    let on = c.loop-number.invariant.goes_on in
    let count = as_many g.F.Receiver.stands_for c.args.table.now.table_id was.seats.items was.players.items c.requires.seated in
    let m = keep_long g.F.Receiver.stands_for c.args.table.now.table_id was c.loop-number.crew count on in
    all_end c.loop-number.crew.players.items c.loop-number.number (grind rules) c.loop-number.invariant.ended
