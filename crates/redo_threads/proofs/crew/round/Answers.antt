use Rattle.std.proofs.Common.{refl, rules}
use Rattle.redo_threads.proofs.Keeping.{as_many, keep_long, keep_refl, keep_set, sits_at}
use Rattle.redo_threads.proofs.Laid.{laid_at}
use Rattle.redo_threads.proofs.crew.round.Goals as goal

pub loop-k-init : goal.loop-k-init
loop-k-init g c = keep_refl g.F.Receiver.stands_for c.args.table.now.table_id c.args.crew.now c.requires.seated

pub index_mut-requires : goal.index_mut-requires
index_mut-requires g c =
    let was = c.args.crew.now in
    let count = as_many g.F.Receiver.stands_for c.args.table.now.table_id was.seats.items was.players.items c.requires.seated in
    let m = keep_long g.F.Receiver.stands_for c.args.table.now.table_id was c.loop-k.crew count c.loop-k.invariant in
    let n = c.loop-k.invariant.count in grind rules

pub index_mut-requires-in-loop-k : goal.index_mut-requires-in-loop-k
index_mut-requires-in-loop-k g c =
    let was = c.args.crew.now in
    let count = as_many g.F.Receiver.stands_for c.args.table.now.table_id was.seats.items was.players.items c.requires.seated in
    let m = keep_long g.F.Receiver.stands_for c.args.table.now.table_id was c.loop-k.crew count c.loop-k.invariant in
    grind rules

pub stint_alone-went_on-requires-clause-seat : goal.stint_alone-went_on-requires-clause-seat
stint_alone-went_on-requires-clause-seat g c κs within =
    let was = c.args.crew.now in
    let count = as_many g.F.Receiver.stands_for c.args.table.now.table_id was.seats.items was.players.items c.requires.seated in
    let m = keep_long g.F.Receiver.stands_for c.args.table.now.table_id was c.loop-k.crew count c.loop-k.invariant in
    sits_at g.F.Receiver.stands_for c.args.table.now.table_id was c.loop-k.crew c.loop-k.k
    c.index_mut.result.now c.index_mut-in-loop-k.result.now c.loop-k.invariant (grind rules)
    c.index_mut.ensures.value c.index_mut-in-loop-k.ensures.value

pub stint_alone-went_on-requires-clause-layout : goal.stint_alone-went_on-requires-clause-layout
stint_alone-went_on-requires-clause-layout g c κs within =
    let was = c.args.crew.now in
    let count = as_many g.F.Receiver.stands_for c.args.table.now.table_id was.seats.items was.players.items c.requires.seated in
    let m = keep_long g.F.Receiver.stands_for c.args.table.now.table_id was c.loop-k.crew count c.loop-k.invariant in
    laid_at g.F.Receiver.stands_for c.args.table.now.table_id c.args.layout was c.loop-k.crew c.requires.seated
    c.requires.laid c.loop-k.invariant c.loop-k.k c.index_mut.result.now (grind rules) c.index_mut.ensures.value

pub loop-k-preserved : goal.loop-k-preserved
loop-k-preserved g c =
    let was = c.args.crew.now in
    let count = as_many g.F.Receiver.stands_for c.args.table.now.table_id was.seats.items was.players.items c.requires.seated in
    let m = keep_long g.F.Receiver.stands_for c.args.table.now.table_id was c.loop-k.crew count c.loop-k.invariant in
    keep_set g.F.Receiver.stands_for c.args.table.now.table_id was c.loop-k.crew _ c.loop-k.k
    c.index_mut.result.now c.stint_alone-went_on.new.seat c.index_mut-in-loop-k.result.now c.stint_alone-went_on.new.player
    c.loop-k.invariant (grind rules) c.index_mut.ensures.value c.index_mut-in-loop-k.ensures.value
    c.stint_alone-went_on.ensures refl refl refl refl
