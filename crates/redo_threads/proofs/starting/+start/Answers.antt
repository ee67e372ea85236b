use Rattle.std.proofs.Common.{◌-◌}
use Rattle.redo_threads.proofs.Going.{goes_promised}
use Rattle.redo_threads.proofs.Keeping.{as_many, has_place, has_place_aside, keep_aside, keep_back}
use Rattle.redo_threads.proofs.Keeping.{keep_seated, keep_trans, rest_seated, taken_sits}
use Rattle.redo_threads.proofs.Laid.{keep_laid, rest_laid, taken_laid}
use Rattle.redo_threads.proofs.Workers.{worker as sitting}
use Rattle.redo_threads.proofs.starting.+start.Goals as goal

pub take_out-seated-requires-clause-seated : goal.take_out-seated-requires-clause-seated
take_out-seated-requires-clause-seated g t c =
    as_many g.F.Receiver.stands_for c.args.table.now.table_id c.args.crew.seats.items c.args.crew.players.items
    c.requires.seated

pub start_one-requires-clause-seat : goal.start_one-requires-clause-seat
start_one-requires-clause-seat g t c κs within = let rest = c.take_out-seated.new.self in
    taken_sits g.F.Receiver.stands_for c.args.table.now.table_id c.args.crew rest (c.args.left - 1)
    (sitting c.take_out-seated.result.seat c.take_out-seated.result.player)
    c.requires.seated c.take_out-seated.ensures

pub start-crew-requires-clause-seated : goal.start-crew-requires-clause-seated
start-crew-requires-clause-seated g t c κs within = let rest = c.take_out-seated.new.self in
    rest_seated g.F.Receiver.stands_for c.args.table.now.table_id c.args.crew rest (c.args.left - 1)
    (sitting c.take_out-seated.result.seat c.take_out-seated.result.player)
    c.requires.seated c.take_out-seated.ensures

pub put_back-requires : goal.put_back-requires
put_back-requires g t c = let rest = c.take_out-seated.new.self in
    has_place g.F.Receiver.stands_for c.args.table.now.table_id c.args.crew rest (c.args.left - 1)
    (sitting c.take_out-seated.result.seat c.take_out-seated.result.player)
    c.requires.seated c.take_out-seated.ensures c.start-crew.result c.start-crew.ensures.crew

pub put_back-requires-in-Err : goal.put_back-requires-in-Err
put_back-requires-in-Err g t c = let rest = c.take_out-seated.new.self in
    has_place_aside g.F.Receiver.stands_for c.args.table.now.table_id c.args.crew rest (c.args.left - 1)
    (sitting c.take_out-seated.result.seat c.take_out-seated.result.player)
    c.requires.seated c.take_out-seated.ensures

pub start-requires-clause-seated : goal.start-requires-clause-seated
start-requires-clause-seated g t c κs within = let rest = c.take_out-seated.new.self in
    keep_seated g.F.Receiver.stands_for c.args.table.now.table_id c.args.crew c.put_back-in-Err.new.self
    (keep_aside g.F.Receiver.stands_for c.args.table.now.table_id c.args.crew rest (c.args.left - 1)
    (sitting c.take_out-seated.result.seat c.take_out-seated.result.player) c.requires.seated c.take_out-seated.ensures c.put_back-in-Err.new.self
    (sitting c.in-Err.seated.seat c.in-Err.seated.player) c.in-Err.ensures.err c.put_back-in-Err.ensures)

pub returns-in-Ok-clause-crew : goal.returns-in-Ok-clause-crew
returns-in-Ok-clause-crew g t c =
    let rest = c.take_out-seated.new.self in
    let w = c.take_out-seated.result in
    let sits = taken_sits g.F.Receiver.stands_for c.args.table.now.table_id c.args.crew rest (c.args.left - 1)
    (sitting w.seat w.player) c.requires.seated c.take_out-seated.ensures in
    let on = goes_promised g.F.Receiver.stands_for c.args.table.now.table_id
    c.in-Ok.handle.promise.0.value w c.join.result c.in-Ok.ensures.ok sits c.join.ensures in
    keep_back g.F.Receiver.stands_for c.args.table.now.table_id c.args.crew rest (c.args.left - 1)
    (sitting w.seat w.player) c.requires.seated
    c.take_out-seated.ensures c.start-crew.result c.put_back.new.self
    (sitting c.join.result.seat c.join.result.player) c.start-crew.ensures.crew on
    c.put_back.ensures

pub returns-in-Err-clause-crew : goal.returns-in-Err-clause-crew
returns-in-Err-clause-crew g t c =
    let rest = c.take_out-seated.new.self in
    let back = c.put_back-in-Err.new.self in
    keep_trans g.F.Receiver.stands_for c.args.table.now.table_id c.args.crew back c.start.result
    (keep_aside g.F.Receiver.stands_for c.args.table.now.table_id c.args.crew rest (c.args.left - 1)
    (sitting c.take_out-seated.result.seat c.take_out-seated.result.player)
    c.requires.seated c.take_out-seated.ensures back (sitting c.in-Err.seated.seat c.in-Err.seated.player)
    c.in-Err.ensures.err c.put_back-in-Err.ensures)
    c.start.ensures.crew

pub start_one-requires-clause-layout : goal.start_one-requires-clause-layout
start_one-requires-clause-layout g t c κs within = let rest = c.take_out-seated.new.self in
    taken_laid g.F.Receiver.stands_for c.args.table.now.table_id c.args.layout c.args.crew rest (c.args.left - 1)
    (sitting c.take_out-seated.result.seat c.take_out-seated.result.player)
    c.requires.seated c.requires.laid c.take_out-seated.ensures

pub start-crew-requires-clause-laid : goal.start-crew-requires-clause-laid
start-crew-requires-clause-laid g t c κs within = let rest = c.take_out-seated.new.self in
    rest_laid g.F.Receiver.stands_for c.args.table.now.table_id c.args.layout c.args.crew rest (c.args.left - 1)
    (sitting c.take_out-seated.result.seat c.take_out-seated.result.player)
    c.requires.seated c.requires.laid c.take_out-seated.ensures

pub start-requires-clause-laid : goal.start-requires-clause-laid
start-requires-clause-laid g t c κs within = let rest = c.take_out-seated.new.self in
    keep_laid g.F.Receiver.stands_for c.args.table.now.table_id c.args.layout c.args.crew c.put_back-in-Err.new.self
    c.requires.seated c.requires.laid
    (keep_aside g.F.Receiver.stands_for c.args.table.now.table_id c.args.crew rest (c.args.left - 1)
    (sitting c.take_out-seated.result.seat c.take_out-seated.result.player) c.requires.seated c.take_out-seated.ensures c.put_back-in-Err.new.self
    (sitting c.in-Err.seated.seat c.in-Err.seated.player) c.in-Err.ensures.err c.put_back-in-Err.ensures)
