use Rattle.tests_threads.proofs.Turned.{laid_at, seat_at, turned}
use Rattle.tests_threads.proofs.seats.turns.turn_at.Goals as goal

pub turn-requires-clause-seat : goal.turn-requires-clause-seat
turn-requires-clause-seat g c = seat_at c.args.table.now.table_id c.args.layout c.args.seats.now.items c.args.players.now.items c.requires.plays
    c.args.seat c.index_mut.result.now c.index_mut-2.result.now c.index_mut.ensures.value c.index_mut-2.ensures.value
    c.requires.there

pub turn-requires-clause-layout : goal.turn-requires-clause-layout
turn-requires-clause-layout g c = laid_at c.args.table.now.table_id c.args.layout c.args.seats.now.items
    c.args.players.now.items c.requires.plays c.args.seat c.index_mut.result.now c.index_mut-2.result.now
    c.index_mut.ensures.value c.index_mut-2.ensures.value c.requires.there

pub returns-clause-plays : goal.returns-clause-plays
returns-clause-plays g c = turned c.args.table.now.table_id c.args.layout c.args.seats.now.items c.args.players.now.items
    c.requires.plays c.args.seat c.index_mut.result.now c.index_mut-2.result.now c.index_mut.ensures.value
    c.index_mut-2.ensures.value c.requires.there c.turn.new.seat c.turn.new.player c.turn.ensures.seat
    c.turn.ensures.number c.turn.ensures.layout c.turn.ensures.same
