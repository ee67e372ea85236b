use Rattle.std.proofs.Common.{arith}
use Rattle.redo_threads.proofs.CrewArchive.{at_index, none_more}
use Rattle.redo_threads.proofs.Ending.{past}
use Rattle.redo_threads.proofs.run.archiver_at.Goals as goal

pub returns-then-is_archiver : goal.returns-then-is_archiver
returns-then-is_archiver g c = (
  c.index-players-place.result,
  at_index c.args.players.now c.loop-place.place c.index-players-place.result c.loop-place-test.true c.index-players-place.is,
  c.is_archiver.ensures.is c.if-is_archiver.true,
)

pub loop-place-preserved : goal.loop-place-preserved
loop-place-preserved g c = none_more c.args.players.now c.loop-place.place c.index-players-place.result
    c.loop-place-test.true c.index-players-place.is c.loop-place.invariant (c.is_archiver.ensures.other c.if-is_archiver.false)

pub unreachable-requires : goal.unreachable-requires
unreachable-requires g c =
    let e = c.requires in
    let less = past c.args.players.now e.0 e.1 e.2 in
    let end = c.loop-place-test.false in
    c.loop-place.invariant e.0 e.1 (omega arith) e.2 e.3
