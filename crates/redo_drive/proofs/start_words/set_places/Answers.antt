use Rattle.std.proofs.Common.{add-one, arith}
use Rattle.redo_drive.proofs.StartWordsPlaces.{places_all, places_more, places_none}
use Rattle.redo_drive.proofs.start_words.set_places.Goals as goal

pub loop-reader-init : goal.loop-reader-init
loop-reader-init c = places_none c.args.words.now c.args.start

pub loop-reader-preserved : goal.loop-reader-preserved
loop-reader-preserved c =
    let loop = c.loop-reader in
    rw add-one
    (places_more c.args.words.now c.args.start loop.words c.set.new.words loop.reader c.first_place.result
    loop.invariant (omega arith) c.first_place.ensures c.set.ensures.layout c.set.ensures.named)

pub returns-clause-named : goal.returns-clause-named
returns-clause-named c =
    let loop = c.loop-reader in
    places_all c.args.words.now c.args.start loop.words loop.reader loop.invariant (omega arith)
