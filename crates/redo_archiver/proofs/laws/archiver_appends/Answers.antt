use Rattle.std.proofs.Common.{arith, ◌+◌, ◌++◌, ◌<◌, ◌^◌, ◌≡◌}
use Rattle.model_log.specs.{block_of}
use Rattle.redo_archiver.proofs.OneBlock.{full-archived}
use Rattle.redo_archiver.proofs.Turning.{appending-mark}
use Rattle.redo_archiver.proofs.laws.archiver_appends.Goals as goal

pub returns-clause-archives : goal.returns-clause-archives
returns-clause-archives g c limit flushed mark pages early late r old new asks pace run full kept known =
    let at = pace.mark in
    let start = pace.start in
    let counted = pace.counted in
    let up_to = pace.up_to in
    let within = pace.within in
    let small = pace.small in
    let is = appending-mark r mark asks in
    let block : r.place ≡ block_of old.marks.mark = omega (arith, at, start, counted) in
    let next : old.marks.number + 1 < 2 ^ 64 = omega (arith, counted, up_to, within, small) in
    kept next pages (early ++ late) run
    (full-archived old.start early late old.marks.mark mark r.place r.block pace.start run block full
    (omega (arith, is)))
    known
