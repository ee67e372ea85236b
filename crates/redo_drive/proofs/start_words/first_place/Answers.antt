use Rattle.std.proofs.Common.{ap, arith, sym, ◌≡◌}
use Rattle.std.specs.Prelude.{slice_index}
use Rattle.redo_drive.proofs.StartWordsPlaces.{follower_place}
use Rattle.redo_drive.proofs.start_words.first_place.Goals as goal
use Rattle.redo_drive.specs.Setups.{first_places}

pub returns-then-reader-eq0 : goal.returns-then-reader-eq0
returns-then-reader-eq0 c =
    let archiver : c.args.reader ≡ 0 = omega (arith, c.if-reader-eq0.true) in
    ap (slice_index (first_places c.args.start)) (sym archiver)

pub returns-else-reader-eq0 : goal.returns-else-reader-eq0
returns-else-reader-eq0 c =
    sym (follower_place c.args.start c.args.reader (omega (arith, c.if-reader-eq0.false)) c.requires.there)
