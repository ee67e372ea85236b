use Rattle.std.proofs.Common.{◌≡◌, ◌≤◌, ◌∙◌, ℕ, List, length, ap, sym, refl, arith}
use Rattle.std.proofs.lemmas.List.{length_push}
use Rattle.model_log.specs.{data_of, place_in}
use Rattle.model_log.specs.declared.layout.TheConstants.{BLOCK_DATA}
use Rattle.redo_recover.specs.Taking.{bytes_at, five_of, found_at, four_of}
use Rattle.redo_recover.specs.declared.full.FullBlocks.{FullBlocks}
use Rattle.redo_recover.proofs.Scanning.{length-data_of}
use Rattle.redo_recover.proofs.Stretching.{bounds-none, bounds-push, full-next, full-none}
use Rattle.redo_recover.proofs.full.take_full.Goals as goal

pub loop-init : goal.loop-init
loop-init c =
    let views = c.in_ok-views.ensures.items in
    let joined = c.in_ok-joined.ensures.items in
    let none : FullBlocks = record { lsn = c.args.lsn; views = c.in_ok-views.views; joined = c.in_ok-joined.joined } in (
      omega (arith, ap length views),
      record { bounds = bounds-none none views joined; in_log = λ image of are. full-none c.args.layout.now image none views joined },
    )

pub loop-preserved : goal.loop-preserved
loop-preserved c =
    let layout = c.args.layout.now in
    let place : List ℕ = c.sector-place.result.now in
    let tails : List ℕ = c.args.tails.now in
    let before = c.loop.invariant.1 in
    let old : FullBlocks = record { lsn = c.args.lsn; views = c.loop.views; joined = c.loop.joined } in
    let new : FullBlocks = record { lsn = c.args.lsn; views = c.push.new.self; joined = c.extend_from_slice.new.self } in
    let views = c.in_ok-push.ensures.items in
    let joined = c.in_ok-extend_from_slice.ensures.items in
    let data_is : c.block_data.result.now ≡ data_of c.in-Some.view (bytes_at place tails c.in-Some.stand) = c.block_data.ensures ∙ ap (data_of c.in-Some.view) c.bytes_at.ensures in
    let room : length c.block_data.result.now ≤ BLOCK_DATA = omega (arith, ap length data_is, length-data_of c.in-Some.view (bytes_at place tails c.in-Some.stand)) in (
      omega (arith, c.loop.invariant.0, ap length views, length_push c.loop.views.items c.in-Some.view),
      record {
        bounds = bounds-push old new c.in-Some.view c.block_data.result.now views joined before.bounds c.in-Some.ensures.first room;
        in_log = λ image of are. full-next layout old new c.args.piece.now c.offset_of-at.result place tails c.in-Some.stand c.in-Some.view c.block_data.result.now image
            refl views joined data_is (sym c.if-not-is_full.ensures) (c.if-not-has_sector.ensures.0 refl)
            (c.offset_of-at.ensures ∙ ap (place_in layout) c.loop.invariant.0) c.sector-place.ensures
            (sym c.in-Some.is ∙ c.take.ensures.found ∙ ap (λ (n : ℕ). found_at layout.format n place (four_of tails) (five_of tails)) c.loop.invariant.0)
            (record { piece_of = of; tails_of = are }) (before.in_log image of are);
      },
    )
