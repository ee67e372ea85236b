use Rattle.std.proofs.Common.{◌≡◌, ◌≤◌, ◌+◌, ◌∙◌, ℕ, List, Option, Some, None, length, sym, ap, refl, subst, arith}
use Rattle.std.proofs.lemmas.List.{length_push}
use Rattle.std.proofs.lemmas.Result.{err_from_is_err_and}
use Rattle.model_log.specs.declared.block.BlockView.{BlockView}
use Rattle.model_log.specs.declared.layout.TheConstants.{BLOCK_DATA}
use Rattle.model_log.specs.declared.cause.Cause.TheVariants.{Partial, Round}
use Rattle.model_log.specs.{data_of, IsStop, lsn_at}
use Rattle.model_store.specs.{AreFoundIn, taken}
use Rattle.redo_disk.specs.declared.error.DevError.TheVariants.{NoMemory}
use Rattle.model_store.specs.declared.tail.Tail.{Tail}
use Rattle.redo_recover.specs.Blocks.{AreBlocksOf}
use Rattle.redo_recover.specs.Devices.{OnContent}
use Rattle.redo_recover.specs.Full.{AreBlocksSoFar, AreFullIn, AreStanding}
use Rattle.redo_recover.specs.Taking.{AreTailsOf, bytes_at, tail_block_at}
use Rattle.redo_recover.specs.declared.taking.Stand.{Stand}
use Rattle.redo_recover.proofs.Bounds.{bounded-push}
use Rattle.redo_recover.proofs.Contents.{content-both, content-weaker}
use Rattle.redo_recover.proofs.Scanning.{IsTakenAt, taken-here, so_far-next, read-stopped, read-last, read-all, length-data_of}
use Rattle.redo_recover.proofs.Stopping.{stopped-part, stopped-round, stopped-unread}
use Rattle.redo_recover.proofs.Tailing.{found-all, found-last, standing-next}
use Rattle.redo_recover.proofs.Only.{only-own, only-then}
use Rattle.redo_recover.proofs.Unchanged.{content-after}
use Rattle.redo_recover.proofs.blocks.read_blocks.Goals as goal

pub with_sector-requires-clause-within : goal.with_sector-requires-clause-within
with_sector-requires-clause-within g c =
    omega (arith, c.readable_end-end.ensures.within, c.requires.long, c.loop-i.invariant.reads.unchanged.size)

pub loop-i-init : goal.loop-i-init
loop-i-init g c =
    let middle = g.L.Sectors.seen c.read_tails.new.log in
    let new = g.L.Sectors.seen c.read_ahead.new.log in
    let layout = c.args.layout.now in
    let ahead = c.in_ok-ahead.ensures in
    let full = c.in_ok-ahead.ahead.full in
    let many : length full.views.items ≡ c.len-i.result = omega (arith, c.len-i.ensures, full.views.ok.0) in
    record {
      reads = only-then c.args.log.now c.read_tails.new.log c.read_ahead.new.log None c.in_ok-tails.ensures.reads ahead.reads;
      tails = content-after middle new (AreTailsOf layout.format c.in_ok-tails.tails) ahead.reads.unchanged c.in_ok-tails.ensures.tails;
      piece = ahead.piece;
      many = many;
      bounded = ahead.bounded;
      so_far = content-weaker new.tells (AreFullIn layout full)
          (λ image. AreBlocksSoFar c.args.ckpt full.views.items full.joined.items c.len-i.result (taken layout image))
          (λ image a. subst (λ (n : ℕ). AreBlocksSoFar c.args.ckpt full.views.items full.joined.items n (taken layout image)) many
          (subst (λ (lsn : ℕ). AreBlocksSoFar lsn full.views.items full.joined.items (length full.views.items) (taken layout image)) ahead.from a.so_far))
          ahead.full;
      standing = content-weaker new.tells (AreFullIn layout full) (AreStanding layout c.args.ckpt c.len-i.result)
          (λ image a. subst (λ (n : ℕ). AreStanding layout c.args.ckpt n image) many
          (subst (λ (lsn : ℕ). AreStanding layout lsn (length full.views.items) image) ahead.from a.standing)) ahead.full;
    }

pub loop-i-preserved : goal.loop-i-preserved
loop-i-preserved g c =
    let middle = g.L.Sectors.seen c.loop-i.log in
    let new = g.L.Sectors.seen c.with_sector.new.device in
    let step = c.in_ok-piece.ensures.reads.unchanged in
    let layout = c.args.layout.now in
    let i = c.loop-i.i in
    let place : List ℕ = c.sector-place.result.now in
    let tails : List ℕ = c.in_ok-tails.tails in
    let piece = c.in_ok-piece.piece in
    let before = c.loop-i.invariant in
    let of = c.in_ok-piece.ensures.content before.piece in
    let of_tails = content-after middle new (AreTailsOf layout.format tails) step before.tails in
    let found : Option (Stand × BlockView) = Some (c.in-Some.stand, c.in-Some.view) in
    let here = taken-here new.tells layout c.args.ckpt i piece c.offset_of-at.result place tails found c.in_ok-piece.ensures.has c.offset_of-at.ensures
    c.sector-place.ensures (sym c.in-Some.is ∙ c.take.ensures.found) of of_tails in
    let so_far : List ℕ → Type 0 = λ image. AreBlocksSoFar c.args.ckpt c.loop-i.views.items c.loop-i.joined.items i (taken layout image) in
    let block : List ℕ = bytes_at place tails c.in-Some.stand in
    let data_is : c.block_data.result.now ≡ data_of c.in-Some.view block = c.block_data.ensures ∙ ap (data_of c.in-Some.view) c.bytes_at.ensures in
    let views : length c.push.new.self.items ≡ length c.loop-i.views.items + 1 = ap length c.in_ok-push.ensures.items ∙ length_push c.loop-i.views.items c.in-Some.view in
    let room : length c.block_data.result.now ≤ BLOCK_DATA = omega (arith, ap length data_is, length-data_of c.in-Some.view block) in
    record {
      reads = only-then c.args.log.now c.loop-i.log c.with_sector.new.device None before.reads c.in_ok-piece.ensures.reads;
      tails = of_tails;
      piece = of;
      many = omega (arith, views, before.many);
      bounded = bounded-push layout.blocks c.loop-i.views.items c.push.new.self.items c.in-Some.view c.loop-i.joined.items c.extend_from_slice.new.self.items
          c.block_data.result.now before.bounded (omega (arith, before.many)) c.in-Some.ensures.first room c.in_ok-push.ensures.items
          c.in_ok-extend_from_slice.ensures.items;
      so_far = content-both new.tells so_far (IsTakenAt layout c.args.ckpt i found place tails)
          (λ image. AreBlocksSoFar c.args.ckpt c.push.new.self.items c.extend_from_slice.new.self.items (i + 1) (taken layout image))
          (λ image a t. so_far-next c.args.ckpt c.loop-i.views.items c.loop-i.joined.items i (taken layout image) c.in-Some.view block
          c.push.new.self.items c.extend_from_slice.new.self.items c.block_data.result.now a t.takes (sym c.if-not-is_full.ensures)
          c.in_ok-push.ensures.items c.in_ok-extend_from_slice.ensures.items data_is)
          (content-after middle new so_far step before.so_far) here;
      standing = content-both new.tells (IsTakenAt layout c.args.ckpt i found place tails) (AreStanding layout c.args.ckpt i) (AreStanding layout c.args.ckpt (i + 1))
          (λ image t standing. standing-next layout c.args.ckpt i c.in-Some.stand c.in-Some.view place tails image t (sym c.if-not-is_full.ensures) standing)
          here (content-after middle new (AreStanding layout c.args.ckpt i) step before.standing);
    }

-- WHERE NO BLOCK IS TAKEN.

pub returns-in_default-clause-blocks : goal.returns-in_default-clause-blocks
returns-in_default-clause-blocks g c =
    let middle = g.L.Sectors.seen c.loop-i.log in
    let new = g.L.Sectors.seen c.with_sector.new.device in
    let step = c.in_ok-piece.ensures.reads.unchanged in
    let layout = c.args.layout.now in
    let i = c.loop-i.i in
    let place : List ℕ = c.sector-place.result.now in
    let tails : List ℕ = c.in_ok-tails.tails in
    let piece = c.in_ok-piece.piece in
    let before = c.loop-i.invariant in
    let of = c.in_ok-piece.ensures.content before.piece in
    let of_tails = content-after middle new (AreTailsOf layout.format tails) step before.tails in
    let found : Option (Stand × BlockView) = None in
    let here = taken-here new.tells layout c.args.ckpt i piece c.offset_of-at.result place tails found c.in_ok-piece.ensures.has c.offset_of-at.ensures
    c.sector-place.ensures (sym c.in_default.is ∙ c.take.ensures.found) of of_tails in
    let so_far : List ℕ → Type 0 = λ image. AreBlocksSoFar c.args.ckpt c.loop-i.views.items c.loop-i.joined.items i (taken layout image) in
    content-both new.tells so_far (IsTakenAt layout c.args.ckpt i found place tails)
    (λ image. AreBlocksOf layout.blocks c.args.ckpt c.loop-i.views.items c.loop-i.joined.items (taken layout image))
    (λ image a t. read-stopped layout.blocks c.args.ckpt c.loop-i.views.items c.loop-i.joined.items i (taken layout image) a (omega arith) t.takes)
    (content-after middle new so_far step before.so_far) here

pub returns-in_default-clause-stop : goal.returns-in_default-clause-stop
returns-in_default-clause-stop g c =
    let middle = g.L.Sectors.seen c.loop-i.log in
    let new = g.L.Sectors.seen c.with_sector.new.device in
    let step = c.in_ok-piece.ensures.reads.unchanged in
    let layout = c.args.layout.now in
    let i = c.loop-i.i in
    let place : List ℕ = c.sector-place.result.now in
    let tails : List ℕ = c.in_ok-tails.tails in
    let piece = c.in_ok-piece.piece in
    let before = c.loop-i.invariant in
    let of = c.in_ok-piece.ensures.content before.piece in
    let of_tails = content-after middle new (AreTailsOf layout.format tails) step before.tails in
    let found : Option (Stand × BlockView) = None in
    let here = taken-here new.tells layout c.args.ckpt i piece c.offset_of-at.result place tails found c.in_ok-piece.ensures.has c.offset_of-at.ensures
    c.sector-place.ensures (sym c.in_default.is ∙ c.take.ensures.found) of of_tails in
    let so_far : List ℕ → Type 0 = λ image. AreBlocksSoFar c.args.ckpt c.loop-i.views.items c.loop-i.joined.items i (taken layout image) in
    let lsn = lsn_at c.args.ckpt i in
    content-both new.tells so_far (IsTakenAt layout c.args.ckpt i found place tails)
    (IsStop layout c.args.ckpt c.loop-i.views.items (lsn, c.untaken.result))
    (λ image a t. stopped-unread layout c.args.ckpt c.loop-i.views.items c.loop-i.joined.items i lsn c.untaken.result found
    place tails image a (omega arith) t refl c.untaken.ensures)
    (content-after middle new so_far step before.so_far) here

pub returns-in_default-clause-tail : goal.returns-in_default-clause-tail
returns-in_default-clause-tail g c =
    let middle = g.L.Sectors.seen c.loop-i.log in
    let new = g.L.Sectors.seen c.with_sector.new.device in
    let layout = c.args.layout.now in
    content-weaker new.tells (AreStanding layout c.args.ckpt c.loop-i.i) (λ image. AreFoundIn layout image c.args.ckpt c.loop-i.views.items None)
    (λ image standing. found-all layout c.args.ckpt c.loop-i.views.items c.loop-i.i image c.loop-i.invariant.many standing) (content-after middle new (AreStanding layout c.args.ckpt c.loop-i.i) c.in_ok-piece.ensures.reads.unchanged c.loop-i.invariant.standing)

pub returns-in_default-clause-bounded : goal.returns-in_default-clause-bounded
returns-in_default-clause-bounded g c = c.loop-i.invariant.bounded

pub returns-in_default-clause-reads : goal.returns-in_default-clause-reads
returns-in_default-clause-reads g c = only-then c.args.log.now c.loop-i.log c.with_sector.new.device None c.loop-i.invariant.reads c.in_ok-piece.ensures.reads

-- WHERE THE LAST ONE ISN'T FULL.

pub returns-then-not-is_full-clause-blocks : goal.returns-then-not-is_full-clause-blocks
returns-then-not-is_full-clause-blocks g c =
    let middle = g.L.Sectors.seen c.loop-i.log in
    let new = g.L.Sectors.seen c.with_sector.new.device in
    let step = c.in_ok-piece.ensures.reads.unchanged in
    let layout = c.args.layout.now in
    let i = c.loop-i.i in
    let place : List ℕ = c.sector-place.result.now in
    let tails : List ℕ = c.in_ok-tails.tails in
    let piece = c.in_ok-piece.piece in
    let before = c.loop-i.invariant in
    let of = c.in_ok-piece.ensures.content before.piece in
    let of_tails = content-after middle new (AreTailsOf layout.format tails) step before.tails in
    let found : Option (Stand × BlockView) = Some (c.in-Some.stand, c.in-Some.view) in
    let here = taken-here new.tells layout c.args.ckpt i piece c.offset_of-at.result place tails found c.in_ok-piece.ensures.has c.offset_of-at.ensures
    c.sector-place.ensures (sym c.in-Some.is ∙ c.take.ensures.found) of of_tails in
    let so_far : List ℕ → Type 0 = λ image. AreBlocksSoFar c.args.ckpt c.loop-i.views.items c.loop-i.joined.items i (taken layout image) in
    let block : List ℕ = bytes_at place tails c.in-Some.stand in
    let data_is : c.block_data.result.now ≡ data_of c.in-Some.view block = c.block_data.ensures ∙ ap (data_of c.in-Some.view) c.bytes_at.ensures in
    content-both new.tells so_far (IsTakenAt layout c.args.ckpt i found place tails)
    (λ image. AreBlocksOf layout.blocks c.args.ckpt c.push.new.self.items c.extend_from_slice.new.self.items (taken layout image))
    (λ image a t. read-last layout.blocks c.args.ckpt c.loop-i.views.items c.loop-i.joined.items i (taken layout image) c.in-Some.view block
    c.push.new.self.items c.extend_from_slice.new.self.items c.block_data.result.now a (omega arith) t.takes
    (sym c.if-not-is_full.ensures) c.in_ok-push.ensures.items c.in_ok-extend_from_slice.ensures.items data_is)
    (content-after middle new so_far step before.so_far) here

pub returns-then-not-is_full-clause-stop : goal.returns-then-not-is_full-clause-stop
returns-then-not-is_full-clause-stop g c =
    let middle = g.L.Sectors.seen c.loop-i.log in
    let new = g.L.Sectors.seen c.with_sector.new.device in
    let layout = c.args.layout.now in
    let lsn = lsn_at c.args.ckpt c.loop-i.i in
    content-weaker new.tells (λ image. AreBlocksSoFar c.args.ckpt c.loop-i.views.items c.loop-i.joined.items c.loop-i.i (taken layout image))
    (IsStop layout c.args.ckpt c.push.new.self.items (lsn, Partial))
    (λ image a. stopped-part layout c.args.ckpt c.loop-i.views.items c.loop-i.joined.items c.loop-i.i lsn c.in-Some.view c.push.new.self.items image a
    refl (sym c.if-not-is_full.ensures) c.in_ok-push.ensures.items)
    (content-after middle new (λ image. AreBlocksSoFar c.args.ckpt c.loop-i.views.items c.loop-i.joined.items c.loop-i.i (taken layout image)) c.in_ok-piece.ensures.reads.unchanged c.loop-i.invariant.so_far)

pub returns-then-not-is_full-clause-tail : goal.returns-then-not-is_full-clause-tail
returns-then-not-is_full-clause-tail g c =
    let middle = g.L.Sectors.seen c.loop-i.log in
    let new = g.L.Sectors.seen c.with_sector.new.device in
    let step = c.in_ok-piece.ensures.reads.unchanged in
    let layout = c.args.layout.now in
    let i = c.loop-i.i in
    let place : List ℕ = c.sector-place.result.now in
    let tails : List ℕ = c.in_ok-tails.tails in
    let piece = c.in_ok-piece.piece in
    let before = c.loop-i.invariant in
    let of = c.in_ok-piece.ensures.content before.piece in
    let of_tails = content-after middle new (AreTailsOf layout.format tails) step before.tails in
    let found : Option (Stand × BlockView) = Some (c.in-Some.stand, c.in-Some.view) in
    let here = taken-here new.tells layout c.args.ckpt i piece c.offset_of-at.result place tails found c.in_ok-piece.ensures.has c.offset_of-at.ensures
    c.sector-place.ensures (sym c.in-Some.is ∙ c.take.ensures.found) of of_tails in
    let lsn = lsn_at c.args.ckpt i in
    let known = content-both new.tells (IsTakenAt layout c.args.ckpt i found place tails) (AreStanding layout c.args.ckpt i)
    (λ image. AreFoundIn layout image c.args.ckpt c.push.new.self.items (tail_block_at lsn c.in-Some.stand))
    (λ image t standing. found-last layout c.args.ckpt c.loop-i.views.items c.push.new.self.items i c.in-Some.stand c.in-Some.view place tails image t
    (sym c.if-not-is_full.ensures) standing before.many c.in_ok-push.ensures.items)
    here (content-after middle new (AreStanding layout c.args.ckpt i) step before.standing) in
    subst (λ (tail : Option Tail). OnContent new.tells (λ image. AreFoundIn layout image c.args.ckpt c.push.new.self.items tail)) (sym c.tail_at-tail.ensures) known

pub returns-then-not-is_full-clause-bounded : goal.returns-then-not-is_full-clause-bounded
returns-then-not-is_full-clause-bounded g c =
    let block : List ℕ = bytes_at c.sector-place.result.now c.in_ok-tails.tails c.in-Some.stand in
    let data_is : c.block_data.result.now ≡ data_of c.in-Some.view block = c.block_data.ensures ∙ ap (data_of c.in-Some.view) c.bytes_at.ensures in
    let room : length c.block_data.result.now ≤ BLOCK_DATA = omega (arith, ap length data_is, length-data_of c.in-Some.view block) in
    bounded-push c.args.layout.now.blocks c.loop-i.views.items c.push.new.self.items c.in-Some.view c.loop-i.joined.items c.extend_from_slice.new.self.items
    c.block_data.result.now c.loop-i.invariant.bounded (omega (arith, c.loop-i.invariant.many)) c.in-Some.ensures.first room c.in_ok-push.ensures.items
    c.in_ok-extend_from_slice.ensures.items

pub returns-then-not-is_full-clause-reads : goal.returns-then-not-is_full-clause-reads
returns-then-not-is_full-clause-reads g c = only-then c.args.log.now c.loop-i.log c.with_sector.new.device None c.loop-i.invariant.reads c.in_ok-piece.ensures.reads

-- WHERE THE BLOCKS FILL THE LOG.

pub returns-clause-blocks : goal.returns-clause-blocks
returns-clause-blocks g c =
    let old = g.L.Sectors.seen c.loop-i.log in
    let layout = c.args.layout.now in
    content-weaker old.tells (λ image. AreBlocksSoFar c.args.ckpt c.loop-i.views.items c.loop-i.joined.items c.loop-i.i (taken layout image))
    (λ image. AreBlocksOf layout.blocks c.args.ckpt c.loop-i.views.items c.loop-i.joined.items (taken layout image))
    (λ image a. read-all layout.blocks c.args.ckpt c.loop-i.views.items c.loop-i.joined.items c.loop-i.i (taken layout image) a (omega arith)) c.loop-i.invariant.so_far

pub returns-clause-stop : goal.returns-clause-stop
returns-clause-stop g c =
    let old = g.L.Sectors.seen c.loop-i.log in
    let layout = c.args.layout.now in
    let lsn = c.args.ckpt + c.round_of.result in
    content-weaker old.tells (λ image. AreBlocksSoFar c.args.ckpt c.loop-i.views.items c.loop-i.joined.items c.loop-i.i (taken layout image))
    (IsStop layout c.args.ckpt c.loop-i.views.items (lsn, Round))
    (λ image a. stopped-round layout c.args.ckpt c.loop-i.views.items c.loop-i.joined.items c.loop-i.i lsn image a (omega arith)
    (ap (λ n. c.args.ckpt + n) c.round_of.ensures))
    c.loop-i.invariant.so_far

pub returns-clause-tail : goal.returns-clause-tail
returns-clause-tail g c =
    let old = g.L.Sectors.seen c.loop-i.log in
    let layout = c.args.layout.now in
    content-weaker old.tells (AreStanding layout c.args.ckpt c.loop-i.i) (λ image. AreFoundIn layout image c.args.ckpt c.loop-i.views.items None)
    (λ image standing. found-all layout c.args.ckpt c.loop-i.views.items c.loop-i.i image c.loop-i.invariant.many standing) c.loop-i.invariant.standing

pub returns-clause-bounded : goal.returns-clause-bounded
returns-clause-bounded g c = c.loop-i.invariant.bounded

pub returns-clause-reads : goal.returns-clause-reads
returns-clause-reads g c = c.loop-i.invariant.reads

-- WHERE A READ FAILS or memory runs out.

pub returns-in_err-ahead-clause-reads : goal.returns-in_err-ahead-clause-reads
returns-in_err-ahead-clause-reads g c =
    let p = err_from_is_err_and c.from_residual-in_err-ahead.result c.from_residual-in_err-ahead.ensures.1 in
    rw (p.1, p.2) (only-then c.args.log.now c.read_tails.new.log c.read_ahead.new.log _ c.in_ok-tails.ensures.reads c.in_err-ahead.ensures.reads)

pub returns-in_err-piece-clause-reads : goal.returns-in_err-piece-clause-reads
returns-in_err-piece-clause-reads g c =
    let p = err_from_is_err_and c.from_residual-in_err-piece.result c.from_residual-in_err-piece.ensures.1 in
    rw (p.1, p.2) (only-then c.args.log.now c.loop-i.log c.with_sector.new.device _ c.loop-i.invariant.reads c.in_err-piece.ensures.reads)

pub returns-in_err-push-clause-reads : goal.returns-in_err-push-clause-reads
returns-in_err-push-clause-reads g c =
    let p = err_from_is_err_and c.from_residual-in_err-push.result c.from_residual-in_err-push.ensures.1 in
    rw (p.1, p.2) (only-own c.args.log.now c.with_sector.new.device (Some NoMemory) tt
    (only-then c.args.log.now c.loop-i.log c.with_sector.new.device None c.loop-i.invariant.reads c.in_ok-piece.ensures.reads))

pub returns-in_err-extend_from_slice-clause-reads : goal.returns-in_err-extend_from_slice-clause-reads
returns-in_err-extend_from_slice-clause-reads g c =
    let p = err_from_is_err_and c.from_residual-in_err-extend_from_slice.result c.from_residual-in_err-extend_from_slice.ensures.1 in
    rw (p.1, p.2) (only-own c.args.log.now c.with_sector.new.device (Some NoMemory) tt
    (only-then c.args.log.now c.loop-i.log c.with_sector.new.device None c.loop-i.invariant.reads c.in_ok-piece.ensures.reads))
