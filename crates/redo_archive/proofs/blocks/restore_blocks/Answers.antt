use Rattle.std.proofs.Common.{◌≡◌, ◌+◌, ◌-◌, ◌*◌, ℕ, List, length, min, take, Some, None, sym, ap, ◌∙◌, arith}
use Rattle.std.proofs.lemmas.Result.{err_from_is_err_and}
use Rattle.model_log.specs.{data_of, length_at, read_block}
use Rattle.model_archive.specs.{block_lsn}
use Rattle.model_archive.proofs.Images.{pages-sector}
use Rattle.redo_archive.proofs.Blocking.{block-read, blocks-after, blocks-broken, blocks-next, blocks-restored, blocks-short, IsBlockRead, length-sectors, room-next}
use Rattle.redo_archive.proofs.Restores.{only-fault}
use Rattle.redo_disk.specs.declared.error.DevError.TheVariants.{NoMemory}
use Rattle.redo_recover.proofs.Only.{only-own, only-then}
use Rattle.redo_archive.proofs.blocks.restore_blocks.Goals as goal

pub with_sector-requires-clause-at : goal.with_sector-requires-clause-at
with_sector-requires-clause-at g c =
    omega (arith, c.pages_end-from.ensures.value, pages-sector c.args.extent.now.shape c.requires.sound.limits)

pub with_sector-requires-clause-end : goal.with_sector-requires-clause-end
with_sector-requires-clause-end g c =
    omega (arith, c.archive_length-end.ensures, length-sectors c.args.extent.now c.requires.sound)

pub returns-in_err-piece-clause-reads : goal.returns-in_err-piece-clause-reads
returns-in_err-piece-clause-reads g c =
    let p = err_from_is_err_and c.from_residual.result c.from_residual.ensures.1 in
    rw (p.1, p.2) (only-fault _ _ _ (only-then _ _ _ _ c.loop-i.invariant.reads c.in_err-piece.ensures.reads))

pub returns-in_err-groups-clause-reads : goal.returns-in_err-groups-clause-reads
returns-in_err-groups-clause-reads g c =
    let p = err_from_is_err_and c.from_residual-in_err-groups.result c.from_residual-in_err-groups.ensures.1 in
    rw (p.1, p.2) (only-own _ _ (Some NoMemory) tt
    (only-then _ _ _ None c.loop-i.invariant.reads c.in_ok-piece.ensures.reads))

pub returns-in_default-clause-reads : goal.returns-in_default-clause-reads
returns-in_default-clause-reads g c = only-then _ _ _ None c.loop-i.invariant.reads c.in_ok-piece.ensures.reads

pub returns-in_default-clause-fault : goal.returns-in_default-clause-fault
returns-in_default-clause-fault g c =
    let extent = c.args.extent.now in
    let i : ℕ = c.loop-i.i in
    let middle = g.A.Sectors.seen c.loop-i.device in
    let now = g.A.Sectors.seen c.with_sector.new.device in
    let block = c.sector-block.result.now in
    let here = block-read now.tells extent i (c.pages_end-from.result + 512 * i) c.in_ok-piece.piece block
    (omega (arith, c.pages_end-from.ensures.value)) c.in_ok-piece.ensures.has c.sector-block.ensures
    (c.in_ok-piece.ensures.content c.loop-i.invariant.piece) in
    blocks-short now.tells extent c.args.lsn c.args.pages i c.loop-i.left c.loop-i.groups block
    (c.block_of-first.result + 512 * i) (omega (arith, c.loop-i-test.true, c.blocks_between-i-end.ensures.value))
    (omega (arith, c.block_of-first.ensures)) c.in_default.ensures.view here
    (blocks-after middle now extent c.args.lsn c.args.pages i c.loop-i.left c.loop-i.groups
    c.in_ok-piece.ensures.reads.unchanged c.loop-i.invariant.so_far)

pub loop-i-preserved : goal.loop-i-preserved
loop-i-preserved g c =
    let extent = c.args.extent.now in
    let i : ℕ = c.loop-i.i in
    let left : ℕ = c.loop-i.left in
    let view = c.in-Some.view in
    let middle = g.A.Sectors.seen c.loop-i.device in
    let now = g.A.Sectors.seen c.with_sector.new.device in
    let block = c.sector-block.result.now in
    let here = block-read now.tells extent i (c.pages_end-from.result + 512 * i) c.in_ok-piece.piece block
    (omega (arith, c.pages_end-from.ensures.value)) c.in_ok-piece.ensures.has c.sector-block.ensures
    (c.in_ok-piece.ensures.content c.loop-i.invariant.piece) in
    let lsn : c.block_of-first.result + 512 * i ≡ block_lsn extent i = omega (arith, c.block_of-first.ensures) in
    let read : read_block (block_lsn extent i) block ≡ Some view =
    ap (λ b. read_block b block) (sym lsn) ∙ c.in-Some.ensures.view.0 in
    let is : IsBlockRead extent i view block = record {
      read = read;
      long = omega (arith, ap (length_at extent.mark) lsn, c.in-Some.ensures.view.1);
    } in
    let count : c.min-count.result ≡ min (length (data_of view block)) left =
    c.min-count.ensures ∙ ap (λ (xs : List ℕ). min (length xs) left) c.block_data-data.ensures in
    record {
      reads = only-then _ _ _ None c.loop-i.invariant.reads c.in_ok-piece.ensures.reads;
      piece = c.in_ok-piece.ensures.content c.loop-i.invariant.piece;
      its_pages = c.in_ok-groups.ensures.its_pages;
      room = c.in_ok-groups.ensures.room (left - c.min-count.result)
          (room-next c.loop-i.groups.at c.loop-i.groups.restored.n c.loop-i.groups.rest.items left c.min-count.result
          c.block_data-data.result.now c.min-count.ensures c.loop-i.invariant.room);
      so_far = blocks-next now.tells extent c.args.lsn c.args.pages i left c.loop-i.groups c.in_ok-groups.groups view
          block _
          c.min-count.result is count (ap (take c.min-count.result) c.block_data-data.ensures)
          (λ aim before same_shape same_lsn old. c.in_ok-groups.ensures.read aim before same_shape same_lsn old) here
          (blocks-after middle now extent c.args.lsn c.args.pages i left c.loop-i.groups
          c.in_ok-piece.ensures.reads.unchanged c.loop-i.invariant.so_far);
    }

pub returns-then-broken-clause-fault : goal.returns-then-broken-clause-fault
returns-then-broken-clause-fault g c =
    blocks-broken (g.A.Sectors.seen c.loop-i.device).tells c.args.extent.now c.args.lsn c.args.pages c.loop-i.i
    c.loop-i.left
    c.loop-i.groups (omega arith) c.if-broken.true c.loop-i.invariant.so_far

pub returns-clause-restored : goal.returns-clause-restored
returns-clause-restored g c =
    blocks-restored (g.A.Sectors.seen c.loop-i.device).tells c.args.extent.now c.args.lsn c.args.pages c.loop-i.i
    c.loop-i.left c.loop-i.groups (omega arith) c.if-broken.false c.loop-i.invariant.so_far
