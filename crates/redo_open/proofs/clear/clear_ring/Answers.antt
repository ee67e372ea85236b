-- One piece after the other.
use Rattle.std.proofs.Common.{◌≡◌, ◌≤◌, ◌+◌, ℕ, Result, Ok, Err, subst, arith}
use Rattle.std.specs.Prelude.{replicate}
use Rattle.std.proofs.lemmas.Result.{err_from_is_err_and}
use Rattle.model_device.specs.{Covers}
use Rattle.model_log.specs.{place_in, round_of}
use Rattle.model_log.specs.declared.layout.Layout.{Layout}
use Rattle.model_log.proofs.Places.{sector-place}
use Rattle.redo_disk.specs.{write_at, WriteStep, Seen}
use Rattle.redo_disk.specs.declared.error.DevError.{DevError}
use Rattle.redo_open.specs.Clear.{IsPiece, IsRingTo, ring_end}
use Rattle.redo_open.specs.Zeroing.{ZeroStep}
use Rattle.redo_open.proofs.Clears.{ring-less, ring-more, ring-none}
use Rattle.redo_open.proofs.Puts.{put_nothing, put_one, puts_then}
use Rattle.redo_open.proofs.Zeroing.{Either, written_zeros, zero_as, zero_failed, zero_nothing, zero_steps, zeros-within, zeros_write}
use Rattle.redo_open.proofs.clear.clear_ring.Goals as goal

-- the write of a piece
piece-step : (layout : Layout) (ckpt start at count place : ℕ) (old : Seen) (result : Result (Unit {0}) DevError) (new : Seen) → IsPiece layout ckpt start at count → place ≡ place_in layout at
    → WriteStep (write_at place (replicate count 0)) old result new → ZeroStep (Covers (zeros_write (place_in layout at) count)) (ring_end layout) old result new
piece-step layout ckpt start at count place old result new piece is step =
    written_zeros (place_in layout at + count) (place_in layout at) count (ring_end layout) old result new
    (record { from_sector = (let sectors = sector-place layout at in omega arith); whole_sectors = piece.whole; within = omega arith }) piece.side_by_side
    (subst (λ (n : ℕ). WriteStep (write_at n (replicate count 0)) old result new) is step)

pub loop-at-init : goal.loop-at-init
loop-at-init g c = record {
  aligned = omega (arith, c.block_of-at.ensures);
  from = omega (arith, c.block_of-at.ensures);
  up_to = omega (arith, c.block_of-at.ensures, c.round_of.ensures, c.requires.start.up_to, c.requires.start.place, c.requires.start.aligned);
  step = zero_nothing (IsRingTo c.args.layout.now c.args.ckpt c.args.start c.block_of-at.result) (ring_end c.args.layout.now) (g.L.Sectors.seen c.args.log.now) tt
      (λ k is. ring-none c.args.layout.now c.args.ckpt c.args.start k (subst (λ (n : ℕ). IsRingTo c.args.layout.now c.args.ckpt c.args.start n k) c.block_of-at.ensures is));
  calls = put_nothing g.L.Sectors.gives c.args.log.now;
}

pub write_zeros-requires-clause-range : goal.write_zeros-requires-clause-range
write_zeros-requires-clause-range g c = record {
  from_sector = omega (arith, sector-place c.args.layout.now c.loop-at.at, c.offset_of.ensures);
  whole_sectors = c.piece_length-count.ensures.whole;
  within = omega (arith, c.piece_length-count.ensures.side_by_side, c.offset_of.ensures, c.requires.long, c.loop-at.invariant.step.size);
}

pub loop-at-preserved : goal.loop-at-preserved
loop-at-preserved g c =
    let layout : Layout = c.args.layout.now in
    let ckpt : ℕ = c.args.ckpt in
    let start : ℕ = c.args.start in
    let at : ℕ = c.loop-at.at in
    let count : ℕ = c.piece_length-count.result in
    let old = g.L.Sectors.seen c.args.log.now in
    let mid = g.L.Sectors.seen c.loop-at.log in
    let new = g.L.Sectors.seen c.write_zeros.new.device in
    let piece : IsPiece layout ckpt start at count = record {
      aligned = c.loop-at.invariant.aligned;
      from = c.loop-at.invariant.from;
      whole = c.piece_length-count.ensures.whole;
      within = omega (arith, c.piece_length-count.ensures.within, c.round_of.ensures);
      side_by_side = c.piece_length-count.ensures.side_by_side;
    } in
    let own = piece-step layout ckpt start at count c.offset_of.result mid (Ok c.in_ok-write_zeros.field-0) new piece c.offset_of.ensures c.in_ok-write_zeros.ensures.step in
    record {
      aligned = omega (arith, c.loop-at.invariant.aligned, c.piece_length-count.ensures.whole);
      from = omega (arith, c.loop-at.invariant.from);
      up_to = c.piece_length-count.ensures.within;
      step = zero_as (Either (IsRingTo layout ckpt start at) (Covers (zeros_write (place_in layout at) count))) (IsRingTo layout ckpt start (at + count)) (ring_end layout) old
          (Ok c.in_ok-write_zeros.field-0) new (λ k. ring-more layout ckpt start at count k c.requires.start piece) (λ k. ring-less layout ckpt start at count k c.requires.start piece)
          (zero_steps (IsRingTo layout ckpt start at) (Covers (zeros_write (place_in layout at) count)) (ring_end layout) old mid tt (Ok c.in_ok-write_zeros.field-0) new
          c.loop-at.invariant.step own);
      calls = puts_then c.loop-at.invariant.calls (put_one (zeros-within (ring_end layout) c.offset_of.result count (omega (arith, c.piece_length-count.ensures.side_by_side, c.offset_of.ensures)))
          c.in_ok-write_zeros.ensures.gives);
    }

pub returns-in_err-write_zeros-clause-step : goal.returns-in_err-write_zeros-clause-step
returns-in_err-write_zeros-clause-step g c =
    let layout : Layout = c.args.layout.now in
    let ckpt : ℕ = c.args.ckpt in
    let start : ℕ = c.args.start in
    let at : ℕ = c.loop-at.at in
    let count : ℕ = c.piece_length-count.result in
    let old = g.L.Sectors.seen c.args.log.now in
    let mid = g.L.Sectors.seen c.loop-at.log in
    let new = g.L.Sectors.seen c.write_zeros.new.device in
    let piece : IsPiece layout ckpt start at count = record {
      aligned = c.loop-at.invariant.aligned;
      from = c.loop-at.invariant.from;
      whole = c.piece_length-count.ensures.whole;
      within = omega (arith, c.piece_length-count.ensures.within, c.round_of.ensures);
      side_by_side = c.piece_length-count.ensures.side_by_side;
    } in
    let own = piece-step layout ckpt start at count c.offset_of.result mid (Err c.in_err-write_zeros.field-0.0) new piece c.offset_of.ensures c.in_err-write_zeros.ensures.step in
    let up_to : at + count ≤ ckpt + round_of layout = omega (arith, c.piece_length-count.ensures.within, c.round_of.ensures) in
    let step = zero_failed (Either (IsRingTo layout ckpt start at) (Covers (zeros_write (place_in layout at) count))) (IsRingTo layout ckpt start (ckpt + round_of layout)) (ring_end layout) old
    c.in_err-write_zeros.field-0.0 new
    (λ k is. (let more = ring-more layout ckpt start at count k c.requires.start piece is in (more.0, more.1, omega (arith, more.2), more.3)))
    (zero_steps (IsRingTo layout ckpt start at) (Covers (zeros_write (place_in layout at) count)) (ring_end layout) old mid tt (Err c.in_err-write_zeros.field-0.0) new
    c.loop-at.invariant.step own) in
    let p = err_from_is_err_and c.from_residual.result c.from_residual.ensures.1 in rw (p.1, p.2) step

pub returns-in_err-write_zeros-clause-calls : goal.returns-in_err-write_zeros-clause-calls
returns-in_err-write_zeros-clause-calls g c =
    let made = puts_then c.loop-at.invariant.calls (put_one (zeros-within (ring_end c.args.layout.now) c.offset_of.result c.piece_length-count.result
    (omega (arith, c.piece_length-count.ensures.side_by_side, c.offset_of.ensures))) c.in_err-write_zeros.ensures.gives) in
    let p = err_from_is_err_and c.from_residual.result c.from_residual.ensures.1 in rw (p.1, p.2) made

pub returns-clause-step : goal.returns-clause-step
returns-clause-step g c =
    let end : c.loop-at.at ≡ c.args.ckpt + round_of c.args.layout.now = omega (arith, c.loop-at-test.false, c.loop-at.invariant.up_to, c.round_of.ensures) in
    subst (λ (n : ℕ). ZeroStep (IsRingTo c.args.layout.now c.args.ckpt c.args.start n) (ring_end c.args.layout.now) (g.L.Sectors.seen c.args.log.now) (Ok tt) (g.L.Sectors.seen c.loop-at.log))
    end c.loop-at.invariant.step
