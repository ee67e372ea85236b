-- The place goes, and then the tail block.
use Rattle.std.proofs.Common.{◌≡◌, ◌≤◌, ◌<◌, ◌+◌, ◌*◌, ℕ, inl, inr, Result, Ok, Err, Some, sym, subst, ⊎_elim, arith}
use Rattle.std.specs.Prelude.{replicate}
use Rattle.std.proofs.lemmas.Result.{err_from_is_err_and}
use Rattle.model_device.specs.{Covers}
use Rattle.model_log.specs.{block_of, IsLayout, IsTailPlace, place_in}
use Rattle.model_log.specs.declared.layout.Layout.{Layout}
use Rattle.model_log.proofs.Layouts.{has-blocks}
use Rattle.model_log.proofs.Places.{place-within, sector-place}
use Rattle.model_parts.specs.{IsOfTail}
use Rattle.model_store.specs.declared.tail.Tail.{Tail}
use Rattle.redo_disk.specs.{IsRange, write_at, WriteStep, Seen}
use Rattle.redo_disk.specs.declared.error.DevError.{DevError}
use Rattle.redo_open.specs.Clear.{ring_end}
use Rattle.redo_open.specs.Zeroing.{ZeroStep}
use Rattle.redo_open.proofs.Clears.{block-covers, covers-block, covers-place, place-covers}
use Rattle.redo_open.proofs.Puts.{put_one, puts_then}
use Rattle.redo_open.proofs.Zeroing.{Either, written_zeros, zero_as, zero_failed, zero_steps, zeros-within, zeros_write}
use Rattle.redo_open.proofs.clear.clear_found.Goals as goal

-- the writes of the place and of the tail block
place-range : (layout : Layout) (b size : ℕ) → IsLayout layout → ring_end layout ≤ size → IsRange size (place_in layout b) 512
place-range layout b size is long =
    let within : place_in layout b + 512 ≤ ring_end layout = place-within layout b (has-blocks layout is) in
    let place = sector-place layout b in
    record { from_sector = omega arith; whole_sectors = omega arith; within = omega arith }

place-step : (layout : Layout) (b place : ℕ) (old : Seen) (result : Result (Unit {0}) DevError) (new : Seen) → IsLayout layout → place ≡ place_in layout b
    → WriteStep (write_at place (replicate 512 0)) old result new → ZeroStep (Covers (zeros_write (place_in layout b) 512)) (ring_end layout) old result new
place-step layout b place old result new is same step =
    let within : place_in layout b + 512 ≤ ring_end layout = place-within layout b (has-blocks layout is) in
    written_zeros (ring_end layout) (place_in layout b) 512 (ring_end layout) old result new (place-range layout b (ring_end layout) is (omega arith)) within
    (subst (λ (n : ℕ). WriteStep (write_at n (replicate 512 0)) old result new) same step)

tail-end : (layout : Layout) (which : ℕ) → IsLayout layout → IsTailPlace which → 512 * which + 512 ≤ ring_end layout
tail-end layout which is place = ⊎_elim (λ e. omega (arith, is.after_header, is.many_blocks)) (λ o. omega (arith, is.after_header, is.many_blocks)) place

tail-step : (layout : Layout) (which : ℕ) (old : Seen) (result : Result (Unit {0}) DevError) (new : Seen) → IsLayout layout → IsTailPlace which
    → WriteStep (write_at (512 * which) (replicate 512 0)) old result new → ZeroStep (Covers (zeros_write (512 * which) 512)) (ring_end layout) old result new
tail-step layout which old result new is place step =
    let within : 512 * which + 512 ≤ ring_end layout = tail-end layout which is place in
    written_zeros (ring_end layout) (512 * which) 512 (ring_end layout) old result new (record { from_sector = omega arith; whole_sectors = omega arith; within = within }) within step

-- which sectors these are
of-place : (layout : Layout) (start k : ℕ) (tail : Tail) → Covers (zeros_write (place_in layout tail.lsn) 512) k → IsOfTail layout start (Some tail) k
of-place layout start k tail covers = inl (covers-place layout tail.lsn k covers)

of-both : (layout : Layout) (start k : ℕ) (tail : Tail) → block_of start ≤ tail.lsn
    → Either (Covers (zeros_write (place_in layout tail.lsn) 512)) (Covers (zeros_write (512 * tail.which) 512)) k → IsOfTail layout start (Some tail) k
of-both layout start k tail from is = ⊎_elim (λ place. of-place layout start k tail place) (λ own. inr (covers-block tail.which k own, from)) is

both-of : (layout : Layout) (start k : ℕ) (tail : Tail) → IsOfTail layout start (Some tail) k
    → Either (Covers (zeros_write (place_in layout tail.lsn) 512)) (Covers (zeros_write (512 * tail.which) 512)) k
both-of layout start k tail is = ⊎_elim (λ place. inl (place-covers layout tail.lsn k place)) (λ own. inr (block-covers tail.which k own.0)) is

place-of : (layout : Layout) (start k : ℕ) (tail : Tail) → tail.lsn < block_of start → IsOfTail layout start (Some tail) k → Covers (zeros_write (place_in layout tail.lsn) 512) k
place-of layout start k tail before is = ⊎_elim (λ place. place-covers layout tail.lsn k place) (λ own. absurd (omega (arith, own.1))) is

pub write_zeros-requires-clause-range : goal.write_zeros-requires-clause-range
write_zeros-requires-clause-range g c =
    subst (λ (n : ℕ). IsRange (g.L.Sectors.seen c.args.log.now).size n 512) (sym c.offset_of.ensures)
    (place-range c.args.layout.now c.args.tail.lsn (g.L.Sectors.seen c.args.log.now).size c.requires.is_layout c.requires.long)

pub write_zeros-requires-else-tail-block_of-clause-range : goal.write_zeros-requires-else-tail-block_of-clause-range
write_zeros-requires-else-tail-block_of-clause-range g c =
    let within = tail-end c.args.layout.now c.args.tail.which c.requires.is_layout c.requires.place in
    record { from_sector = omega arith; whole_sectors = omega arith; within = omega (arith, c.in_ok-write_zeros.ensures.step.size, c.requires.long) }

pub returns-in_err-write_zeros-clause-step : goal.returns-in_err-write_zeros-clause-step
returns-in_err-write_zeros-clause-step g c =
    let layout : Layout = c.args.layout.now in
    let tail : Tail = c.args.tail in
    let old = g.L.Sectors.seen c.args.log.now in
    let new = g.L.Sectors.seen c.write_zeros.new.device in
    let own = place-step layout tail.lsn c.offset_of.result old (Err c.in_err-write_zeros.field-0.0) new c.requires.is_layout c.offset_of.ensures c.in_err-write_zeros.ensures.step in
    let step = zero_failed (Covers (zeros_write (place_in layout tail.lsn) 512)) (IsOfTail layout c.args.start (Some tail)) (ring_end layout) old c.in_err-write_zeros.field-0.0 new
    (λ k. of-place layout c.args.start k tail) own in
    let p = err_from_is_err_and c.from_residual.result c.from_residual.ensures.1 in rw (p.1, p.2) step

pub returns-in_err-write_zeros-clause-calls : goal.returns-in_err-write_zeros-clause-calls
returns-in_err-write_zeros-clause-calls g c =
    let within = place-within c.args.layout.now c.args.tail.lsn (has-blocks c.args.layout.now c.requires.is_layout) in
    let made = put_one (zeros-within (ring_end c.args.layout.now) c.offset_of.result 512 (omega (arith, c.offset_of.ensures))) c.in_err-write_zeros.ensures.gives in
    let p = err_from_is_err_and c.from_residual.result c.from_residual.ensures.1 in rw (p.1, p.2) made

pub returns-then-tail-block_of-clause-step : goal.returns-then-tail-block_of-clause-step
returns-then-tail-block_of-clause-step g c =
    let layout : Layout = c.args.layout.now in
    let tail : Tail = c.args.tail in
    let old = g.L.Sectors.seen c.args.log.now in
    let new = g.L.Sectors.seen c.write_zeros.new.device in
    let before : tail.lsn < block_of c.args.start = omega (arith, c.if-tail-block_of.true, c.block_of.ensures) in
    let own = place-step layout tail.lsn c.offset_of.result old (Ok c.in_ok-write_zeros.field-0) new c.requires.is_layout c.offset_of.ensures c.in_ok-write_zeros.ensures.step in
    zero_as (Covers (zeros_write (place_in layout tail.lsn) 512)) (IsOfTail layout c.args.start (Some tail)) (ring_end layout) old (Ok c.in_ok-write_zeros.field-0) new
    (λ k. of-place layout c.args.start k tail) (λ k. place-of layout c.args.start k tail before) own

pub returns-then-tail-block_of-clause-calls : goal.returns-then-tail-block_of-clause-calls
returns-then-tail-block_of-clause-calls g c =
    let within = place-within c.args.layout.now c.args.tail.lsn (has-blocks c.args.layout.now c.requires.is_layout) in
    put_one (zeros-within (ring_end c.args.layout.now) c.offset_of.result 512 (omega (arith, c.offset_of.ensures))) c.in_ok-write_zeros.ensures.gives

pub returns-else-tail-block_of-clause-step : goal.returns-else-tail-block_of-clause-step
returns-else-tail-block_of-clause-step g c =
    let layout : Layout = c.args.layout.now in
    let tail : Tail = c.args.tail in
    let old = g.L.Sectors.seen c.args.log.now in
    let mid = g.L.Sectors.seen c.write_zeros.new.device in
    let result = c.write_zeros-else-tail-block_of.result in
    let new = g.L.Sectors.seen c.write_zeros-else-tail-block_of.new.device in
    let from : block_of c.args.start ≤ tail.lsn = omega (arith, c.if-tail-block_of.false, c.block_of.ensures) in
    let first = place-step layout tail.lsn c.offset_of.result old (Ok c.in_ok-write_zeros.field-0) mid c.requires.is_layout c.offset_of.ensures c.in_ok-write_zeros.ensures.step in
    let then = tail-step layout tail.which mid result new c.requires.is_layout c.requires.place c.write_zeros-else-tail-block_of.ensures.step in
    zero_as (Either (Covers (zeros_write (place_in layout tail.lsn) 512)) (Covers (zeros_write (512 * tail.which) 512))) (IsOfTail layout c.args.start (Some tail)) (ring_end layout) old result new
    (λ k. of-both layout c.args.start k tail from) (λ k. both-of layout c.args.start k tail)
    (zero_steps (Covers (zeros_write (place_in layout tail.lsn) 512)) (Covers (zeros_write (512 * tail.which) 512)) (ring_end layout) old mid c.in_ok-write_zeros.field-0 result new first then)

pub returns-else-tail-block_of-clause-calls : goal.returns-else-tail-block_of-clause-calls
returns-else-tail-block_of-clause-calls g c =
    let within = place-within c.args.layout.now c.args.tail.lsn (has-blocks c.args.layout.now c.requires.is_layout) in
    puts_then (put_one (zeros-within (ring_end c.args.layout.now) c.offset_of.result 512 (omega (arith, c.offset_of.ensures))) c.in_ok-write_zeros.ensures.gives)
    (put_one (zeros-within (ring_end c.args.layout.now) (512 * c.args.tail.which) 512 (tail-end c.args.layout.now c.args.tail.which c.requires.is_layout c.requires.place))
    c.write_zeros-else-tail-block_of.ensures.gives)
