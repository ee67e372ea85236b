-- The ring, what is left of the block that was taken from a tail block, and a sync.
use Rattle.std.proofs.Common.{◌+◌, ℕ, inl, inr, Option, Ok, Err, ⊎_elim}
use Rattle.std.proofs.lemmas.Result.{err_from_is_err_and}
use Rattle.model_log.specs.{round_of}
use Rattle.model_log.specs.declared.layout.Layout.{Layout}
use Rattle.model_parts.specs.{IsOfTail, IsPastKept}
use Rattle.model_store.specs.declared.tail.Tail.{Tail}
use Rattle.redo_open.specs.Clear.{IsRingTo, ring_end}
use Rattle.redo_open.proofs.Puts.{put_one, puts_then}
use Rattle.redo_open.proofs.Zeroing.{Either, erase_failed, erase_synced, zero_as, zero_steps}
use Rattle.redo_open.proofs.clear.clear_past.Goals as goal

-- what is past the kept range
past-of : (layout : Layout) (ckpt start k : ℕ) (tail : Option Tail) → Either (IsRingTo layout ckpt start (ckpt + round_of layout)) (IsOfTail layout start tail) k
    → IsPastKept layout ckpt start tail k
past-of layout ckpt start k tail is = ⊎_elim (λ ring. inl (ring.0, ring.1, ring.3)) (λ own. inr own) is

of-past : (layout : Layout) (ckpt start k : ℕ) (tail : Option Tail) → IsPastKept layout ckpt start tail k
    → Either (IsRingTo layout ckpt start (ckpt + round_of layout)) (IsOfTail layout start tail) k
of-past layout ckpt start k tail is = ⊎_elim (λ ring. inl (ring.0, ring.1, ring.1.in_round.below, ring.2)) (λ own. inr own) is

pub returns-in_err-clear_ring-clause-step : goal.returns-in_err-clear_ring-clause-step
returns-in_err-clear_ring-clause-step g c =
    let layout : Layout = c.args.layout.now in
    let step = erase_failed (IsRingTo layout c.args.ckpt c.args.start (c.args.ckpt + round_of layout)) (IsPastKept layout c.args.ckpt c.args.start c.args.tail) (ring_end layout)
    (g.L.Sectors.seen c.args.log.now) c.in_err-clear_ring.field-0.0 (g.L.Sectors.seen c.clear_ring.new.log)
    (λ k is. past-of layout c.args.ckpt c.args.start k c.args.tail (inl is)) c.in_err-clear_ring.ensures.step in
    let p = err_from_is_err_and c.from_residual.result c.from_residual.ensures.1 in rw (p.1, p.2) step

pub returns-in_err-clear_taken-clause-step : goal.returns-in_err-clear_taken-clause-step
returns-in_err-clear_taken-clause-step g c =
    let layout : Layout = c.args.layout.now in
    let Ring : ℕ → Type 0 = IsRingTo layout c.args.ckpt c.args.start (c.args.ckpt + round_of layout) in
    let Own : ℕ → Type 0 = IsOfTail layout c.args.start c.args.tail in
    let old = g.L.Sectors.seen c.args.log.now in
    let new = g.L.Sectors.seen c.clear_taken.new.log in
    let step = erase_failed (Either Ring Own) (IsPastKept layout c.args.ckpt c.args.start c.args.tail) (ring_end layout) old c.in_err-clear_taken.field-0.0 new
    (λ k. past-of layout c.args.ckpt c.args.start k c.args.tail)
    (zero_steps Ring Own (ring_end layout) old (g.L.Sectors.seen c.clear_ring.new.log) c.in_ok-clear_ring.field-0 (Err c.in_err-clear_taken.field-0.0) new
    c.in_ok-clear_ring.ensures.step c.in_err-clear_taken.ensures.step) in
    let p = err_from_is_err_and c.from_residual-in_err-clear_taken.result c.from_residual-in_err-clear_taken.ensures.1 in rw (p.1, p.2) step

pub returns-clause-step : goal.returns-clause-step
returns-clause-step g c =
    let layout : Layout = c.args.layout.now in
    let Ring : ℕ → Type 0 = IsRingTo layout c.args.ckpt c.args.start (c.args.ckpt + round_of layout) in
    let Own : ℕ → Type 0 = IsOfTail layout c.args.start c.args.tail in
    let Past : ℕ → Type 0 = IsPastKept layout c.args.ckpt c.args.start c.args.tail in
    let old = g.L.Sectors.seen c.args.log.now in
    let mid = g.L.Sectors.seen c.clear_taken.new.log in
    erase_synced Past (ring_end layout) old mid c.in_ok-clear_taken.field-0 c.sync.result (g.L.Sectors.seen c.sync.new.self)
    (zero_as (Either Ring Own) Past (ring_end layout) old (Ok c.in_ok-clear_taken.field-0) mid
    (λ k. past-of layout c.args.ckpt c.args.start k c.args.tail) (λ k. of-past layout c.args.ckpt c.args.start k c.args.tail)
    (zero_steps Ring Own (ring_end layout) old (g.L.Sectors.seen c.clear_ring.new.log) c.in_ok-clear_ring.field-0 (Ok c.in_ok-clear_taken.field-0) mid
    c.in_ok-clear_ring.ensures.step c.in_ok-clear_taken.ensures.step)) c.sync.ensures.step

pub returns-in_err-clear_taken-clause-calls : goal.returns-in_err-clear_taken-clause-calls
returns-in_err-clear_taken-clause-calls g c =
    let made = puts_then c.in_ok-clear_ring.ensures.calls c.in_err-clear_taken.ensures.calls in
    let p = err_from_is_err_and c.from_residual-in_err-clear_taken.result c.from_residual-in_err-clear_taken.ensures.1 in rw (p.1, p.2) made

pub returns-clause-calls : goal.returns-clause-calls
returns-clause-calls g c = puts_then c.in_ok-clear_ring.ensures.calls (puts_then c.in_ok-clear_taken.ensures.calls (put_one tt c.sync.ensures.gives))
