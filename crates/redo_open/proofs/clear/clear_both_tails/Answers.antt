-- One tail block after the other, and a sync.
use Rattle.std.proofs.Common.{◌≡◌, ◌⊎◌, ℕ, inl, inr, Option, Ok, Err, subst, sym, ⊎_elim, arith}
use Rattle.std.proofs.lemmas.Result.{err_from_is_err_and}
use Rattle.model_store.specs.{IsTakenTail}
use Rattle.model_store.specs.declared.tail.Tail.{Tail}
use Rattle.redo_open.specs.Clear.{IsStale, IsStaleAt}
use Rattle.redo_open.proofs.Puts.{put_one, puts_then}
use Rattle.redo_open.proofs.Zeroing.{Either, erase_failed, erase_synced, zero_as, zero_steps}
use Rattle.redo_open.proofs.clear.clear_both_tails.Goals as goal

-- each of the two is the first or the second
stale-at : (tail : Option Tail) (which k : ℕ) → (which ≡ 4) ⊎ (which ≡ 5) → IsStaleAt tail which k → IsStale tail k
stale-at tail which k place at =
    let same : which ≡ k = sym at.is in
    record { place = subst (λ (j : ℕ). (j ≡ 4) ⊎ (j ≡ 5)) same place; not_taken = λ taken. at.not_taken (subst (IsTakenTail tail) at.is taken) }

stale-of : (tail : Option Tail) (k : ℕ) → Either (IsStaleAt tail 4) (IsStaleAt tail 5) k → IsStale tail k
stale-of tail k is = ⊎_elim (λ four. stale-at tail 4 k (inl (omega arith)) four) (λ five. stale-at tail 5 k (inr (omega arith)) five) is

of-stale : (tail : Option Tail) (k : ℕ) → IsStale tail k → Either (IsStaleAt tail 4) (IsStaleAt tail 5) k
of-stale tail k is = ⊎_elim
    (λ four. inl (record { is = four; not_taken = λ taken. is.not_taken (subst (IsTakenTail tail) (sym four) taken) }))
    (λ five. inr (record { is = five; not_taken = λ taken. is.not_taken (subst (IsTakenTail tail) (sym five) taken) })) is.place

pub returns-in_err-clear_tail-clause-step : goal.returns-in_err-clear_tail-clause-step
returns-in_err-clear_tail-clause-step g c =
    let tail : Option Tail = c.args.tail in
    let step = erase_failed (IsStaleAt tail 4) (IsStale tail) 3072 (g.L.Sectors.seen c.args.log.now) c.in_err-clear_tail.field-0.0 (g.L.Sectors.seen c.clear_tail.new.log)
    (λ k is. stale-of tail k (inl is)) c.in_err-clear_tail.ensures.step in
    let p = err_from_is_err_and c.from_residual.result c.from_residual.ensures.1 in rw (p.1, p.2) step

pub returns-in_err-clear_tail-2-clause-step : goal.returns-in_err-clear_tail-2-clause-step
returns-in_err-clear_tail-2-clause-step g c =
    let tail : Option Tail = c.args.tail in
    let old = g.L.Sectors.seen c.args.log.now in
    let mid = g.L.Sectors.seen c.clear_tail.new.log in
    let new = g.L.Sectors.seen c.clear_tail-2.new.log in
    let both = zero_steps (IsStaleAt tail 4) (IsStaleAt tail 5) 3072 old mid c.in_ok-clear_tail.field-0 (Err c.in_err-clear_tail-2.field-0.0) new
    c.in_ok-clear_tail.ensures.step c.in_err-clear_tail-2.ensures.step in
    let step = erase_failed (Either (IsStaleAt tail 4) (IsStaleAt tail 5)) (IsStale tail) 3072 old c.in_err-clear_tail-2.field-0.0 new (stale-of tail) both in
    let p = err_from_is_err_and c.from_residual-in_err-clear_tail-2.result c.from_residual-in_err-clear_tail-2.ensures.1 in rw (p.1, p.2) step

pub returns-clause-step : goal.returns-clause-step
returns-clause-step g c =
    let tail : Option Tail = c.args.tail in
    let old = g.L.Sectors.seen c.args.log.now in
    let mid = g.L.Sectors.seen c.clear_tail.new.log in
    let new = g.L.Sectors.seen c.clear_tail-2.new.log in
    let both = zero_steps (IsStaleAt tail 4) (IsStaleAt tail 5) 3072 old mid c.in_ok-clear_tail.field-0 (Ok c.in_ok-clear_tail-2.field-0) new
    c.in_ok-clear_tail.ensures.step c.in_ok-clear_tail-2.ensures.step in
    erase_synced (IsStale tail) 3072 old new c.in_ok-clear_tail-2.field-0 c.sync.result (g.L.Sectors.seen c.sync.new.self)
    (zero_as (Either (IsStaleAt tail 4) (IsStaleAt tail 5)) (IsStale tail) 3072 old (Ok c.in_ok-clear_tail-2.field-0) new (stale-of tail) (of-stale tail) both) c.sync.ensures.step

pub returns-in_err-clear_tail-2-clause-calls : goal.returns-in_err-clear_tail-2-clause-calls
returns-in_err-clear_tail-2-clause-calls g c =
    let made = puts_then c.in_ok-clear_tail.ensures.calls c.in_err-clear_tail-2.ensures.calls in
    let p = err_from_is_err_and c.from_residual-in_err-clear_tail-2.result c.from_residual-in_err-clear_tail-2.ensures.1 in rw (p.1, p.2) made

pub returns-clause-calls : goal.returns-clause-calls
returns-clause-calls g c = puts_then c.in_ok-clear_tail.ensures.calls (puts_then c.in_ok-clear_tail-2.ensures.calls (put_one tt c.sync.ensures.gives))
