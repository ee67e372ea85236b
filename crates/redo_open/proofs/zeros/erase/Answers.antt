-- One write after the other.
use Rattle.std.proofs.Common.{◌≡◌, ◌+◌, ◌∙◌, ℕ, Err, refl, sym, subst, arith}
use Rattle.std.proofs.lemmas.Result.{err_from_is_err_and}
use Rattle.model_device.specs.{FailsWrite, written, Disk}
use Rattle.redo_disk.specs.{HasCause, OnTold}
use Rattle.redo_open.specs.Erase.{Erases, HasErased, Reaches}
use Rattle.redo_open.proofs.Inside.{zeros-within}
use Rattle.redo_open.proofs.Puts.{put_nothing, put_one, puts_then}
use Rattle.redo_open.proofs.Erases.{IsPart, zeros_write, erases-failed, erased-none, erased-more, reaches-less}
use Rattle.redo_disk.proofs.Told.{OnTold-then, on-err, told-same}
use Rattle.redo_open.proofs.Told.{cause-since}
use Rattle.redo_open.proofs.zeros.erase.Goals as goal

pub loop-at-init : goal.loop-at-init
loop-at-init g c = record {
  aligned = c.requires.aligned;
  from = omega arith;
  up_to = c.requires.order;
  size = refl;
  later = omega arith;
  told = told-same _ _ (λ old new. Reaches c.args.end old → HasErased c.args.from c.args.from old new)
      (λ disk room. erased-none c.args.from disk) refl;
  calls = put_nothing g.D.Sectors.gives c.args.device.now;
}

pub returns-in_err-write_zeros-clause-err : goal.returns-in_err-write_zeros-clause-err
returns-in_err-write_zeros-clause-err g c =
    let at = c.loop-at.at in
    let part : IsPart c.args.from c.args.end at c.min-count.result = record {
      low = c.loop-at.invariant.from;
      high = omega arith;
      range = record { from_sector = c.loop-at.invariant.aligned; whole_sectors = omega (arith, c.loop-at.invariant.aligned, c.requires.whole); within = omega (arith, c.requires.within) };
    } in
    on-err c.from_residual.result _
    (OnTold-then _ _ _ (λ old new. Reaches c.args.end old → HasErased c.args.from at old new) (FailsWrite (zeros_write at c.min-count.result))
    (λ old new. Reaches c.args.end old → Erases c.args.from c.args.end old new)
    (λ a b d so_far fails room. erases-failed c.args.from c.args.end at c.min-count.result a b d part room (so_far room).erases fails)
    c.loop-at.invariant.told c.in_err-write_zeros.ensures.step.err)

pub loop-at-preserved : goal.loop-at-preserved
loop-at-preserved g c =
    let at = c.loop-at.at in
    let part : IsPart c.args.from (at + c.min-count.result) at c.min-count.result = record {
      low = c.loop-at.invariant.from;
      high = omega arith;
      range = record { from_sector = c.loop-at.invariant.aligned; whole_sectors = omega (arith, c.loop-at.invariant.aligned, c.requires.whole); within = omega (arith, c.requires.within) };
    } in
    let inside = zeros-within c.args.end at c.min-count.result (omega arith) in
    record {
      aligned = omega (arith, c.loop-at.invariant.aligned, c.requires.whole);
      from = omega (arith, c.loop-at.invariant.from);
      up_to = omega arith;
      size = c.in_ok-write_zeros.ensures.step.size ∙ c.loop-at.invariant.size;
      later = omega (arith, c.loop-at.invariant.later, c.in_ok-write_zeros.ensures.step.cause.later);
      told = OnTold-then _ _ _ (λ old new. Reaches c.args.end old → HasErased c.args.from at old new) (λ (old new : Disk). new ≡ written old (zeros_write at c.min-count.result))
          (λ old new. Reaches c.args.end old → HasErased c.args.from (at + c.min-count.result) old new)
          (λ a b d so_far is_written room. subst (HasErased c.args.from (at + c.min-count.result) a) (sym is_written)
          (erased-more c.args.from at c.min-count.result a b part (reaches-less (at + c.min-count.result) c.args.end a (omega arith) room) (so_far room)))
          c.loop-at.invariant.told c.in_ok-write_zeros.ensures.step.ok;
      calls = puts_then c.loop-at.invariant.calls (put_one inside c.in_ok-write_zeros.ensures.gives);
    }

pub returns-in_err-write_zeros-clause-cause : goal.returns-in_err-write_zeros-clause-cause
returns-in_err-write_zeros-clause-cause g c =
    let cause : HasCause {T = Unit {0}} (g.D.Sectors.seen c.args.device.now).faults (g.D.Sectors.seen c.write_zeros.new.device).faults (Err c.in_err-write_zeros.field-0.0) =
    cause-since _ _ _ (Err c.in_err-write_zeros.field-0.0) c.loop-at.invariant.later c.in_err-write_zeros.ensures.step.cause in
    let p = err_from_is_err_and c.from_residual.result c.from_residual.ensures.1 in rw (p.1, p.2) cause

pub returns-in_err-write_zeros-clause-calls : goal.returns-in_err-write_zeros-clause-calls
returns-in_err-write_zeros-clause-calls g c =
    let inside = zeros-within c.args.end c.loop-at.at c.min-count.result (omega arith) in
    let made = puts_then c.loop-at.invariant.calls (put_one inside c.in_err-write_zeros.ensures.gives) in
    let p = err_from_is_err_and c.from_residual.result c.from_residual.ensures.1 in rw (p.1, p.2) made

pub returns-clause-ok : goal.returns-clause-ok
returns-clause-ok g c =
    let all : c.loop-at.at ≡ c.args.end = omega (arith, c.loop-at-test.false, c.loop-at.invariant.up_to) in
    subst (λ (n : ℕ). OnTold (g.D.Sectors.seen c.args.device.now).tells (g.D.Sectors.seen c.loop-at.device).tells
    (λ old new. Reaches c.args.end old → HasErased c.args.from n old new)) all c.loop-at.invariant.told
