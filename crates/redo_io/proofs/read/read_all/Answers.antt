use Rattle.std.proofs.Common.{◌≡◌, ◌≤◌, ◌<◌, Err, length, drop, vec_len, refl, arith, rules}
use Rattle.std.proofs.lemmas.List.{take_at}
use Rattle.std.proofs.lemmas.Grind.{common_steps}
use Rattle.std.proofs.lemmas.Result.{err_from_is_err_and}
use Rattle.redo_io.proofs.Progress.{TakesFront_more, TakesFront_all, HasRead-more, IsReadThrough-from}
use Rattle.redo_io.specs.declared.fault.ReadFault.TheVariants.{NoMemory, TooLong}
use Rattle.redo_io.specs.declared.read.TheConstants.{PIECE}
use Rattle.redo_io.proofs.read.read_all.Goals as goal

pub returns-then-count-eq0-clause-ok : goal.returns-then-count-eq0-clause-ok
returns-then-count-eq0-clause-ok g c =
    let room : 0 < length c.as_mut_slice.result.now = omega (arith, c.as_mut_slice.ensures.len, c.loop-piece.invariant.piece) in record {
      all = rw c.new.ensures (TakesFront_all _ _ c.loop-piece.text.items c.loop-piece.invariant.taken (c.in_ok-count.ensures.step.end c.if-count-eq0.true room));
      none_left = grind (arith, common_steps);
      short = grind (arith, common_steps);
    }

pub returns-then-count-limit-clause-reads : goal.returns-then-count-limit-clause-reads
returns-then-count-limit-clause-reads g c =
    let fits : c.in_ok-count.count ≤ length c.read.new.out = omega (arith, c.in_ok-count.ensures.step.count, c.read.auto.out) in
    let room : length c.as_mut_slice.result.now ≡ PIECE = omega (arith, c.as_mut_slice.ensures.len, c.loop-piece.invariant.piece) in
    IsReadThrough-from g.S.Source.read_gives PIECE c.args.src.now c.read.new.self c.read.new.self _ (Err TooLong)
    (HasRead-more g.S.Source.read_gives PIECE _ _ _ _ _ c.read.new.out _ room c.loop-piece.invariant.reads fits (omega arith) c.in_ok-count.ensures.gives) refl tt

pub returns-in_err-extend_from_slice-clause-reads : goal.returns-in_err-extend_from_slice-clause-reads
returns-in_err-extend_from_slice-clause-reads g c =
    let fits : c.in_ok-count.count ≤ length c.read.new.out = omega (arith, c.in_ok-count.ensures.step.count, c.read.auto.out) in
    let room : length c.as_mut_slice.result.now ≡ PIECE = omega (arith, c.as_mut_slice.ensures.len, c.loop-piece.invariant.piece) in
    let read = HasRead-more g.S.Source.read_gives PIECE _ _ _ _ _ c.read.new.out _ room c.loop-piece.invariant.reads fits (omega arith) c.in_ok-count.ensures.gives in
    let p = err_from_is_err_and c.from_residual-in_err-extend_from_slice.result c.from_residual-in_err-extend_from_slice.ensures.1 in
    rw (p.1, p.2) (IsReadThrough-from g.S.Source.read_gives PIECE c.args.src.now c.read.new.self c.read.new.self _ (Err NoMemory) read refl tt)

pub loop-piece-preserved : goal.loop-piece-preserved
loop-piece-preserved g c =
    let fits : c.in_ok-count.count ≤ length c.read.new.out = omega (arith, c.in_ok-count.ensures.step.count, c.read.auto.out) in
    let whole : length c.read.new.out ≡ vec_len c.loop-piece.piece = omega (arith, c.read.auto.out, c.as_mut_slice.ensures.len) in
    let room : length c.as_mut_slice.result.now ≡ PIECE = omega (arith, c.as_mut_slice.ensures.len, c.loop-piece.invariant.piece) in
    let filled = take_at c.read.new.out (drop (length c.read.new.out) c.loop-piece.piece.items) (vec_len c.loop-piece.piece) whole in
    record {
      piece = search rules;
      short = search rules;
      taken = rw (c.in_ok-extend_from_slice.ensures.items, c.deref.ensures.value, filled)
          (TakesFront_more _ _ _ _ _ _ c.loop-piece.invariant.taken fits c.in_ok-count.ensures.step.bytes);
      later = omega (arith, c.read.ensures.step.later);
      reads = rw (c.in_ok-extend_from_slice.ensures.items, c.deref.ensures.value, filled)
          (HasRead-more g.S.Source.read_gives PIECE _ _ _ _ _ c.read.new.out _ room c.loop-piece.invariant.reads fits (omega arith) c.in_ok-count.ensures.gives);
    }
