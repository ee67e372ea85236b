use Rattle.std.proofs.Common.{[], ◌∷◌, ◌++◌, length-append, refl, arith}
use Rattle.std.proofs.lemmas.Bool.{false≢true}
use Rattle.model_log.proofs.Several.{one_of_both}
use Rattle.redo_record.proofs.Groups.{several_stop, goes_on, each_push, too_few, behind_end}
use Rattle.redo_record.proofs.Skipping.{skipped_on}
use Rattle.redo_record.proofs.spanning.skip_several.Goals as goal

pub returns-in_err-rest : goal.returns-in_err-rest
returns-in_err-rest c =
    let so_far = c.loop-rest.invariant in
    skipped_on (λ x. x.now) _ _ _ _ c.from_residual.ensures.1
    (several_stop one_of_both c.args.bytes.now c.loop-rest.rest.now so_far.recs c.requires so_far.parts so_far.each
    (λ e. false≢true (c.loop-rest-test.ensures.1 e)) _ c.in_err-rest.ensures)

pub loop-rest-preserved : goal.loop-rest-preserved
loop-rest-preserved c =
    let so_far = c.loop-rest.invariant in
    let next = c.in_ok-rest.ensures in
    let rest = c.loop-rest.rest.now in
    let left = c.in_ok-rest.rest.now in
    record {
      recs = so_far.recs ++ next.0 ∷ [];
      parts = goes_on c.args.bytes.now rest left so_far.recs next.0 so_far.parts next.1;
      each = each_push rest left so_far.recs next.0 so_far.each next.1;
      counted = omega (arith, so_far.counted, c.min-count.ensures, length-append so_far.recs (next.0 ∷ []));
    }

pub returns-then-count-lt2 : goal.returns-then-count-lt2
returns-then-count-lt2 c =
    let so_far = c.loop-rest.invariant in
    too_few one_of_both c.args.bytes.now c.loop-rest.rest.now so_far.recs c.requires so_far.parts so_far.each
    (c.loop-rest-test.ensures.0 refl) (omega (arith, so_far.counted))

pub returns : goal.returns
returns c =
    let so_far = c.loop-rest.invariant in (
      so_far.recs,
      behind_end c.args.bytes.now c.loop-rest.rest.now so_far.recs so_far.parts so_far.each
          (c.loop-rest-test.ensures.0 refl) (omega (arith, so_far.counted)),
    )
