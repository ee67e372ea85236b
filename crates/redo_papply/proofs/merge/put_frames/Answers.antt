use Rattle.std.proofs.Common.{◌≡◌, ◌<◌, ap, length, set, subst, sym, ◌∙◌, arith}
use Rattle.std.specs.Prelude.{IfSome}
use Rattle.std.specs.List.{slice_get}
use Rattle.redo_papply.proofs.Merging.{length-put, put-all, put-fits, put-more, put-none}
use Rattle.redo_papply.specs.Frames.{content_of}
use Rattle.redo_papply.proofs.merge.put_frames.Goals as goal

pub loop-number-init : goal.loop-number-init
loop-number-init c = put-none c.args.frames.now c.args.pages.now

pub put-requires-clause-page : goal.put-requires-clause-page
put-requires-clause-page c =
    let k = c.loop-number.number in
    let below : k < length c.args.pages.now = omega (arith, c.loop-number-test.true, c.len-number-end.ensures) in
    let long = length-put k c.args.frames.now c.args.pages.now c.requires.count (omega (arith, below)) in
    omega (arith, below, long, ap length c.loop-number.invariant)

pub put-requires-clause-user : goal.put-requires-clause-user
put-requires-clause-user c =
    let k = c.loop-number.number in
    let below : k < length c.args.pages.now = omega (arith, c.loop-number-test.true, c.len-number-end.ensures) in
    let frame = c.index-frames-number.result in
    let fits = put-fits k c.args.frames.now c.args.pages.now frame c.requires.count below c.index-frames-number.is c.requires.sizes
    (slice_get c.loop-number.pages k) (ap (λ xs. slice_get xs k) (sym c.loop-number.invariant)) in
    subst (λ bytes. IfSome (slice_get c.loop-number.pages k) (λ content. length bytes ≡ length content.user)) (sym c.as_slice.ensures.value) fits

pub loop-number-preserved : goal.loop-number-preserved
loop-number-preserved c =
    let k = c.loop-number.number in
    let below : k < length c.args.pages.now = omega (arith, c.loop-number-test.true, c.len-number-end.ensures) in
    let frame = c.index-frames-number.result in
    c.put.ensures.content
    ∙ ap (λ bytes. set c.loop-number.pages k (record { lsn = frame.lsn; user = bytes })) c.as_slice.ensures.value
    ∙ ap (λ xs. set xs k (content_of frame)) c.loop-number.invariant
    ∙ put-more k c.args.frames.now c.args.pages.now frame c.requires.count below c.index-frames-number.is

pub returns : goal.returns
returns c =
    c.loop-number.invariant ∙ put-all c.loop-number.number c.args.frames.now c.args.pages.now c.requires.count
    (omega (arith, c.loop-number-test.false, c.len-number-end.ensures))
