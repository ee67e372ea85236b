-- One block more each turn.
use Rattle.std.proofs.Common.{◌≡◌, ◌≤◌, ◌+◌, ◌-◌, ◌++◌, ℕ, List, length, take, drop, ap, ◌∙◌, length-append, length-take-le, length-take, length-drop, arith}
use Rattle.std.proofs.lemmas.Slice.{take-put_mid}
use borrow.Rule.Slice.PartMut.{put_mid, mid_of}
use Rattle.std.proofs.lemmas.List.{take_min, drop_min}
use Rattle.model_log.specs.declared.layout.TheConstants.{BLOCK_DATA}
use Rattle.redo_block.proofs.Framings.{first-fits, firsts-drop, framed-more}
use Rattle.redo_block.proofs.filling.frame_into.Goals as goal

length-mid_of : (a k : ℕ) (xs : List ℕ) → a + k ≤ length xs → length (mid_of a k xs) ≡ k
length-mid_of a k xs within = omega (arith, length-take k (drop a xs), length-drop a xs)

length-put : (at k : ℕ) (old new : List ℕ) → length new ≡ k → at + k ≤ length old → length (put_mid at k old new) ≡ length old
length-put at k old new same within =
    omega (arith, length-append (take at old) (new ++ drop k (drop at old)), length-append new (drop k (drop at old)), length-take-le at old (omega arith), length-drop k (drop at old), length-drop at old)

pub fill_part-requires-clause-small : goal.fill_part-requires-clause-small
fill_part-requires-clause-small c = omega (arith, c.loop-first.invariant.lsn, c.requires.small)

pub fill_part-requires-clause-offset : goal.fill_part-requires-clause-offset
fill_part-requires-clause-offset c =
    let rest = c.loop-first.rest.now in
    let part : c.split_at.result.0.now ≡ take BLOCK_DATA rest = c.split_at.ensures.front ∙ ap (λ n. take n rest) c.min.ensures ∙ take_min BLOCK_DATA rest in
    first-fits rest c.split_at.result.0.now c.args.firsts.now c.loop-first.first-index c.loop-first-test.true part c.loop-first.invariant.fit

pub loop-first-preserved : goal.loop-first-preserved
loop-first-preserved c =
    let at = c.loop-first.at in
    let out = c.loop-first.out in
    let block = c.fill_part.new.out in
    let rest = c.loop-first.rest.now in
    let before = c.loop-first.invariant in
    let part : c.split_at.result.0.now ≡ take BLOCK_DATA rest = c.split_at.ensures.front ∙ ap (λ n. take n rest) c.min.ensures ∙ take_min BLOCK_DATA rest in
    let left : c.split_at.result.1.now ≡ drop BLOCK_DATA rest = c.split_at.ensures.back ∙ ap (λ n. drop n rest) c.min.ensures ∙ drop_min BLOCK_DATA rest in
    let long : length block ≡ 512 = omega (arith, c.fill_part.auto.out, length-mid_of at (at + 512 - at) out (omega (arith, before.place, before.long, c.requires.room))) in
    let put : take (at + 512) (put_mid at (at + 512 - at) out block) ≡ take at out ++ block =
    take-put_mid at (at + 512 - at) out block (at + 512) (omega arith) (omega (arith, before.place, before.long, c.requires.room)) in
    record {
      place = omega (arith, before.place);
      lsn = omega (arith, before.lsn);
      long = length-put at (at + 512 - at) out block (omega arith) (omega (arith, before.place, before.long, c.requires.room)) ∙ before.long;
      fit = firsts-drop rest c.split_at.result.1.now c.args.firsts.now c.loop-first.first-index c.loop-first-test.true left before.fit;
      so_far = framed-more rest c.split_at.result.0.now c.split_at.result.1.now (take at out) block _ c.args.firsts.now _ c.loop-first.lsn c.args.ckpt c.loop-first.first-index
          c.loop-first-test.true part left c.fill_part.ensures put before.so_far;
    }
