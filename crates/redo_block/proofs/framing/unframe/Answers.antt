use Rattle.std.proofs.Common.{◌≡◌, ◌≤◌, ◌<◌, ◌+◌, length, take, drop, ◌∙◌, arith}
use Rattle.redo_block.proofs.Framings.{unframed-all, unframed-unread, unframed-last, unframed-more}
use Rattle.redo_block.proofs.framing.unframe.Goals as goal

pub returns-in_default-read : goal.returns-in_default-read
returns-in_default-read c =
    let rest = c.loop-block.rest.now in
    let cut : c.in-Some.block.now ≡ take 512 rest = c.in-Some.ensures.cases.0 in
    let left : length c.in-Some.others.now + 512 ≡ length rest = c.in-Some.ensures.cases.2 in
    c.new.ensures
    ∙ unframed-unread rest c.in-Some.block.now c.loop-block.stream.items _ c.loop-block.lsn (omega arith) cut c.in_default-read.ensures.value c.loop-block.invariant.0

pub returns-then-from-lt-BLOCK_SIZE : goal.returns-then-from-lt-BLOCK_SIZE
returns-then-from-lt-BLOCK_SIZE c =
    let rest = c.loop-block.rest.now in
    let cut : c.in-Some.block.now ≡ take 512 rest = c.in-Some.ensures.cases.0 in
    let left : length c.in-Some.others.now + 512 ≡ length rest = c.in-Some.ensures.cases.2 in
    c.new-then-from-lt-BLOCK_SIZE.ensures
    ∙ unframed-last rest c.in-Some.block.now c.block_data.result.now c.loop-block.stream.items c.extend_from_slice.new.self.items _ c.loop-block.lsn c.in-Some-read.view (omega arith) cut c.in-Some-read.ensures.value
    (omega (arith, c.from.ensures)) c.block_data.ensures c.in_ok-extend_from_slice.ensures.items c.loop-block.invariant.0

pub loop-block-preserved : goal.loop-block-preserved
loop-block-preserved c =
    let rest = c.loop-block.rest.now in
    let cut : c.in-Some.block.now ≡ take 512 rest = c.in-Some.ensures.cases.0 in
    let others : c.in-Some.others.now ≡ drop 512 rest = c.in-Some.ensures.cases.1 in
    let left : length c.in-Some.others.now + 512 ≡ length rest = c.in-Some.ensures.cases.2 in
    let most : c.in-Some-read.view.length ≤ 512 = c.in-Some-read.ensures.length.1 in (
      unframed-more rest c.in-Some.block.now c.in-Some.others.now c.block_data.result.now c.loop-block.stream.items c.extend_from_slice.new.self.items _ c.loop-block.lsn c.in-Some-read.view (omega arith) cut others c.in-Some-read.ensures.value
          (omega (arith, c.from.ensures)) c.block_data.ensures c.in_ok-extend_from_slice.ensures.items c.loop-block.invariant.0,
      omega (arith, c.loop-block.invariant.1),
    )

pub returns : goal.returns
returns c =
    let short : length c.loop-block.rest.now < 512 = c.in_default.ensures.cases in
    c.new-2.ensures ∙ unframed-all c.loop-block.rest.now c.loop-block.stream.items _ c.loop-block.lsn short c.loop-block.invariant.0
