use Rattle.std.proofs.Common.{◌≡◌, drop, refl, ap, ◌∙◌}
use Rattle.std.proofs.lemmas.List.{drop_min}
use Rattle.model_log.specs.declared.layout.TheConstants.{BLOCK_DATA}
use Rattle.redo_block.proofs.Framings.{firsts-none, firsts-more}
use Rattle.redo_block.proofs.framing.are_firsts.Goals as goal

pub returns-then-not-is_next_first : goal.returns-then-not-is_next_first
returns-then-not-is_next_first c =
    firsts-none c.loop-first.rest.now c.args.stream.now c.args.firsts.now c.loop-first.first-index c.loop-first-test.true c.if-not-is_next_first.ensures.1 c.loop-first.invariant

pub loop-first-preserved : goal.loop-first-preserved
loop-first-preserved c =
    let rest = c.loop-first.rest.now in
    let left : c.split_at.result.1.now ≡ drop BLOCK_DATA rest = c.split_at.ensures.back ∙ ap (λ n. drop n rest) c.min.ensures ∙ drop_min BLOCK_DATA rest in
    firsts-more rest c.split_at.result.1.now c.args.stream.now c.args.firsts.now c.loop-first.first-index c.loop-first-test.true left (c.if-not-is_next_first.ensures.0 refl) c.loop-first.invariant
