use Rattle.std.proofs.Common.{◌≡◌, List, All, refl, subst, sym, ◌∙◌}
use Rattle.std.proofs.lemmas.Iterator.Adapters.{YieldsList-from_vec}
use Rattle.std.proofs.lemmas.Iterator.Consumers.{YieldsList-end}
use Rattle.std.proofs.lemmas.List.{map-id}
use Rattle.redo_recover.specs.Full.{AreFullIn, HasBounds}
use Rattle.redo_recover.specs.declared.full.FullBlocks.{FullBlocks}
use Rattle.redo_recover.proofs.Joining.{all-front}
use Rattle.redo_recover.proofs.full.FullBlocks.join_all.Goals as goal

pub loop-stretch-init : goal.loop-stretch-init
loop-stretch-init c = record {
  full = λ layout image front none. front;
  bounds = λ front none. front;
  few = c.requires.few;
  lsn = refl;
}

pub loop-stretch-preserved : goal.loop-stretch-preserved
loop-stretch-preserved c =
    let before = c.loop-stretch.invariant in
    record {
      full = λ layout image front all.
          let split = all-front (λ (full : FullBlocks). AreFullIn layout full image) c.loop-stretch.yielded c.in-Some.stretch all in
          c.in_ok-join.ensures.full layout image (before.full layout image front split.0) split.1;
      bounds = λ front all.
          let split = all-front HasBounds c.loop-stretch.yielded c.in-Some.stretch all in
          c.in_ok-join.ensures.bounds (before.bounds front split.0) split.1;
      few = c.in_ok-join.ensures.few;
      lsn = c.in_ok-join.ensures.lsn ∙ before.lsn;
    }

pub returns-clause-full : goal.returns-clause-full
returns-clause-full c = λ layout image front all.
    let gives = c.into_iter-stretch-iterator.ensures.into_iter_gives in
    let end = YieldsList-end (YieldsList-from_vec c.args.stretches.items gives.0 (gives.1 ∙ c.args.stretches.ok.0)) c.loop-stretch.yielded c.loop-stretch.stretch-iterator c.loop-stretch.yielded_by c.next.result c.next.new.self c.in-None.is c.next.ensures.steps in
    let whole : c.loop-stretch.yielded ≡ c.args.stretches.items = sym (map-id c.loop-stretch.yielded) ∙ end.0 in
    c.loop-stretch.invariant.full layout image front (subst (λ (all : List FullBlocks). All (λ full. AreFullIn layout full image) all) (sym whole) all)

pub returns-clause-bounds : goal.returns-clause-bounds
returns-clause-bounds c = λ front all.
    let gives = c.into_iter-stretch-iterator.ensures.into_iter_gives in
    let end = YieldsList-end (YieldsList-from_vec c.args.stretches.items gives.0 (gives.1 ∙ c.args.stretches.ok.0)) c.loop-stretch.yielded c.loop-stretch.stretch-iterator c.loop-stretch.yielded_by c.next.result c.next.new.self c.in-None.is c.next.ensures.steps in
    let whole : c.loop-stretch.yielded ≡ c.args.stretches.items = sym (map-id c.loop-stretch.yielded) ∙ end.0 in
    c.loop-stretch.invariant.bounds front (subst (λ (all : List FullBlocks). All HasBounds all) (sym whole) all)
