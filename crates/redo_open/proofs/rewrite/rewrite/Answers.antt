-- One page after another, and then what is left of the batch.
use Rattle.std.proofs.Common.{◌≡◌, ◌+◌, ◌∙◌, None, Ok, Some, sym, subst, arith}
use Rattle.std.proofs.lemmas.Result.{err_from_is_err_and}
use Rattle.model_base.specs.{IsWithinLimits}
use Rattle.model_base.specs.declared.shape.Shape.{Shape}
use Rattle.model_parts.specs.{IsWritable}
use Rattle.model_device.specs.{IsWithin}
use Rattle.model_page.specs.{data_device_length}
use Rattle.redo_open.proofs.Gathers.{gathered-writable}
use Rattle.redo_open.proofs.GatherSteps.{written-step}
use Rattle.redo_disk.specs.{error_of, MakesCalls}
use Rattle.redo_open.proofs.Puts.{puts_then}
use Rattle.redo_open.specs.Rewrite.{AreGathered, GatherStep, IsGatheredTo}
use Rattle.redo_open.specs.Puts.{PutsWhere}
use Rattle.redo_open.proofs.rewrite.rewrite.Goals as goal

pub gather_page-requires-clause-gathered : goal.gather_page-requires-clause-gathered
gather_page-requires-clause-gathered g c =
    subst (λ (s : Shape). AreGathered s c.args.pages.now c.loop-page.page c.loop-page.batch) (c.requires.shape ∙ sym c.loop-page.invariant.shape) c.loop-page.invariant.gathered

pub loop-page-preserved : goal.loop-page-preserved
loop-page-preserved g c =
    let seen = g.D.Sectors.seen in
    let pages = c.args.pages.now in
    let found = c.args.places.now.found.items in
    let step : GatherStep seen c.args.shape.now pages found c.loop-page.page (c.loop-page.page + 1) c.loop-page.part c.loop-page.batch (Ok tt) c.gather_page.new.part c.gather_page.new.batch =
    subst (λ (s : Shape). GatherStep seen s pages found c.loop-page.page (c.loop-page.page + 1) c.loop-page.part c.loop-page.batch (Ok tt) c.gather_page.new.part c.gather_page.new.batch)
    (c.loop-page.invariant.shape ∙ sym c.requires.shape) c.in_ok-gather_page.ensures.step in
    let calls : MakesCalls g.D.Sectors.gives c.loop-page.part.dev c.gather_page.new.part.dev (PutsWhere (IsWithin (data_device_length c.args.shape.now)) None) =
    subst (λ (s : Shape). MakesCalls g.D.Sectors.gives c.loop-page.part.dev c.gather_page.new.part.dev (PutsWhere (IsWithin (data_device_length s)) None))
    (c.loop-page.invariant.shape ∙ sym c.requires.shape) c.in_ok-gather_page.ensures.calls in
    record {
      live = step.live;
      shape = step.shape_stays ∙ c.loop-page.invariant.shape;
      size = step.size ∙ c.loop-page.invariant.size;
      later = omega (arith, c.loop-page.invariant.later, step.cause.later);
      gathered = step.gathered;
      told = λ top start tops w. step.ok top start tops (c.loop-page.invariant.told top start tops w);
      calls = puts_then c.loop-page.invariant.calls calls;
    }

pub write_gathered-requires-clause-limits : goal.write_gathered-requires-clause-limits
write_gathered-requires-clause-limits g c = subst IsWithinLimits (c.requires.shape ∙ sym c.loop-page.invariant.shape) c.requires.limits

pub write_gathered-requires-clause-writable : goal.write_gathered-requires-clause-writable
write_gathered-requires-clause-writable g c =
    let batch = c.loop-page.batch in
    subst (λ (s : Shape). IsWritable s batch.pairs batch.users) (c.requires.shape ∙ sym c.loop-page.invariant.shape)
    (gathered-writable c.args.shape.now c.args.pages.now c.loop-page.page batch c.loop-page.invariant.gathered
    (λ p below. omega (arith, c.loop-page.auto.page-end)) c.requires.small)

pub returns-clause-step : goal.returns-clause-step
returns-clause-step g c =
    let shape = c.args.shape.now in
    let pages = c.args.pages.now in
    let batch = c.loop-page.batch in
    let mid = c.loop-page.part in
    let is : shape ≡ mid.shape = c.requires.shape ∙ sym c.loop-page.invariant.shape in
    let last : c.loop-page.page ≡ shape.pages = omega (arith, c.loop-page-test.false, c.loop-page.auto.page-end) in
    let found = c.args.places.now.found.items in
    let gathered : AreGathered mid.shape pages shape.pages batch =
    subst (λ (s : Shape). AreGathered s pages shape.pages batch) is (subst (λ n. AreGathered shape pages n batch) last c.loop-page.invariant.gathered) in
    written-step g.D.Sectors.seen shape pages found shape.pages c.args.part.now mid c.write_gathered.new.part batch c.write_gathered.new.batch c.write_gathered.result
    is c.loop-page.invariant.shape c.loop-page.invariant.size c.loop-page.invariant.later
    (λ top start tops w. subst (λ n. IsGatheredTo shape top start n batch (g.D.Sectors.seen mid.dev).tells) last (c.loop-page.invariant.told top start tops w))
    (c.write_gathered.ensures.step pages found shape.pages gathered) c.write_gathered.ensures.emptied

pub returns-in_err-gather_page-clause-calls : goal.returns-in_err-gather_page-clause-calls
returns-in_err-gather_page-clause-calls g c =
    let calls = subst (λ (s : Shape). MakesCalls g.D.Sectors.gives c.loop-page.part.dev c.gather_page.new.part.dev (PutsWhere (IsWithin (data_device_length s)) (Some c.in_err-gather_page.field-0.0)))
    (c.loop-page.invariant.shape ∙ sym c.requires.shape) c.in_err-gather_page.ensures.calls in
    let made = puts_then c.loop-page.invariant.calls calls in
    let p = err_from_is_err_and c.from_residual.result c.from_residual.ensures.1 in rw (p.1, p.2) made

pub returns-clause-calls : goal.returns-clause-calls
returns-clause-calls g c =
    let calls = subst (λ (s : Shape). MakesCalls g.D.Sectors.gives c.loop-page.part.dev c.write_gathered.new.part.dev (PutsWhere (IsWithin (data_device_length s)) (error_of c.write_gathered.result)))
    (c.loop-page.invariant.shape ∙ sym c.requires.shape) c.write_gathered.ensures.calls in
    puts_then c.loop-page.invariant.calls calls
