-- There is no page to write, or the batch is written.
use Rattle.std.proofs.Common.{Err, Ok, subst, sym}
use Rattle.std.proofs.lemmas.Result.{err_from_is_err_and}
use Rattle.model_parts.specs.{IsWritable}
use Rattle.redo_open.proofs.Gathers.{gathered-none}
use Rattle.redo_open.proofs.GatherSteps.{wrote-step}
use Rattle.redo_open.proofs.PagesInside.{batch_served}
use Rattle.redo_open.specs.Rewrite.{AreGathered, Gathered, GatherStep}
use Rattle.redo_open.proofs.rewrite.write_gathered.Goals as goal

pub returns-in_err-write_batch-clause-step : goal.returns-in_err-write_batch-clause-step
returns-in_err-write_batch-clause-step g c pages found count gathered =
    let step : GatherStep g.D.Sectors.seen c.args.part.now.shape pages found count count c.args.part.now c.args.batch.now (Err c.in_err-write_batch.field-0.0) c.write_batch.new.self c.args.batch.now =
    wrote-step g.D.Sectors.seen pages found count c.args.part.now c.write_batch.new.self c.args.batch.now c.args.batch.now c.pairs-2.result.now c.users.result.now
    (Err c.in_err-write_batch.field-0.0) c.pairs-2.ensures c.users.ensures c.requires.live gathered tt
    c.in_err-write_batch.ensures.keeps c.in_err-write_batch.ensures.ok c.in_err-write_batch.ensures.step in
    let p = err_from_is_err_and c.from_residual.result c.from_residual.ensures.1 in rw (p.1, p.2) step

pub returns-clause-step : goal.returns-clause-step
returns-clause-step g c pages found count gathered =
    wrote-step g.D.Sectors.seen pages found count c.args.part.now c.write_batch.new.self c.args.batch.now c.clear.new.self c.pairs-2.result.now c.users.result.now
    (Ok c.in_ok-write_batch.field-0) c.pairs-2.ensures c.users.ensures c.requires.live gathered
    (subst (λ (batch : Gathered). AreGathered c.args.part.now.shape pages count batch) (sym c.clear.ensures) (gathered-none c.args.part.now.shape c.args.batch.now.shape pages count gathered.of_store))
    c.in_ok-write_batch.ensures.keeps c.in_ok-write_batch.ensures.ok c.in_ok-write_batch.ensures.step

pub returns-in_err-write_batch-clause-calls : goal.returns-in_err-write_batch-clause-calls
returns-in_err-write_batch-clause-calls g c =
    let writable = subst (λ users. IsWritable c.args.part.now.shape c.pairs-2.result.now users) (sym c.users.ensures)
    (subst (λ pairs. IsWritable c.args.part.now.shape pairs c.args.batch.now.users) (sym c.pairs-2.ensures) c.requires.writable) in
    let p = err_from_is_err_and c.from_residual.result c.from_residual.ensures.1 in rw (p.1, p.2) (batch_served c.args.part.now.shape c.pairs-2.result.now c.users.result.now c.requires.limits.page_size writable c.in_err-write_batch.ensures.calls)

pub returns-clause-calls : goal.returns-clause-calls
returns-clause-calls g c =
    let writable = subst (λ users. IsWritable c.args.part.now.shape c.pairs-2.result.now users) (sym c.users.ensures)
    (subst (λ pairs. IsWritable c.args.part.now.shape pairs c.args.batch.now.users) (sym c.pairs-2.ensures) c.requires.writable) in
    batch_served c.args.part.now.shape c.pairs-2.result.now c.users.result.now c.requires.limits.page_size writable c.in_ok-write_batch.ensures.calls
