-- The slots, then one page after another, and a sync that makes them stay.
use Rattle.std.proofs.Common.{◌≡◌, ◌<◌, ◌*◌, ◌∙◌, ℕ, None, Ok, Err, Some, ap, subst, arith}
use Rattle.std.proofs.lemmas.Result.{err_from_is_err_and}
use Rattle.model_base.specs.{run_shape}
use Rattle.model_base.specs.declared.shape.Shape.{Shape}
use Rattle.model_device.specs.{IsWithin}
use Rattle.model_page.specs.{data_device_length}
use Rattle.model_page.specs.declared.content.Content.{Content}
use Rattle.redo_disk.specs.{MakesCalls}
use Rattle.redo_open.proofs.Enlarges.{erase-fails, erase-grown, old_end, page-content, place-fails, place-grown, slots-within, sync-ends}
use Rattle.redo_open.proofs.Inside.{within-longer}
use Rattle.redo_open.proofs.Puts.{put_one, put_weaker, puts_then}
use Rattle.redo_open.proofs.Writings.{page-read, PageRead}
use Rattle.redo_open.specs.Enlarge.{WritesPlace}
use Rattle.redo_open.specs.Puts.{PutsWhere}
use Rattle.redo_open.proofs.enlarge.enlarge.Goals as goal

pub returns-in_err-erase-clause-step : goal.returns-in_err-erase-clause-step
returns-in_err-erase-clause-step g c =
    let shape = c.args.shape.now in
    let slots = ap (λ (s : Shape). s.slots) c.run_shape-run.ensures.shape in
    let size = ap (λ (s : Shape). s.page_size) c.run_shape-run.ensures.shape in
    let erase = c.in_err-erase.ensures in
    let from_is : c.from.result * c.from-2.result ≡ old_end shape = cc in
    let end_is : c.from-3.result * c.from-4.result ≡ (run_shape shape).slots * shape.page_size = cc in
    let p = err_from_is_err_and c.from_residual.result c.from_residual.ensures.1 in
    rw (p.1, p.2) (erase-fails shape c.args.pages.now (c.from.result * c.from-2.result)
    (c.from-3.result * c.from-4.result) (g.D.Sectors.seen c.args.device.now) c.in_err-erase.field-0.0
    (g.D.Sectors.seen c.erase.new.device) c.requires.limits from_is end_is c.len-size.ensures.told c.requires.long
    erase.err erase.size erase.cause)

pub returns-in_err-erase-clause-calls : goal.returns-in_err-erase-clause-calls
returns-in_err-erase-clause-calls g c =
    let shape = c.args.shape.now in
    let slots = ap (λ (s : Shape). s.slots) c.run_shape-run.ensures.shape in
    let size = ap (λ (s : Shape). s.page_size) c.run_shape-run.ensures.shape in
    let end : ℕ = c.from-3.result * c.from-4.result in
    let end_is : end ≡ (run_shape shape).slots * shape.page_size = cc in
    let made = put_weaker
    (within-longer end (data_device_length (run_shape shape)) (omega (arith, end_is, slots-within shape)))
    c.in_err-erase.ensures.calls in
    let p = err_from_is_err_and c.from_residual.result c.from_residual.ensures.1 in
    rw (p.1, p.2) made

pub loop-page-init : goal.loop-page-init
loop-page-init g c =
    let shape = c.args.shape.now in
    let slots = ap (λ (s : Shape). s.slots) c.run_shape-run.ensures.shape in
    let size = ap (λ (s : Shape). s.page_size) c.run_shape-run.ensures.shape in
    let erase = c.in_ok-erase.ensures in
    let end : ℕ = c.from-3.result * c.from-4.result in
    let from_is : c.from.result * c.from-2.result ≡ old_end shape = cc in
    let end_is : end ≡ (run_shape shape).slots * shape.page_size = cc in
    record {
      size = erase.size;
      later = erase.cause.later;
      told = erase-grown shape c.args.pages.now (c.from.result * c.from-2.result) end
          (g.D.Sectors.seen c.args.device.now) (g.D.Sectors.seen c.erase.new.device) c.requires.limits
          (omega (arith, c.requires.early.slots, c.requires.early.few_pages)) from_is end_is erase.ok;
      calls = put_weaker
          (within-longer end (data_device_length (run_shape shape)) (omega (arith, end_is, slots-within shape)))
          erase.calls;
    }

pub write_place-requires-clause-user : goal.write_place-requires-clause-user
write_place-requires-clause-user g c =
    let shape = c.args.shape.now in
    let pages = ap (λ (s : Shape). s.pages) c.run_shape-run.ensures.shape in
    let size = ap (λ (s : Shape). s.page_size) c.run_shape-run.ensures.shape in
    let read : PageRead shape c.args.pages.now c.loop-page.page c.lsn.result c.user_bytes.result.now =
    page-read shape c.args.pages.now c.loop-page.page c.lsn.result c.user_bytes.result.now c.requires.pages
    (omega (arith, c.loop-page-test.true, pages)) c.lsn.ensures c.user_bytes.ensures in
    omega (arith, read.long, size)

pub returns-in_err-write_place-clause-step : goal.returns-in_err-write_place-clause-step
returns-in_err-write_place-clause-step g c =
    let shape = c.args.shape.now in
    let page = c.loop-page.page in
    let content : Content = record { lsn = c.lsn.result; user = c.user_bytes.result.now } in
    let mid = g.D.Sectors.seen c.loop-page.device in
    let new = g.D.Sectors.seen c.write_place.new.device in
    let place : WritesPlace (run_shape shape) page content mid (Err c.in_err-write_place.field-0.0) new =
    subst (λ (s : Shape). WritesPlace s page content mid (Err c.in_err-write_place.field-0.0) new)
    c.run_shape-run.ensures.shape c.in_err-write_place.ensures.step in
    let p = err_from_is_err_and c.from_residual-in_err-write_place.result c.from_residual-in_err-write_place.ensures.1
    in
    rw (p.1, p.2) (place-fails shape c.args.pages.now page content (g.D.Sectors.seen c.args.device.now) mid
    c.in_err-write_place.field-0.0 new c.requires.limits
    (omega (arith, c.requires.early.slots, c.requires.early.few_pages)) c.len-size.ensures.told c.requires.long
    c.loop-page.invariant.told c.loop-page.invariant.size
    c.loop-page.invariant.later place)

pub returns-in_err-write_place-clause-calls : goal.returns-in_err-write_place-clause-calls
returns-in_err-write_place-clause-calls g c =
    let made = subst (λ (s : Shape). MakesCalls g.D.Sectors.gives c.loop-page.device c.write_place.new.device
    (PutsWhere (IsWithin (data_device_length s)) (Some c.in_err-write_place.field-0.0))) c.run_shape-run.ensures.shape
    c.in_err-write_place.ensures.calls in
    let p = err_from_is_err_and c.from_residual-in_err-write_place.result c.from_residual-in_err-write_place.ensures.1
    in
    rw (p.1, p.2) (puts_then c.loop-page.invariant.calls made)

pub loop-page-preserved : goal.loop-page-preserved
loop-page-preserved g c =
    let shape = c.args.shape.now in
    let pages = ap (λ (s : Shape). s.pages) c.run_shape-run.ensures.shape in
    let page = c.loop-page.page in
    let below : page < shape.pages = omega (arith, c.loop-page-test.true, pages) in
    let content : Content = record { lsn = c.lsn.result; user = c.user_bytes.result.now } in
    let old = g.D.Sectors.seen c.args.device.now in
    let mid = g.D.Sectors.seen c.loop-page.device in
    let new = g.D.Sectors.seen c.write_place.new.device in
    let place : WritesPlace (run_shape shape) page content mid (Ok tt) new =
    subst (λ (s : Shape). WritesPlace s page content mid (Ok tt) new) c.run_shape-run.ensures.shape
    c.in_ok-write_place.ensures.step in
    let made = subst (λ (s : Shape). MakesCalls g.D.Sectors.gives c.loop-page.device c.write_place.new.device
    (PutsWhere (IsWithin (data_device_length s)) None)) c.run_shape-run.ensures.shape c.in_ok-write_place.ensures.calls
    in
    let read : PageRead shape c.args.pages.now page c.lsn.result c.user_bytes.result.now =
    page-read shape c.args.pages.now page c.lsn.result c.user_bytes.result.now c.requires.pages below c.lsn.ensures
    c.user_bytes.ensures in
    record {
      size = place.step.size ∙ c.loop-page.invariant.size;
      later = omega (arith, c.loop-page.invariant.later, place.step.cause.later);
      told = place-grown shape c.args.pages.now page content old mid tt new c.requires.limits
          (omega (arith, c.requires.early.slots, c.requires.early.few_pages)) below
          (page-content shape c.args.pages.now page c.lsn.result c.user_bytes.result.now read
          (omega (arith, below, c.requires.pages.count))) c.loop-page.invariant.told place;
      calls = puts_then c.loop-page.invariant.calls made;
    }

pub returns-clause-step : goal.returns-clause-step
returns-clause-step g c =
    let shape = c.args.shape.now in
    let pages = ap (λ (s : Shape). s.pages) c.run_shape-run.ensures.shape in
    sync-ends shape c.args.pages.now c.loop-page.page (g.D.Sectors.seen c.args.device.now)
    (g.D.Sectors.seen c.loop-page.device) c.sync.result (g.D.Sectors.seen c.sync.new.self)
    c.requires.limits (omega (arith, c.loop-page-test.false, c.loop-page.auto.page-end, pages)) c.len-size.ensures.told
    c.requires.long c.loop-page.invariant.told
    c.loop-page.invariant.size c.loop-page.invariant.later c.sync.ensures.step

pub returns-clause-calls : goal.returns-clause-calls
returns-clause-calls g c = puts_then c.loop-page.invariant.calls (put_one tt c.sync.ensures.gives)
