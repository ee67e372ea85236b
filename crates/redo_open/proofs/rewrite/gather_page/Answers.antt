-- The page hasn't changed, or it is added to the batch, which has room once it is written.
use Rattle.std.proofs.Common.{◌≡◌, ◌+◌, ◌*◌, ◌∙◌, Err, Ok, length, ap, sym, subst, arith}
use Rattle.model_base.specs.{user_length}
use Rattle.model_base.specs.declared.shape.Shape.{Shape}
use Rattle.std.proofs.lemmas.Option.{slice_get_read}
use Rattle.std.proofs.lemmas.Result.{err_from_is_err_and}
use Rattle.redo_open.proofs.Gathers.{added, gathered-more, gathered-writable, same-gathered}
use Rattle.redo_open.proofs.GatherSteps.{added-step, failed-step, kept-step}
use Rattle.redo_open.proofs.Puts.{put_nothing}
use Rattle.redo_open.proofs.Writings.{PageRead, lsn-read, page-read}
use Rattle.redo_open.specs.Rewrite.{Gathered, GatherStep}
use Rattle.redo_open.proofs.rewrite.gather_page.Goals as goal

pub returns-then-index-lsn-clause-step : goal.returns-then-index-lsn-clause-step
returns-then-index-lsn-clause-step g c =
    let shape = c.args.part.now.shape in
    let pages = c.args.pages.now in
    let found = c.args.places.now.found.items in
    let read = lsn-read shape pages c.args.page c.lsn-lsn.result c.requires.pages c.requires.page c.lsn-lsn.ensures in
    kept-step g.D.Sectors.seen shape pages found c.args.page (c.args.page + 1) c.args.part.now c.args.batch.now c.requires.live
    (gathered-more shape pages c.args.page c.args.batch.now c.requires.gathered)
    (λ top start tops w. same-gathered shape pages found top start c.args.page c.index.result.now read.0 c.args.batch.now _ tops
    (slice_get_read c.args.places.now.found.items c.args.part.now.shape.pages c.args.page c.index.result.now (sym c.requires.found) c.requires.page c.index.ensures) read.1 (c.if-index-lsn.true ∙ read.2) w)

pub make_room-requires-clause-writable : goal.make_room-requires-clause-writable
make_room-requires-clause-writable g c =
    gathered-writable c.args.part.now.shape c.args.pages.now c.args.page c.args.batch.now c.requires.gathered (λ p below. omega (arith, c.requires.page)) c.requires.small

pub returns-in_err-make_room-clause-step : goal.returns-in_err-make_room-clause-step
returns-in_err-make_room-clause-step g c =
    let shape = c.args.part.now.shape in
    let pages = c.args.pages.now in
    let found = c.args.places.now.found.items in
    let batch = c.args.batch.now in
    let step : GatherStep g.D.Sectors.seen shape pages found c.args.page (c.args.page + 1) c.args.part.now batch (Err c.in_err-make_room.field-0.0) c.make_room.new.part c.make_room.new.batch =
    failed-step g.D.Sectors.seen shape pages found c.args.page (c.args.page + 1) c.args.part.now c.make_room.new.part batch c.make_room.new.batch c.in_err-make_room.field-0.0
    (c.in_err-make_room.ensures.step pages found c.args.page c.requires.gathered) in
    let p = err_from_is_err_and c.from_residual.result c.from_residual.ensures.1 in rw (p.1, p.2) step

pub make_room-requires-clause-shape : goal.make_room-requires-clause-shape
make_room-requires-clause-shape g c = c.requires.gathered.of_store

pub add-requires-clause-few : goal.add-requires-clause-few
add-requires-clause-few g c =
    let now = (c.in_ok-make_room.ensures.step c.args.pages.now c.args.places.now.found.items c.args.page c.requires.gathered).gathered in
    omega (arith, c.in_ok-make_room.ensures.room, ap (λ (s : Shape). s.slots) now.of_store)

pub add-requires-clause-joined : goal.add-requires-clause-joined
add-requires-clause-joined g c =
    let now = (c.in_ok-make_room.ensures.step c.args.pages.now c.args.places.now.found.items c.args.page c.requires.gathered).gathered in
    let batch = c.make_room.new.batch in
    subst (λ (s : Shape). length batch.users ≡ length batch.pairs * user_length s) (sym now.of_store) now.joined

pub add-requires-clause-long : goal.add-requires-clause-long
add-requires-clause-long g c =
    let read : PageRead c.args.part.now.shape c.args.pages.now c.args.page c.lsn-lsn.result c.user_bytes.result.now =
    page-read c.args.part.now.shape c.args.pages.now c.args.page c.lsn-lsn.result c.user_bytes.result.now c.requires.pages c.requires.page c.lsn-lsn.ensures c.user_bytes.ensures in
    let now = (c.in_ok-make_room.ensures.step c.args.pages.now c.args.places.now.found.items c.args.page c.requires.gathered).gathered in
    read.long ∙ sym (ap user_length now.of_store)

pub returns-clause-step : goal.returns-clause-step
returns-clause-step g c =
    let shape = c.args.part.now.shape in
    let pages = c.args.pages.now in
    let found = c.args.places.now.found.items in
    let batch = c.args.batch.now in
    let read : PageRead shape pages c.args.page c.lsn-lsn.result c.user_bytes.result.now =
    page-read shape pages c.args.page c.lsn-lsn.result c.user_bytes.result.now c.requires.pages c.requires.page c.lsn-lsn.ensures c.user_bytes.ensures in
    let step : GatherStep g.D.Sectors.seen shape pages found c.args.page (c.args.page + 1) c.args.part.now batch (Ok tt) c.make_room.new.part
    (added c.make_room.new.batch c.args.page c.lsn-lsn.result c.user_bytes.result.now) =
    added-step g.D.Sectors.seen shape pages found c.args.page c.lsn-lsn.result c.user_bytes.result.now c.args.part.now c.make_room.new.part batch c.make_room.new.batch
    c.in_ok-make_room.ensures.room read
    (c.in_ok-make_room.ensures.step pages found c.args.page c.requires.gathered) in
    subst (λ (b : Gathered). GatherStep g.D.Sectors.seen shape pages found c.args.page (c.args.page + 1) c.args.part.now batch (Ok tt) c.make_room.new.part b) (sym c.add.ensures) step

pub returns-then-index-lsn-clause-calls : goal.returns-then-index-lsn-clause-calls
returns-then-index-lsn-clause-calls g c = put_nothing g.D.Sectors.gives c.args.part.now.dev
