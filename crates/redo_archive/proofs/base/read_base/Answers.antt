use Rattle.std.proofs.Common.{◌≡◌, ℕ, length, IfSome, sym, ap, subst, ◌∙◌, arith}
use Rattle.std.proofs.lemmas.Result.{err_from_is_err_and}
use Rattle.model_base.proofs.ShapeLimits.{whole_sectors}
use Rattle.model_base.specs.{user_length}
use Rattle.model_page.specs.declared.content.Content.{Content}
use Rattle.model_store.proofs.Places.{has_place}
use Rattle.redo_disk.specs.{IsRange, part}
use Rattle.redo_recover.specs.Devices.{OnContent}
use Rattle.redo_recover.proofs.Contents.{content-weaker}
use Rattle.redo_recover.proofs.Keeping.{user-size}
use Rattle.redo_recover.proofs.Only.{only-then}
use Rattle.redo_recover.proofs.Unchanged.{content-after}
use Rattle.redo_archive.proofs.Basing.{AreFirstBases, base-range, bases-all, bases-fault, bases-next}
use Rattle.redo_archive.proofs.Restores.{only-fault}
use Rattle.redo_archive.proofs.base.read_base.Goals as goal

pub read_part-requires : goal.read_part-requires
read_part-requires g c =
    let shape = c.args.shape.now in
    let long = (g.A.Sectors.seen c.loop-page.device).size in
    record {
      range = subst (λ (at : ℕ). IsRange long at shape.page_size) (sym c.page_place.ensures)
          (base-range shape c.loop-page.page long c.requires.limits c.loop-page-test.true
          (omega (arith, c.requires.long, c.loop-page.invariant.reads.unchanged.size)));
    }

pub returns-in_err-read-clause-reads : goal.returns-in_err-read-clause-reads
returns-in_err-read-clause-reads g c =
    let p = err_from_is_err_and c.from_residual-in_err-read.result c.from_residual-in_err-read.ensures.1 in
    rw (p.1, p.2) (only-fault _ _ _ (only-then _ _ _ _ c.loop-page.invariant.reads c.in_err-read.ensures.reads))

pub place_lsn-requires : goal.place_lsn-requires
place_lsn-requires g c =
    omega (
      arith,
      (whole_sectors c.args.shape.now c.requires.limits).least,
      ap length c.as_slice-text.ensures.value,
      c.in_ok-read.ensures.count,
    )

pub returns-in_default-clause-fault : goal.returns-in_default-clause-fault
returns-in_default-clause-fault g c =
    let shape = c.args.shape.now in
    let p : ℕ = c.loop-page.page in
    let middle = g.A.Sectors.seen c.loop-page.device in
    let now = g.A.Sectors.seen c.read_part.new.device in
    let text = c.as_slice-text.result.now in
    let read : OnContent now.tells (λ image. text ≡ part image c.page_place.result shape.page_size) =
    content-weaker now.tells _ (λ image. text ≡ part image c.page_place.result shape.page_size)
    (λ image is. c.as_slice-text.ensures.value ∙ is) c.in_ok-read.ensures.content in
    bases-fault now.tells shape p c.page_place.result text c.loop-page.pages c.loop-page-test.true c.page_place.ensures
    (sym c.place_lsn.ensures ∙ c.in_default.is)
    (content-after middle now (AreFirstBases shape p c.loop-page.pages) c.in_ok-read.ensures.reads.unchanged
    c.loop-page.invariant.first) read

pub returns-in_default-clause-reads : goal.returns-in_default-clause-reads
returns-in_default-clause-reads g c = only-then _ _ _ _ c.loop-page.invariant.reads c.in_ok-read.ensures.reads

pub user_part-requires : goal.user_part-requires
user_part-requires g c =
    omega (
      arith,
      (whole_sectors c.args.shape.now c.requires.limits).least,
      ap length c.as_slice-text.ensures.value,
      c.in_ok-read.ensures.count,
    )

pub put-requires-clause-user : goal.put-requires-clause-user
put-requires-clause-user g c =
    let shape = c.args.shape.now in
    let p : ℕ = c.loop-page.page in
    let text = c.as_slice-text.result.now in
    let there = has_place c.loop-page.pages p
    (omega (arith, c.loop-page.invariant.its_pages.count, c.loop-page-test.true)) in
    let long : length c.user_part.result.now ≡ user_length shape =
    ap length c.user_part.ensures
    ∙ user-size shape text (ap length c.as_slice-text.ensures.value ∙ c.in_ok-read.ensures.count) in
    let own : length there.0.user ≡ user_length shape = c.loop-page.invariant.its_pages.sizes p there.0 there.1 in
    subst (λ o. IfSome o (λ (content : Content). length c.user_part.result.now ≡ length content.user)) (sym there.1)
    (long ∙ sym own)

pub loop-page-preserved : goal.loop-page-preserved
loop-page-preserved g c =
    let shape = c.args.shape.now in
    let p : ℕ = c.loop-page.page in
    let middle = g.A.Sectors.seen c.loop-page.device in
    let now = g.A.Sectors.seen c.read_part.new.device in
    let text = c.as_slice-text.result.now in
    let its = c.put.ensures.its_pages shape c.loop-page.invariant.its_pages in
    let read : OnContent now.tells (λ image. text ≡ part image c.page_place.result shape.page_size) =
    content-weaker now.tells _ (λ image. text ≡ part image c.page_place.result shape.page_size)
    (λ image is. c.as_slice-text.ensures.value ∙ is) c.in_ok-read.ensures.content in
    record {
      its_pages = its;
      reads = only-then _ _ _ _ c.loop-page.invariant.reads c.in_ok-read.ensures.reads;
      first = bases-next now.tells shape p c.page_place.result text c.loop-page.pages c.put.new.self
          (record { lsn = c.in-Some.lsn; user = c.user_part.result.now }) c.page_place.ensures
          (sym c.place_lsn.ensures ∙ c.in-Some.is) c.user_part.ensures c.put.ensures.content its
          (content-after middle now (AreFirstBases shape p c.loop-page.pages) c.in_ok-read.ensures.reads.unchanged
          c.loop-page.invariant.first) read;
    }

pub returns-clause-pages : goal.returns-clause-pages
returns-clause-pages g c =
    bases-all (g.A.Sectors.seen c.loop-page.device).tells c.args.shape.now c.loop-page.page c.loop-page.pages
    (omega (arith, c.loop-page.auto.page-end, c.loop-page-test.false)) c.loop-page.invariant.first
