use Rattle.std.proofs.Common.{◌≡◌, ◌<◌, ◌+◌, ℕ, List, length, map, take, None, Some, IfSome, refl, sym, ap, subst, ◌∙◌, ⊎_elim, arith}
use Rattle.std.specs.List.{slice_get}
use Rattle.std.proofs.lemmas.Bool.{cases_lt}
use Rattle.std.proofs.lemmas.List.{take_all}
use Rattle.std.proofs.lemmas.Option.{slice_get_within}
use Rattle.model_base.specs.{frame_length, overwritten}
use Rattle.model_page.specs.{FitsPage, page_text}
use Rattle.model_page.specs.declared.content.Content.{Content}
use Rattle.model_parts.proofs.Batches.{whole-page}
use Rattle.model_store.proofs.Places.{has_place, same_some}
use Rattle.model_archive.specs.{base_text}
use Rattle.redo_disk.specs.{IsRange, MakesCalls, Serve, ToWrite}
use Rattle.redo_disk.proofs.Told.{told-as, told-same}
use Rattle.redo_archive.proofs.Basing.{base-range}
use Rattle.redo_archive.proofs.Begins.{pages-more, pages-none}
use Rattle.redo_archive.specs.Part.{base_writes}
use Rattle.redo_archive.proofs.Sealing.{AreWritten, written-none, written-told}
use Rattle.redo_archive.proofs.pages.write_base.Goals as goal

pub loop-page-init : goal.loop-page-init
loop-page-init g c = record {
  room = ap length c.as_mut_slice-text.ensures.value ∙ omega (arith, c.in_ok-room.ensures.len);
  told = told-same _ _ (AreWritten c.args.shape.now c.args.pages.now 0) (written-none c.args.shape.now c.args.pages.now)
      refl;
  size = refl;
  later = omega arith;
  fit = λ p page below there. absurd (omega arith);
  calls = pages-none g.A.Sectors.gives c.args.device.now;
}

pub fill_base-requires-clause-count : goal.fill_base-requires-clause-count
fill_base-requires-clause-count g c =
    let pages = c.args.pages.now in
    let p : ℕ = c.loop-page.page in
    let there = has_place pages p (omega (arith, c.requires.its_pages.count, c.loop-page-test.true)) in
    let user : c.user_bytes-user.result.now ≡ there.0.user =
    subst (λ o. IfSome o (λ (content : Content). c.user_bytes-user.result.now ≡ content.user)) there.1
    c.user_bytes-user.ensures in
    ap length user ∙ c.requires.its_pages.sizes p there.0 there.1

pub write-requires : goal.write-requires
write-requires g c =
    let shape = c.args.shape.now in
    let size : ℕ = (g.A.Sectors.seen c.loop-page.device).size in
    let long : length c.fill_base.new.out ≡ shape.page_size = omega (arith, c.loop-page.invariant.room) in
    subst (λ (n : ℕ). IsRange size c.page_place.result n) (sym long)
    (subst (λ (at : ℕ). IsRange size at shape.page_size) (sym c.page_place.ensures)
    (base-range shape c.loop-page.page size c.requires.limits c.loop-page-test.true
    (omega (arith, c.requires.long, c.loop-page.invariant.size))))

pub loop-page-preserved : goal.loop-page-preserved
loop-page-preserved g c =
    let shape = c.args.shape.now in
    let pages = c.args.pages.now in
    let p : ℕ = c.loop-page.page in
    let text = c.fill_base.new.out in
    let old = g.A.Sectors.seen c.args.device.now in
    let middle = g.A.Sectors.seen c.loop-page.device in
    let new = g.A.Sectors.seen c.write.new.self in
    let there = has_place pages p (omega (arith, c.requires.its_pages.count, c.loop-page-test.true)) in
    let page : Content = there.0 in
    let user : c.user_bytes-user.result.now ≡ page.user =
    subst (λ o. IfSome o (λ (content : Content). c.user_bytes-user.result.now ≡ content.user)) there.1
    c.user_bytes-user.ensures in
    let lsn : c.lsn.result ≡ page.lsn =
    subst (λ o. IfSome o (λ (content : Content). c.lsn.result ≡ content.lsn)) there.1 c.lsn.ensures in
    let long : length text ≡ shape.page_size = omega (arith, c.loop-page.invariant.room) in
    let text_is : text ≡ page_text p shape.space page.lsn page.user =
    c.fill_base.ensures.text
    ∙ ap (λ (l : ℕ). page_text p shape.space l c.user_bytes-user.result.now) lsn
    ∙ ap (page_text p shape.space page.lsn) user in
    let own : FitsPage p shape.space page.lsn page.user =
    subst (λ (l : ℕ). FitsPage p shape.space l page.user) lsn
    (subst (λ (u : List ℕ). FitsPage p shape.space c.lsn.result u) user c.fill_base.ensures.fits) in
    record {
      room = long;
      told = written-told old.tells middle.tells new.tells shape pages p c.page_place.result old.size page text
          c.requires.limits c.loop-page-test.true there.1 c.page_place.ensures text_is long c.requires.long
          c.requires.sized
          c.loop-page.invariant.told c.in_ok-write.ensures.step.ok;
      size = c.in_ok-write.ensures.step.size ∙ c.loop-page.invariant.size;
      later = omega (arith, c.in_ok-write.ensures.step.cause.later, c.loop-page.invariant.later);
      fit = λ q other below is. ⊎_elim (λ before. c.loop-page.invariant.fit q other before is)
          (λ here.
          let same : p ≡ q = omega arith in
          let one : page ≡ other = same_some (slice_get pages q) page other
          (subst (λ (n : ℕ). slice_get pages n ≡ Some page) same there.1) is in
          subst (λ (x : Content). FitsPage q shape.space x.lsn x.user) one
          (subst (λ (n : ℕ). FitsPage n shape.space page.lsn page.user) same own)) (cases_lt q p);
      calls = pages-more g.A.Sectors.gives c.args.device.now c.loop-page.device c.write.new.self shape pages p
          c.page_place.result page text c.in_ok-write.field-0 there.1 c.page_place.ensures text_is
          c.loop-page.invariant.calls c.in_ok-write.ensures.gives;
    }

pub returns-clause-ok : goal.returns-clause-ok
returns-clause-ok g c =
    let shape = c.args.shape.now in
    let pages = c.args.pages.now in
    let all : c.loop-page.page ≡ shape.pages = omega (arith, c.loop-page.auto.page-end, c.loop-page-test.false) in
    let whole : take c.loop-page.page pages ≡ pages =
    take_all c.loop-page.page pages (omega (arith, c.requires.its_pages.count)) in (
      record {
        size_is = λ p page there. ap (λ (k : ℕ). frame_length + k) (c.requires.its_pages.sizes p page there)
            ∙ whole-page shape c.requires.limits.page_size;
        fit = λ p page there.
            let within : p < length pages = slice_get_within pages p page there in
            c.loop-page.invariant.fit p page (omega (arith, c.requires.its_pages.count)) there;
      },
      told-as _ _ (AreWritten shape pages c.loop-page.page)
          (λ old new. new.reads ≡ overwritten 1536 (base_text 0 shape.space pages) old.reads)
          (λ a b are. are.reads
          ∙ ap (λ (xs : List Content). overwritten 1536 (base_text 0 shape.space xs) a.reads) whole)
          c.loop-page.invariant.told,
    )

pub returns-clause-calls : goal.returns-clause-calls
returns-clause-calls g c =
    let pages = c.args.pages.now in
    let whole : take c.loop-page.page pages ≡ pages =
    take_all c.loop-page.page pages
    (omega (arith, c.requires.its_pages.count, c.loop-page.auto.page-end, c.loop-page-test.false)) in
    subst (λ (xs : List Content). MakesCalls g.A.Sectors.gives c.args.device.now c.loop-page.device
    (Serve (map ToWrite (base_writes c.args.shape.now 0 xs)) None)) whole c.loop-page.invariant.calls
