-- The place is read, and judged beside the slots.
use Rattle.std.proofs.Common.{◌≡◌, ◌∙◌, ◌*◌, ◌+◌, ℕ, refl, subst, sym}
use Rattle.model_page.specs.{IsLost}
use Rattle.redo_disk.specs.{IsRange, part}
use Rattle.redo_recover.proofs.Contents.{content-both}
use Rattle.redo_recover.proofs.Keeping.{part-is, place-range}
use Rattle.redo_recover.proofs.Only.{only-data}
use Rattle.redo_recover.proofs.Unchanged.{content-after}
use Rattle.redo_recover.specs.Pages.{HoldsSlots, PutsKept, IsFoundAt}
use Rattle.redo_recover.proofs.kept.keep_page.Goals as goal

pub read_part-requires : goal.read_part-requires
read_part-requires g c =
    let shape = c.args.shape.now in
    let long = (g.D.Sectors.seen c.args.device.now).size in
    let at_is : c.from.result * c.from-2.result ≡ (shape.slots + c.args.page) * shape.page_size = cc in
    record {
      range = subst (λ (at : ℕ). IsRange long at shape.page_size) (sym at_is) (place-range shape c.args.page long c.requires.limits c.requires.page c.requires.long);
    }

pub returns-in_default-clause-fault : goal.returns-in_default-clause-fault
returns-in_default-clause-fault g c =
    let shape = c.args.shape.now in
    let at = c.from.result * c.from-2.result in
    let at_is : at ≡ (shape.slots + c.args.page) * shape.page_size = cc in (
      refl,
      content-both (g.D.Sectors.seen c.read_part.new.device).tells (HoldsSlots shape c.args.slots.now) (λ content. c.in-Ok.place.items ≡ part content at shape.page_size)
          (λ content. IsLost shape content c.args.page)
          (λ content slots place. c.in_default.ensures.kept content slots (c.as_slice.ensures.value ∙ place ∙ part-is shape content c.args.page at at_is))
          (content-after _ _ (HoldsSlots shape c.args.slots.now) c.in-Ok.ensures.reads.unchanged c.requires.slots) c.in-Ok.ensures.content,
    )

pub returns-clause-kept : goal.returns-clause-kept
returns-clause-kept g c =
    let shape = c.args.shape.now in
    let at = c.from.result * c.from-2.result in
    let at_is : at ≡ (shape.slots + c.args.page) * shape.page_size = cc in
    content-both (g.D.Sectors.seen c.read_part.new.device).tells (HoldsSlots shape c.args.slots.now) (λ content. c.in-Ok.place.items ≡ part content at shape.page_size)
    (PutsKept shape c.args.page c.args.pages.now c.put.new.self)
    (λ content slots place. record {
      kept = record { lsn = c.in-Some.found.lsn; user = c.in-Some.user.now };
      is_kept = c.in-Some.ensures.kept content slots (c.as_slice.ensures.value ∙ place ∙ part-is shape content c.args.page at at_is);
      put = c.put.ensures.content;
    }) (content-after _ _ (HoldsSlots shape c.args.slots.now) c.in-Ok.ensures.reads.unchanged c.requires.slots) c.in-Ok.ensures.content

pub returns-clause-found : goal.returns-clause-found
returns-clause-found g c =
    let shape = c.args.shape.now in
    let at = c.from.result * c.from-2.result in
    let at_is : at ≡ (shape.slots + c.args.page) * shape.page_size = cc in
    content-both (g.D.Sectors.seen c.read_part.new.device).tells (HoldsSlots shape c.args.slots.now) (λ content. c.in-Ok.place.items ≡ part content at shape.page_size)
    (λ content. IsFoundAt shape content c.args.page c.in-Some.found)
    (λ content slots place. c.in-Some.ensures.found content slots (c.as_slice.ensures.value ∙ place ∙ part-is shape content c.args.page at at_is))
    (content-after _ _ (HoldsSlots shape c.args.slots.now) c.in-Ok.ensures.reads.unchanged c.requires.slots) c.in-Ok.ensures.content

pub returns-clause-its_pages : goal.returns-clause-its_pages
returns-clause-its_pages g c = c.put.ensures.its_pages c.args.shape.now c.requires.its_pages

pub returns-in-Err-clause-reads : goal.returns-in-Err-clause-reads
returns-in-Err-clause-reads g c = only-data _ _ c.in-Err.error _ c.data_fault.ensures c.in-Err.ensures.reads

pub returns-clause-puts : goal.returns-clause-puts
returns-clause-puts g c = record { slot = c.in-Some.ensures.slot; user = c.in-Some.user.now; put = c.put.ensures.content }
