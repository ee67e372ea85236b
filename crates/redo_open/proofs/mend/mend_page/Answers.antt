-- The place passed, or the copy that counts is put into it.
use Rattle.std.proofs.Common.{◌≡◌, ◌<◌, ◌+◌, ◌-◌, ◌*◌, ◌∙◌, ℕ, List, length, take, drop, Some, refl, sym, ap, subst, arith}
use Rattle.std.proofs.lemmas.Option.{slice_get_read}
use Rattle.std.proofs.lemmas.Result.{on_ok_weaker}
use Rattle.std.specs.Prelude.{IfSome}
use Rattle.std.specs.List.{slice_get}
use Rattle.model_base.specs.declared.shape.Shape.{Shape}
use Rattle.model_parts.specs.{HasNothingPending, IsRepaired, KeepsAll}
use Rattle.redo_disk.proofs.Told.{known-as, known-both}
use Rattle.redo_disk.specs.{OnTold}
use Rattle.redo_open.proofs.PagesInside.{copy-long, repair-within}
use Rattle.redo_open.proofs.Mends.{mended-repaired, mended-same, settled-keeps}
use Rattle.redo_open.proofs.Puts.{put_nothing, put_served}
use Rattle.redo_open.proofs.Standing.{slot-below, slot-room, stands-in_place, stands-in_slot}
use Rattle.redo_open.proofs.Told.{told-both, told-known}
use Rattle.redo_open.proofs.Writings.{live-ok}
use Rattle.redo_open.specs.Mend.{IsMended, IsSettledData, StandFrom}
use Rattle.redo_store.specs.{IsCopyToPut}
use Rattle.redo_open.proofs.mend.mend_page.Goals as goal

pub slice_bounds-put_copy-end : goal.slice_bounds-put_copy-end
slice_bounds-put_copy-end g c =
    let shape = c.args.part.now.shape in
    let at : slice_get c.args.places.now.found.items c.args.page ≡ Some c.index.result.now =
    slice_get_read c.args.places.now.found.items c.args.part.now.shape.pages c.args.page c.index.result.now (sym c.requires.slots.count) c.requires.page c.index.ensures in
    let in_slot : c.index.result.now.slot ≡ Some c.in-Some.slot = c.in-Some.is in
    let below : c.in-Some.slot < shape.slots = slot-below shape c.args.places.now c.args.page c.in-Some.slot c.index.result.now c.requires.slots at in_slot in
    let size_is = ap (λ (s : Shape). s.page_size) (sym c.requires.shape) in
    omega (arith, slot-room c.in-Some.slot shape.slots shape.page_size c.args.shape.now.page_size below size_is, c.requires.slots.room, ap length c.deref.ensures.value)

pub put_copy-requires-clause-copy : goal.put_copy-requires-clause-copy
put_copy-requires-clause-copy g c =
    let shape = c.args.part.now.shape in
    let at : slice_get c.args.places.now.found.items c.args.page ≡ Some c.index.result.now =
    slice_get_read c.args.places.now.found.items c.args.part.now.shape.pages c.args.page c.index.result.now (sym c.requires.slots.count) c.requires.page c.index.ensures in
    let below : c.in-Some.slot < shape.slots = slot-below shape c.args.places.now c.args.page c.in-Some.slot c.index.result.now c.requires.slots at c.in-Some.is in
    let size_is = ap (λ (s : Shape). s.page_size) (sym c.requires.shape) in
    let room = slot-room c.in-Some.slot shape.slots shape.page_size c.args.shape.now.page_size below size_is in
    copy-long c.args.shape.now.page_size c.in-Some.slot c.deref.result.now (omega (arith, room, c.requires.slots.room, ap length c.deref.ensures.value)) ∙ sym size_is

pub put_copy-requires-clause-counts : goal.put_copy-requires-clause-counts
put_copy-requires-clause-counts g c =
    let shape = c.args.part.now.shape in
    let page = c.args.page in
    let places = c.args.places.now in
    let slot = c.in-Some.slot in
    let size = c.args.shape.now.page_size in
    let size_is = ap (λ (s : Shape). s.page_size) (sym c.requires.shape) in
    let copy : List ℕ → List ℕ = λ bytes. take (slot * size + size - slot * size) (drop (slot * size) bytes) in
    subst (λ bytes. IfSome (g.D.Sectors.seen c.args.part.now.dev).tells (IsCopyToPut shape page (copy bytes))) (sym c.deref.ensures.value)
    (known-both _ (IsSettledData shape) (StandFrom shape places page) (IsCopyToPut shape page (copy places.slots.items))
    (λ disk settled stand. stands-in_slot shape places page slot c.index.result.now disk size size_is settled stand
    (slice_get_read c.args.places.now.found.items c.args.part.now.shape.pages c.args.page c.index.result.now (sym c.requires.slots.count) c.requires.page c.index.ensures) c.in-Some.is) c.requires.settled c.requires.stand)

pub returns-in-None-clause-step : goal.returns-in-None-clause-step
returns-in-None-clause-step g c =
    let shape = c.args.part.now.shape in
    let page = c.args.page in
    let places = c.args.places.now in
    record {
      keeps = told-known _ _ (IsSettledData shape) (KeepsAll shape) (settled-keeps shape) c.requires.settled refl;
      ok = told-known _ _ (λ disk. IsMended shape page disk disk) (IsMended shape page) (λ a is. is)
          (known-both _ (IsSettledData shape) (StandFrom shape places page) (λ disk. IsMended shape page disk disk)
          (λ disk settled stand. mended-same shape page disk settled (stands-in_place shape places page c.index.result.now disk stand
          (slice_get_read c.args.places.now.found.items c.args.part.now.shape.pages c.args.page c.index.result.now (sym c.requires.slots.count) c.requires.page c.index.ensures) c.in-None.is)) c.requires.settled c.requires.stand) refl;
      live = c.requires.live;
      shape_stays = refl;
      size = refl;
      cause = record { later = omega arith; failed = λ failed. absurd cc };
    }

pub returns-in-Some-clause-step : goal.returns-in-Some-clause-step
returns-in-Some-clause-step g c =
    let shape = c.args.part.now.shape in
    let page = c.args.page in
    let nothing : IfSome (g.D.Sectors.seen c.args.part.now.dev).tells HasNothingPending =
    known-as _ (IsSettledData shape) HasNothingPending (λ disk is. is.nothing_pending) c.requires.settled in
    let keeps : OnTold (g.D.Sectors.seen c.args.part.now.dev).tells (g.D.Sectors.seen c.put_copy.new.self.dev).tells (KeepsAll shape) = c.put_copy.ensures.keeps nothing in
    record {
      keeps = keeps;
      ok = on_ok_weaker c.put_copy.result
          (told-both _ _ (KeepsAll shape) (IsRepaired shape page) (IsMended shape page) (λ a b one two. mended-repaired shape page a b one two) keeps)
          (c.put_copy.ensures.ok nothing);
      live = live-ok c.put_copy.result c.put_copy.new.self.failed c.put_copy.ensures.step.failed;
      shape_stays = c.put_copy.ensures.step.shape;
      size = c.put_copy.ensures.step.size;
      cause = c.put_copy.ensures.step.cause;
    }

pub returns-in-Some-clause-calls : goal.returns-in-Some-clause-calls
returns-in-Some-clause-calls g c =
    let shape = c.args.part.now.shape in
    let at : slice_get c.args.places.now.found.items c.args.page ≡ Some c.index.result.now =
    slice_get_read c.args.places.now.found.items c.args.part.now.shape.pages c.args.page c.index.result.now (sym c.requires.slots.count) c.requires.page c.index.ensures in
    let below : c.in-Some.slot < shape.slots = slot-below shape c.args.places.now c.args.page c.in-Some.slot c.index.result.now c.requires.slots at c.in-Some.is in
    let slot = c.in-Some.slot in
    let size = c.args.shape.now.page_size in
    let size_is = ap (λ (s : Shape). s.page_size) (sym c.requires.shape) in
    let room = slot-room slot shape.slots shape.page_size size below size_is in
    let copy : List ℕ = take (slot * size + size - slot * size) (drop (slot * size) c.deref.result.now) in
    let long : length copy ≡ size = copy-long size slot c.deref.result.now (omega (arith, room, c.requires.slots.room, ap length c.deref.ensures.value)) in
    put_served (repair-within shape c.args.page copy c.requires.page (long ∙ sym size_is)) c.put_copy.ensures.calls

pub returns-in-None-clause-calls : goal.returns-in-None-clause-calls
returns-in-None-clause-calls g c = put_nothing g.D.Sectors.gives c.args.part.now.dev
