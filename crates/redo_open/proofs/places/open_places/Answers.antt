-- The steps, one after the other.
use Rattle.std.proofs.Common.{◌≡◌, ◌∙◌, Err, List, refl, sym, ap, subst, arith}
use Rattle.std.specs.Prelude.{IfSome}
use Rattle.model_base.specs.declared.shape.Shape.{Shape}
use Rattle.model_parts.specs.{KeepsAll, read_as}
use Rattle.model_device.specs.{settled}
use Rattle.model_page.specs.declared.content.Content.{Content}
use Rattle.redo_disk.proofs.Told.{known-as, told-step}
use Rattle.redo_disk.specs.{Seen}
use Rattle.redo_disk.specs.declared.error.DevError.{DevError}
use Rattle.redo_open.proofs.Asked.{data_ends}
use Rattle.redo_open.proofs.Endings.{device-own, device-failed}
use Rattle.redo_open.proofs.Opens.{repair-keeps, mended-may_write, unchanged-keeps, write-keeps, all-written}
use Rattle.redo_disk.proofs.Made.{may_end, none_may_end, out_of_memory}
use Rattle.redo_open.proofs.Inside.{ends_of, puts_of}
use Rattle.redo_open.proofs.Puts.{put_nothing, puts_then}
use Rattle.redo_open.proofs.Standing.{stand-first}
use Rattle.redo_open.proofs.Told.{risen-since}
use Rattle.redo_open.specs.Mend.{IsSettledData, StandFrom}
use Rattle.redo_open.specs.Places.{KeepsPlaces, MayBeWritten, PlacesStep}
use Rattle.redo_recover.specs.{AreFoundOn, data_fault_of}
use Rattle.redo_recover.specs.declared.fault.RecFault.{RecFault}
use Rattle.redo_recover.specs.declared.fault.RecFault.TheVariants.{NoMemory}
use Rattle.redo_store.specs.Part.{Part}
use Rattle.redo_open.proofs.places.open_places.Goals as goal

pub mend-requires-clause-slots : goal.mend-requires-clause-slots
mend-requires-clause-slots g c = c.requires.places.have_slots

pub mend-requires-clause-stand : goal.mend-requires-clause-stand
mend-requires-clause-stand g c =
    let shape = c.args.shape.now in
    known-as _ (λ disk. AreFoundOn shape c.args.places.now c.args.pages.now disk.base) (StandFrom shape c.args.places.now 0)
    (λ disk found. stand-first shape c.args.places.now c.args.pages.now disk found) c.requires.found

-- memory ran out before a call
no-memory : {D : Type 0} (seen : D → Seen) (shape : Shape) (pages : List Content) (part : Part D) → IfSome (seen part.dev).tells (IsSettledData shape)
    → PlacesStep seen shape pages part (Err NoMemory) part
no-memory seen shape pages part rests = record {
  keeps = λ log_bytes data_bytes opened is known. unchanged-keeps shape pages log_bytes data_bytes opened _ is rests known;
  ok = λ log_bytes data_bytes opened is known. tt;
  live = tt;
  own = tt;
  shape_stays = refl;
  size = refl;
  later = omega arith;
  failed = λ is. absurd cc;
}

pub returns-in-Err-clause-step : goal.returns-in-Err-clause-step
returns-in-Err-clause-step g c = no-memory g.D.Sectors.seen c.args.shape.now c.args.pages.now c.args.part.now c.requires.settled

pub returns-in-Err-mend-clause-step : goal.returns-in-Err-mend-clause-step
returns-in-Err-mend-clause-step g c =
    let shape = c.args.shape.now in
    let pages = c.args.pages.now in
    let first = c.in-Err-mend.ensures.step in
    let step : PlacesStep g.D.Sectors.seen shape pages c.args.part.now (Err (data_fault_of c.in-Err-mend.error)) c.mend.new.part = record {
      keeps = λ log_bytes data_bytes opened is known. told-step _ _ (λ disk. disk ≡ settled data_bytes) (KeepsPlaces shape data_bytes opened) (KeepsAll shape)
          (λ a b same keeps. repair-keeps shape pages log_bytes data_bytes opened a b is same keeps) known first.keeps;
      ok = λ log_bytes data_bytes opened is known. tt;
      live = tt;
      own = device-own c.in-Err-mend.error;
      shape_stays = first.shape_stays;
      size = first.size;
      later = first.cause.later;
      failed = λ failed. first.cause.failed (ap (λ (e : DevError). Err e) (device-failed c.in-Err-mend.error failed));
    } in
    subst (λ (fault : RecFault). PlacesStep g.D.Sectors.seen shape pages c.args.part.now (Err fault) c.mend.new.part) (sym c.data_fault.ensures) step

pub returns-in-Ok-rewrite-clause-step : goal.returns-in-Ok-rewrite-clause-step
returns-in-Ok-rewrite-clause-step g c =
    let shape = c.args.shape.now in
    let pages = c.args.pages.now in
    let places = c.args.places.now in
    let first = c.in-Ok-mend.ensures.step in
    let second = c.in-Ok-rewrite.ensures.step in
    record {
      keeps = λ log_bytes data_bytes opened is known. (
          let may : MayBeWritten shape pages places.found.items data_bytes opened _ =
          mended-may_write shape pages places log_bytes data_bytes opened _ _ c.requires.limits is known c.requires.found first.ok in
          write-keeps shape pages log_bytes data_bytes opened may.start _ is may.kept (second.keeps (read_as opened) may.start may.tops may.written));
      ok = λ log_bytes data_bytes opened is known. (
          let may : MayBeWritten shape pages places.found.items data_bytes opened _ =
          mended-may_write shape pages places log_bytes data_bytes opened _ _ c.requires.limits is known c.requires.found first.ok in
          all-written shape opened may.start _ (second.ok (read_as opened) may.start may.tops may.written));
      live = second.live;
      own = tt;
      shape_stays = second.shape_stays ∙ first.shape_stays;
      size = second.size ∙ first.size;
      later = omega (arith, first.cause.later, second.cause.later);
      failed = λ is. absurd cc;
    }

pub returns-clause-step : goal.returns-clause-step
returns-clause-step g c =
    let shape = c.args.shape.now in
    let pages = c.args.pages.now in
    let places = c.args.places.now in
    let first = c.in-Ok-mend.ensures.step in
    let second = c.in-Err-rewrite.ensures.step in
    let step : PlacesStep g.D.Sectors.seen shape pages c.args.part.now (Err (data_fault_of c.in-Err-rewrite.error)) c.rewrite.new.part = record {
      keeps = λ log_bytes data_bytes opened is known. (
          let may : MayBeWritten shape pages places.found.items data_bytes opened _ =
          mended-may_write shape pages places log_bytes data_bytes opened _ _ c.requires.limits is known c.requires.found first.ok in
          write-keeps shape pages log_bytes data_bytes opened may.start _ is may.kept (second.keeps (read_as opened) may.start may.tops may.written));
      ok = λ log_bytes data_bytes opened is known. tt;
      live = tt;
      own = device-own c.in-Err-rewrite.error;
      shape_stays = second.shape_stays ∙ first.shape_stays;
      size = second.size ∙ first.size;
      later = omega (arith, first.cause.later, second.cause.later);
      failed = λ failed. risen-since _ _ _ first.cause.later second.cause.later
          (second.cause.failed (ap (λ (e : DevError). Err e) (device-failed c.in-Err-rewrite.error failed)));
    } in
    subst (λ (fault : RecFault). PlacesStep g.D.Sectors.seen shape pages c.args.part.now (Err fault) c.rewrite.new.part) (sym c.data_fault-in-Err-rewrite.ensures) step

pub returns-in-Err-clause-calls : goal.returns-in-Err-clause-calls
returns-in-Err-clause-calls g c = out_of_memory (none_may_end g.D.Sectors.gives c.args.part.now.dev)

pub returns-in-Err-mend-clause-calls : goal.returns-in-Err-mend-clause-calls
returns-in-Err-mend-clause-calls g c = data_ends c.in-Err-mend.error c.data_fault.result c.data_fault.ensures (ends_of c.in-Err-mend.ensures.calls)

pub returns-in-Ok-rewrite-clause-calls : goal.returns-in-Ok-rewrite-clause-calls
returns-in-Ok-rewrite-clause-calls g c = may_end (ends_of (puts_then c.in-Ok-mend.ensures.calls c.in-Ok-rewrite.ensures.calls))

pub returns-clause-calls : goal.returns-clause-calls
returns-clause-calls g c =
    data_ends c.in-Err-rewrite.error c.data_fault-in-Err-rewrite.result c.data_fault-in-Err-rewrite.ensures (ends_of (puts_then c.in-Ok-mend.ensures.calls c.in-Err-rewrite.ensures.calls))

-- THE LENGTH.

pub returns-in-Err-clause-inside : goal.returns-in-Err-clause-inside
returns-in-Err-clause-inside g c = puts_of (put_nothing g.D.Sectors.gives c.args.part.now.dev)

pub returns-in-Err-mend-clause-inside : goal.returns-in-Err-mend-clause-inside
returns-in-Err-mend-clause-inside g c = puts_of c.in-Err-mend.ensures.calls

pub returns-in-Ok-rewrite-clause-inside : goal.returns-in-Ok-rewrite-clause-inside
returns-in-Ok-rewrite-clause-inside g c = puts_of (puts_then c.in-Ok-mend.ensures.calls c.in-Ok-rewrite.ensures.calls)

pub returns-clause-inside : goal.returns-clause-inside
returns-clause-inside g c = puts_of (puts_then c.in-Ok-mend.ensures.calls c.in-Err-rewrite.ensures.calls)
