-- The steps, one after the other, on both devices.
use Rattle.std.proofs.Common.{◌≤◌, ◌-◌, ◌∙◌, ℕ, List, Option, Ok, Err, refl, arith}
use Rattle.model_device.specs.{IsWithin}
use Rattle.model_log.specs.{log_device_length}
use Rattle.model_store.specs.{IsOrderly, Reading}
use Rattle.redo_disk.specs.{Call, MakesCalls}
use Rattle.redo_disk.specs.declared.error.DevError.{DevError}
use Rattle.redo_open.specs.Clear.{ring_end}
use Rattle.redo_open.specs.Places.{IsReadAs}
use Rattle.redo_open.specs.Puts.{PutsWhere}
use Rattle.redo_open.proofs.Asked.{log_ends, beside_log, beside_pages}
use Rattle.redo_open.proofs.Both.{cleared-known, clear-there, log-cleared, log-clears, marked-ready, marking-both, mark-there, rewriting-both, ring-within, unmoved-clears, unmoved-marks}
use Rattle.redo_open.proofs.Causes.{log-cause, places-cause, log-risen, log-not_data, places-not_log}
use Rattle.redo_open.proofs.Inside.{ends_of, puts_of, within-longer}
use Rattle.redo_open.proofs.Opens.{unchanged-keeps}
use Rattle.redo_open.proofs.Puts.{put_nothing, put_weaker, puts_then}
use Rattle.redo_disk.proofs.Made.{ends_then, may_end, none_may_end}
use Rattle.redo_open.proofs.Told.{cause-since}
use Rattle.redo_recover.specs.{reading_of}
use Rattle.redo_open.proofs.devices.open_devices.Goals as goal

read-as : (log_bytes data_bytes : List ℕ) (opened : Reading) → IsOrderly log_bytes data_bytes opened → IsReadAs opened.shape opened.pages log_bytes data_bytes opened
read-as log_bytes data_bytes opened orderly = record { shape_is = refl; pages_are = refl; orderly = orderly }

-- what was cleared lies within the store
cleared-within : {L : Type 0} {gives : L → Call → L → Type 0} {old new : L} {error : Option DevError} (end length : ℕ) → end ≤ length → MakesCalls gives old new (PutsWhere (IsWithin end) error)
    → MakesCalls gives old new (PutsWhere (IsWithin length) error)
cleared-within end length less = put_weaker (within-longer end length less)

pub returns-in-Err-clause-step : goal.returns-in-Err-clause-step
returns-in-Err-clause-step g c =
    let opened : Reading = reading_of c.args.recovered.now in
    let tail = c.args.recovered.now.tail in
    let log_old = g.L.Sectors.seen c.args.log.now in
    let data_old = g.D.Sectors.seen c.args.part.now.dev in
    let new = g.L.Sectors.seen c.clear.new.log in
    let step = clear-there opened tail c.layout_of-layout.result c.args.start log_old (Err c.in-Err.error) new c.layout_of-layout.ensures.is c.requires.behind c.in-Err.ensures.step in
    record {
      keeps = λ log_bytes data_bytes from. rewriting-both opened tail log_old data_old log_bytes data_bytes new.tells data_old.tells from
          (log-clears opened tail log_old data_old log_bytes data_bytes (Err c.in-Err.error) new from step)
          (unchanged-keeps opened.shape opened.pages log_bytes data_bytes opened data_old.tells (read-as log_bytes data_bytes opened from.orderly) c.requires.settled from.data_from);
      ready = λ log_bytes data_bytes from. tt;
      unmoved = λ log_bytes data_bytes from. unmoved-clears opened tail log_old data_old log_bytes data_bytes new.tells from
          (log-clears opened tail log_old data_old log_bytes data_bytes (Err c.in-Err.error) new from step);
      fault = log-cause c.in-Err.error c.log_fault.result c.log_fault.ensures;
      log_failed = log-risen log_old.faults new.faults c.in-Err.error c.log_fault.result c.log_fault.ensures step.cause;
      data_failed = log-not_data c.in-Err.error c.log_fault.result c.log_fault.ensures;
    }

pub returns-in-Err-open_places-clause-step : goal.returns-in-Err-open_places-clause-step
returns-in-Err-open_places-clause-step g c =
    let opened : Reading = reading_of c.args.recovered.now in
    let tail = c.args.recovered.now.tail in
    let log_old = g.L.Sectors.seen c.args.log.now in
    let data_old = g.D.Sectors.seen c.args.part.now.dev in
    let data_new = g.D.Sectors.seen c.open_places.new.part.dev in
    let new = g.L.Sectors.seen c.clear.new.log in
    let step = clear-there opened tail c.layout_of-layout.result c.args.start log_old (Ok tt) new c.layout_of-layout.ensures.is c.requires.behind c.in-Ok.ensures.step in
    let places = c.in-Err-open_places.ensures.step in
    record {
      keeps = λ log_bytes data_bytes from. rewriting-both opened tail log_old data_old log_bytes data_bytes new.tells data_new.tells from
          (cleared-known opened tail log_old data_old log_bytes data_bytes new.tells from (log-cleared opened tail log_old data_old log_bytes data_bytes tt new from step))
          (places.keeps log_bytes data_bytes opened (read-as log_bytes data_bytes opened from.orderly) from.data_from);
      ready = λ log_bytes data_bytes from. tt;
      unmoved = λ log_bytes data_bytes from. unmoved-clears opened tail log_old data_old log_bytes data_bytes new.tells from
          (cleared-known opened tail log_old data_old log_bytes data_bytes new.tells from (log-cleared opened tail log_old data_old log_bytes data_bytes tt new from step));
      fault = places-cause c.in-Err-open_places.fault places.own;
      log_failed = places-not_log c.in-Err-open_places.fault places.own;
      data_failed = places.failed;
    }

pub returns-in-Ok-mark-clause-step : goal.returns-in-Ok-mark-clause-step
returns-in-Ok-mark-clause-step g c =
    let opened : Reading = reading_of c.args.recovered.now in
    let tail = c.args.recovered.now.tail in
    let log_old = g.L.Sectors.seen c.args.log.now in
    let data_old = g.D.Sectors.seen c.args.part.now.dev in
    let data_new = g.D.Sectors.seen c.open_places.new.part.dev in
    let mid = g.L.Sectors.seen c.clear.new.log in
    let new = g.L.Sectors.seen c.mark.new.log in
    let step = clear-there opened tail c.layout_of-layout.result c.args.start log_old (Ok tt) mid c.layout_of-layout.ensures.is c.requires.behind c.in-Ok.ensures.step in
    let marks = mark-there opened (c.args.start - 12) c.args.start mid (Ok tt) new refl c.requires.behind c.in-Ok-mark.ensures.step in
    let places = c.in-Ok-open_places.ensures.step in
    record {
      keeps = λ log_bytes data_bytes from. marking-both opened tail log_old data_old log_bytes data_bytes mid (Ok tt) new data_new.tells from
          (log-cleared opened tail log_old data_old log_bytes data_bytes tt mid from step) marks
          (places.ok log_bytes data_bytes opened (read-as log_bytes data_bytes opened from.orderly) from.data_from);
      ready = λ log_bytes data_bytes from. marked-ready opened tail log_old data_old log_bytes data_bytes mid tt new
          data_new from
          (log-cleared opened tail log_old data_old log_bytes data_bytes tt mid from step) marks
          (places.ok log_bytes data_bytes opened (read-as log_bytes data_bytes opened from.orderly) from.data_from);
      unmoved = λ log_bytes data_bytes from. tt;
      fault = tt;
      log_failed = λ failed. absurd cc;
      data_failed = λ failed. absurd cc;
    }

pub returns-in-Err-mark-clause-step : goal.returns-in-Err-mark-clause-step
returns-in-Err-mark-clause-step g c =
    let opened : Reading = reading_of c.args.recovered.now in
    let tail = c.args.recovered.now.tail in
    let log_old = g.L.Sectors.seen c.args.log.now in
    let data_old = g.D.Sectors.seen c.args.part.now.dev in
    let data_new = g.D.Sectors.seen c.open_places.new.part.dev in
    let mid = g.L.Sectors.seen c.clear.new.log in
    let new = g.L.Sectors.seen c.mark.new.log in
    let step = clear-there opened tail c.layout_of-layout.result c.args.start log_old (Ok tt) mid c.layout_of-layout.ensures.is c.requires.behind c.in-Ok.ensures.step in
    let marks = mark-there opened (c.args.start - 12) c.args.start mid (Err c.in-Err-mark.error) new refl c.requires.behind c.in-Err-mark.ensures.step in
    let places = c.in-Ok-open_places.ensures.step in
    record {
      keeps = λ log_bytes data_bytes from. marking-both opened tail log_old data_old log_bytes data_bytes mid (Err c.in-Err-mark.error) new data_new.tells from
          (log-cleared opened tail log_old data_old log_bytes data_bytes tt mid from step) marks
          (places.ok log_bytes data_bytes opened (read-as log_bytes data_bytes opened from.orderly) from.data_from);
      ready = λ log_bytes data_bytes from. tt;
      unmoved = λ log_bytes data_bytes from. unmoved-marks opened tail log_old data_old log_bytes data_bytes mid c.in-Err-mark.error new from
          (log-cleared opened tail log_old data_old log_bytes data_bytes tt mid from step) marks;
      fault = log-cause c.in-Err-mark.error c.log_fault-in-Err-mark.result c.log_fault-in-Err-mark.ensures;
      log_failed = log-risen log_old.faults new.faults c.in-Err-mark.error c.log_fault-in-Err-mark.result c.log_fault-in-Err-mark.ensures
          (cause-since log_old.faults mid.faults new.faults (Err c.in-Err-mark.error) step.cause.later marks.cause);
      data_failed = λ failed. log-not_data c.in-Err-mark.error c.log_fault-in-Err-mark.result c.log_fault-in-Err-mark.ensures failed;
    }

-- THE CALLS.

pub returns-in-Err-clause-called : goal.returns-in-Err-clause-called
returns-in-Err-clause-called g c =
    let step = c.in-Err.ensures.step in record {
      log = record { size = step.size; later = step.cause.later };
      data_device = record { size = refl; later = omega arith };
      log_calls = log_ends c.in-Err.error c.log_fault.result c.log_fault.ensures (ends_of c.in-Err.ensures.calls);
      data_calls = beside_log c.in-Err.error c.log_fault.result c.log_fault.ensures (none_may_end g.D.Sectors.gives c.args.part.now.dev);
    }

pub returns-in-Err-open_places-clause-called : goal.returns-in-Err-open_places-clause-called
returns-in-Err-open_places-clause-called g c =
    let step = c.in-Ok.ensures.step in
    let places = c.in-Err-open_places.ensures.step in record {
      log = record { size = step.size; later = step.cause.later };
      data_device = record { size = places.size; later = places.later };
      log_calls = beside_pages c.in-Err-open_places.fault c.in-Err-open_places.ensures.step.own (may_end (ends_of c.in-Ok.ensures.calls));
      data_calls = c.in-Err-open_places.ensures.calls;
    }

pub returns-in-Ok-mark-clause-called : goal.returns-in-Ok-mark-clause-called
returns-in-Ok-mark-clause-called g c =
    let step = c.in-Ok.ensures.step in
    let places = c.in-Ok-open_places.ensures.step in
    let marks = c.in-Ok-mark.ensures.step in record {
      log = record { size = marks.size ∙ step.size; later = omega (arith, marks.cause.later, step.cause.later) };
      data_device = record { size = places.size; later = places.later };
      log_calls = may_end (ends_then (ends_of c.in-Ok.ensures.calls) (ends_of c.in-Ok-mark.ensures.calls));
      data_calls = c.in-Ok-open_places.ensures.calls;
    }

pub returns-in-Err-mark-clause-called : goal.returns-in-Err-mark-clause-called
returns-in-Err-mark-clause-called g c =
    let step = c.in-Ok.ensures.step in
    let places = c.in-Ok-open_places.ensures.step in
    let marks = c.in-Err-mark.ensures.step in record {
      log = record { size = marks.size ∙ step.size; later = omega (arith, marks.cause.later, step.cause.later) };
      data_device = record { size = places.size; later = places.later };
      log_calls = log_ends c.in-Err-mark.error c.log_fault-in-Err-mark.result c.log_fault-in-Err-mark.ensures (ends_then (ends_of c.in-Ok.ensures.calls) (ends_of c.in-Err-mark.ensures.calls));
      data_calls = beside_log c.in-Err-mark.error c.log_fault-in-Err-mark.result c.log_fault-in-Err-mark.ensures c.in-Ok-open_places.ensures.calls;
    }

-- THE LENGTHS.

pub returns-in-Err-clause-inside : goal.returns-in-Err-clause-inside
returns-in-Err-clause-inside g c =
    let shape = c.args.recovered.now.shape in
    let layout = c.layout_of-layout.result in
    let within : ring_end layout ≤ log_device_length shape = ring-within c.args.recovered.now.format shape layout c.requires.limits c.layout_of-layout.ensures.is in
    record {
      log = puts_of (cleared-within (ring_end layout) (log_device_length shape) within c.in-Err.ensures.calls);
      data_device = puts_of (put_nothing g.D.Sectors.gives c.args.part.now.dev);
    }

pub returns-in-Err-open_places-clause-inside : goal.returns-in-Err-open_places-clause-inside
returns-in-Err-open_places-clause-inside g c =
    let shape = c.args.recovered.now.shape in
    let layout = c.layout_of-layout.result in
    let within : ring_end layout ≤ log_device_length shape = ring-within c.args.recovered.now.format shape layout c.requires.limits c.layout_of-layout.ensures.is in
    record {
      log = puts_of (cleared-within (ring_end layout) (log_device_length shape) within c.in-Ok.ensures.calls);
      data_device = c.in-Err-open_places.ensures.inside;
    }

pub returns-in-Ok-mark-clause-inside : goal.returns-in-Ok-mark-clause-inside
returns-in-Ok-mark-clause-inside g c =
    let shape = c.args.recovered.now.shape in
    let layout = c.layout_of-layout.result in
    let within : ring_end layout ≤ log_device_length shape = ring-within c.args.recovered.now.format shape layout c.requires.limits c.layout_of-layout.ensures.is in
    record {
      log = puts_of (puts_then (cleared-within (ring_end layout) (log_device_length shape) within c.in-Ok.ensures.calls) c.in-Ok-mark.ensures.calls);
      data_device = c.in-Ok-open_places.ensures.inside;
    }

pub returns-in-Err-mark-clause-inside : goal.returns-in-Err-mark-clause-inside
returns-in-Err-mark-clause-inside g c =
    let shape = c.args.recovered.now.shape in
    let layout = c.layout_of-layout.result in
    let within : ring_end layout ≤ log_device_length shape = ring-within c.args.recovered.now.format shape layout c.requires.limits c.layout_of-layout.ensures.is in
    record {
      log = puts_of (puts_then (cleared-within (ring_end layout) (log_device_length shape) within c.in-Ok.ensures.calls) c.in-Err-mark.ensures.calls);
      data_device = c.in-Ok-open_places.ensures.inside;
    }
