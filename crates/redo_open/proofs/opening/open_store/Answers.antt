-- The store is read and opened.
use Rattle.std.proofs.Common.{◌≡◌, ◌∙◌, ◌≤◌, ℕ, Option, Err, refl, sym, ap, subst, arith}
use Rattle.std.specs.Prelude.{Result}
use Rattle.model_base.specs.{run_shape}
use Rattle.model_base.specs.declared.shape.Shape.{Shape}
use Rattle.model_device.specs.{IsWithin, Disk}
use Rattle.model_log.specs.{log_device_length}
use Rattle.model_page.specs.{data_device_length}
use Rattle.model_log.specs.declared.head.Format.{Format}
use Rattle.model_store.specs.{Reading, AreFoundIn, IsReading}
use Rattle.redo_disk.specs.{Call, error_of, MakesCalls, MayEndWith, part}
use Rattle.redo_disk.specs.declared.error.DevError.{DevError}
use Rattle.redo_disk.proofs.Made.{call_ends, may_end}
use Rattle.redo_disk.proofs.Told.{still-same, still-then}
use Rattle.redo_open.specs.Put.{PutsHead}
use Rattle.redo_open.specs.Opening.{HasOpeningCauseIn, OpensLog, OpensSafely, data_device_left, log_device_left}
use Rattle.redo_open.specs.Places.{IsPageFault}
use Rattle.redo_open.specs.Puts.{ArePuts, PutsWhere}
use Rattle.redo_open.proofs.Asked.{beside_log, beside_pages, data_ends, log_ends, may_end_then, opens_log, opens_then, reads_end}
use Rattle.redo_open.proofs.Endings.{device-own}
use Rattle.redo_open.proofs.Entry.{unwritten-safely, unwritten-still, unwritten-synced}
use Rattle.redo_open.proofs.Headed.{AreSynced, failed-keeps, failed-unmoved, opened-alike}
use Rattle.redo_open.proofs.Inside.{data_reads, ends_of, log_reads, puts_behind, puts_of, read-inside, unopened-inside, within-longer}
use Rattle.redo_open.proofs.Puts.{put_nothing, put_one, put_weaker}
use Rattle.redo_open.proofs.Stores.{also-opening, also-refused, err-safely, heads-cause, IsReadWithRoom, IsReadWithSize, length-ends, opening-cause, opening-of, both-err, read-roomy, read-sized, room-cause, sync-cause, synced-holds}
use Rattle.redo_open.proofs.Still.{content-same, contents-back, contents-same, made-back, reading-back, same-back, still-equal, still-on, told-back}
use Rattle.redo_open.proofs.Told.{cause-since}
use Rattle.redo_recover.proofs.Only.{log-fault, log-then}
use Rattle.model_parts.specs.{found_layout}
use Rattle.redo_recover.specs.{AreFoundOn, data_error, HasCauseIn, IsLengthFault, log_error, reading_of}
use Rattle.redo_recover.specs.declared.fault.RecFault.{RecFault}
use Rattle.redo_open.proofs.opening.open_store.Goals as goal

-- a cause that is told of what was read is one of what the devices told at entry
cause-same : (fault : RecFault) (log log_new data_told data_new : Option Disk) → log_new ≡ log → data_new ≡ data_told
    → HasCauseIn log_new data_new fault
    → HasOpeningCauseIn log data_told fault
cause-same fault log log_new data_told data_new log_same data_same cause =
    subst (λ (told : Option Disk). HasOpeningCauseIn log told fault) data_same
    (subst (λ (told : Option Disk). HasOpeningCauseIn told data_new fault) log_same
    (also-opening fault log_new data_new cause))

-- the room was judged on a device of this size
had-room : (shape : Shape) {run : Shape} {len now size : ℕ} → run ≡ run_shape shape → len ≡ now
    → data_device_length run ≤ len → now ≡ size → data_device_length (run_shape shape) ≤ size
had-room shape {size = size} run_is len_is room same = subst (λ (s : Shape). data_device_length s ≤ size) run_is
    (omega (arith, room, len_is, same))

-- the header blocks lie within every store
heads_inside : {L : Type 0} {gives : L → Call → L → Type 0} {old new : L} {error : Option DevError} {format : Format} {named : Shape} (shape : Shape)
    → MakesCalls gives old new (PutsWhere (PutsHead format named) error)
    → MakesCalls gives old new (ArePuts (IsWithin (log_device_length shape)))
heads_inside shape made = puts_of (put_weaker (λ write puts. within-longer 1536 (log_device_length shape) (omega arith) write puts.inside) made)

-- WHERE NOTHING WAS WRITTEN.

pub returns-in-Err-clause-safely : goal.returns-in-Err-clause-safely
returns-in-Err-clause-safely g c opened = λ log_on data_on.
    unwritten-safely g.L.Sectors.seen g.D.Sectors.seen opened
    (g.L.Sectors.seen c.args.log).tells (g.D.Sectors.seen c.args.data_device).tells
    (c.in-Err.fault, c.recover.new.log, c.recover.new.data_device)
    (unwritten-still _ _ c.in-Err.ensures.log.unchanged.tells)
    (unwritten-still _ _ c.in-Err.ensures.data_device.unchanged.tells)

pub returns-in-Err-check_lengths-clause-safely : goal.returns-in-Err-check_lengths-clause-safely
returns-in-Err-check_lengths-clause-safely g c opened = λ log_on data_on.
    unwritten-safely g.L.Sectors.seen g.D.Sectors.seen opened
    (g.L.Sectors.seen c.args.log).tells (g.D.Sectors.seen c.args.data_device).tells
    (c.in-Err-check_lengths.fault, c.recover.new.log, c.recover.new.data_device)
    (unwritten-still _ _ c.in-Ok.ensures.log.unchanged.tells)
    (unwritten-still _ _ c.in-Ok.ensures.data_device.unchanged.tells)

pub returns-in-Err-read_heads-clause-safely : goal.returns-in-Err-read_heads-clause-safely
returns-in-Err-read_heads-clause-safely g c opened = λ log_on data_on.
    let log_read = log-then _ _ _ _ c.in-Ok.ensures.log c.in-Err-read_heads.ensures.reads in
    unwritten-safely g.L.Sectors.seen g.D.Sectors.seen opened
    (g.L.Sectors.seen c.args.log).tells (g.D.Sectors.seen c.args.data_device).tells
    (c.log_fault.result, c.read_heads.new.log, c.recover.new.data_device)
    (unwritten-still _ _ log_read.unchanged.tells)
    (unwritten-still _ _ c.in-Ok.ensures.data_device.unchanged.tells)

pub returns-in-Err-sync-clause-safely : goal.returns-in-Err-sync-clause-safely
returns-in-Err-sync-clause-safely g c opened = λ log_on data_on.
    let log_read = log-then _ _ _ _ c.in-Ok.ensures.log c.in-Ok-read_heads.ensures.reads in
    unwritten-safely g.L.Sectors.seen g.D.Sectors.seen opened
    (g.L.Sectors.seen c.args.log).tells (g.D.Sectors.seen c.args.data_device).tells
    (c.log_fault-in-Err-sync.result, c.sync.new.self, c.recover.new.data_device)
    (unwritten-still _ _ (still-then _ _ _ log_read.unchanged.tells (still-same _ _ c.in-Err-sync.ensures.step.err)))
    (unwritten-still _ _ c.in-Ok.ensures.data_device.unchanged.tells)

pub returns-in-Err-sync-2-clause-safely : goal.returns-in-Err-sync-2-clause-safely
returns-in-Err-sync-2-clause-safely g c opened = λ log_on data_on.
    let log_read = log-then _ _ _ _ c.in-Ok.ensures.log c.in-Ok-read_heads.ensures.reads in
    let data_read = c.in-Ok.ensures.data_device.unchanged.tells in
    unwritten-safely g.L.Sectors.seen g.D.Sectors.seen opened
    (g.L.Sectors.seen c.args.log).tells (g.D.Sectors.seen c.args.data_device).tells
    (c.data_fault.result, c.sync.new.self, c.sync-2.new.self)
    (unwritten-synced _ _ _ log_read.unchanged.tells c.in-Ok-sync.ensures.step.ok)
    (unwritten-still _ _ (still-then _ _ _ data_read (still-same _ _ c.in-Err-sync-2.ensures.step.err)))

-- WHERE THE HEADER BLOCKS COULDN'T BE MADE ALIKE.

pub returns-in-Err-make_alike-clause-safely : goal.returns-in-Err-make_alike-clause-safely
returns-in-Err-make_alike-clause-safely g c opened = λ log_on data_on.
    let log_told = told-back _ _ _ c.in-Ok-sync.ensures.step.ok
    (told-back _ _ _ c.in-Err-make_alike.ensures.step.keeps log_on) in
    let data_told = told-back _ _ _ c.in-Ok-sync-2.ensures.step.ok data_on in
    let log_read = log-then _ _ _ _ c.in-Ok.ensures.log c.in-Ok-read_heads.ensures.reads in
    let heads = c.in-Ok-read_heads.heads in
    let log = (g.L.Sectors.seen c.args.log).tells in
    let log_first = (g.L.Sectors.seen c.read_heads.new.log).tells in
    let old = g.L.Sectors.seen c.sync.new.self in
    let new = g.L.Sectors.seen c.make_alike.new.log in
    let data_entry = (g.D.Sectors.seen c.args.data_device).tells in
    let data_first = (g.D.Sectors.seen c.recover.new.data_device).tells in
    let data_mid = g.D.Sectors.seen c.sync-2.new.self in
    let read = reading_of c.in-Ok.recovered in
    let log_same = still-equal log log_first log_read.unchanged.tells log_told in
    let read_on = still-on _ _ c.in-Ok-read_heads.ensures.reads.unchanged.tells log_told in
    let read_same = still-equal _ _ c.in-Ok.ensures.log.unchanged.tells read_on in
    let data_same = still-equal data_entry data_first c.in-Ok.ensures.data_device.unchanged.tells data_told in
    let synced : AreSynced read heads log log_first old.tells data_entry data_first data_mid.tells = record {
      reads = contents-same (λ log_bytes data_bytes. IsReading log_bytes data_bytes read) _ _ _ _ read_same data_same
          c.in-Ok.ensures.recovered.read;
      front = content-same (λ content. heads ≡ part content 0 1536) _ _ log_same c.in-Ok-read_heads.ensures.content;
      log_same = log_same;
      log_synced = c.in-Ok-sync.ensures.step.ok;
      data_same = data_same;
      data_synced = c.in-Ok-sync-2.ensures.step.ok;
    } in
    err-safely g.L.Sectors.seen g.D.Sectors.seen opened log data_entry
    (c.log_fault-in-Err-make_alike.result, c.make_alike.new.log, c.sync-2.new.self)
    (failed-keeps opened read heads log data_entry log_first data_first old new data_mid c.in-Err-make_alike.error synced
    c.in-Err-make_alike.ensures.step)
    (failed-unmoved opened read heads log data_entry log_first data_first old new data_mid c.in-Err-make_alike.error synced
    c.in-Err-make_alike.ensures.step)

-- ONCE THEY ARE ALIKE.

pub returns-clause-safely : goal.returns-clause-safely
returns-clause-safely g c = λ opened log_on data_on.
    let log_calls = c.open_recovered.ensures.called.log_calls in
    let data_calls = c.open_recovered.ensures.called.data_calls in
    let log_left = made-back g.L.Sectors.seen g.L.Sectors.gives g.L.Sectors.told_before _ _
    log_calls.calls log_calls.made log_on in
    let data_left = made-back g.D.Sectors.seen g.D.Sectors.gives g.D.Sectors.told_before _ _
    data_calls.calls data_calls.made data_on in
    let log_told = told-back _ _ _ c.in-Ok-sync.ensures.step.ok
    (told-back _ _ _ c.in-Ok-make_alike.ensures.step.keeps log_left) in
    let data_told = told-back _ _ _ c.in-Ok-sync-2.ensures.step.ok data_left in
    let log_read = log-then _ _ _ _ c.in-Ok.ensures.log c.in-Ok-read_heads.ensures.reads in
    let recovered = c.in-Ok.recovered in
    let read = reading_of recovered in
    let heads = c.in-Ok-read_heads.heads in
    let log = (g.L.Sectors.seen c.args.log).tells in
    let log_first = (g.L.Sectors.seen c.read_heads.new.log).tells in
    let old = g.L.Sectors.seen c.sync.new.self in
    let new = g.L.Sectors.seen c.make_alike.new.log in
    let data_entry = (g.D.Sectors.seen c.args.data_device).tells in
    let data_first = (g.D.Sectors.seen c.recover.new.data_device).tells in
    let data_mid = g.D.Sectors.seen c.sync-2.new.self in
    let log_same = still-equal log log_first log_read.unchanged.tells log_told in
    let read_on = still-on _ _ c.in-Ok-read_heads.ensures.reads.unchanged.tells log_told in
    let read_same = still-equal _ _ c.in-Ok.ensures.log.unchanged.tells read_on in
    let data_same = still-equal data_entry data_first c.in-Ok.ensures.data_device.unchanged.tells data_told in
    let synced : AreSynced read heads log log_first old.tells data_entry data_first data_mid.tells = record {
      reads = contents-same (λ log_bytes data_bytes. IsReading log_bytes data_bytes read) _ _ _ _ read_same data_same
          c.in-Ok.ensures.recovered.read;
      front = content-same (λ content. heads ≡ part content 0 1536) _ _ log_same c.in-Ok-read_heads.ensures.content;
      log_same = log_same;
      log_synced = c.in-Ok-sync.ensures.step.ok;
      data_same = data_same;
      data_synced = c.in-Ok-sync-2.ensures.step.ok;
    } in
    opened-alike opened read recovered.tail heads log data_entry log_first data_first
    old new data_mid tt
    (λ (r : Reading) (l d : Disk). OpensSafely g.L.Sectors.seen g.D.Sectors.seen r l d c.open_recovered.result)
    (content-same
    (λ content. AreFoundIn (found_layout read) content recovered.ckpt recovered.views.items recovered.tail)
    _ _ read_same c.in-Ok.ensures.recovered.tail)
    synced c.in-Ok-make_alike.ensures.step c.open_recovered.ensures.step.safely

-- what was recovered is what the devices told at entry, where they still tell
pub returns-clause-read : goal.returns-clause-read
returns-clause-read g c =
    opening-of (g.L.Sectors.seen c.args.log).tells (g.D.Sectors.seen c.args.data_device).tells c.open_recovered.result g.L.Sectors.seen g.D.Sectors.seen (reading_of c.in-Ok.recovered)
    (λ log_on data_on.
    let log_calls = c.open_recovered.ensures.called.log_calls in
    let data_calls = c.open_recovered.ensures.called.data_calls in
    let log_left = made-back g.L.Sectors.seen g.L.Sectors.gives g.L.Sectors.told_before _ _
    log_calls.calls log_calls.made log_on in
    let data_left = made-back g.D.Sectors.seen g.D.Sectors.gives g.D.Sectors.told_before _ _
    data_calls.calls data_calls.made data_on in
    let log_told = told-back _ _ _ c.in-Ok-sync.ensures.step.ok
    (told-back _ _ _ c.in-Ok-make_alike.ensures.step.keeps log_left) in
    let data_told = told-back _ _ _ c.in-Ok-sync-2.ensures.step.ok data_left in
    contents-back (IsReadWithRoom (reading_of c.in-Ok.recovered)) _ _ _ _ _ c.in-Ok.ensures.log.unchanged.tells
    c.in-Ok-read_heads.ensures.reads.unchanged.tells c.in-Ok.ensures.data_device.unchanged.tells log_told data_told
    (read-roomy _ _ (g.D.Sectors.seen c.args.data_device).size (reading_of c.in-Ok.recovered)
    (had-room c.in-Ok.recovered.shape c.run_shape.ensures.shape c.len-2.ensures.size c.in-Ok-check_lengths.ensures.fit.1
    c.in-Ok.ensures.data_device.unchanged.size) c.in-Ok.ensures.recovered.sized c.in-Ok.ensures.recovered.read))
    c.open_recovered.ensures.step.opened_as

pub open_recovered-requires-clause-found : goal.open_recovered-requires-clause-found
open_recovered-requires-clause-found g c =
    let recovered = c.in-Ok.recovered in
    synced-holds (AreFoundOn recovered.shape recovered.places recovered.pages) _ _ _
    c.in-Ok.ensures.recovered.found refl c.in-Ok-sync-2.ensures.step.ok

-- THE CAUSES.

pub returns-in-Err-clause-cause : goal.returns-in-Err-clause-cause
returns-in-Err-clause-cause g c = record {
  refused = λ log_still data_still.
      let log_same = still-equal _ _ c.in-Err.ensures.log.unchanged.tells log_still in
      let data_same = still-equal _ _ c.in-Err.ensures.data_device.unchanged.tells data_still in
      cause-same c.in-Err.fault _ _ _ _ log_same data_same c.in-Err.ensures.caused.cause;
  lengths = c.in-Err.ensures.caused.lengths;
  kept = λ log_still data_still. also-refused (g.L.Sectors.seen c.args.log) (g.D.Sectors.seen c.args.data_device) c.in-Err.ensures.log.unchanged c.in-Err.ensures.data_device.unchanged;
  log_failed = λ is. c.in-Err.ensures.log.failed (ap log_error is);
  data_failed = λ is. c.in-Err.ensures.data_device.failed (ap data_error is);
}

-- what the code judged is what the devices have
judged : (shape run : Shape) (fault : RecFault) (log_len data_len log_size data_size : ℕ) → run ≡ run_shape shape
    → log_len ≡ log_size → data_len ≡ data_size
    → IsLengthFault run log_len data_len fault → IsLengthFault (run_shape shape) log_size data_size fault
judged shape run fault log_len data_len log_size data_size run_is log_is data_is is =
    subst (λ (s : Shape). IsLengthFault s log_size data_size fault) run_is
    (subst (λ n. IsLengthFault run n data_size fault) log_is
    (subst (λ n. IsLengthFault run log_len n fault) data_is is))

pub returns-in-Err-check_lengths-clause-cause : goal.returns-in-Err-check_lengths-clause-cause
returns-in-Err-check_lengths-clause-cause g c =
    let recovered = c.in-Ok.recovered in
    let log = g.L.Sectors.seen c.args.log in
    let data_device = g.D.Sectors.seen c.args.data_device in
    room-cause log data_device (g.L.Sectors.seen c.recover.new.log) (g.D.Sectors.seen c.recover.new.data_device)
    c.in-Err-check_lengths.fault (reading_of recovered)
    c.in-Ok.ensures.recovered.of_devices.usable.log_long
    (judged recovered.shape c.run_shape.result c.in-Err-check_lengths.fault c.len.result c.len-2.result log.size
    data_device.size c.run_shape.ensures.shape
    (c.len.ensures.size ∙ c.in-Ok.ensures.log.unchanged.size)
    (c.len-2.ensures.size ∙ c.in-Ok.ensures.data_device.unchanged.size) c.in-Err-check_lengths.ensures.fault)
    (λ log_still data_still.
    contents-same (IsReadWithSize (reading_of recovered) data_device.size) _ _ _ _
    (still-equal _ _ c.in-Ok.ensures.log.unchanged.tells log_still)
    (still-equal _ _ c.in-Ok.ensures.data_device.unchanged.tells data_still)
    (read-sized _ _ data_device.size (reading_of recovered) c.in-Ok.ensures.recovered.sized
    c.in-Ok.ensures.recovered.read))
    c.in-Ok.ensures.log.unchanged c.in-Ok.ensures.data_device.unchanged

pub returns-in-Err-read_heads-clause-cause : goal.returns-in-Err-read_heads-clause-cause
returns-in-Err-read_heads-clause-cause g c =
    let read = log-then _ _ _ _ c.in-Ok.ensures.log c.in-Err-read_heads.ensures.reads in
    heads-cause (g.L.Sectors.seen c.args.log) (g.D.Sectors.seen c.args.data_device)
    (g.L.Sectors.seen c.read_heads.new.log) (g.D.Sectors.seen c.recover.new.data_device)
    c.in-Err-read_heads.error c.log_fault.result (reading_of c.in-Ok.recovered) c.log_fault.ensures
    (λ log_on data_on. contents-back (IsReadWithRoom (reading_of c.in-Ok.recovered)) _ _ _ _ _
    c.in-Ok.ensures.log.unchanged.tells
    c.in-Err-read_heads.ensures.reads.unchanged.tells c.in-Ok.ensures.data_device.unchanged.tells log_on data_on
    (read-roomy _ _ (g.D.Sectors.seen c.args.data_device).size (reading_of c.in-Ok.recovered)
    (had-room c.in-Ok.recovered.shape c.run_shape.ensures.shape c.len-2.ensures.size c.in-Ok-check_lengths.ensures.fit.1
    c.in-Ok.ensures.data_device.unchanged.size) c.in-Ok.ensures.recovered.sized c.in-Ok.ensures.recovered.read))
    (record { later = read.unchanged.later; failed = λ is. read.failed (ap (λ (result : Result (Unit {0}) DevError). error_of result) is) })

pub returns-in-Err-sync-clause-cause : goal.returns-in-Err-sync-clause-cause
returns-in-Err-sync-clause-cause g c =
    let fault = c.log_fault-in-Err-sync in
    let recovery = c.in-Ok.ensures.log.unchanged.later in
    let read = c.in-Ok-read_heads.ensures.reads.unchanged.later in
    heads-cause (g.L.Sectors.seen c.args.log) (g.D.Sectors.seen c.args.data_device)
    (g.L.Sectors.seen c.sync.new.self) (g.D.Sectors.seen c.recover.new.data_device)
    c.in-Err-sync.error fault.result (reading_of c.in-Ok.recovered) fault.ensures
    (λ log_on data_told.
    let log_told = same-back _ _ c.in-Err-sync.ensures.step.err log_on in
    contents-back (IsReadWithRoom (reading_of c.in-Ok.recovered)) _ _ _ _ _ c.in-Ok.ensures.log.unchanged.tells
    c.in-Ok-read_heads.ensures.reads.unchanged.tells c.in-Ok.ensures.data_device.unchanged.tells log_told data_told
    (read-roomy _ _ (g.D.Sectors.seen c.args.data_device).size (reading_of c.in-Ok.recovered)
    (had-room c.in-Ok.recovered.shape c.run_shape.ensures.shape c.len-2.ensures.size c.in-Ok-check_lengths.ensures.fit.1
    c.in-Ok.ensures.data_device.unchanged.size) c.in-Ok.ensures.recovered.sized c.in-Ok.ensures.recovered.read))
    (cause-since _ _ _ (Err c.in-Err-sync.error) (omega (arith, recovery, read)) c.in-Err-sync.ensures.step.cause)

pub returns-in-Err-sync-2-clause-cause : goal.returns-in-Err-sync-2-clause-cause
returns-in-Err-sync-2-clause-cause g c =
    sync-cause (g.L.Sectors.seen c.args.log) (g.D.Sectors.seen c.args.data_device)
    (g.L.Sectors.seen c.sync.new.self) (g.D.Sectors.seen c.sync-2.new.self)
    c.in-Err-sync-2.error c.data_fault.result (reading_of c.in-Ok.recovered) c.data_fault.ensures
    (λ log_on data_on.
    let log_told = told-back _ _ _ c.in-Ok-sync.ensures.step.ok log_on in
    let data_told = same-back _ _ c.in-Err-sync-2.ensures.step.err data_on in
    contents-back (IsReadWithRoom (reading_of c.in-Ok.recovered)) _ _ _ _ _ c.in-Ok.ensures.log.unchanged.tells
    c.in-Ok-read_heads.ensures.reads.unchanged.tells c.in-Ok.ensures.data_device.unchanged.tells log_told data_told
    (read-roomy _ _ (g.D.Sectors.seen c.args.data_device).size (reading_of c.in-Ok.recovered)
    (had-room c.in-Ok.recovered.shape c.run_shape.ensures.shape c.len-2.ensures.size c.in-Ok-check_lengths.ensures.fit.1
    c.in-Ok.ensures.data_device.unchanged.size) c.in-Ok.ensures.recovered.sized c.in-Ok.ensures.recovered.read))
    (cause-since _ _ _ (Err c.in-Err-sync-2.error) c.in-Ok.ensures.data_device.unchanged.later
    c.in-Err-sync-2.ensures.step.cause)

pub returns-in-Err-make_alike-clause-cause : goal.returns-in-Err-make_alike-clause-cause
returns-in-Err-make_alike-clause-cause g c =
    let fault = c.log_fault-in-Err-make_alike in
    let recovery = c.in-Ok.ensures.log.unchanged.later in
    let read = c.in-Ok-read_heads.ensures.reads.unchanged.later in
    let synced = c.in-Ok-sync.ensures.step.cause.later in
    heads-cause (g.L.Sectors.seen c.args.log) (g.D.Sectors.seen c.args.data_device)
    (g.L.Sectors.seen c.make_alike.new.log) (g.D.Sectors.seen c.sync-2.new.self)
    c.in-Err-make_alike.error fault.result (reading_of c.in-Ok.recovered) fault.ensures
    (λ log_on data_on.
    let log_mid = told-back _ _ _ c.in-Err-make_alike.ensures.step.keeps log_on in
    let log_told = told-back _ _ _ c.in-Ok-sync.ensures.step.ok log_mid in
    let data_told = told-back _ _ _ c.in-Ok-sync-2.ensures.step.ok data_on in
    contents-back (IsReadWithRoom (reading_of c.in-Ok.recovered)) _ _ _ _ _ c.in-Ok.ensures.log.unchanged.tells
    c.in-Ok-read_heads.ensures.reads.unchanged.tells c.in-Ok.ensures.data_device.unchanged.tells log_told data_told
    (read-roomy _ _ (g.D.Sectors.seen c.args.data_device).size (reading_of c.in-Ok.recovered)
    (had-room c.in-Ok.recovered.shape c.run_shape.ensures.shape c.len-2.ensures.size c.in-Ok-check_lengths.ensures.fit.1
    c.in-Ok.ensures.data_device.unchanged.size) c.in-Ok.ensures.recovered.sized c.in-Ok.ensures.recovered.read))
    (cause-since _ _ _ (Err c.in-Err-make_alike.error) (omega (arith, recovery, read, synced))
    c.in-Err-make_alike.ensures.step.cause)

pub returns-clause-cause : goal.returns-clause-cause
returns-clause-cause g c =
    opening-cause g.L.Sectors.seen g.D.Sectors.seen (g.L.Sectors.seen c.args.log) (g.D.Sectors.seen c.args.data_device)
    (g.L.Sectors.seen c.make_alike.new.log) (g.D.Sectors.seen c.sync-2.new.self)
    c.open_recovered.result (reading_of c.in-Ok.recovered)
    (λ log_on data_on.
    let log_calls = c.open_recovered.ensures.called.log_calls in
    let data_calls = c.open_recovered.ensures.called.data_calls in
    let log_left = made-back g.L.Sectors.seen g.L.Sectors.gives g.L.Sectors.told_before _ _
    log_calls.calls log_calls.made log_on in
    let data_left = made-back g.D.Sectors.seen g.D.Sectors.gives g.D.Sectors.told_before _ _
    data_calls.calls data_calls.made data_on in
    let log_told = told-back _ _ _ c.in-Ok-sync.ensures.step.ok
    (told-back _ _ _ c.in-Ok-make_alike.ensures.step.keeps log_left) in
    let data_told = told-back _ _ _ c.in-Ok-sync-2.ensures.step.ok data_left in
    contents-back (IsReadWithRoom (reading_of c.in-Ok.recovered)) _ _ _ _ _ c.in-Ok.ensures.log.unchanged.tells
    c.in-Ok-read_heads.ensures.reads.unchanged.tells c.in-Ok.ensures.data_device.unchanged.tells log_told data_told
    (read-roomy _ _ (g.D.Sectors.seen c.args.data_device).size (reading_of c.in-Ok.recovered)
    (had-room c.in-Ok.recovered.shape c.run_shape.ensures.shape c.len-2.ensures.size c.in-Ok-check_lengths.ensures.fit.1
    c.in-Ok.ensures.data_device.unchanged.size) c.in-Ok.ensures.recovered.sized c.in-Ok.ensures.recovered.read))
    (omega (
      arith,
      c.in-Ok.ensures.log.unchanged.later,
      c.in-Ok-read_heads.ensures.reads.unchanged.later,
      c.in-Ok-sync.ensures.step.cause.later,
      c.in-Ok-make_alike.ensures.step.cause.later,
    ))
    (omega (arith, c.in-Ok.ensures.data_device.unchanged.later, c.in-Ok-sync-2.ensures.step.cause.later))
    c.open_recovered.ensures.step.fault c.open_recovered.ensures.step.log_failed c.open_recovered.ensures.step.data_failed
    (both-err g.L.Sectors.seen g.D.Sectors.seen (g.L.Sectors.seen c.make_alike.new.log)
    (g.D.Sectors.seen c.sync-2.new.self) c.open_recovered.result
    c.open_recovered.ensures.called.log c.open_recovered.ensures.called.data_device)

-- THE CALLS.

pub returns-in-Err-clause-called : goal.returns-in-Err-clause-called
returns-in-Err-clause-called g c =
    record {
      log = record { size = c.in-Err.ensures.log.unchanged.size; later = c.in-Err.ensures.log.unchanged.later };
      data_device = record { size = c.in-Err.ensures.data_device.unchanged.size; later = c.in-Err.ensures.data_device.unchanged.later };
      log_calls = opens_log c.in-Err.ensures.log.calls;
      data_calls = reads_end c.in-Err.ensures.data_device.calls;
    }

pub returns-in-Err-check_lengths-clause-called : goal.returns-in-Err-check_lengths-clause-called
returns-in-Err-check_lengths-clause-called g c =
    let fault = c.in-Err-check_lengths.fault in
    let none = length-ends c.run_shape.result c.len.result c.len-2.result fault c.in-Err-check_lengths.ensures.fault in
    record {
      log = record { size = c.in-Ok.ensures.log.unchanged.size; later = c.in-Ok.ensures.log.unchanged.later };
      data_device = record {
        size = c.in-Ok.ensures.data_device.unchanged.size;
        later =
            c.in-Ok.ensures.data_device.unchanged.later;
      };
      log_calls = subst (λ (error : Option DevError). MakesCalls g.L.Sectors.gives c.args.log c.recover.new.log
          (OpensLog (g.L.Sectors.seen c.args.log).size error)) (sym none.0)
          (opens_log c.in-Ok.ensures.log.calls);
      data_calls = subst
          (λ (error : Option DevError). MakesCalls g.D.Sectors.gives c.args.data_device c.recover.new.data_device
          (MayEndWith error)) (sym none.1)
          (reads_end c.in-Ok.ensures.data_device.calls);
    }

pub returns-in-Err-read_heads-clause-called : goal.returns-in-Err-read_heads-clause-called
returns-in-Err-read_heads-clause-called g c =
    let all = log-then _ _ _ _ c.in-Ok.ensures.log c.in-Err-read_heads.ensures.reads in
    let read = log-fault _ _ c.in-Err-read_heads.error c.log_fault.result c.log_fault.ensures (log-then _ _ _ _ c.in-Ok.ensures.log c.in-Err-read_heads.ensures.reads) in
    record {
      log = record { size = all.unchanged.size; later = all.unchanged.later };
      data_device = record { size = c.in-Ok.ensures.data_device.unchanged.size; later = c.in-Ok.ensures.data_device.unchanged.later };
      log_calls = opens_log read.calls;
      data_calls = beside_log c.in-Err-read_heads.error c.log_fault.result c.log_fault.ensures (reads_end c.in-Ok.ensures.data_device.calls);
    }

pub returns-in-Err-sync-clause-called : goal.returns-in-Err-sync-clause-called
returns-in-Err-sync-clause-called g c =
    let fault = c.log_fault-in-Err-sync in
    let synced = c.in-Err-sync.ensures.step in
    let data_read = c.in-Ok.ensures.data_device in
    let read = log-then _ _ _ _ c.in-Ok.ensures.log c.in-Ok-read_heads.ensures.reads in
    record {
      log = record {
        size = synced.size ∙ read.unchanged.size;
        later = omega (arith, synced.cause.later, read.unchanged.later);
      };
      data_device = record { size = data_read.unchanged.size; later = data_read.unchanged.later };
      log_calls = opens_then read.calls
          (log_ends c.in-Err-sync.error fault.result fault.ensures (call_ends c.in-Err-sync.ensures.gives));
      data_calls = beside_log c.in-Err-sync.error fault.result fault.ensures (reads_end data_read.calls);
    }

pub returns-in-Err-sync-2-clause-called : goal.returns-in-Err-sync-2-clause-called
returns-in-Err-sync-2-clause-called g c =
    let fault = c.data_fault in
    let log_synced = c.in-Ok-sync.ensures.step in
    let synced = c.in-Err-sync-2.ensures.step in
    let data_read = c.in-Ok.ensures.data_device in
    let read = log-then _ _ _ _ c.in-Ok.ensures.log c.in-Ok-read_heads.ensures.reads in
    record {
      log = record {
        size = log_synced.size ∙ read.unchanged.size;
        later = omega (arith, log_synced.cause.later, read.unchanged.later);
      };
      data_device = record {
        size = synced.size ∙ data_read.unchanged.size;
        later = omega (arith, synced.cause.later, data_read.unchanged.later);
      };
      log_calls = opens_then read.calls
          (beside_pages fault.result (subst IsPageFault (sym fault.ensures) (device-own c.in-Err-sync-2.error))
          (may_end (call_ends c.in-Ok-sync.ensures.gives)));
      data_calls = may_end_then (reads_end data_read.calls)
          (data_ends c.in-Err-sync-2.error fault.result fault.ensures (call_ends c.in-Err-sync-2.ensures.gives));
    }

pub returns-in-Err-make_alike-clause-called : goal.returns-in-Err-make_alike-clause-called
returns-in-Err-make_alike-clause-called g c =
    let fault = c.log_fault-in-Err-make_alike in
    let log_synced = c.in-Ok-sync.ensures.step in
    let synced = c.in-Ok-sync-2.ensures.step in
    let data_read = c.in-Ok.ensures.data_device in
    let alike = c.in-Err-make_alike.ensures.step in
    let read = log-then _ _ _ _ c.in-Ok.ensures.log c.in-Ok-read_heads.ensures.reads in
    record {
      log = record {
        size = alike.size ∙ log_synced.size ∙ read.unchanged.size;
        later = omega (arith, alike.cause.later, log_synced.cause.later, read.unchanged.later);
      };
      data_device = record {
        size = synced.size ∙ data_read.unchanged.size;
        later = omega (arith, synced.cause.later, data_read.unchanged.later);
      };
      log_calls = opens_then read.calls (may_end_then (may_end (call_ends c.in-Ok-sync.ensures.gives))
          (log_ends c.in-Err-make_alike.error fault.result fault.ensures (ends_of c.in-Err-make_alike.ensures.calls)));
      data_calls = beside_log c.in-Err-make_alike.error fault.result fault.ensures
          (may_end_then (reads_end data_read.calls) (may_end (call_ends c.in-Ok-sync-2.ensures.gives)));
    }

pub returns-clause-called : goal.returns-clause-called
returns-clause-called g c =
    let log_synced = c.in-Ok-sync.ensures.step in
    let synced = c.in-Ok-sync-2.ensures.step in
    let data_read = c.in-Ok.ensures.data_device in
    let alike = c.in-Ok-make_alike.ensures in
    let called = c.open_recovered.ensures.called in
    let read = log-then _ _ _ _ c.in-Ok.ensures.log c.in-Ok-read_heads.ensures.reads in
    record {
      log = record {
        size = called.log.size ∙ alike.step.size ∙ log_synced.size ∙ read.unchanged.size;
        later = omega (arith, called.log.later, alike.step.cause.later, log_synced.cause.later, read.unchanged.later);
      };
      data_device = record {
        size = called.data_device.size ∙ synced.size ∙ data_read.unchanged.size;
        later = omega (arith, called.data_device.later, synced.cause.later, data_read.unchanged.later);
      };
      log_calls = opens_then read.calls (may_end_then (may_end (call_ends c.in-Ok-sync.ensures.gives))
          (may_end_then (may_end (ends_of alike.calls)) called.log_calls));
      data_calls = may_end_then (may_end_then (reads_end data_read.calls)
          (may_end (call_ends c.in-Ok-sync-2.ensures.gives))) called.data_calls;
    }

-- NOTHING OUTSIDE THE STORE IS WRITTEN.

pub returns-in-Err-clause-inside : goal.returns-in-Err-clause-inside
returns-in-Err-clause-inside g c =
    unopened-inside g.L.Sectors.gives g.D.Sectors.gives (g.L.Sectors.seen c.args.log).tells (g.D.Sectors.seen c.args.data_device).tells _ _ c.args.log c.args.data_device
    (c.in-Err.fault, c.recover.new.log, c.recover.new.data_device)
    (λ shape. record {
      log_read = c.recover.new.log;
      data_read = c.recover.new.data_device;
      log = log_reads c.in-Err.ensures.log.calls;
      data_device = data_reads c.in-Err.ensures.data_device.calls;
      inside = record {
        log = puts_of (put_nothing g.L.Sectors.gives c.recover.new.log);
        data_device = puts_of (put_nothing g.D.Sectors.gives c.recover.new.data_device);
      };
    })

pub returns-in-Err-check_lengths-clause-inside : goal.returns-in-Err-check_lengths-clause-inside
returns-in-Err-check_lengths-clause-inside g c =
    unopened-inside g.L.Sectors.gives g.D.Sectors.gives (g.L.Sectors.seen c.args.log).tells
    (g.D.Sectors.seen c.args.data_device).tells _ _ c.args.log c.args.data_device
    (c.in-Err-check_lengths.fault, c.recover.new.log, c.recover.new.data_device)
    (λ shape. record {
      log_read = c.recover.new.log;
      data_read = c.recover.new.data_device;
      log = log_reads c.in-Ok.ensures.log.calls;
      data_device = data_reads c.in-Ok.ensures.data_device.calls;
      inside = record {
        log = puts_of (put_nothing g.L.Sectors.gives c.recover.new.log);
        data_device = puts_of (put_nothing g.D.Sectors.gives c.recover.new.data_device);
      };
    })

pub returns-in-Err-read_heads-clause-inside : goal.returns-in-Err-read_heads-clause-inside
returns-in-Err-read_heads-clause-inside g c =
    let read = log-then _ _ _ _ c.in-Ok.ensures.log c.in-Err-read_heads.ensures.reads in
    unopened-inside g.L.Sectors.gives g.D.Sectors.gives (g.L.Sectors.seen c.args.log).tells (g.D.Sectors.seen c.args.data_device).tells _ _ c.args.log c.args.data_device
    (c.log_fault.result, c.read_heads.new.log, c.recover.new.data_device)
    (λ shape. record {
      log_read = c.read_heads.new.log;
      data_read = c.recover.new.data_device;
      log = log_reads read.calls;
      data_device = data_reads c.in-Ok.ensures.data_device.calls;
      inside = record {
        log = puts_of (put_nothing g.L.Sectors.gives c.read_heads.new.log);
        data_device = puts_of (put_nothing g.D.Sectors.gives c.recover.new.data_device);
      };
    })

pub returns-in-Err-sync-clause-inside : goal.returns-in-Err-sync-clause-inside
returns-in-Err-sync-clause-inside g c =
    let read = log-then _ _ _ _ c.in-Ok.ensures.log c.in-Ok-read_heads.ensures.reads in
    unopened-inside g.L.Sectors.gives g.D.Sectors.gives
    (g.L.Sectors.seen c.args.log).tells (g.D.Sectors.seen c.args.data_device).tells _ _ c.args.log c.args.data_device
    (c.log_fault-in-Err-sync.result, c.sync.new.self, c.recover.new.data_device)
    (λ shape. record {
      log_read = c.read_heads.new.log;
      data_read = c.recover.new.data_device;
      log = log_reads read.calls;
      data_device = data_reads c.in-Ok.ensures.data_device.calls;
      inside = record {
        log = puts_of (put_one tt c.in-Err-sync.ensures.gives);
        data_device = puts_of (put_nothing g.D.Sectors.gives c.recover.new.data_device);
      };
    })

pub returns-in-Err-sync-2-clause-inside : goal.returns-in-Err-sync-2-clause-inside
returns-in-Err-sync-2-clause-inside g c =
    let read = log-then _ _ _ _ c.in-Ok.ensures.log c.in-Ok-read_heads.ensures.reads in
    unopened-inside g.L.Sectors.gives g.D.Sectors.gives
    (g.L.Sectors.seen c.args.log).tells (g.D.Sectors.seen c.args.data_device).tells _ _ c.args.log c.args.data_device
    (c.data_fault.result, c.sync.new.self, c.sync-2.new.self)
    (λ shape. record {
      log_read = c.read_heads.new.log;
      data_read = c.recover.new.data_device;
      log = log_reads read.calls;
      data_device = data_reads c.in-Ok.ensures.data_device.calls;
      inside = record {
        log = puts_of (put_one tt c.in-Ok-sync.ensures.gives);
        data_device = puts_of (put_one tt c.in-Err-sync-2.ensures.gives);
      };
    })

pub returns-in-Err-make_alike-clause-inside : goal.returns-in-Err-make_alike-clause-inside
returns-in-Err-make_alike-clause-inside g c =
    let read = log-then _ _ _ _ c.in-Ok.ensures.log c.in-Ok-read_heads.ensures.reads in
    unopened-inside g.L.Sectors.gives g.D.Sectors.gives
    (g.L.Sectors.seen c.args.log).tells (g.D.Sectors.seen c.args.data_device).tells _ _ c.args.log c.args.data_device
    (c.log_fault-in-Err-make_alike.result, c.make_alike.new.log, c.sync-2.new.self)
    (λ shape. record {
      log_read = c.read_heads.new.log;
      data_read = c.recover.new.data_device;
      log = log_reads read.calls;
      data_device = data_reads c.in-Ok.ensures.data_device.calls;
      inside = record {
        log = puts_behind (puts_of (put_one tt c.in-Ok-sync.ensures.gives))
            (heads_inside shape c.in-Err-make_alike.ensures.calls);
        data_device = puts_of (put_one tt c.in-Ok-sync-2.ensures.gives);
      };
    })

pub returns-clause-inside : goal.returns-clause-inside
returns-clause-inside g c =
    let read = log-then _ _ _ _ c.in-Ok.ensures.log c.in-Ok-read_heads.ensures.reads in
    read-inside g.L.Sectors.gives g.D.Sectors.gives (g.L.Sectors.seen c.args.log).tells (g.D.Sectors.seen c.args.data_device).tells (g.L.Sectors.seen (log_device_left c.open_recovered.result)).tells (g.D.Sectors.seen (data_device_left c.open_recovered.result)).tells c.args.log c.args.data_device
    c.open_recovered.result (reading_of c.in-Ok.recovered)
    (λ log_on data_on.
    let log_calls = c.open_recovered.ensures.called.log_calls in
    let data_calls = c.open_recovered.ensures.called.data_calls in
    let log_left = made-back g.L.Sectors.seen g.L.Sectors.gives g.L.Sectors.told_before _ _
    log_calls.calls log_calls.made log_on in
    let data_left = made-back g.D.Sectors.seen g.D.Sectors.gives g.D.Sectors.told_before _ _
    data_calls.calls data_calls.made data_on in
    let log_told = told-back _ _ _ c.in-Ok-sync.ensures.step.ok
    (told-back _ _ _ c.in-Ok-make_alike.ensures.step.keeps log_left) in
    let data_told = told-back _ _ _ c.in-Ok-sync-2.ensures.step.ok data_left in
    reading-back (reading_of c.in-Ok.recovered) _ _ _ _ _ c.in-Ok.ensures.log.unchanged.tells
    c.in-Ok-read_heads.ensures.reads.unchanged.tells c.in-Ok.ensures.data_device.unchanged.tells log_told data_told
    c.in-Ok.ensures.recovered.read)
    c.open_recovered.ensures.step.opened_as
    (record {
      log_read = c.read_heads.new.log;
      data_read = c.recover.new.data_device;
      log = log_reads read.calls;
      data_device = data_reads c.in-Ok.ensures.data_device.calls;
      inside = record {
        log = puts_behind (puts_of (put_one tt c.in-Ok-sync.ensures.gives))
            (puts_behind (heads_inside (run_shape c.in-Ok.recovered.shape) c.in-Ok-make_alike.ensures.calls)
            c.open_recovered.ensures.inside.log);
        data_device = puts_behind (puts_of (put_one tt c.in-Ok-sync-2.ensures.gives))
            c.open_recovered.ensures.inside.data_device;
      };
    })
