-- The log blocks go, then the checkpoint, and then the header are put.
use Rattle.std.proofs.Common.{◌≡◌, ◌≤◌, ℕ, Option, Result, Err, subst, arith}
use Rattle.std.proofs.lemmas.Result.{err_from_is_err_and}
use Rattle.model_base.specs.declared.shape.Shape.{Shape}
use Rattle.model_device.specs.{IsWithin}
use Rattle.model_log.specs.{checkpoint_text, log_device_length, place_of, run_layout}
use Rattle.model_log.specs.declared.layout.Layout.{Layout}
use Rattle.redo_disk.specs.{Call, HasCause, MakesCalls, OnTold, Seen}
use Rattle.redo_disk.specs.declared.error.DevError.{DevError}
use Rattle.redo_open.specs.Erase.{ErasesIn, HasZeros, Reaches}
use Rattle.redo_open.specs.Put.{MigrateStep, IsAtRestTo, PutStep}
use Rattle.redo_open.specs.Puts.{PutsWhere}
use Rattle.redo_open.proofs.Lengths.{checkpoint-within, head-within}
use Rattle.redo_open.proofs.Migrates.{Come, erase-come, erase-fails, first-ends, IsErasedLog, next-come, next-fails, second-come, second-fails}
use Rattle.redo_open.proofs.Puts.{put_served, puts_then}
use Rattle.redo_open.proofs.migrate.migrate_log.Goals as goal

-- the checkpoint by the layout that the code has
there : (shape : Shape) (layout : Layout) (number lsn : ℕ) (old : Seen) (result : Result (Unit {0}) DevError) (new : Seen) → layout ≡ run_layout shape
    → PutStep (place_of number) (checkpoint_text number lsn layout) old result new → PutStep (place_of number) (checkpoint_text number lsn (run_layout shape)) old result new
there shape layout number lsn old result new is step = subst (λ (l : Layout). PutStep (place_of number) (checkpoint_text number lsn l) old result new) is step

-- and the end of the device as it has that
erased-there : (shape : Shape) (end : ℕ) (old new : Seen) → end ≡ log_device_length shape
    → OnTold old.tells new.tells (λ before after. IsAtRestTo end before → HasZeros 2048 end before.reads after)
    → new.size ≡ old.size → old.faults ≤ new.faults → Come (IsErasedLog shape) (log_device_length shape) old new
erased-there shape end old new is told = erase-come shape old new
    (subst (λ (e : ℕ). OnTold old.tells new.tells (λ before after. IsAtRestTo e before → HasZeros 2048 e before.reads after)) is told)

fails-there : (shape : Shape) (number lsn end : ℕ) (old : Seen) (error : DevError) (new : Seen) → end ≡ log_device_length shape
    → OnTold old.tells new.tells (λ before after. IsAtRestTo end before → ErasesIn 2048 end before.reads after)
    → OnTold old.tells new.tells (λ before after. Reaches end before → after.base ≡ before.base)
    → new.size ≡ old.size → HasCause {T = Unit {0}} old.faults new.faults (Err error) → MigrateStep shape number lsn old (Err error) new
fails-there shape number lsn end old error new is keeps unmoved = erase-fails shape number lsn old error new
    (subst (λ (e : ℕ). OnTold old.tells new.tells (λ before after. IsAtRestTo e before → ErasesIn 2048 e before.reads after)) is keeps)
    (subst (λ (e : ℕ). OnTold old.tells new.tells (λ before after. Reaches e before → after.base ≡ before.base)) is unmoved)

calls-there : {D : Type 0} {gives : D → Call → D → Type 0} {old new : D} {end after : ℕ} {error : Option DevError} → end ≡ after → MakesCalls gives old new (PutsWhere (IsWithin end) error)
    → MakesCalls gives old new (PutsWhere (IsWithin after) error)
calls-there {gives = gives} {old = old} {new = new} {error = error} is = subst (λ (e : ℕ). MakesCalls gives old new (PutsWhere (IsWithin e) error)) is

pub returns-in_err-erase_and_sync-clause-step : goal.returns-in_err-erase_and_sync-clause-step
returns-in_err-erase_and_sync-clause-step g c =
    let p = err_from_is_err_and c.from_residual.result c.from_residual.ensures.1 in
    let erase = c.in_err-erase_and_sync.ensures in
    rw (p.1, p.2) (fails-there c.args.shape.now c.args.number c.args.lsn c.log_device_length.result (g.L.Sectors.seen c.args.log.now) c.in_err-erase_and_sync.field-0.0
    (g.L.Sectors.seen c.erase_and_sync.new.log) c.log_device_length.ensures erase.keeps erase.unmoved erase.size erase.cause)

pub returns-in_err-put_checkpoint-clause-step : goal.returns-in_err-put_checkpoint-clause-step
returns-in_err-put_checkpoint-clause-step g c =
    let p = err_from_is_err_and c.from_residual-in_err-put_checkpoint.result c.from_residual-in_err-put_checkpoint.ensures.1 in
    let shape = c.args.shape.now in
    let old = g.L.Sectors.seen c.args.log.now in
    let mid = g.L.Sectors.seen c.erase_and_sync.new.log in
    let erase = c.in_ok-erase_and_sync.ensures in
    rw (p.1, p.2) (next-fails shape c.args.number c.args.lsn old mid c.in_err-put_checkpoint.field-0.0 (g.L.Sectors.seen c.put_checkpoint.new.log) (omega arith)
    (erased-there shape c.log_device_length.result old mid c.log_device_length.ensures erase.ok erase.size erase.cause.later)
    (there shape c.run_layout.result c.args.number c.args.lsn mid _ (g.L.Sectors.seen c.put_checkpoint.new.log) c.run_layout.ensures.is c.in_err-put_checkpoint.ensures.step))

pub returns-in_err-put_checkpoint-clause-calls : goal.returns-in_err-put_checkpoint-clause-calls
returns-in_err-put_checkpoint-clause-calls g c =
    let p = err_from_is_err_and c.from_residual-in_err-put_checkpoint.result c.from_residual-in_err-put_checkpoint.ensures.1 in
    rw (p.1, p.2) (puts_then (calls-there c.log_device_length.ensures c.in_ok-erase_and_sync.ensures.calls)
    (put_served (checkpoint-within c.args.shape.now c.args.number c.args.lsn c.run_layout.result) c.in_err-put_checkpoint.ensures.calls))

pub returns-in_err-put_head-clause-step : goal.returns-in_err-put_head-clause-step
returns-in_err-put_head-clause-step g c =
    let p = err_from_is_err_and c.from_residual-in_err-put_head.result c.from_residual-in_err-put_head.ensures.1 in
    let shape = c.args.shape.now in
    let old = g.L.Sectors.seen c.args.log.now in
    let mid = g.L.Sectors.seen c.erase_and_sync.new.log in
    let next = g.L.Sectors.seen c.put_checkpoint.new.log in
    let erase = c.in_ok-erase_and_sync.ensures in
    rw (p.1, p.2) (second-fails shape c.args.number c.args.lsn old next c.in_err-put_head.field-0.0 (g.L.Sectors.seen c.put_head.new.log) (omega arith)
    (next-come shape c.args.number c.args.lsn old mid tt next (omega arith)
    (erased-there shape c.log_device_length.result old mid c.log_device_length.ensures erase.ok erase.size erase.cause.later)
    (there shape c.run_layout.result c.args.number c.args.lsn mid _ next c.run_layout.ensures.is c.in_ok-put_checkpoint.ensures.step)) c.in_err-put_head.ensures.step)

pub returns-in_err-put_head-clause-calls : goal.returns-in_err-put_head-clause-calls
returns-in_err-put_head-clause-calls g c =
    let p = err_from_is_err_and c.from_residual-in_err-put_head.result c.from_residual-in_err-put_head.ensures.1 in
    rw (p.1, p.2) (puts_then (calls-there c.log_device_length.ensures c.in_ok-erase_and_sync.ensures.calls)
    (puts_then (put_served (checkpoint-within c.args.shape.now c.args.number c.args.lsn c.run_layout.result) c.in_ok-put_checkpoint.ensures.calls)
    (put_served (head-within c.args.shape.now 2 (omega arith)) c.in_err-put_head.ensures.calls)))

pub returns-clause-step : goal.returns-clause-step
returns-clause-step g c =
    let shape = c.args.shape.now in
    let old = g.L.Sectors.seen c.args.log.now in
    let mid = g.L.Sectors.seen c.erase_and_sync.new.log in
    let next = g.L.Sectors.seen c.put_checkpoint.new.log in
    let second = g.L.Sectors.seen c.put_head.new.log in
    let erase = c.in_ok-erase_and_sync.ensures in
    first-ends shape c.args.number c.args.lsn old second c.put_head-2.result (g.L.Sectors.seen c.put_head-2.new.log) (omega arith)
    (second-come shape c.args.number c.args.lsn old next tt second (omega arith)
    (next-come shape c.args.number c.args.lsn old mid tt next (omega arith)
    (erased-there shape c.log_device_length.result old mid c.log_device_length.ensures erase.ok erase.size erase.cause.later)
    (there shape c.run_layout.result c.args.number c.args.lsn mid _ next c.run_layout.ensures.is c.in_ok-put_checkpoint.ensures.step)) c.in_ok-put_head.ensures.step)
    c.put_head-2.ensures.step

pub returns-clause-calls : goal.returns-clause-calls
returns-clause-calls g c =
    puts_then (calls-there c.log_device_length.ensures c.in_ok-erase_and_sync.ensures.calls)
    (puts_then (put_served (checkpoint-within c.args.shape.now c.args.number c.args.lsn c.run_layout.result) c.in_ok-put_checkpoint.ensures.calls)
    (puts_then (put_served (head-within c.args.shape.now 2 (omega arith)) c.in_ok-put_head.ensures.calls)
    (put_served (head-within c.args.shape.now 0 (omega arith)) c.put_head-2.ensures.calls)))
