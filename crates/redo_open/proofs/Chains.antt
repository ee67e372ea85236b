-- The links of the way to the format of runs, and the first of them.
use Rattle.std.proofs.Common.{◌≡◌, ◌≤◌, ◌<◌, ◌+◌, ◌-◌, ◌%◌, ◌^◌, ◌∙◌, ℕ, inl, inr, List, length, Some, None, Ok, Err, refl, sym, ap, subst, ⊎_elim, arith}
use Rattle.std.specs.Prelude.{Result}
use Rattle.model_device.specs.{sector, settled, Disk}
use Rattle.model_base.specs.{HasRisen, run_shape}
use Rattle.model_log.specs.{log_device_length, read_head}
use Rattle.model_log.specs.declared.head.Format.{Format}
use Rattle.model_log.specs.declared.head.Format.TheVariants.{One, Two, Three}
use Rattle.model_log.specs.declared.head.Head.TheVariants.{Good}
use Rattle.model_parts.specs.{found_layout, IsClearing, IsFresh, IsReady, KeepsOpened, numbers_taken, start_block, start_of}
use Rattle.model_parts.proofs.Clearing.{clearing-header, cleared-clearing, IsTailIn}
use Rattle.model_parts.proofs.Fresh.{alike-head}
use Rattle.model_parts.proofs.Keeping.{migrating-keeps, ready-keeps}
use Rattle.model_parts.proofs.Migration.{head-first, migrated-fresh}
use Rattle.model_parts.proofs.Newest.{checkpoint-place}
use Rattle.model_parts.proofs.Reread.{IsLogRead, log-read, tail-read}
use Rattle.model_store.specs.{IsOrderly, Reading}
use Rattle.redo_disk.proofs.Made.{none_may_end, out_of_memory}
use Rattle.redo_disk.specs.{Call, MakesCalls, MayEndWith, Seen}
use Rattle.redo_disk.specs.declared.error.DevError.{DevError}
use Rattle.redo_disk.proofs.Told.{told-step}
use Rattle.redo_open.specs.Chain.{formats_after, LinkStep, next_format}
use Rattle.redo_open.specs.Devices.{IsNotOpened, IsOpenFault, WhereBothTell, IsFreshBy, IsMarkedFirst, IsReadyAt}
use Rattle.redo_open.specs.Put.{HasMigrated, Migrates, MigrateStep, IsAtRestTo}
use Rattle.redo_open.specs.Places.{HoldsPlaces}
use Rattle.redo_open.proofs.Both.{both}
use Rattle.redo_open.proofs.Causes.{log-cause, log-not_data, log-risen}
use Rattle.redo_open.proofs.Rests.{reads-settled, rests-settled}
use Rattle.redo_open.proofs.Told.{risen-since}
use Rattle.redo_recover.specs.{data_error, data_error_of, log_fault_of}
use Rattle.redo_recover.specs.declared.fault.RecFault.{RecFault}
use Rattle.redo_recover.specs.declared.fault.RecFault.TheVariants.{LogDev, DataDev, NoMemory}

-- THE LAST FORMAT.

pub last-format : (format : Format) → next_format format ≡ None → format ≡ Three
last-format One is = absurd cc
last-format Two is = absurd cc
last-format Three is = refl

-- fewer formats come after the next one
pub fewer-after : (format after : Format) → next_format format ≡ Some after → formats_after after < formats_after format
fewer-after One after is =
    let both : Some Two ≡ Some after = is in
    let same : Two ≡ after = cc in
    subst (λ (f : Format). formats_after f < 2) same (omega arith)
fewer-after Two after is =
    let both : Some Three ≡ Some after = is in
    let same : Three ≡ after = cc in
    subst (λ (f : Format). formats_after f < 1) same (omega arith)
fewer-after Three after is = absurd cc

-- a run can start on a store that is ready by it
pub ready-both : (opened : Reading) (log data_device : Seen) (log_bytes data_bytes : List ℕ)
    → IsReadyAt Three opened log data_device log_bytes data_bytes
    → WhereBothTell log.tells data_device.tells (IsReady opened)
ready-both opened log data_device log_bytes data_bytes at =
    both log.tells data_device.tells (IsFreshBy (run_shape opened.shape) opened)
    (HoldsPlaces (run_shape opened.shape) opened) (IsReady opened)
    (λ l d fresh holds. record { log = fresh; pages = holds }) at.log_ready at.data_ready

keeps-ready : (opened : Reading) (log data_device : Seen) (log_bytes data_bytes : List ℕ)
    → IsReadyAt Three opened log data_device log_bytes data_bytes
    → WhereBothTell log.tells data_device.tells (KeepsOpened opened)
keeps-ready opened log data_device log_bytes data_bytes at =
    both log.tells data_device.tells (IsFreshBy (run_shape opened.shape) opened)
    (HoldsPlaces (run_shape opened.shape) opened) (KeepsOpened opened)
    (λ l d fresh holds. ready-keeps opened log_bytes data_bytes (run_shape opened.shape) l d at.orderly (inr refl)
    (record { log = fresh; pages = holds })) at.log_ready at.data_ready

-- LINKS IN A ROW.

-- there is none
pub no-link : (opened : Reading) (format : Format) (log data_device : Seen) → format ≡ Three
    → LinkStep format Three opened log data_device (Ok tt) log data_device
no-link opened format log data_device is =
    subst (λ (f : Format). LinkStep f Three opened log data_device (Ok tt) log data_device) (sym is) (record {
      keeps = λ log_bytes data_bytes at. keeps-ready opened log data_device log_bytes data_bytes at;
      ok = λ log_bytes data_bytes at. at;
      unmoved = λ log_bytes data_bytes at. tt;
      fault = tt;
      log_failed = λ failed. absurd cc;
      data_failed = λ failed. absurd cc;
    })

-- the first of them ended early
pub link-failed : (from mid to : Format) (opened : Reading) (log_old data_old : Seen) (fault : RecFault)
    (log_new data_new : Seen)
    → LinkStep from mid opened log_old data_old (Err fault) log_new data_new
    → LinkStep from to opened log_old data_old (Err fault) log_new data_new
link-failed from mid to opened log_old data_old fault log_new data_new step = record {
  keeps = step.keeps;
  ok = λ log_bytes data_bytes at. tt;
  unmoved = step.unmoved;
  fault = step.fault;
  log_failed = step.log_failed;
  data_failed = step.data_failed;
}

-- it went well, and the others come after it
pub link-then : (from mid to : Format) (opened : Reading) (log_old data_old log_mid data_mid : Seen) (done : Unit {0})
    (result : Result (Unit {0}) RecFault) (log_new data_new : Seen)
    → LinkStep from mid opened log_old data_old (Ok done) log_mid data_mid
    → log_old.faults ≤ log_mid.faults → data_old.faults ≤ data_mid.faults
    → log_mid.faults ≤ log_new.faults → data_mid.faults ≤ data_new.faults
    → LinkStep mid to opened log_mid data_mid result log_new data_new
    → LinkStep from to opened log_old data_old result log_new data_new
link-then from mid to opened log_old data_old log_mid data_mid done result log_new data_new first log_later data_later
    log_last data_last then = record {
      keeps = λ log_bytes data_bytes at. then.keeps log_bytes data_bytes (first.ok log_bytes data_bytes at);
      ok = λ log_bytes data_bytes at. then.ok log_bytes data_bytes (first.ok log_bytes data_bytes at);
      unmoved = λ log_bytes data_bytes at. then.unmoved log_bytes data_bytes (first.ok log_bytes data_bytes at);
      fault = then.fault;
      log_failed = λ is. risen-since log_old.faults log_mid.faults log_new.faults log_later log_last (then.log_failed is);
      data_failed = λ is. risen-since data_old.faults data_mid.faults data_new.faults data_later data_last
          (then.data_failed is);
    }

-- FROM FORMAT 1 TO FORMAT 2.

marked-rests : (opened : Reading) (log_bytes data_bytes : List ℕ) (disk : Disk) → IsOrderly log_bytes data_bytes opened
    → IsMarkedFirst opened log_bytes disk → IsAtRestTo (log_device_length opened.shape) disk
marked-rests opened log_bytes data_bytes disk orderly is =
    let log : IsLogRead log_bytes opened = log-read log_bytes data_bytes opened orderly.reads in
    let same : length disk.reads ≡ length disk.base = ap length (reads-settled disk is.nothing_pending) in
    record {
      rests = rests-settled disk is.nothing_pending;
      long = omega
          (arith, log.long, same, is.put.same_length, is.cleared.then.same_length, is.cleared.first.same_length);
    }

-- the number doesn't go round, and the lsn is the one that the code has
migrate-there : (opened : Reading) (start : ℕ) (log_bytes data_bytes : List ℕ) (old : Seen)
    (result : Result (Unit {0}) DevError) (new : Seen) → start ≡ start_of opened
    → IsOrderly log_bytes data_bytes opened
    → MigrateStep opened.shape ((opened.number + 2) % 2 ^ 64) (start - 12) old result new
    → MigrateStep opened.shape (opened.number + 2) (start_block opened) old result new
migrate-there opened start log_bytes data_bytes old result new behind orderly step =
    let number : (opened.number + 2) % 2 ^ 64 ≡ opened.number + 2 = omega (arith, orderly.numbers_left) in
    subst (λ (n : ℕ). MigrateStep opened.shape n (start_block opened) old result new) number
    (subst (λ (n : ℕ). MigrateStep opened.shape ((opened.number + 2) % 2 ^ 64) (n - 12) old result new) behind step)

-- it was ready, and its log becomes one of format 2
record HasMigrating (opened : Reading) (log_bytes : List ℕ) (disk : Disk) : Type 0 where
  was : Disk
  marked : IsMarkedFirst opened log_bytes was
  migrates : Migrates opened.shape (opened.number + 2) (start_block opened) was.base disk

first-keeps : (opened : Reading) (log_old data_device : Seen) (log_bytes data_bytes : List ℕ)
    (result : Result (Unit {0}) DevError) (log_new : Seen)
    → IsReadyAt One opened log_old data_device log_bytes data_bytes
    → MigrateStep opened.shape (opened.number + 2) (start_block opened) log_old result log_new
    → WhereBothTell log_new.tells data_device.tells (KeepsOpened opened)
first-keeps opened log_old data_device log_bytes data_bytes result log_new at step =
    both log_new.tells data_device.tells (HasMigrating opened log_bytes) (HoldsPlaces opened.shape opened)
    (KeepsOpened opened)
    (λ l d has holds. migrating-keeps opened log_bytes data_bytes has.marked.old_log has.was.base has.marked.tail l d
    at.orderly has.marked.found has.marked.alike has.marked.format_is has.marked.cleared has.marked.put has.migrates
    holds)
    (told-step log_old.tells log_new.tells (IsMarkedFirst opened log_bytes) (HasMigrating opened log_bytes)
    (λ a b. IsAtRestTo (log_device_length opened.shape) a
    → Migrates opened.shape (opened.number + 2) (start_block opened) a.reads b)
    (λ a b marked migrates. record {
      was = a;
      marked = marked;
      migrates = subst (λ (bytes : List ℕ). Migrates opened.shape (opened.number + 2) (start_block opened) bytes b)
          (reads-settled a marked.nothing_pending)
          (migrates (marked-rests opened log_bytes data_bytes a at.orderly marked));
    }) at.log_ready step.keeps)
    at.data_ready

migrated-log : (opened : Reading) (log_bytes data_bytes : List ℕ) (a b : Disk) → IsOrderly log_bytes data_bytes opened
    → IsMarkedFirst opened log_bytes a
    → HasMigrated opened.shape (opened.number + 2) (start_block opened) a.base b
    → IsFreshBy opened.shape opened b
migrated-log opened log_bytes data_bytes a b orderly marked has =
    subst (IsFreshBy opened.shape opened) (sym has.nothing_pending)
    (subst (λ (n : ℕ). IsFresh opened.shape (start_of opened) n (settled b.base))
    (ap (λ (f : Format). opened.number + numbers_taken f) (sym marked.format_is))
    (migrated-fresh opened log_bytes data_bytes marked.old_log a.base b.base marked.tail orderly marked.found
    marked.cleared marked.put has.migrated))

first-ready : (opened : Reading) (log_old data_device : Seen) (log_bytes data_bytes : List ℕ) (done : Unit {0})
    (log_new : Seen) → IsReadyAt One opened log_old data_device log_bytes data_bytes
    → MigrateStep opened.shape (opened.number + 2) (start_block opened) log_old (Ok done) log_new
    → IsReadyAt Two opened log_new data_device log_bytes data_bytes
first-ready opened log_old data_device log_bytes data_bytes done log_new at step = record {
  orderly = at.orderly;
  log_ready = told-step log_old.tells log_new.tells (IsMarkedFirst opened log_bytes) (IsFreshBy opened.shape opened)
      (λ a b. IsAtRestTo (log_device_length opened.shape) a
      → HasMigrated opened.shape (opened.number + 2) (start_block opened) a.reads b)
      (λ a b marked migrated. migrated-log opened log_bytes data_bytes a b at.orderly marked
      (subst (λ (bytes : List ℕ). HasMigrated opened.shape (opened.number + 2) (start_block opened) bytes b)
      (reads-settled a marked.nothing_pending)
      (migrated (marked-rests opened log_bytes data_bytes a at.orderly marked)))) at.log_ready step.ok;
  data_ready = at.data_ready;
}

-- the first header block is still that of format 1
first-head : (opened : Reading) (log_bytes data_bytes : List ℕ) (a b : Disk) → IsOrderly log_bytes data_bytes opened
    → IsMarkedFirst opened log_bytes a → sector 0 b.base ≡ sector 0 a.reads → IsNotOpened opened b
first-head opened log_bytes data_bytes a b orderly marked same =
    let tail = marked.tail in
    let log : IsLogRead log_bytes opened = log-read log_bytes data_bytes opened orderly.reads in
    let is : IsTailIn (found_layout opened) opened.ckpt tail =
    tail-read log_bytes data_bytes opened tail orderly.reads marked.found in
    let clearing : IsClearing (found_layout opened) opened.ckpt (start_of opened) tail log_bytes marked.old_log =
    cleared-clearing (found_layout opened) opened.ckpt (start_of opened) tail log_bytes marked.old_log log.log
    marked.cleared in
    let at = checkpoint-place (opened.number + 1) in
    let zero : sector 0 b.base ≡ sector 0 log_bytes =
    same ∙ ap (sector 0) (reads-settled a marked.nothing_pending)
    ∙ marked.put.others 0 (λ none. omega (arith, at.0))
    ∙ clearing-header (found_layout opened) opened.ckpt (start_of opened) tail log_bytes marked.old_log 0 log.log is
    (omega arith) clearing in
    let good : read_head (sector 0 log_bytes) ≡ Good opened.format opened.shape =
    sym (alike-head log_bytes marked.alike) ∙ orderly.reads.scan.devices.head.head in
    record {
      format = opened.format;
      head = head-first b.base opened.format opened.shape (ap read_head zero ∙ good);
      still = inl (λ three. (let other : One ≡ Three = sym marked.format_is ∙ three in absurd cc));
    }

pub first-linked : (opened : Reading) (start : ℕ) (log_old : Seen) (done : Unit {0}) (log_new data_device : Seen)
    → start ≡ start_of opened
    → MigrateStep opened.shape ((opened.number + 2) % 2 ^ 64) (start - 12) log_old (Ok done) log_new
    → LinkStep One Two opened log_old data_device (Ok tt) log_new data_device
first-linked opened start log_old done log_new data_device behind step = record {
  keeps = λ log_bytes data_bytes at. first-keeps opened log_old data_device log_bytes data_bytes (Ok done) log_new at
      (migrate-there opened start log_bytes data_bytes log_old (Ok done) log_new behind at.orderly step);
  ok = λ log_bytes data_bytes at. first-ready opened log_old data_device log_bytes data_bytes done log_new at
      (migrate-there opened start log_bytes data_bytes log_old (Ok done) log_new behind at.orderly step);
  unmoved = λ log_bytes data_bytes at. tt;
  fault = tt;
  log_failed = λ failed. absurd cc;
  data_failed = λ failed. absurd cc;
}

pub first-failed : (opened : Reading) (start : ℕ) (log_old : Seen) (error : DevError) (fault : RecFault)
    (log_new data_device : Seen) → start ≡ start_of opened → fault ≡ log_fault_of error
    → MigrateStep opened.shape ((opened.number + 2) % 2 ^ 64) (start - 12) log_old (Err error) log_new
    → LinkStep One Two opened log_old data_device (Err fault) log_new data_device
first-failed opened start log_old error fault log_new data_device behind is step = record {
  keeps = λ log_bytes data_bytes at. first-keeps opened log_old data_device log_bytes data_bytes (Err error) log_new at
      (migrate-there opened start log_bytes data_bytes log_old (Err error) log_new behind at.orderly step);
  ok = λ log_bytes data_bytes at. tt;
  unmoved = λ log_bytes data_bytes at.
      told-step log_old.tells log_new.tells (IsMarkedFirst opened log_bytes) (IsNotOpened opened)
      (λ a b. IsAtRestTo (log_device_length opened.shape) a → sector 0 b.base ≡ sector 0 a.reads)
      (λ a b marked same. first-head opened log_bytes data_bytes a b at.orderly marked
      (same (marked-rests opened log_bytes data_bytes a at.orderly marked))) at.log_ready step.unmoved;
  fault = log-cause error fault is;
  log_failed = log-risen log_old.faults log_new.faults error fault is step.cause;
  data_failed = log-not_data error fault is;
}

-- THE DATA DEVICE BESIDE IT.

-- one that has never failed
abbrev no-fault : Seen
no-fault = record { size = 0; tells = None; crashed_from = None; faults = 0 }

-- none of its calls need be there, as the link ends for no fault of it
fault-beside : {D : Type 0} (gives : D → Call → D → Type 0) (data_device : D) (fault : RecFault) → IsOpenFault fault
    → (fault ≡ DataDev → HasRisen 0 0) → MakesCalls gives data_device data_device (MayEndWith (data_error fault))
fault-beside gives data_device LogDev own risen = none_may_end gives data_device
fault-beside gives data_device NoMemory own risen = out_of_memory (none_may_end gives data_device)
fault-beside gives data_device DataDev own risen =
    ⊎_elim (λ more. absurd (omega (arith, more))) (λ full. absurd (omega (arith, full))) (risen refl)
fault-beside gives data_device fault own risen = absurd own

pub first-beside : {D : Type 0} (gives : D → Call → D → Type 0) (data_device : D) (opened : Reading) (log_old : Seen)
    (result : Result (Unit {0}) RecFault) (log_new : Seen)
    → ((data_seen : Seen) → LinkStep One Two opened log_old data_seen result log_new data_seen)
    → MakesCalls gives data_device data_device (MayEndWith (data_error_of result))
first-beside gives data_device opened log_old (Ok done) log_new step = none_may_end gives data_device
first-beside gives data_device opened log_old (Err fault) log_new step =
    fault-beside gives data_device fault (step no-fault).fault
    (λ is. (step no-fault).data_failed (ap (λ (f : RecFault). Err f) is))
