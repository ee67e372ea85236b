-- A store of format 1 is taken to format 2, step by step.
use Rattle.std.proofs.Common.{◌≡◌, ◌≤◌, ◌+◌, ◌*◌, ℕ, inl, inr, List, length, sym, ap, subst, ◌∙◌, ⊎_elim, arith}
use Rattle.std.specs.Prelude.{Result, Ok, Err}
use Rattle.model_base.specs.declared.shape.Shape.{Shape}
use Rattle.model_device.specs.{sector, settled, Disk}
use Rattle.model_log.specs.{checkpoint_text, fits_checksum, head_text, log_device_length, place_of, run_layout, run_format}
use Rattle.model_parts.specs.{IsErased, IsErasing, IsLogSector, IsMigrated, IsMigrating, IsNearlyMigrated, IsPut, IsPutting}
use Rattle.model_parts.proofs.Newest.{checkpoint-place}
use Rattle.model_parts.proofs.Unread.{zeros-unsealed}
use Rattle.model_store.specs.{IsFairLog}
use Rattle.redo_disk.specs.{HasCause, OnTold, Seen}
use Rattle.redo_disk.specs.declared.error.DevError.{DevError}
use Rattle.redo_disk.proofs.Told.{OnTold-then, told-as}
use Rattle.redo_open.specs.Erase.{ErasesIn, HasZeros, IsIn, Reaches}
use Rattle.redo_open.specs.Put.{HasMigrated, Migrates, MigrateStep, HasPut, IsAtRestTo, PutsBlock, PutStep}
use Rattle.redo_open.proofs.Rests.{base-image, reads-settled, rests-settled}
use Rattle.redo_open.proofs.Told.{cause-since}

-- HOW FAR IT HAS COME, after steps that went well: nothing is pending, and this stands there.

pub record HasCome (Is : List ℕ → List ℕ → Type 0) (content : List ℕ) (disk : Disk) : Type 0 where
  pub nothing_pending : disk ≡ settled disk.base
  pub same_length : length disk.base ≡ length content
  pub is : Is content disk.base

pub record Come (Is : List ℕ → List ℕ → Type 0) (end : ℕ) (old new : Seen) : Type 0 where
  pub told : OnTold old.tells new.tells (λ before after. IsAtRestTo end before → HasCome Is before.reads after)
  pub size : new.size ≡ old.size
  pub later : old.faults ≤ new.faults

come-rests : (Is : List ℕ → List ℕ → Type 0) (end few : ℕ) (before after : Disk) → few ≤ end → IsAtRestTo end before → HasCome Is before.reads after → IsAtRestTo few after
come-rests Is end few before after less rests come = record {
  rests = rests-settled after come.nothing_pending;
  long = omega (arith, rests.long, come.same_length, ap length (reads-settled after come.nothing_pending));
}

-- the next block is put
pub come-put : (Is Then : List ℕ → List ℕ → Type 0) (end k : ℕ) (bytes : List ℕ) (old mid : Seen) (done : Unit {0}) (new : Seen) → 512 * k + 512 ≤ end
    → ((content was now : List ℕ) → Is content was → IsPut k bytes was now → Then content now) → Come Is end old mid → PutStep k bytes mid (Ok done) new → Come Then end old new
come-put Is Then end k bytes old mid done new less next come step = record {
  told = OnTold-then old.tells mid.tells new.tells (λ a b. IsAtRestTo end a → HasCome Is a.reads b) (λ b c. IsAtRestTo (512 * k + 512) b → HasPut k bytes b.reads c)
      (λ a c. IsAtRestTo end a → HasCome Then a.reads c)
      (λ a b c first then rests. (
      let was : HasCome Is a.reads b = first rests in
      let put : HasPut k bytes b.reads c = then (come-rests Is end (512 * k + 512) a b less rests was) in
      let own : IsPut k bytes b.base c.base = subst (λ (x : List ℕ). IsPut k bytes x c.base) (reads-settled b was.nothing_pending) put.put in
      record { nothing_pending = put.nothing_pending; same_length = own.same_length ∙ was.same_length; is = next a.reads b.base c.base was.is own })) come.told step.ok;
  size = step.size ∙ come.size;
  later = omega (arith, come.later, step.cause.later);
}

-- whatever it answers, in each fair image it is being put
pub come-puts : (Is : List ℕ → List ℕ → Type 0) (Image : List ℕ → List ℕ → Type 0) (end k : ℕ) (bytes : List ℕ) (old mid : Seen) (result : Result (Unit {0}) DevError) (new : Seen)
    → 512 * k + 512 ≤ end → ((content was image : List ℕ) → Is content was → IsPutting k bytes was image → Image content image) → Come Is end old mid → PutStep k bytes mid result new
    → OnTold old.tells new.tells (λ before after. IsAtRestTo end before → (image : List ℕ) → IsFairLog after image → Image before.reads image)
come-puts Is Image end k bytes old mid result new less images come step =
    OnTold-then old.tells mid.tells new.tells (λ a b. IsAtRestTo end a → HasCome Is a.reads b) (λ b c. IsAtRestTo (512 * k + 512) b → PutsBlock k bytes b.reads c)
    (λ a c. IsAtRestTo end a → (image : List ℕ) → IsFairLog c image → Image a.reads image)
    (λ a b c first puts rests image fair. (
    let was : HasCome Is a.reads b = first rests in
    images a.reads b.base image was.is (subst (λ (x : List ℕ). IsPutting k bytes x image) (reads-settled b was.nothing_pending)
    (puts (come-rests Is end (512 * k + 512) a b less rests was) image fair)))) come.told step.keeps

-- where it fails, what stood there stays
pub come-stays : (Is : List ℕ → List ℕ → Type 0) (end k : ℕ) (bytes : List ℕ) (old mid : Seen) (error : DevError) (new : Seen) → Come Is end old mid → PutStep k bytes mid (Err error) new
    → OnTold old.tells new.tells (λ before after. IsAtRestTo end before → Is before.reads after.base)
come-stays Is end k bytes old mid error new come step =
    OnTold-then old.tells mid.tells new.tells (λ a b. IsAtRestTo end a → HasCome Is a.reads b) (λ (b c : Disk). c.base ≡ b.base) (λ a c. IsAtRestTo end a → Is a.reads c.base)
    (λ a b c first same rests. subst (Is a.reads) (sym same) (first rests).is) come.told step.unmoved

-- THE STAGES.

is-log_sector : (shape : Shape) (k : ℕ) → IsIn 2048 (log_device_length shape) k → IsLogSector shape k
is-log_sector shape k is = record { from = omega (arith, is.low); below = omega (arith, is.high) }

log-sector_is : (shape : Shape) (k : ℕ) → IsLogSector shape k → IsIn 2048 (log_device_length shape) k
log-sector_is shape k is = record { low = omega (arith, is.from); high = omega (arith, is.below) }

abbrev pub IsErasedLog : Shape → List ℕ → List ℕ → Type 0
IsErasedLog shape content now = IsErased (IsLogSector shape) content now

pub record IsNextLog (shape : Shape) (number lsn : ℕ) (content now : List ℕ) : Type 0 where
  pub erased : List ℕ
  pub is_erased : IsErased (IsLogSector shape) content erased
  pub marked : IsPut (place_of number) (checkpoint_text number lsn (run_layout shape)) erased now

erased-zero : (shape : Shape) (content now : List ℕ) → IsErasedLog shape content now → sector 0 now ≡ sector 0 content
erased-zero shape content now is = is.others 0 (λ log. omega (arith, log.from))

next-zero : (shape : Shape) (number lsn : ℕ) (content now : List ℕ) → IsNextLog shape number lsn content now → sector 0 now ≡ sector 0 content
next-zero shape number lsn content now is =
    let at = checkpoint-place number in
    is.marked.others 0 (λ same. omega (arith, at.0)) ∙ erased-zero shape content is.erased is.is_erased

nearly-zero : (shape : Shape) (number lsn : ℕ) (content now : List ℕ) → IsNearlyMigrated shape number lsn content now → sector 0 now ≡ sector 0 content
nearly-zero shape number lsn content now is =
    is.headed.others 0 (λ same. omega (arith, same)) ∙ next-zero shape number lsn content is.marked (record { erased = is.erased; is_erased = is.is_erased; marked = is.is_marked })

-- THE STEPS.

-- the log blocks are erased
pub erase-come : (shape : Shape) (old new : Seen) → OnTold old.tells new.tells (λ before after. IsAtRestTo (log_device_length shape) before → HasZeros 2048 (log_device_length shape) before.reads after)
    → new.size ≡ old.size → old.faults ≤ new.faults → Come (IsErasedLog shape) (log_device_length shape) old new
erase-come shape old new told size later = record {
  told = told-as old.tells new.tells (λ before after. IsAtRestTo (log_device_length shape) before → HasZeros 2048 (log_device_length shape) before.reads after)
      (λ before after. IsAtRestTo (log_device_length shape) before → HasCome (IsErasedLog shape) before.reads after)
      (λ a b zeros rests. (
      let has = zeros rests in
      record {
        nothing_pending = has.nothing_pending;
        same_length = has.same_length;
        is = record {
          same_length = has.same_length;
          gone = λ k log. ap fits_checksum (has.zeros k (log-sector_is shape k log)) ∙ zeros-unsealed;
          others = λ k other. has.others k (λ inside. other (is-log_sector shape k inside));
        };
      })) told;
  size = size;
  later = later;
}

pub erase-fails : (shape : Shape) (number lsn : ℕ) (old : Seen) (error : DevError) (new : Seen)
    → OnTold old.tells new.tells (λ before after. IsAtRestTo (log_device_length shape) before → ErasesIn 2048 (log_device_length shape) before.reads after)
    → OnTold old.tells new.tells (λ before after. Reaches (log_device_length shape) before → after.base ≡ before.base)
    → new.size ≡ old.size → HasCause {T = Unit {0}} old.faults new.faults (Err error) → MigrateStep shape number lsn old (Err error) new
erase-fails shape number lsn old error new keeps unmoved size cause = record {
  keeps = told-as old.tells new.tells (λ before after. IsAtRestTo (log_device_length shape) before → ErasesIn 2048 (log_device_length shape) before.reads after)
      (λ before after. IsAtRestTo (log_device_length shape) before → Migrates shape number lsn before.reads after)
      (λ a b erases rests image fair. (
      let erasing : IsErasing (IsIn 2048 (log_device_length shape)) a.reads image = erases rests image fair in
      inl (record { same_length = erasing.same_length; each = λ k. ⊎_elim (λ same. inl same) (λ gone. inr (is-log_sector shape k gone.0, gone.1)) (erasing.each k) }))) keeps;
  ok = tt;
  unmoved = told-as old.tells new.tells (λ before after. Reaches (log_device_length shape) before → after.base ≡ before.base)
      (λ before after. IsAtRestTo (log_device_length shape) before → sector 0 after.base ≡ sector 0 before.reads)
      (λ a b same rests. (
      let long : length a.reads ≡ length a.base = rests.rests.reads.same_length in
      ap (sector 0) (same (record { base = omega (arith, rests.long); reads = rests.long }) ∙ rests.rests.one_image a.base (base-image a)))) unmoved;
  size = size;
  cause = cause;
}

-- a put that failed
put-fails : (Is : List ℕ → List ℕ → Type 0) (shape : Shape) (number lsn k : ℕ) (bytes : List ℕ) (old mid : Seen) (error : DevError) (new : Seen) → 512 * k + 512 ≤ log_device_length shape
    → ((content was image : List ℕ) → Is content was → IsPutting k bytes was image → IsMigrating shape number lsn content image)
    → ((content now : List ℕ) → Is content now → sector 0 now ≡ sector 0 content) → Come Is (log_device_length shape) old mid → PutStep k bytes mid (Err error) new
    → MigrateStep shape number lsn old (Err error) new
put-fails Is shape number lsn k bytes old mid error new within images zero come step = record {
  keeps = come-puts Is (IsMigrating shape number lsn) (log_device_length shape) k bytes old mid (Err error) new within images come step;
  ok = tt;
  unmoved = told-as old.tells new.tells (λ before after. IsAtRestTo (log_device_length shape) before → Is before.reads after.base)
      (λ before after. IsAtRestTo (log_device_length shape) before → sector 0 after.base ≡ sector 0 before.reads)
      (λ a b is rests. zero a.reads b.base (is rests)) (come-stays Is (log_device_length shape) k bytes old mid error new come step);
  size = step.size ∙ come.size;
  cause = cause-since old.faults mid.faults new.faults (Err error) come.later step.cause;
}

place-within : (number end : ℕ) → 2560 ≤ end → 512 * place_of number + 512 ≤ end
place-within number end long = let at = checkpoint-place number in omega (arith, at.1)

-- the checkpoint
pub next-come : (shape : Shape) (number lsn : ℕ) (old mid : Seen) (done : Unit {0}) (new : Seen) → 2560 ≤ log_device_length shape → Come (IsErasedLog shape) (log_device_length shape) old mid
    → PutStep (place_of number) (checkpoint_text number lsn (run_layout shape)) mid (Ok done) new → Come (IsNextLog shape number lsn) (log_device_length shape) old new
next-come shape number lsn old mid done new long come step =
    come-put (IsErasedLog shape) (IsNextLog shape number lsn) (log_device_length shape) (place_of number) (checkpoint_text number lsn (run_layout shape)) old mid done new
    (place-within number (log_device_length shape) long) (λ content was now erased put. record { erased = was; is_erased = erased; marked = put }) come step

pub next-fails : (shape : Shape) (number lsn : ℕ) (old mid : Seen) (error : DevError) (new : Seen) → 2560 ≤ log_device_length shape → Come (IsErasedLog shape) (log_device_length shape) old mid
    → PutStep (place_of number) (checkpoint_text number lsn (run_layout shape)) mid (Err error) new → MigrateStep shape number lsn old (Err error) new
next-fails shape number lsn old mid error new long come step =
    put-fails (IsErasedLog shape) shape number lsn (place_of number) (checkpoint_text number lsn (run_layout shape)) old mid error new (place-within number (log_device_length shape) long)
    (λ content was image erased putting. inr (inl (was, erased, putting))) (erased-zero shape) come step

-- the header, in the second block
pub second-come : (shape : Shape) (number lsn : ℕ) (old mid : Seen) (done : Unit {0}) (new : Seen) → 2560 ≤ log_device_length shape → Come (IsNextLog shape number lsn) (log_device_length shape) old mid
    → PutStep 2 (head_text (run_format shape) shape) mid (Ok done) new → Come (IsNearlyMigrated shape number lsn) (log_device_length shape) old new
second-come shape number lsn old mid done new long come step =
    come-put (IsNextLog shape number lsn) (IsNearlyMigrated shape number lsn) (log_device_length shape) 2 (head_text (run_format shape) shape) old mid done new (omega arith)
    (λ content was now next put. record { erased = next.erased; is_erased = next.is_erased; marked = was; is_marked = next.marked; headed = put }) come step

pub second-fails : (shape : Shape) (number lsn : ℕ) (old mid : Seen) (error : DevError) (new : Seen) → 2560 ≤ log_device_length shape → Come (IsNextLog shape number lsn) (log_device_length shape) old mid
    → PutStep 2 (head_text (run_format shape) shape) mid (Err error) new → MigrateStep shape number lsn old (Err error) new
second-fails shape number lsn old mid error new long come step =
    put-fails (IsNextLog shape number lsn) shape number lsn 2 (head_text (run_format shape) shape) old mid error new (omega arith)
    (λ content was image next putting. inr (inr (inl (next.erased, was, next.is_erased, next.marked, putting)))) (next-zero shape number lsn) come step

-- and in the first one
pub first-ends : (shape : Shape) (number lsn : ℕ) (old mid : Seen) (result : Result (Unit {0}) DevError) (new : Seen) → 2560 ≤ log_device_length shape
    → Come (IsNearlyMigrated shape number lsn) (log_device_length shape) old mid → PutStep 0 (head_text (run_format shape) shape) mid result new → MigrateStep shape number lsn old result new
first-ends shape number lsn old mid (Err error) new long come step =
    put-fails (IsNearlyMigrated shape number lsn) shape number lsn 0 (head_text (run_format shape) shape) old mid error new (omega arith)
    (λ content was image nearly putting. inr (inr (inr (was, nearly, putting)))) (nearly-zero shape number lsn) come step
first-ends shape number lsn old mid (Ok done) new long come step =
    let last : Come (IsMigrated shape number lsn) (log_device_length shape) old new =
    come-put (IsNearlyMigrated shape number lsn) (IsMigrated shape number lsn) (log_device_length shape) 0 (head_text (run_format shape) shape) old mid done new (omega arith)
    (λ content was now nearly put. record { headed = was; nearly = nearly; first = put }) come step in
    record {
      keeps = come-puts (IsNearlyMigrated shape number lsn) (IsMigrating shape number lsn) (log_device_length shape) 0 (head_text (run_format shape) shape) old mid (Ok done) new (omega arith)
          (λ content was image nearly putting. inr (inr (inr (was, nearly, putting)))) come step;
      ok = told-as old.tells new.tells (λ before after. IsAtRestTo (log_device_length shape) before → HasCome (IsMigrated shape number lsn) before.reads after)
          (λ before after. IsAtRestTo (log_device_length shape) before → HasMigrated shape number lsn before.reads after)
          (λ a b is rests. record { nothing_pending = (is rests).nothing_pending; migrated = (is rests).is }) last.told;
      unmoved = tt;
      size = last.size;
      cause = cause-since old.faults mid.faults new.faults (Ok done) come.later step.cause;
    }
