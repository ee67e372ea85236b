-- Both devices at the exits of opening.
use Rattle.std.proofs.Common.{◌≡◌, ◌≤◌, ◌<◌, ◌+◌, ◌-◌, ◌*◌, ◌∙◌, ℕ, List, length, true, Option, Some, None, Ok, Err, refl, sym, ap, subst, arith, ◌≢◌}
use Rattle.std.specs.Prelude.{IfSome, Result}
use Rattle.model_base.proofs.ShapeLimits.{sizes_facts}
use Rattle.model_base.specs.{IsWithinLimits, run_shape}
use Rattle.model_base.specs.declared.shape.Shape.{Shape}
use Rattle.model_device.specs.{sector, settled, Disk}
use Rattle.model_log.specs.{checkpoint_text, has_sizes_of, header_block, layout_of, log_device_length, newest_checkpoint, place_of}
use Rattle.model_log.specs.declared.head.Format.{Format}
use Rattle.model_log.specs.declared.head.Format.TheVariants.{One, Two, Three}
use Rattle.model_log.specs.declared.layout.Layout.{Layout}
use Rattle.model_store.specs.{IsFairLog, IsOrderly, Reading}
use Rattle.model_store.specs.declared.tail.Tail.{Tail}
use Rattle.model_store.proofs.Heads.{head-sizes}
use Rattle.model_parts.specs.{found_layout, IsCleared, IsClearing, IsFresh, IsPut, IsPutting, IsUnopened, KeepsOpened, next_number, numbers_taken, start_block, start_of}
use Rattle.model_parts.proofs.Clearing.{clearing-header, cleared-clearing, IsTailIn}
use Rattle.model_parts.proofs.Fresh.{marked-fresh}
use Rattle.model_parts.proofs.Keeping.{clearing-keeps, marking-keeps}
use Rattle.model_parts.proofs.Newest.{checkpoint-place}
use Rattle.model_parts.proofs.Reread.{IsLogRead, log-read, same-head_of, same-newest, tail-read}
use Rattle.redo_disk.specs.{Seen}
use Rattle.redo_disk.specs.declared.error.DevError.{DevError}
use Rattle.redo_disk.proofs.Told.{known-as, told-step}
use Rattle.redo_open.specs.Clear.{ClearsLog, ClearStep, HasClearedLog, ring_end}
use Rattle.redo_open.specs.Devices.{IsFrom, IsNotOpened, OpensFrom, WhereBothTell, IsFreshBy, IsReadyAt, IsReadyLog, shape_by}
use Rattle.redo_open.specs.Mark.{next_text}
use Rattle.redo_open.specs.Places.{KeepsPlaces, HoldsPlaces}
use Rattle.redo_open.specs.Put.{HasPut, IsAtRestTo, PutsBlock, PutStep}
use Rattle.redo_open.proofs.Entry.{still-found}
use Rattle.redo_open.proofs.Rests.{base-image}
use Rattle.redo_open.proofs.Sizes.{with_slots}

pub both : (log data_told : Option Disk) (P Q : Disk → Type 0) (R : Disk → Disk → Type 0) → ((l d : Disk) → P l → Q d → R l d)
    → IfSome log P → IfSome data_told Q → WhereBothTell log data_told R
both None data_told P Q R step first second = tt
both (Some l) None P Q R step first second = tt
both (Some l) (Some d) P Q R step first second = step l d first second

-- THE LOG, cleared or not.

abbrev pub Clears : Reading → Option Tail → List ℕ → Disk → Type 0
Clears opened tail log_bytes disk = ClearsLog (found_layout opened) opened.ckpt (start_of opened) tail log_bytes disk

abbrev pub Cleared : Reading → Option Tail → List ℕ → Disk → Type 0
Cleared opened tail log_bytes disk = HasClearedLog (found_layout opened) opened.ckpt (start_of opened) tail log_bytes disk

-- by the layout and from the lsn on that the code has
pub clear-there : (opened : Reading) (tail : Option Tail) (layout : Layout) (start : ℕ) (old : Seen) (result : Result (Unit {0}) DevError) (new : Seen)
    → layout ≡ found_layout opened → start ≡ start_of opened → ClearStep layout opened.ckpt start tail old result new
    → ClearStep (found_layout opened) opened.ckpt (start_of opened) tail old result new
clear-there opened tail layout start old result new is at step =
    subst (λ (n : ℕ). ClearStep (found_layout opened) opened.ckpt n tail old result new) at
    (subst (λ (l : Layout). ClearStep l opened.ckpt start tail old result new) is step)

-- the blocks of each format lie on the device
ring-long : (format : Format) (shape : Shape) → IsWithinLimits shape → ring_end (layout_of format shape) ≤ log_device_length shape
ring-long One shape limits = omega (arith, limits.many_blocks)
ring-long Two shape limits = omega (arith, limits.many_blocks)
ring-long Three shape limits = omega (arith, limits.many_blocks)

pub ring-within : (format : Format) (shape : Shape) (layout : Layout) → IsWithinLimits shape → layout ≡ layout_of format shape → ring_end layout ≤ log_device_length shape
ring-within format shape layout limits is = subst (λ (l : Layout). ring_end l ≤ log_device_length shape) (sym is) (ring-long format shape limits)

from-rests : (opened : Reading) (tail : Option Tail) (log_old data_old : Seen) (log_bytes data_bytes : List ℕ) (disk : Disk) → OpensFrom opened tail log_old data_old log_bytes data_bytes
    → IsFrom log_bytes disk → IsAtRestTo (ring_end (found_layout opened)) disk
from-rests opened tail log_old data_old log_bytes data_bytes disk from is =
    let log : IsLogRead log_bytes opened = log-read log_bytes data_bytes opened from.orderly.reads in
    let within : ring_end (found_layout opened) ≤ log_device_length opened.shape = ring-long opened.format opened.shape log.limits in
    record { rests = is.rests; long = omega (arith, within, log.long, ap length is.reads) }

pub log-clears : (opened : Reading) (tail : Option Tail) (log_old data_old : Seen) (log_bytes data_bytes : List ℕ) (result : Result (Unit {0}) DevError) (new : Seen)
    → OpensFrom opened tail log_old data_old log_bytes data_bytes → ClearStep (found_layout opened) opened.ckpt (start_of opened) tail log_old result new
    → IfSome new.tells (Clears opened tail log_bytes)
log-clears opened tail log_old data_old log_bytes data_bytes result new from step =
    told-step log_old.tells new.tells (IsFrom log_bytes) (Clears opened tail log_bytes) (λ a b. IsAtRestTo (ring_end (found_layout opened)) a → Clears opened tail a.reads b)
    (λ a b is clears. subst (λ (bytes : List ℕ). Clears opened tail bytes b) is.reads (clears (from-rests opened tail log_old data_old log_bytes data_bytes a from is)))
    from.log_from step.keeps

pub log-cleared : (opened : Reading) (tail : Option Tail) (log_old data_old : Seen) (log_bytes data_bytes : List ℕ) (done : Unit {0}) (new : Seen)
    → OpensFrom opened tail log_old data_old log_bytes data_bytes → ClearStep (found_layout opened) opened.ckpt (start_of opened) tail log_old (Ok done) new
    → IfSome new.tells (Cleared opened tail log_bytes)
log-cleared opened tail log_old data_old log_bytes data_bytes done new from step =
    told-step log_old.tells new.tells (IsFrom log_bytes) (Cleared opened tail log_bytes) (λ a b. IsAtRestTo (ring_end (found_layout opened)) a → Cleared opened tail a.reads b)
    (λ a b is cleared. subst (λ (bytes : List ℕ). Cleared opened tail bytes b) is.reads (cleared (from-rests opened tail log_old data_old log_bytes data_bytes a from is)))
    from.log_from step.ok

cleared-clears : (opened : Reading) (tail : Option Tail) (log_bytes : List ℕ) (disk : Disk) → IsLogRead log_bytes opened → Cleared opened tail log_bytes disk → Clears opened tail log_bytes disk
cleared-clears opened tail log_bytes disk log is image fair =
    subst (IsClearing (found_layout opened) opened.ckpt (start_of opened) tail log_bytes) (sym (is.rests.one_image image fair.possible))
    (cleared-clearing (found_layout opened) opened.ckpt (start_of opened) tail log_bytes disk.reads log.log is.cleared)

pub cleared-known : (opened : Reading) (tail : Option Tail) (log_old data_old : Seen) (log_bytes data_bytes : List ℕ) (told : Option Disk) → OpensFrom opened tail log_old data_old log_bytes data_bytes
    → IfSome told (Cleared opened tail log_bytes) → IfSome told (Clears opened tail log_bytes)
cleared-known opened tail log_old data_old log_bytes data_bytes told from known =
    let log : IsLogRead log_bytes opened = log-read log_bytes data_bytes opened from.orderly.reads in
    known-as told (Cleared opened tail log_bytes) (Clears opened tail log_bytes) (λ disk is. cleared-clears opened tail log_bytes disk log is) known

-- WHILE IT IS CLEARED, AND PAGES ARE REPAIRED AND WRITTEN.

pub rewriting-both : (opened : Reading) (tail : Option Tail) (log_old data_old : Seen) (log_bytes data_bytes : List ℕ) (log data_told : Option Disk)
    → OpensFrom opened tail log_old data_old log_bytes data_bytes → IfSome log (Clears opened tail log_bytes) → IfSome data_told (KeepsPlaces opened.shape data_bytes opened)
    → WhereBothTell log data_told (KeepsOpened opened)
rewriting-both opened tail log_old data_old log_bytes data_bytes log data_told from first second =
    both log data_told (Clears opened tail log_bytes) (KeepsPlaces opened.shape data_bytes opened) (KeepsOpened opened)
    (λ l d clears keeps. clearing-keeps opened log_bytes data_bytes tail l d from.orderly.reads from.found clears keeps) first second

-- IT ISN'T OPENED YET, as the header blocks tell.

-- what stood there at the last good sync is a fair image
pub base-fair : (disk : Disk) → IsFairLog disk disk.base
base-fair disk = record { possible = base-image disk; each = λ k inside sealed. record { count = 0; some = omega arith; same = refl } }

pub not-opened : (opened : Reading) (tail : Option Tail) (log_old data_old : Seen) (log_bytes data_bytes image : List ℕ) → OpensFrom opened tail log_old data_old log_bytes data_bytes
    → IsClearing (found_layout opened) opened.ckpt (start_of opened) tail log_bytes image
    → IsUnopened opened.shape opened.number opened.ckpt image
not-opened opened tail log_old data_old log_bytes data_bytes image from clearing =
    let log : IsLogRead log_bytes opened = log-read log_bytes data_bytes opened from.orderly.reads in
    let is : IsTailIn (found_layout opened) opened.ckpt tail = tail-read log_bytes data_bytes opened tail from.orderly.reads from.found in
    let same : (k : ℕ) → k < 4 → sector k image ≡ sector k log_bytes = λ k below.
    clearing-header (found_layout opened) opened.ckpt (start_of opened) tail log_bytes image k log.log is below clearing in
    let newest : newest_checkpoint (found_layout opened) image ≡ Some (opened.number, opened.ckpt) =
    same-newest (found_layout opened) log_bytes image (same 1 (omega arith)) (same 3 (omega arith)) ∙ from.orderly.reads.scan.checkpoint in
    record {
      format = opened.format;
      head = same-head_of log_bytes image (same 0 (omega arith)) (same 2 (omega arith)) ∙ from.orderly.reads.scan.devices.head.head;
      still = still-found opened.format opened.shape opened.number opened.ckpt image newest;
    }

pub unmoved-clears : (opened : Reading) (tail : Option Tail) (log_old data_old : Seen) (log_bytes data_bytes : List ℕ) (told : Option Disk) → OpensFrom opened tail log_old data_old log_bytes data_bytes
    → IfSome told (Clears opened tail log_bytes) → IfSome told (IsNotOpened opened)
unmoved-clears opened tail log_old data_old log_bytes data_bytes told from known =
    known-as told (Clears opened tail log_bytes) (IsNotOpened opened)
    (λ disk clears. not-opened opened tail log_old data_old log_bytes data_bytes disk.base from (clears disk.base (base-fair disk))) known

-- WHILE THE NEXT CHECKPOINT IS PUT.

-- its number doesn't go round
next-is : (opened : Reading) (log_bytes data_bytes : List ℕ) → IsOrderly log_bytes data_bytes opened → next_number opened.number ≡ opened.number + 1
next-is opened log_bytes data_bytes orderly = omega (arith, orderly.numbers_left)

-- the checkpoint that comes next
abbrev NextText : Reading → ℕ → List ℕ
NextText opened number = checkpoint_text number (start_block opened) (found_layout opened)

cleared-rests : (opened : Reading) (tail : Option Tail) (log_old data_old : Seen) (log_bytes data_bytes : List ℕ) (disk : Disk) → OpensFrom opened tail log_old data_old log_bytes data_bytes
    → Cleared opened tail log_bytes disk → IsAtRestTo (log_device_length opened.shape) disk
cleared-rests opened tail log_old data_old log_bytes data_bytes disk from is =
    let log : IsLogRead log_bytes opened = log-read log_bytes data_bytes opened from.orderly.reads in
    record { rests = is.rests; long = omega (arith, log.long, is.cleared.then.same_length, is.cleared.first.same_length) }

-- its place lies on the device
place-rests : (opened : Reading) (tail : Option Tail) (log_old data_old : Seen) (log_bytes data_bytes : List ℕ)
    (disk : Disk) → OpensFrom opened tail log_old data_old log_bytes data_bytes
    → Cleared opened tail log_bytes disk → IsAtRestTo (512 * place_of (next_number opened.number) + 512) disk
place-rests opened tail log_old data_old log_bytes data_bytes disk from is =
    let rests = cleared-rests opened tail log_old data_old log_bytes data_bytes disk from is in
    let at = checkpoint-place (next_number opened.number) in
    record { rests = rests.rests; long = omega (arith, rests.long, at.1) }

-- the step that puts it
abbrev pub MarkStep : Reading → ℕ → Seen → Result (Unit {0}) DevError → Seen → Type 0
MarkStep opened lsn old result new =
    PutStep (place_of (next_number opened.number))
    (next_text opened.format opened.shape opened.number lsn) old result new

-- at the lsn that the code has
pub mark-there : (opened : Reading) (lsn start : ℕ) (old : Seen) (result : Result (Unit {0}) DevError) (new : Seen) → lsn ≡ start - 12 → start ≡ start_of opened
    → MarkStep opened lsn old result new → MarkStep opened (start_block opened) old result new
mark-there opened lsn start old result new is at =
    subst (λ (n : ℕ). MarkStep opened n old result new) (is ∙ ap (λ n. n - 12) at)

-- the log that was cleared, and what becomes of it
record HasMarks (opened : Reading) (tail : Option Tail) (log_bytes : List ℕ) (disk : Disk) : Type 0 where
  old_log : List ℕ
  cleared : IsCleared (found_layout opened) opened.ckpt (start_of opened) tail log_bytes old_log
  puts : PutsBlock (place_of (next_number opened.number)) (NextText opened (next_number opened.number)) old_log disk

pub marking-both : (opened : Reading) (tail : Option Tail) (log_old data_old : Seen) (log_bytes data_bytes : List ℕ) (mid : Seen) (result : Result (Unit {0}) DevError) (new : Seen) (data_told : Option Disk)
    → OpensFrom opened tail log_old data_old log_bytes data_bytes → IfSome mid.tells (Cleared opened tail log_bytes)
    → MarkStep opened (start_block opened) mid result new → IfSome data_told (HoldsPlaces opened.shape opened)
    → WhereBothTell new.tells data_told (KeepsOpened opened)
marking-both opened tail log_old data_old log_bytes data_bytes mid result new data_told from known step second =
    let k : ℕ = place_of (next_number opened.number) in
    let text : List ℕ = NextText opened (next_number opened.number) in
    let next : next_number opened.number ≡ opened.number + 1 = next-is opened log_bytes data_bytes from.orderly in
    both new.tells data_told (HasMarks opened tail log_bytes) (HoldsPlaces opened.shape opened) (KeepsOpened opened)
    (λ l d has holds. marking-keeps opened log_bytes data_bytes has.old_log tail l d from.orderly from.found has.cleared
    (λ image fair. subst (λ (n : ℕ). IsPutting (place_of n) (NextText opened n) has.old_log image) next
    (has.puts image fair))
    holds)
    (told-step mid.tells new.tells (Cleared opened tail log_bytes) (HasMarks opened tail log_bytes)
    (λ a b. IsAtRestTo (512 * k + 512) a → PutsBlock k text a.reads b)
    (λ a b cleared puts. record {
      old_log = a.reads;
      cleared = cleared.cleared;
      puts = puts (place-rests opened tail log_old data_old log_bytes data_bytes a from cleared);
    }) known step.keeps)
    second

-- ONCE IT STAYS, the store is ready by the format that was found.

one-taken : (format : Format) → format ≢ One → numbers_taken format ≡ 1
one-taken One other = absurd (other refl)
one-taken Two other = refl
one-taken Three other = refl

-- a run can start, where that isn't the first one
marked-is_fresh : (opened : Reading) (tail : Option Tail) (log_old data_old : Seen)
    (log_bytes data_bytes old_log : List ℕ) (disk : Disk) → OpensFrom opened tail log_old data_old log_bytes data_bytes
    → IsCleared (found_layout opened) opened.ckpt (start_of opened) tail log_bytes old_log → opened.format ≢ One
    → IsPut (place_of (opened.number + 1)) (NextText opened (opened.number + 1)) old_log disk.base
    → disk ≡ settled disk.base
    → IsFreshBy opened.shape opened disk
marked-is_fresh opened tail log_old data_old log_bytes data_bytes old_log disk from cleared other put nothing =
    subst (IsFreshBy opened.shape opened) (sym nothing)
    (subst (λ (n : ℕ). IsFresh opened.shape (start_of opened) n (settled disk.base))
    (ap (λ (n : ℕ). opened.number + n) (sym (one-taken opened.format other)))
    (marked-fresh opened log_bytes data_bytes old_log disk.base tail from.orderly from.found from.alike other cleared
    put))

-- a store of format 3 has the sizes of a run
found-sizes : (opened : Reading) (log_bytes data_bytes : List ℕ) → IsOrderly log_bytes data_bytes opened
    → opened.format ≡ Three
    → opened.shape ≡ run_shape opened.shape
found-sizes opened log_bytes data_bytes orderly is =
    let sizes = head-sizes (header_block 0 log_bytes) (header_block 2 log_bytes) opened.format opened.shape
    orderly.reads.scan.devices.head.head in
    let full = subst (λ (f : Format). has_sizes_of f opened.shape ≡ true) is sizes in
    ap (with_slots opened.shape) (sizes_facts opened.shape full).1.1

found-shape_by : (opened : Reading) (log_bytes data_bytes : List ℕ) (format : Format)
    → IsOrderly log_bytes data_bytes opened → opened.format ≡ format
    → opened.shape ≡ shape_by format opened.shape
found-shape_by opened log_bytes data_bytes One orderly is = refl
found-shape_by opened log_bytes data_bytes Two orderly is = refl
found-shape_by opened log_bytes data_bytes Three orderly is = found-sizes opened log_bytes data_bytes orderly is

marked-is_ready : (opened : Reading) (tail : Option Tail) (log_old data_old : Seen)
    (log_bytes data_bytes old_log : List ℕ) (disk : Disk) (format : Format)
    → OpensFrom opened tail log_old data_old log_bytes data_bytes
    → IsCleared (found_layout opened) opened.ckpt (start_of opened) tail log_bytes old_log → opened.format ≡ format
    → IsPut (place_of (opened.number + 1)) (NextText opened (opened.number + 1)) old_log disk.base
    → disk ≡ settled disk.base
    → IsReadyLog format opened log_bytes disk
marked-is_ready opened tail log_old data_old log_bytes data_bytes old_log disk One from cleared is put nothing =
    record {
      format_is = is;
      alike = from.alike;
      tail = tail;
      found = from.found;
      old_log = old_log;
      cleared = cleared;
      put = put;
      nothing_pending = nothing;
    }
marked-is_ready opened tail log_old data_old log_bytes data_bytes old_log disk Two from cleared is put nothing =
    marked-is_fresh opened tail log_old data_old log_bytes data_bytes old_log disk from cleared
    (λ one. (let other : Two ≡ One = sym is ∙ one in absurd cc)) put nothing
marked-is_ready opened tail log_old data_old log_bytes data_bytes old_log disk Three from cleared is put nothing =
    subst (λ (s : Shape). IsFreshBy s opened disk) (found-sizes opened log_bytes data_bytes from.orderly is)
    (marked-is_fresh opened tail log_old data_old log_bytes data_bytes old_log disk from cleared
    (λ one. (let other : Three ≡ One = sym is ∙ one in absurd cc)) put nothing)

marked-log : (opened : Reading) (tail : Option Tail) (log_old data_old : Seen) (log_bytes data_bytes : List ℕ)
    (mid : Seen) (done : Unit {0}) (new : Seen)
    → OpensFrom opened tail log_old data_old log_bytes data_bytes → IfSome mid.tells (Cleared opened tail log_bytes)
    → MarkStep opened (start_block opened) mid (Ok done) new
    → IfSome new.tells (IsReadyLog opened.format opened log_bytes)
marked-log opened tail log_old data_old log_bytes data_bytes mid done new from known step =
    let k : ℕ = place_of (next_number opened.number) in
    let text : List ℕ = NextText opened (next_number opened.number) in
    let next : next_number opened.number ≡ opened.number + 1 = next-is opened log_bytes data_bytes from.orderly in
    told-step mid.tells new.tells (Cleared opened tail log_bytes) (IsReadyLog opened.format opened log_bytes)
    (λ a b. IsAtRestTo (512 * k + 512) a → HasPut k text a.reads b)
    (λ a b cleared puts. (
    let has : HasPut k text a.reads b = puts (place-rests opened tail log_old data_old log_bytes data_bytes a from
    cleared) in
    marked-is_ready opened tail log_old data_old log_bytes data_bytes a.reads b opened.format from cleared.cleared refl
    (subst (λ (n : ℕ). IsPut (place_of n) (NextText opened n) a.reads b.base) next has.put) has.nothing_pending))
    known step.ok

pub marked-ready : (opened : Reading) (tail : Option Tail) (log_old data_old : Seen) (log_bytes data_bytes : List ℕ)
    (mid : Seen) (done : Unit {0}) (new data_new : Seen)
    → OpensFrom opened tail log_old data_old log_bytes data_bytes → IfSome mid.tells (Cleared opened tail log_bytes)
    → MarkStep opened (start_block opened) mid (Ok done) new → IfSome data_new.tells (HoldsPlaces opened.shape opened)
    → IsReadyAt opened.format opened new data_new log_bytes data_bytes
marked-ready opened tail log_old data_old log_bytes data_bytes mid done new data_new from known step holds = record {
  orderly = from.orderly;
  log_ready = marked-log opened tail log_old data_old log_bytes data_bytes mid done new from known step;
  data_ready = subst (λ (s : Shape). IfSome data_new.tells (HoldsPlaces s opened))
      (found-shape_by opened log_bytes data_bytes opened.format from.orderly refl) holds;
}

-- until then it isn't opened
pub unmoved-marks : (opened : Reading) (tail : Option Tail) (log_old data_old : Seen) (log_bytes data_bytes : List ℕ) (mid : Seen) (error : DevError) (new : Seen)
    → OpensFrom opened tail log_old data_old log_bytes data_bytes → IfSome mid.tells (Cleared opened tail log_bytes)
    → MarkStep opened (start_block opened) mid (Err error) new → IfSome new.tells (IsNotOpened opened)
unmoved-marks opened tail log_old data_old log_bytes data_bytes mid error new from known step =
    let log : IsLogRead log_bytes opened = log-read log_bytes data_bytes opened from.orderly.reads in
    told-step mid.tells new.tells (Cleared opened tail log_bytes) (IsNotOpened opened)
    (λ (a b : Disk). b.base ≡ a.base)
    (λ a b cleared same. subst (IsUnopened opened.shape opened.number opened.ckpt) (sym same)
    (not-opened opened tail log_old data_old log_bytes data_bytes a.base from
    (cleared-clears opened tail log_bytes a log cleared a.base (base-fair a)))) known step.unmoved
