-- The store that two devices open: as they were handed in, and as the arming of their fuses found them.
use Rattle.std.proofs.Common.{ℕ, ◌≡◌, ◌≢◌, ◌<◌, ◌+◌, cond, List, Option, Some, None, refl, sym, ap, subst, ◌∙◌, inl, ⊎_elim, arith}
use Rattle.model_base.proofs.ShapeLimits.{default_within}
use Rattle.model_base.specs.{default_shape, IsWithinLimits, run_shape}
use Rattle.model_base.specs.declared.shape.Shape.{Shape}
use Rattle.model_device.specs.{Disk}
use Rattle.model_log.specs.{fits_checksum, head_among, head_of, header_block, layout_of, newest_checkpoint, read_head}
use Rattle.model_log.specs.declared.head.Format.{Format}
use Rattle.model_log.specs.declared.head.Format.TheVariants.{One, Two, Three}
use Rattle.model_log.specs.declared.head.Head.TheVariants.{Unformatted}
use Rattle.model_page.specs.declared.content.Content.{Content}
use Rattle.model_parts.proofs.Unread.{unsealed-head, zeros-unsealed}
use Rattle.model_parts.specs.{formatted_store, IsAtRest, IsOpenable, IsUnsealed, KeepsOpened, numbers_taken, zero_block}
use Rattle.model_script.specs.declared.script.ScriptLine.{ScriptLine}
use Rattle.model_store.proofs.Heads.{head-limits}
use Rattle.model_store.specs.{IsFair, IsFairLog, IsReading, IsUnused, Opens, OpensOrderly, Reading}
use Rattle.model_store.specs.declared.refusal.Refusal.TheVariants.{NotFormatted}
use Rattle.model_theorem.proofs.Sizes.{own-fair}
use Rattle.model_theorem.specs.{HasCheckpoint, HeldOlder, IsOpenedBefore, Opened, opened_as, ReadsPrefix}
use Rattle.redo_open.specs.{IsNotOpened}
use Rattle.redo_lab.specs.declared.playing.Stops.{Stops}
use Rattle.redo_lab.proofs.Told.{some-told}
use Rattle.redo_lab.specs.Call.{IsSettledAtEntry, LabCall, WhereOpened}
use Rattle.redo_lab.specs.Devices.{AreArmed, ArePrepared}
use Rattle.redo_lab.specs.Laws.{Laws}
use Rattle.redo_lab.specs.Told.{DevicesOpenAs}

-- a device that told goes on telling
-- what two equal devices tell is the same
pub same-told : (old new : Option Disk) (before now : Disk) → new ≡ old → old ≡ Some before → new ≡ Some now → before ≡ now
same-told old new before now same before_is now_is = cc

-- two blocks of zeros name no store
zeros-unformatted : (first second : List ℕ) → first ≡ zero_block → second ≡ zero_block → head_among first second ≡ Unformatted
zeros-unformatted first second first_is second_is =
    ap (λ b. cond b (read_head first) (read_head second)) (ap fits_checksum first_is ∙ zeros-unsealed)
    ∙ unsealed-head second (subst IsUnsealed (sym second_is) zeros-unsealed)

-- a log device that is unused isn't read
pub unused-unread : Laws → (log data_bytes : List ℕ) (reading : Reading) → IsUnused log → IsReading log data_bytes reading → ⊥
unused-unread laws log data_bytes reading unused is_read =
    laws.one_answer log data_bytes reading NotFormatted is_read
    (is_read.scan.devices.head.long, zeros-unformatted (header_block 0 log) (header_block 2 log) unused.first unused.second)

at-rest : (disk : Disk) (faults : ℕ) → IsSettledAtEntry disk faults → IsAtRest disk
at-rest disk faults fresh = record { one_image = fresh.one_image; reads = fresh.valid.reads; sectors = fresh.valid.writes }

pub openable-fresh : (log data_disk : Disk) (log_faults data_faults : ℕ) (opened : Opened) → IsSettledAtEntry log log_faults → IsSettledAtEntry data_disk data_faults
    → (opens : OpensOrderly log.reads data_disk.reads opened.shape opened.pages opened.end) → IsOpenable opens.reading log data_disk
openable-fresh log data_disk log_faults data_faults opened log_fresh data_fresh opens = record {
  log_rests = at-rest log log_faults log_fresh;
  data_rests = at-rest data_disk data_faults data_fresh;
  orderly = opens.orderly;
}

-- stores that are opened with the same values are one
same-opened : (a b : Opened) → a.shape ≡ b.shape → a.pages ≡ b.pages → a.end ≡ b.end → a ≡ b
same-opened a b shape pages end =
    ap (λ (s : Shape). record a { shape = s }) shape
    ∙ ap (λ (p : List Content). record a { shape = b.shape; pages = p }) pages
    ∙ ap (λ (n : ℕ). record b { end = n }) end

-- WHAT IS OPENED is determined.
pub one-opened : Laws → (log data_disk : Disk) (a b : Opened) → DevicesOpenAs a log data_disk → Opens log.reads data_disk.reads b.shape b.pages b.end → a ≡ b
one-opened laws log data_disk a b opens_a opens_b = ⊎_elim
    (λ unused_a. ⊎_elim
    (λ unused_b. same-opened a b (unused_a.shape_is ∙ sym unused_b.shape_is) (unused_a.pages_are ∙ sym unused_b.pages_are) (unused_a.end_is ∙ sym unused_b.end_is))
    (λ orderly. absurd (unused-unread laws log.reads data_disk.reads orderly.reading unused_a.unused orderly.orderly.reads))
    opens_b)
    (λ read_a. ⊎_elim
    (λ unused_b. absurd (read_a.0 unused_b.unused))
    (λ orderly.
    let is = laws.one_reading log.reads data_disk.reads read_a.1.reading orderly.reading read_a.1.is_read orderly.orderly.reads in
    same-opened a b
    (read_a.1.shape ∙ ap (λ (r : Reading). run_shape r.shape) is ∙ sym orderly.shape_is)
    (read_a.1.pages ∙ ap (λ (r : Reading). r.pages) is ∙ sym orderly.pages_are)
    (read_a.1.end ∙ ap (λ (r : Reading). r.end) is ∙ sym orderly.end_is))
    opens_b)
    opens_a

-- THE STORE WAS FOUND so when the fuses were armed.
pub record WasFound (call : LabCall) (opened : Opened) : Type 0 where
  pub reading : Reading
  pub same : opened ≡ opened_as reading
  pub log : Disk
  pub data_disk : Disk
  pub log_is : call.log.armed_from ≡ Some log
  pub data_is : call.store.armed_from ≡ Some data_disk
  pub openable : IsOpenable reading log data_disk

pub was-found : (call : LabCall) → Laws → ArePrepared call
    → (call.log.now.tells ≢ None → call.log.armed_from ≢ None) → (call.store.now.tells ≢ None → call.store.armed_from ≢ None)
    → (opened : Opened) → WhereOpened call opened (WasFound call opened)
was-found call laws prepared log_tells data_tells opened log data_disk log_is data_is log_on data_on log_fresh data_fresh opens =
    let log_told = some-told call.log.armed_from (log_tells log_on) in
    let data_told = some-told call.store.armed_from (data_tells data_on) in
    ⊎_elim
    (λ unused. ⊎_elim
    (λ formatted. record {
      reading = formatted_store default_shape;
      same = same-opened opened (opened_as (formatted_store default_shape)) unused.shape_is unused.pages_are unused.end_is;
      log = log_told.0;
      data_disk = data_told.0;
      log_is = log_told.1;
      data_is = data_told.1;
      openable = laws.formatted default_shape log_told.0 data_told.0 default_within (formatted.formatted log_told.0 data_told.0 log_told.1 data_told.1);
    })
    (λ in_use. absurd (in_use.used log data_disk log_is data_is log_on data_on unused.unused))
    prepared.which)
    (λ orderly. ⊎_elim
    (λ formatted. absurd (unused-unread laws log.reads data_disk.reads orderly.reading (formatted.unused log data_disk log_is data_is log_on data_on) orderly.orderly.reads))
    (λ in_use. record {
      reading = orderly.reading;
      same = same-opened opened (opened_as orderly.reading) orderly.shape_is orderly.pages_are orderly.end_is;
      log = log;
      data_disk = data_disk;
      log_is = in_use.kept.0 log_on ∙ log_is;
      data_is = in_use.kept.1 data_on ∙ data_is;
      openable = openable-fresh log data_disk call.log.entry.faults call.store.entry.faults opened log_fresh data_fresh orderly;
    })
    prepared.which)
    opens

pub found-armed : (call : LabCall) {stops : Stops} → Laws → AreArmed call stops → (opened : Opened) → WhereOpened call opened (WasFound call opened)
found-armed call laws armed opened = was-found call laws armed.prepared armed.log_device.told armed.data_device.told opened

-- THE CHECKPOINT THAT WAS FOUND: what stood there at the last good sync is an image.
found-checkpoint : (reading : Reading) (log data_disk : Disk) → IsOpenable reading log data_disk
    → HasCheckpoint reading.format reading.shape reading.number reading.ckpt log.base
found-checkpoint reading log data_disk openable =
    let same : log.base ≡ log.reads = openable.log_rests.one_image log.base (record { same_length = refl; each = λ k below. inl refl }) in
    record {
      head = ap head_of same ∙ openable.orderly.reads.scan.devices.head.head;
      newest = ap (newest_checkpoint (layout_of reading.format reading.shape)) same ∙ openable.orderly.reads.scan.checkpoint;
    }

some-taken : (format : Format) → 0 < numbers_taken format
some-taken One = omega arith
some-taken Two = omega arith
some-taken Three = omega arith

-- is older than those that opening makes
pub held-older : (reading : Reading) (log data_disk : Disk) → IsOpenable reading log data_disk
    → HeldOlder (run_shape reading.shape) (reading.number + numbers_taken reading.format) log
held-older reading log data_disk openable = record {
  was = reading.shape;
  found = reading.number;
  ckpt = reading.ckpt;
  newest = record { runs_by = refl; format = reading.format; newest = found-checkpoint reading log data_disk openable };
  older = omega (arith, some-taken reading.format);
}

-- OPENING WAS STOPPED where the log device tells that it hasn't come to its end.
pub stopped-before : (reading : Reading) (log data_disk left : Disk) → IsOpenable reading log data_disk → IsNotOpened reading left
    → IsOpenedBefore (run_shape reading.shape) log left None
stopped-before reading log data_disk left openable unmoved = record {
  was = reading.shape;
  number = reading.number;
  ckpt = reading.ckpt;
  found = record { runs_by = refl; format = reading.format; newest = found-checkpoint reading log data_disk openable };
  ends = unmoved;
}

-- a store that can be opened has sizes within the limits
pub openable-limits : (reading : Reading) (log data_disk : Disk) → IsOpenable reading log data_disk → IsWithinLimits reading.shape
openable-limits reading log data_disk openable =
    head-limits (header_block 0 log.reads) (header_block 2 log.reads) reading.format reading.shape
    openable.orderly.reads.scan.devices.head.head

-- the opened pages are those of no group
pub prefix-opened : (script : List ScriptLine) (reading : Reading) (log_disk data_disk : Disk) → IsWithinLimits reading.shape
    → KeepsOpened reading log_disk data_disk
    → (log_bytes data_bytes : List ℕ) → IsFairLog log_disk log_bytes → IsFair (run_shape reading.shape) data_disk data_bytes
    → ReadsPrefix script (opened_as reading) None log_bytes data_bytes
prefix-opened script reading log_disk data_disk limits keeps log_bytes data_bytes image fair =
    let read = keeps log_bytes data_bytes image (own-fair reading.shape data_disk data_bytes limits fair) in
    record {
      reading = read.reading;
      is_read = read.is_read;
      old_copies = read.old_copies;
      prefix = record {
        shape = read.shape;
        shape_of_run = tt;
        first_groups_whole = read.pages;
        reaching_flushed = λ i entry at flushed. absurd (cc);
        marks = tt;
      };
    }

-- of whatever script
pub prefix-none : (script other : List ScriptLine) (opened : Opened) (log_bytes data_bytes : List ℕ) → ReadsPrefix script opened None log_bytes data_bytes
    → ReadsPrefix other opened None log_bytes data_bytes
prefix-none script other opened log_bytes data_bytes read = record {
  reading = read.reading;
  is_read = read.is_read;
  old_copies = read.old_copies;
  prefix = record {
    shape = read.prefix.shape;
    shape_of_run = tt;
    first_groups_whole = read.prefix.first_groups_whole;
    reaching_flushed = read.prefix.reaching_flushed;
    marks = tt;
  };
}
