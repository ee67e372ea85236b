-- What opening promises of devices by how they were handed in: what was unsynced in them then is its proviso.
use Rattle.std.proofs.Common.{◌≡◌, ◌≢◌, ◌⊎◌, inl, inr, ℕ, List, Option, Some, None, Err, refl, sym, ap, subst, ⊎_elim}
use Rattle.std.specs.Prelude.{IfSome}
use Rattle.model_base.specs.declared.shape.Shape.{Shape}
use Rattle.model_device.specs.{synced, Disk}
use Rattle.model_log.specs.{layout_of, newest_checkpoint, run_layout}
use Rattle.model_log.specs.declared.head.Format.{Format}
use Rattle.model_log.specs.declared.head.Format.TheVariants.{One, Two, Three}
use Rattle.model_parts.specs.{IsAtRest, IsOpenable, IsUnopened, KeepsOpened}
use Rattle.model_parts.proofs.Keeping.{openable-keeps}
use Rattle.model_store.specs.{IsOrderly, Reading}
use Rattle.redo_disk.specs.{OnTold, StillTells, WhereTold, Seen}
use Rattle.redo_disk.proofs.Told.{known-as, where-still, where-then, where-told}
use Rattle.redo_open.specs.Devices.{IsNotOpened, WhereBothTell}
use Rattle.redo_open.specs.Opening.{IsSyncedSince, OpenResult, OpensSafely, data_device_left, log_device_left}
use Rattle.redo_open.proofs.Rests.{base-image, settled-rests}
use Rattle.redo_recover.specs.declared.fault.RecFault.{RecFault}
use Rattle.redo_recover.specs.declared.fault.RecFault.TheVariants.{NoMemory}

both-as : (log data_told : Option Disk) (R S : Disk → Disk → Type 0) → ((l d : Disk) → R l d → S l d)
    → WhereBothTell log data_told R → WhereBothTell log data_told S
both-as None data_told R S step holds = tt
both-as (Some l) None R S step holds = tt
both-as (Some l) (Some d) R S step holds = step l d holds

-- what crashes keep once both devices are synced, and what stands on the log device then
abbrev KeepsSince : Reading → Disk → Disk → Disk → Disk → Type 0
KeepsSince opened log_entry data_entry l d =
    IsSyncedSince log_entry l → IsSyncedSince data_entry d → KeepsOpened opened l d

abbrev IsUnopenedSince : Reading → Disk → Disk → Type 0
IsUnopenedSince opened log_entry l = IsSyncedSince log_entry l → IsNotOpened opened l

-- WHAT HOLDS ANYWAY holds once they are synced.

pub keeps-anyway : (opened : Reading) (log_entry data_entry : Disk) (log data_told : Option Disk)
    → WhereBothTell log data_told (KeepsOpened opened)
    → WhereBothTell log data_told (λ l d. IsSyncedSince log_entry l → IsSyncedSince data_entry d
    → KeepsOpened opened l d)
keeps-anyway opened log_entry data_entry log data_told =
    both-as log data_told (KeepsOpened opened) (KeepsSince opened log_entry data_entry)
    (λ l d keeps log_since data_since. keeps)

pub unmoved-anyway : (opened : Reading) (log_entry : Disk) (log : Option Disk) → IfSome log (IsNotOpened opened)
    → IfSome log (λ l. IsSyncedSince log_entry l → IsNotOpened opened l)
unmoved-anyway opened log_entry log =
    known-as log (IsNotOpened opened) (IsUnopenedSince opened log_entry) (λ l unmoved since. unmoved)

-- AND ALL OF IT holds anyway where both were at rest.

pub rests-keeps : {L D : Type 0} (log_seen : L → Seen) (data_seen : D → Seen) (opened : Reading) (l d : Disk)
    (result : OpenResult L D) → IsOpenable opened l d → OpensSafely log_seen data_seen opened l d result
    → WhereBothTell (log_seen (log_device_left result)).tells (data_seen (data_device_left result)).tells
    (KeepsOpened opened)
rests-keeps log_seen data_seen opened l d result is opens =
    both-as (log_seen (log_device_left result)).tells (data_seen (data_device_left result)).tells
    (KeepsSince opened l d) (KeepsOpened opened)
    (λ a b keeps. keeps (λ same. is.log_rests) (λ same. is.data_rests)) opens.keeps

pub rests-unmoved : {L D : Type 0} (log_seen : L → Seen) (data_seen : D → Seen) (opened : Reading) (l d : Disk)
    (error : RecFault × L × D) → IsOpenable opened l d → OpensSafely log_seen data_seen opened l d (Err error)
    → error.0 ≢ NoMemory → IfSome (log_seen error.1).tells (IsNotOpened opened)
rests-unmoved log_seen data_seen opened l d error is opens other =
    known-as (log_seen error.1).tells (IsUnopenedSince opened l) (IsNotOpened opened)
    (λ a unmoved. unmoved (λ same. is.log_rests)) (opens.unmoved other)

-- WHERE NOTHING WAS WRITTEN, a device is as it was handed in, or synced.

abbrev pub IsUnwritten : Disk → Disk → Type 0
IsUnwritten entry now = (now ≡ entry) ⊎ (now ≡ synced entry)

pub unwritten-still : (entry now : Option Disk) → StillTells entry now → WhereTold entry now IsUnwritten
unwritten-still entry now = where-still entry now IsUnwritten (λ disk. inl refl)

-- it was only read, and then synced
pub unwritten-synced : (entry read now : Option Disk) → StillTells entry read
    → OnTold read now (λ before after. after ≡ synced before) → WhereTold entry now IsUnwritten
unwritten-synced entry read now still told =
    let first = where-still entry read (λ before after. after ≡ before) (λ disk. refl) still in
    let second = where-told read now (λ before after. after ≡ synced before) told in
    where-then entry read now (λ before after. after ≡ before) (λ before after. after ≡ synced before) IsUnwritten
    (λ a b c same is. inr (subst (λ (disk : Disk). c ≡ synced disk) same is)) first second

unwritten-since : (entry now : Disk) → WhereTold (Some entry) (Some now) IsUnwritten → IsUnwritten entry now
unwritten-since entry now told =
    let same : Some entry ≡ Some told.0 = told.1 in
    let one : told.0 ≡ entry = cc in subst (λ (disk : Disk). IsUnwritten disk now) one told.2

unwritten-rests : (entry now : Disk) → IsUnwritten entry now → IsSyncedSince entry now → IsAtRest now
unwritten-rests entry now is since =
    ⊎_elim (λ same. subst IsAtRest (sym same) (since same))
    (λ same. subst IsAtRest (sym same) (settled-rests entry.reads)) is

unwritten-reads : (entry now : Disk) → IsUnwritten entry now → now.reads ≡ entry.reads
unwritten-reads entry now is =
    ⊎_elim (λ same. ap (λ (disk : Disk). disk.reads) same) (λ same. ap (λ (disk : Disk). disk.reads) same) is

unwritten-orderly : (opened : Reading) (l d a b : Disk) → IsOrderly l.reads d.reads opened → IsUnwritten l a
    → IsUnwritten d b → IsOrderly a.reads b.reads opened
unwritten-orderly opened l d a b orderly first second =
    subst (λ (bytes : List ℕ). IsOrderly bytes b.reads opened) (sym (unwritten-reads l a first))
    (subst (λ (bytes : List ℕ). IsOrderly l.reads bytes opened) (sym (unwritten-reads d b second)) orderly)

unwritten-keeps : (opened : Reading) (l d : Disk) (log data_told : Option Disk) → IsOrderly l.reads d.reads opened
    → WhereTold (Some l) log IsUnwritten → WhereTold (Some d) data_told IsUnwritten
    → WhereBothTell log data_told (λ a b. IsSyncedSince l a → IsSyncedSince d b → KeepsOpened opened a b)
unwritten-keeps opened l d None data_told orderly first second = tt
unwritten-keeps opened l d (Some a) None orderly first second = tt
unwritten-keeps opened l d (Some a) (Some b) orderly first second = λ log_since data_since.
    let log_is : IsUnwritten l a = unwritten-since l a first in
    let data_is : IsUnwritten d b = unwritten-since d b second in
    openable-keeps opened a b (record {
      log_rests = unwritten-rests l a log_is log_since;
      data_rests = unwritten-rests d b data_is data_since;
      orderly = unwritten-orderly opened l d a b orderly log_is data_is;
    })

-- in format 3 the newest checkpoint is the one that was found
pub still-found : (format : Format) (shape : Shape) (number ckpt : ℕ) (bytes : List ℕ)
    → newest_checkpoint (layout_of format shape) bytes ≡ Some (number, ckpt)
    → (format ≢ Three) ⊎ (newest_checkpoint (run_layout shape) bytes ≡ Some (number, ckpt))
still-found One shape number ckpt bytes newest = inl (λ is. absurd cc)
still-found Two shape number ckpt bytes newest = inl (λ is. absurd cc)
still-found Three shape number ckpt bytes newest = inr newest

-- what stood on a log device at rest at its last good sync is what reads give
rests-unopened : (opened : Reading) (log : Disk) (data_bytes : List ℕ) → IsAtRest log
    → IsOrderly log.reads data_bytes opened → IsNotOpened opened log
rests-unopened opened log data_bytes rests orderly =
    let base : log.base ≡ log.reads = rests.one_image log.base (base-image log) in
    let scan = orderly.reads.scan in
    subst (IsUnopened opened.shape opened.number opened.ckpt) (sym base) (record {
      format = opened.format;
      head = scan.devices.head.head;
      still = still-found opened.format opened.shape opened.number opened.ckpt log.reads scan.checkpoint;
    })

unwritten-unmoved : (opened : Reading) (l d : Disk) (log : Option Disk) → IsOrderly l.reads d.reads opened
    → WhereTold (Some l) log IsUnwritten → IfSome log (λ a. IsSyncedSince l a → IsNotOpened opened a)
unwritten-unmoved opened l d None orderly first = tt
unwritten-unmoved opened l d (Some a) orderly first = λ since.
    let is : IsUnwritten l a = unwritten-since l a first in
    rests-unopened opened a d.reads (unwritten-rests l a is since)
    (unwritten-orderly opened l d a d orderly is (inl refl))

pub unwritten-safely : {L D : Type 0} (log_seen : L → Seen) (data_seen : D → Seen) (opened : Reading)
    (log data_told : Option Disk) (error : RecFault × L × D) → WhereTold log (log_seen error.1).tells IsUnwritten
    → WhereTold data_told (data_seen error.2).tells IsUnwritten
    → WhereBothTell log data_told (λ l d. IsOrderly l.reads d.reads opened
    → OpensSafely log_seen data_seen opened l d (Err error))
unwritten-safely log_seen data_seen opened None data_told error first second = tt
unwritten-safely log_seen data_seen opened (Some l) None error first second = tt
unwritten-safely log_seen data_seen opened (Some l) (Some d) error first second = λ orderly. record {
  keeps = unwritten-keeps opened l d (log_seen error.1).tells (data_seen error.2).tells orderly first second;
  unmoved = λ other. unwritten-unmoved opened l d (log_seen error.1).tells orderly first;
  ready = tt;
}
