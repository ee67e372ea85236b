-- Calls that only read, one after another.
use Rattle.std.proofs.Common.{ℕ, List, Option, Some, None, refl, subst, ◌∙◌, arith}
use Rattle.redo_disk.specs.{Seen, StillTells}
use Rattle.redo_recover.specs.Devices.{IsUnchanged, OnContent, OnContents, log_fault_of}
use Rattle.redo_disk.proofs.Told.{still-known, still-same, still-then}
use Rattle.model_device.specs.{Disk}
use Rattle.redo_disk.specs.declared.error.DevError.{DevError}
use Rattle.redo_disk.specs.declared.error.DevError.TheVariants.{Failed, NoMemory}
use Rattle.redo_recover.specs.Recovery.{IsCaused}

pub IsUnchanged-then : (old middle new : Seen) → IsUnchanged old middle → IsUnchanged middle new → IsUnchanged old new
IsUnchanged-then old middle new first second = record {
  tells = still-then old.tells middle.tells new.tells first.tells second.tells;
  crashed_from = second.crashed_from ∙ first.crashed_from;
  size = second.size ∙ first.size;
  later = omega (arith, first.later, second.later);
}

pub IsUnchanged-same : (seen : Seen) → IsUnchanged seen seen
IsUnchanged-same seen = record { tells = still-same seen.tells seen.tells refl; crashed_from = refl; size = refl; later = omega arith }

-- what is known of the content of a device that was only read
pub content-after : (old new : Seen) (P : List ℕ → Type 0) → IsUnchanged old new → OnContent old.tells P → OnContent new.tells P
content-after old new P same known = still-known old.tells new.tells (λ disk. P disk.reads) same.tells known

contents-still : (log log_now data_told data_now : Option Disk) (P : List ℕ → List ℕ → Type 0) → StillTells log log_now → StillTells data_told data_now
    → OnContents log data_told P → OnContents log_now data_now P
contents-still log None data_told data_now P first second known = tt
contents-still log (Some l) data_told data_now P first second known =
    let here : OnContents (Some l) data_told P = subst (λ (told : Option Disk). OnContents told data_told P) first known in
    still-known data_told data_now (λ disk. P l.reads disk.reads) second here

pub contents-after : (old new other other_new : Seen) (P : List ℕ → List ℕ → Type 0) → IsUnchanged old new → IsUnchanged other other_new
    → OnContents old.tells other.tells P → OnContents new.tells other_new.tells P
contents-after old new other other_new P same also known = contents-still old.tells new.tells other.tells other_new.tells P same.tells also.tells known

-- a device's answer names no cause
pub log_fault-caused : (log data_device : Seen) (error : DevError) → IsCaused log data_device (log_fault_of error)
log_fault-caused log data_device Failed = record { lengths = tt; cause = tt }
log_fault-caused log data_device NoMemory = record { lengths = tt; cause = tt }
