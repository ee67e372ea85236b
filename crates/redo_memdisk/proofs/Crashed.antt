-- What a device in memory means after a call.
use Rattle.std.proofs.Common.{◌≡◌, ◌++◌, [], ◌∷◌, ℕ, List, length, Option, Some, refl, sym, ap, subst, ◌∙◌, arith}
use Rattle.std.proofs.lemmas.List.Sums.{fold-append}
use Rattle.model_device.specs.{after_write, AreSectorWrites, crash_image, crashed, Crashes, FailsWrite, written, Disk}
use Rattle.model_device.specs.declared.write.Write.{Write}
use Rattle.model_device.proofs.CrashParts.{IsImage-crash_image}
use Rattle.redo_disk.specs.{CrashStep, IsRange, write_at}
use Rattle.redo_memdisk.specs.Memory.{pending_disk}
use Rattle.redo_memdisk.proofs.Applied.{HasSize-sectors}
use Rattle.redo_memdisk.proofs.Writes.{FailsWrite-written}

Crashes-pending : (cut pick : ℕ) (base : List ℕ) (writes : List Write) (new : Disk) → AreSectorWrites (length base) writes
    → new ≡ crashed cut pick (pending_disk base writes) → Crashes (pending_disk base writes) new
Crashes-pending cut pick base writes new sectors new_is = record {
  image = crash_image cut pick (pending_disk base writes);
  possible = IsImage-crash_image (pending_disk base writes) cut pick sectors;
  left = new_is;
}

-- the crash as a reader sees it
pub CrashStep-pending : (cut pick : ℕ) (base : List ℕ) (writes : List Write) (new : Disk) (before after : Option Disk) (faults : ℕ) → AreSectorWrites (length base) writes
    → new ≡ crashed cut pick (pending_disk base writes) → after ≡ Some (pending_disk base writes)
    → CrashStep (record { size = length base; tells = Some (pending_disk base writes); crashed_from = before; faults = faults })
    (record { size = length new.base; tells = Some new; crashed_from = after; faults = faults })
CrashStep-pending cut pick base writes new before after faults sectors new_is after_is =
    let crashes = Crashes-pending cut pick base writes new sectors new_is in
    record {
      left = (pending_disk base writes, refl, crashes);
      from = after_is;
      size = ap (λ (disk : Disk). length disk.base) crashes.left ∙ crashes.possible.same_length;
      later = omega arith;
    }

-- one more write is pending
pub written_is : (base : List ℕ) (writes : List Write) (write : Write) → pending_disk base (writes ++ write ∷ []) ≡ written (pending_disk base writes) write
written_is base writes write =
    ap (λ reads. record { base = base; writes = writes ++ write ∷ []; reads = reads }) (fold-append after_write base writes (write ∷ []))

-- a write that is pending is one that may have failed
pub FailsWrite-pending : (at : ℕ) (bytes base : List ℕ) (writes : List Write) → AreSectorWrites (length base) writes
    → IsRange (length base) at (length bytes) → FailsWrite (write_at at bytes) (pending_disk base writes) (pending_disk base (writes ++ write_at at bytes ∷ []))
FailsWrite-pending at bytes base writes sectors range =
    subst (λ (disk : Disk). FailsWrite (write_at at bytes) (pending_disk base writes) disk) (sym (written_is base writes (write_at at bytes)))
    (FailsWrite-written (length base) at bytes (pending_disk base writes) range (HasSize-sectors base writes sectors))
