-- The calls of a device keep it valid.
use Rattle.std.proofs.Common.{◌≡◌, ◌%◌, ◌⊎◌, ℕ, inl, inr, List, [], ◌∷◌, ◌++◌, length, refl, sym, ap, subst, ◌∙◌, ⊎_elim}
use Rattle.std.proofs.lemmas.List.Elements.{All-nil, All-cons, All-append}
use Rattle.model_base.specs.declared.limits.TheConstants.{BLOCK_SIZE}
use Rattle.model_device.specs.Disks.{Crashes, FailsWrite, IsSameBeside, synced, written, Disk, IsCovered, IsImage, sector, settled, IsValid, AreSectorWrites, IsSectorWrite}
use Rattle.model_device.specs.declared.write.Write.{Write}
use Rattle.model_device.proofs.Images.{IsCovered-append_left, IsCovered-push, settled_images, written_reads}

AreSectorWrites-push : (size : ℕ) (writes : List Write) (write : Write) → AreSectorWrites size writes → IsSectorWrite size write → AreSectorWrites size (writes ++ write ∷ [])
AreSectorWrites-push size writes write each one =
    All-append (IsSectorWrite size) writes (write ∷ []) each (All-cons (IsSectorWrite size) write [] one (All-nil (IsSectorWrite size)))

pub IsValid-written : (disk : Disk) (write : Write) → IsValid disk → IsSectorWrite (length disk.base) write → IsValid (written disk write)
IsValid-written disk write valid sectors = record {
  whole_sectors = valid.whole_sectors;
  writes = AreSectorWrites-push (length disk.base) disk.writes write valid.writes sectors;
  reads = written_reads disk write valid.reads sectors;
}

-- what reads give of a write that failed, once it is pending, is an image
beside-image : (old : Disk) (write : Write) (reads : List ℕ) → IsImage old old.reads → IsSameBeside write old.reads reads
    → IsImage (record { base = old.base; writes = old.writes ++ write ∷ []; reads = reads }) reads
beside-image old write reads image beside = record {
  same_length = beside.same_length ∙ image.same_length;
  each = λ k inside.
      let Holds : List ℕ → Type 0 = λ bytes. (bytes ≡ sector k old.base) ⊎ IsCovered (old.writes ++ write ∷ []) k in
      ⊎_elim (λ same. subst Holds (sym same) (⊎_elim (λ base. inl base) (λ covered. inr (IsCovered-append_left old.writes (write ∷ []) k covered)) (image.each k inside)))
      (λ covers. inr (IsCovered-push old.writes write k covers))
      (beside.each k);
}

-- a device of these three parts
from-parts : (base reads : List ℕ) (writes : List Write) (disk : Disk) → disk.base ≡ base → disk.writes ≡ writes → disk.reads ≡ reads
    → disk ≡ record { base = base; writes = writes; reads = reads }
from-parts base reads writes disk base_is writes_is reads_is = λ i. record { base = base_is i; writes = writes_is i; reads = reads_is i }

pub IsValid-failed : (old new : Disk) (write : Write) → IsValid old → IsSectorWrite (length old.base) write → FailsWrite write old new → IsValid new
IsValid-failed old new write valid sectors fails =
    let Valid : Disk → Type 0 = IsValid in
    ⊎_elim
    (λ same. subst Valid (sym (from-parts old.base old.reads old.writes new fails.base same.0 same.1)) valid)
    (λ pending. subst Valid (sym (from-parts old.base new.reads (old.writes ++ write ∷ []) new fails.base pending.0 refl)) (record {
      whole_sectors = valid.whole_sectors;
      writes = AreSectorWrites-push (length old.base) old.writes write valid.writes sectors;
      reads = beside-image old write new.reads valid.reads pending.1;
    }))
    fails.pending

-- a device that holds whole sectors and has no write since is valid
pub IsValid-settled : (bytes : List ℕ) → length bytes % BLOCK_SIZE ≡ 0 → IsValid (settled bytes)
IsValid-settled bytes whole = record {
  whole_sectors = whole;
  writes = All-nil (IsSectorWrite (length bytes));
  reads = (settled_images bytes).0;
}

pub IsValid-synced : (disk : Disk) → IsValid disk → IsValid (synced disk)
IsValid-synced disk valid = IsValid-settled disk.reads (ap (λ n. n % BLOCK_SIZE) valid.reads.same_length ∙ valid.whole_sectors)

pub IsValid-crashed : (old new : Disk) → IsValid old → Crashes old new → IsValid new
IsValid-crashed old new valid crashes =
    let Valid : Disk → Type 0 = IsValid in
    subst Valid (sym crashes.left) (IsValid-settled crashes.image (ap (λ n. n % BLOCK_SIZE) crashes.possible.same_length ∙ valid.whole_sectors))
