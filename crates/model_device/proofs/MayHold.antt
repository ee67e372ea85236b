-- What the calls of a device do to the whole contents that a sector may hold, and what stands there in an image.
use Rattle.std.proofs.Common.{◌≡◌, ◌≤◌, ◌+◌, ◌-◌, ◌*◌, ◌⊎◌, ℕ, inl, inr, List, [], ◌∷◌, ◌++◌, length, take, drop, refl, sym, ap, subst, ◌∙◌, ⊎_elim, length-take, length-drop, arith}
use Rattle.std.proofs.lemmas.List.{take_all}
use Rattle.model_base.specs.declared.limits.TheConstants.{BLOCK_SIZE}
use Rattle.model_device.specs.Disks.{written, synced, FailsWrite, Disk, sector, IsCovered, IsImage, HasOneImage, Covers, after_write, IsSectorWrite}
use Rattle.model_device.specs.MayHold.{IsWrittenBy, written_sector, Adds, MayHold}
use Rattle.model_device.specs.declared.write.Write.{Write}
use Rattle.model_device.proofs.Images.{IsCovered-written_by, IsImage-after_write, IsWrittenBy-append_left, IsWrittenBy-push}
use Rattle.model_device.proofs.Overwritten.{part-overwritten_inside}

pushed-by : (writes : List Write) (write : Write) (k : ℕ) (bytes : List ℕ) → IsWrittenBy (writes ++ write ∷ []) k bytes
    → IsWrittenBy writes k bytes ⊎ (Covers write k × (bytes ≡ written_sector write k))
pushed-by [] write k bytes is = ⊎_elim (λ here. inr here) (λ none. absurd none) is
pushed-by (first ∷ writes) write k bytes is =
    ⊎_elim (λ here. inl (inl here))
    (λ there. ⊎_elim (λ old. inl (inr old)) (λ new. inr new) (pushed-by writes write k bytes there)) is

may-push : (base : List ℕ) (writes : List Write) (reads more : List ℕ) (write : Write) (k : ℕ) (bytes : List ℕ)
    → MayHold (record { base = base; writes = writes ++ write ∷ []; reads = more }) k bytes
    → MayHold (record { base = base; writes = writes; reads = reads }) k bytes ⊎ (Covers write k × (bytes ≡ written_sector write k))
may-push base writes reads more write k bytes is =
    ⊎_elim (λ old. inl (inl old)) (λ new. ⊎_elim (λ old. inl (inr old)) (λ here. inr here) (pushed-by writes write k bytes new)) is

-- a good write adds what it puts into the sectors that it covers
pub adds-written : (write : Write) (old : Disk) → Adds write old (written old write)
adds-written write old = record {
  same_length = refl;
  each = λ k bytes is. may-push old.base old.writes old.reads (after_write old.reads write) write k bytes is;
}

-- and keeps what the sectors may have held
pub written-keeps : (write : Write) (old : Disk) (k : ℕ) (bytes : List ℕ) → MayHold old k bytes → MayHold (written old write) k bytes
written-keeps write old k bytes may = ⊎_elim (λ base. inl base) (λ new. inr (IsWrittenBy-append_left old.writes (write ∷ []) k bytes new)) may

-- what it puts there may stand there
pub written-puts : (write : Write) (old : Disk) (k : ℕ) → Covers write k → MayHold (written old write) k (written_sector write k)
written-puts write old k covers = inr (IsWrittenBy-push old.writes write k covers)

same-base : (old new : Disk) (writes : List Write) (k : ℕ) (bytes : List ℕ) → new.base ≡ old.base → new.writes ≡ writes → MayHold new k bytes
    → (bytes ≡ sector k old.base) ⊎ IsWrittenBy writes k bytes
same-base old new writes k bytes base same is =
    ⊎_elim (λ here. inl (here ∙ ap (sector k) base)) (λ there. inr (subst (λ (ws : List Write). IsWrittenBy ws k bytes) same there)) is

-- a failed write adds no more than a good one
pub adds-failed : (write : Write) (old new : Disk) → FailsWrite write old new → Adds write old new
adds-failed write old new fails = record {
  same_length = ap length fails.base;
  each = λ k bytes is.
      ⊎_elim (λ same. inl (same-base old new old.writes k bytes fails.base same.0 is))
      (λ pending. may-push old.base old.writes old.reads old.reads write k bytes (same-base old new (old.writes ++ write ∷ []) k bytes fails.base pending.0 is)) fails.pending;
}

-- after a good sync a sector may hold what reads give, and nothing else
pub synced-holds : (disk : Disk) (k : ℕ) (bytes : List ℕ) → MayHold (synced disk) k bytes → bytes ≡ sector k disk.reads
synced-holds disk k bytes may = ⊎_elim (λ here. here) (λ none. absurd none) may

length-written : (writes : List Write) (k : ℕ) (bytes : List ℕ) → IsWrittenBy writes k bytes → length bytes ≡ BLOCK_SIZE
length-written [] k bytes is = absurd is
length-written (write ∷ writes) k bytes is =
    ⊎_elim (λ here. ap length here.1 ∙ length-take BLOCK_SIZE (drop (BLOCK_SIZE * k - write.at) write.bytes)
    ∙ omega (arith, here.0.from, here.0.up_to, length-drop (BLOCK_SIZE * k - write.at) write.bytes))
    (λ there. length-written writes k bytes there) is

base-image : (disk : Disk) → IsImage disk disk.base
base-image disk = record { same_length = refl; each = λ k inside. inl refl }

-- any bytes stand in a covered sector of an image: the one that reads give, with these bytes in the sector
sector-image : (disk : Disk) (k : ℕ) (bytes : List ℕ) → IsImage disk disk.reads → BLOCK_SIZE * k + BLOCK_SIZE ≤ length disk.base → IsCovered disk.writes k
    → length bytes ≡ BLOCK_SIZE → IsImage disk (after_write disk.reads (record { at = BLOCK_SIZE * k; bytes = bytes }))
    × (sector k (after_write disk.reads (record { at = BLOCK_SIZE * k; bytes = bytes })) ≡ bytes)
sector-image disk k bytes reads within covered long =
    let write : Write = record { at = BLOCK_SIZE * k; bytes = bytes } in
    let sectors : IsSectorWrite (length disk.base) write = record { aligned = omega arith; whole = omega arith; within = omega arith } in
    let none : BLOCK_SIZE * k - BLOCK_SIZE * k ≡ 0 = omega arith in
    let text : written_sector write k ≡ bytes = ap (λ n. take BLOCK_SIZE (drop n bytes)) none ∙ take_all BLOCK_SIZE bytes (omega arith) in
    let each : (j : ℕ) → Covers write j → IsCovered disk.writes j = λ j covers.
    let same : k ≡ j = omega (arith, covers.from, covers.up_to) in
    subst (λ (n : ℕ). IsCovered disk.writes n) same covered in
    let there : sector k (after_write disk.reads write) ≡ written_sector write k =
    part-overwritten_inside BLOCK_SIZE (BLOCK_SIZE * k) (BLOCK_SIZE * k) bytes disk.reads (omega arith) (omega arith) (omega (arith, reads.same_length)) in
    (IsImage-after_write disk disk.reads write sectors each reads, there ∙ text)

-- any bytes stand in a covered sector of some image
pub covered-stands : (disk : Disk) (k : ℕ) (bytes : List ℕ) → IsImage disk disk.reads → BLOCK_SIZE * k + BLOCK_SIZE ≤ length disk.base → IsCovered disk.writes k
    → length bytes ≡ BLOCK_SIZE → (image : List ℕ) × IsImage disk image × (sector k image ≡ bytes)
covered-stands disk k bytes reads within covered long =
    let found = sector-image disk k bytes reads within covered long in
    (after_write disk.reads (record { at = BLOCK_SIZE * k; bytes = bytes }), found.0, found.1)

-- what a sector may hold whole stands there in some image
pub sector-stands : (disk : Disk) (k : ℕ) (bytes : List ℕ) → IsImage disk disk.reads → BLOCK_SIZE * k + BLOCK_SIZE ≤ length disk.base → MayHold disk k bytes
    → (image : List ℕ) × IsImage disk image × (sector k image ≡ bytes)
sector-stands disk k bytes reads within may =
    ⊎_elim (λ base. (disk.base, base-image disk, sym base))
    (λ new. covered-stands disk k bytes reads within (IsCovered-written_by disk.writes k bytes new) (length-written disk.writes k bytes new)) may

-- where there is one image, a sector may hold what stands there, and nothing else
pub one-sector : (disk : Disk) (k : ℕ) (bytes : List ℕ) → HasOneImage disk disk.reads → IsImage disk disk.reads → BLOCK_SIZE * k + BLOCK_SIZE ≤ length disk.base
    → MayHold disk k bytes → bytes ≡ sector k disk.reads
one-sector disk k bytes one reads within may =
    let found = sector-stands disk k bytes reads within may in
    sym found.2 ∙ ap (sector k) (one found.0 found.1)
