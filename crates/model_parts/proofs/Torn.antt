-- What the calls of a device do to what may stand in a sector of a fair image of a log device.
use Rattle.std.proofs.Common.{◌≡◌, ◌<◌, ◌*◌, ◌⊎◌, ℕ, suc, zero, inl, inr, false, List, [], ◌∷◌, ◌++◌, length, take, refl, sym, ap, subst, ◌∙◌, ⊎_elim}
use Rattle.std.proofs.lemmas.List.Elements.{All-append, All-cons, All-head, All-nil, All-tail}
use Rattle.std.proofs.lemmas.Bool.{cases_Bool}
use Rattle.model_device.specs.{after_write, after_writes, AreSectorWrites, Covers, FailsWrite, IsCovered, IsPutOrNot, IsSectorWrite, IsWrittenBy, sector, synced, written, written_sector, Disk}
use Rattle.model_device.specs.MayHold.{MayHold}
use Rattle.model_device.specs.declared.write.Write.{Write}
use Rattle.model_device.proofs.Images.{sector-after_write}
use Rattle.model_device.proofs.MayHold.{adds-written}
use Rattle.model_device.proofs.Overwritten.{length-overwritten}
use Rattle.model_log.specs.{fits_checksum}
use Rattle.model_parts.specs.Held.{MayStand}
use Rattle.model_store.specs.{IsFairLog, IsWholeSector}

-- A SECTOR OF A FAIR IMAGE.

-- what stands in a sector after some writes: what stood there before, or what one of them put there
after-some : (n : ℕ) (base : List ℕ) (writes : List Write) (k : ℕ) → AreSectorWrites (length base) writes
    → (sector k (after_writes base (take n writes)) ≡ sector k base) ⊎ IsWrittenBy writes k (sector k (after_writes base (take n writes)))
after-some zero base writes k all = inl refl
after-some (suc n) base [] k all = inl refl
after-some (suc n) base (write ∷ writes) k all =
    let first : IsSectorWrite (length base) write = All-head (IsSectorWrite (length base)) write writes all in
    let next : List ℕ = after_write base write in
    let long : length next ≡ length base = length-overwritten write.at write.bytes base first.within in
    let others : AreSectorWrites (length next) writes = subst (λ (n : ℕ). AreSectorWrites n writes) (sym long) (All-tail (IsSectorWrite (length base)) write writes all) in
    ⊎_elim (λ same. ⊎_elim (λ here. inr (inl (here.0, same ∙ here.1))) (λ old. inl (same ∙ old)) (sector-after_write base write k first))
    (λ later. inr (inr later)) (after-some n next writes k others)

whole-may_hold : (disk : Disk) (k : ℕ) (bytes : List ℕ) → AreSectorWrites (length disk.base) disk.writes → IsWholeSector disk k bytes → MayHold disk k bytes
whole-may_hold disk k bytes sectors whole =
    subst (λ (x : List ℕ). MayHold disk k x) (sym whole.same) (after-some whole.count disk.base disk.writes k sectors)

-- what stands in a sector of a fair image
pub stands-sector : (disk : Disk) (image : List ℕ) (k : ℕ) → AreSectorWrites (length disk.base) disk.writes → IsFairLog disk image → 512 * k < length disk.base
    → MayStand disk k (sector k image)
stands-sector disk image k sectors fair within =
    ⊎_elim (λ fits. inl (whole-may_hold disk k (sector k image) sectors (fair.each k within fits)))
    (λ broken. ⊎_elim (λ same. inl (inl same)) (λ covered. inr (covered, broken)) (fair.possible.each k within))
    (cases_Bool (fits_checksum (sector k image)))

-- THE CALLS.

-- what a write lets stand in a sector that it covers
abbrev pub IsWhole : Write → ℕ → List ℕ → Type 0
IsWhole write k bytes = (bytes ≡ written_sector write k) ⊎ (fits_checksum bytes ≡ false)

-- In each sector may stand what may have stood there before, or what the write lets stand, and no more. Where it is of
-- whole sectors, so are all.
pub record AddsTorn (write : Write) (old new : Disk) : Type 0 where
  pub same_length : length new.base ≡ length old.base
  pub sectors : IsSectorWrite (length old.base) write → AreSectorWrites (length old.base) old.writes → AreSectorWrites (length new.base) new.writes
  pub each : (k : ℕ) (bytes : List ℕ) → MayStand new k bytes → MayStand old k bytes ⊎ (Covers write k × IsWhole write k bytes)

pushed-covered : (writes : List Write) (write : Write) (k : ℕ) → IsCovered (writes ++ write ∷ []) k → IsCovered writes k ⊎ Covers write k
pushed-covered [] write k is = ⊎_elim (λ here. inr here) (λ none. absurd none) is
pushed-covered (first ∷ writes) write k is =
    ⊎_elim (λ here. inl (inl here)) (λ there. ⊎_elim (λ old. inl (inr old)) (λ new. inr new) (pushed-covered writes write k there)) is

pushed-sectors : (n : ℕ) (writes : List Write) (write : Write) → IsSectorWrite n write → AreSectorWrites n writes → AreSectorWrites n (writes ++ write ∷ [])
pushed-sectors n writes write is all = All-append (IsSectorWrite n) writes (write ∷ []) all (All-cons (IsSectorWrite n) write [] is (All-nil (IsSectorWrite n)))

-- a good write adds what it puts there, and bytes whose checksum doesn't fit
pub adds-torn : (write : Write) (old : Disk) → AddsTorn write old (written old write)
adds-torn write old = record {
  same_length = refl;
  sectors = λ is all. pushed-sectors (length old.base) old.writes write is all;
  each = λ k bytes is. ⊎_elim
      (λ may. ⊎_elim (λ before. inl (inl before)) (λ here. inr (here.0, inl here.1)) ((adds-written write old).each k bytes may))
      (λ broken. ⊎_elim (λ before. inl (inr (before, broken.1))) (λ covers. inr (covers, inr broken.1)) (pushed-covered old.writes write k broken.0)) is;
}

stands-as : (new other : Disk) (k : ℕ) (bytes : List ℕ) → new.base ≡ other.base → new.writes ≡ other.writes → MayStand new k bytes → MayStand other k bytes
stands-as new other k bytes base writes is =
    ⊎_elim (λ may. inl (⊎_elim (λ here. inl (here ∙ ap (sector k) base)) (λ there. inr (subst (λ (ws : List Write). IsWrittenBy ws k bytes) writes there)) may))
    (λ broken. inr (subst (λ (ws : List Write). IsCovered ws k) writes broken.0, broken.1)) is

sectors-as : (old new : Disk) (writes : List Write) → new.base ≡ old.base → new.writes ≡ writes → AreSectorWrites (length old.base) writes → AreSectorWrites (length new.base) new.writes
sectors-as old new writes base same all =
    subst (λ (n : ℕ). AreSectorWrites n new.writes) (sym (ap length base)) (subst (λ (ws : List Write). AreSectorWrites (length old.base) ws) (sym same) all)

-- a failed one adds no more
pub fails-torn : (write : Write) (old new : Disk) → FailsWrite write old new → AddsTorn write old new
fails-torn write old new fails = record {
  same_length = ap length fails.base;
  sectors = λ is all. ⊎_elim
      (λ none. sectors-as old new old.writes fails.base none.0 all)
      (λ pending. sectors-as old new (old.writes ++ write ∷ []) fails.base pending.0 (pushed-sectors (length old.base) old.writes write is all)) fails.pending;
  each = λ k bytes is. ⊎_elim
      (λ none. inl (stands-as new old k bytes fails.base none.0 is))
      (λ pending. (adds-torn write old).each k bytes (stands-as new (written old write) k bytes fails.base pending.0 is)) fails.pending;
}

-- nor does one that failed or whose sync did
pub put-torn : (write : Write) (old new : Disk) → IsPutOrNot write old new → AddsTorn write old new
put-torn write old new calls =
    ⊎_elim (λ fails. fails-torn write old new fails) (λ done. subst (λ (disk : Disk). AddsTorn write old disk) (sym done) (adds-torn write old)) calls

-- after a good sync a sector holds what reads give
pub synced-stands : (disk : Disk) (k : ℕ) (bytes : List ℕ) → MayStand (synced disk) k bytes → bytes ≡ sector k disk.reads
synced-stands disk k bytes may = ⊎_elim (λ whole. ⊎_elim (λ here. here) (λ none. absurd none) whole) (λ broken. absurd broken.0) may
