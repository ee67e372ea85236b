-- Log devices that are at rest: in each sector may stand what reads give, and nothing else.
use Rattle.std.proofs.Common.{◌≡◌, ◌≤◌, ◌+◌, ◌*◌, ◌⊎◌, ℕ, inl, inr, List, [], ◌∷◌, length, take, get_or, replicate, refl, sym, ap, subst, ◌∙◌, ⊎_elim, arith}
use Rattle.std.proofs.lemmas.Bool.{cases_lt}
use Rattle.std.proofs.lemmas.List.{drop_all, length-replicate}
use Rattle.std.proofs.lemmas.List.Elements.{All-head, All-nil, All-tail}
use Rattle.model_device.specs.{AreSectorWrites, Covers, IsCovered, IsImage, IsSectorWrite, sector, settled, Disk}
use Rattle.model_device.specs.declared.write.Write.{Write}
use Rattle.model_device.proofs.Images.{IsCovered-written_by, settled_images}
use Rattle.model_device.proofs.MayHold.{covered-stands}
use Rattle.model_parts.specs.{IsAtRest, MayStand}
use Rattle.model_parts.proofs.Torn.{AddsTorn, IsWhole, stands-sector}
use Rattle.model_store.specs.{IsFairLog}

-- NO WRITE COVERS A SECTOR, since two images would differ there.

covered-within : (n : ℕ) (writes : List Write) (k : ℕ) → AreSectorWrites n writes → IsCovered writes k → 512 * k + 512 ≤ n
covered-within n [] k all covered = absurd covered
covered-within n (write ∷ writes) k all covered =
    let first : IsSectorWrite n write = All-head (IsSectorWrite n) write writes all in
    ⊎_elim (λ here. omega (arith, here.up_to, first.within)) (λ there. covered-within n writes k (All-tail (IsSectorWrite n) write writes all) there) covered

uncovered : (disk : Disk) (k : ℕ) → IsAtRest disk → IsCovered disk.writes k → ⊥
uncovered disk k rests covered =
    let within : 512 * k + 512 ≤ length disk.base = covered-within (length disk.base) disk.writes k rests.sectors covered in
    let zeros : List ℕ = 0 ∷ replicate 511 0 in
    let ones : List ℕ = 1 ∷ replicate 511 0 in
    let first = covered-stands disk k zeros rests.reads within covered (omega (arith, length-replicate {A = ℕ} 511 0)) in
    let second = covered-stands disk k ones rests.reads within covered (omega (arith, length-replicate {A = ℕ} 511 0)) in
    let same : zeros ≡ ones =
    sym first.2 ∙ ap (sector k) (rests.one_image first.0 first.1) ∙ sym (ap (sector k) (rests.one_image second.0 second.1)) ∙ second.2 in
    let heads : 0 ≡ 1 = ap (λ (bytes : List ℕ). get_or bytes 0 0) same in
    absurd (omega (arith, heads))

pub base-image : (disk : Disk) → IsImage disk disk.base
base-image disk = record { same_length = refl; each = λ k inside. inl refl }

pub rests-stands : (disk : Disk) (k : ℕ) (bytes : List ℕ) → IsAtRest disk → MayStand disk k bytes → bytes ≡ sector k disk.reads
rests-stands disk k bytes rests may =
    ⊎_elim
    (λ whole. ⊎_elim (λ base. base ∙ ap (sector k) (rests.one_image disk.base (base-image disk)))
    (λ new. absurd (uncovered disk k rests (IsCovered-written_by disk.writes k bytes new))) whole)
    (λ broken. absurd (uncovered disk k rests broken.0)) may

-- SO AFTER A WRITE a sector of a fair image is as it was, or one that the write covers.

-- a sector past the end is empty
pub past-end : (k : ℕ) (bytes : List ℕ) → length bytes ≤ 512 * k → sector k bytes ≡ []
past-end k bytes past = ap (take 512) (drop_all (512 * k) bytes past)

pub written-sector : (write : Write) (old new : Disk) (image : List ℕ) (k : ℕ) → IsAtRest old → IsSectorWrite (length old.base) write → AddsTorn write old new
    → IsFairLog new image → (sector k image ≡ sector k old.reads) ⊎ (Covers write k × IsWhole write k (sector k image))
written-sector write old new image k rests is_write adds fair =
    let long : length image ≡ length old.base = fair.possible.same_length ∙ adds.same_length in
    let whole : AreSectorWrites (length new.base) new.writes = adds.sectors is_write rests.sectors in
    ⊎_elim
    (λ inside. ⊎_elim (λ before. inl (rests-stands old k (sector k image) rests before)) (λ here. inr here)
    (adds.each k (sector k image) (stands-sector new image k whole fair (omega (arith, adds.same_length)))))
    (λ past. inl (past-end k image (omega arith) ∙ sym (past-end k old.reads (omega (arith, rests.reads.same_length)))))
    (cases_lt (512 * k) (length old.base))

-- DEVICES ON WHICH NOTHING IS PENDING.

pub settled-rests : (bytes : List ℕ) → IsAtRest (settled bytes)
settled-rests bytes = let images = settled_images bytes in record { one_image = images.1; reads = images.0; sectors = All-nil (IsSectorWrite (length bytes)) }

pub rests-settled : (disk : Disk) → disk ≡ settled disk.base → IsAtRest disk
rests-settled disk same = subst IsAtRest (sym same) (settled-rests disk.base)

pub reads-settled : (disk : Disk) → disk ≡ settled disk.base → disk.reads ≡ disk.base
reads-settled disk same = ap (λ (d : Disk). d.reads) same

-- the one image is what stood there
pub settled-image : (disk : Disk) (image : List ℕ) → disk ≡ settled disk.base → IsImage disk image → image ≡ disk.base
settled-image disk image same is = (settled_images disk.base).1 image (subst (λ (d : Disk). IsImage d image) same is)
