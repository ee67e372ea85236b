-- How the images of a device change with its writes.
use Rattle.std.proofs.Common.{◌≡◌, ℕ, ◌+◌, ◌*◌, ◌/◌, ◌%◌, ◌≤◌, ◌<◌, ◌⊎◌, inl, inr, List, [], ◌∷◌, ◌++◌, length, drop, get_or, refl, sym, ◌∙◌, ap, subst, arith}
use Rattle.std.proofs.lemmas.Bool.{cases_lt}
use Rattle.std.proofs.lemmas.List.{same_lists, get_or-take, get_or-drop}
use Rattle.model_base.specs.declared.limits.TheConstants.{BLOCK_SIZE}
use Rattle.model_device.specs.declared.write.Write.{Write}
use Rattle.model_device.specs.Disks.{Disk, sector, Covers, IsCovered, IsImage, after_write, settled, HasOneImage, IsSectorWrite, written}
use Rattle.model_device.specs.MayHold.{written_sector, IsWrittenBy}
use Rattle.model_device.proofs.Overwritten.{length-overwritten, part-overwritten_before, part-overwritten_behind, part-overwritten_inside}

-- a sector after a write of whole sectors: what the write puts there, or what it was
pub sector-after_write : (image : List ℕ) (write : Write) (k : ℕ) → IsSectorWrite (length image) write → (Covers write k × (sector k (after_write image write) ≡ written_sector write k)) ⊎ (sector k (after_write image write) ≡ sector k image)
sector-after_write image write k sectors =
    elim (cases_lt (BLOCK_SIZE * k) write.at) [
      | inl before ↦ inr (part-overwritten_before BLOCK_SIZE (BLOCK_SIZE * k) write.at write.bytes image (omega (arith, sectors.aligned)) sectors.within)
      | inr from ↦ elim (cases_lt (BLOCK_SIZE * k) (write.at + length write.bytes)) [
        | inl inside ↦
            let up_to : BLOCK_SIZE * k + BLOCK_SIZE ≤ write.at + length write.bytes = omega (arith, sectors.aligned, sectors.whole) in
            inl (record { from = from; up_to = up_to }, part-overwritten_inside BLOCK_SIZE (BLOCK_SIZE * k) write.at write.bytes image from up_to sectors.within)
        | inr behind ↦ inr (part-overwritten_behind BLOCK_SIZE (BLOCK_SIZE * k) write.at write.bytes image behind sectors.within)
      ]
    ]

-- a write that covers only sectors that the device's writes cover makes an image of an image
pub IsImage-after_write : (disk : Disk) (image : List ℕ) (write : Write) → IsSectorWrite (length disk.base) write → ((k : ℕ) → Covers write k → IsCovered disk.writes k) → IsImage disk image → IsImage disk (after_write image write)
IsImage-after_write disk image write sectors covered is_image =
    let fits : IsSectorWrite (length image) write = subst (λ n. IsSectorWrite n write) (sym is_image.same_length) sectors in
    record {
      same_length = length-overwritten write.at write.bytes image fits.within ∙ is_image.same_length;
      each = λ k inside. elim (sector-after_write image write k fits) [
        | inl new ↦ inr (covered k new.0)
        | inr old ↦ subst (λ bytes. (bytes ≡ sector k disk.base) ⊎ IsCovered disk.writes k) (sym old) (is_image.each k inside)
      ];
    }

-- a sector that a write puts something into is covered
pub IsCovered-written_by : (writes : List Write) (k : ℕ) (bytes : List ℕ) → IsWrittenBy writes k bytes → IsCovered writes k
IsCovered-written_by [] k bytes h = absurd h
IsCovered-written_by (write ∷ writes) k bytes h =
    elim h [ inl here ↦ inl here.0 | inr there ↦ inr (IsCovered-written_by writes k bytes there) ]

pub IsCovered-append_left : (writes more : List Write) (k : ℕ) → IsCovered writes k → IsCovered (writes ++ more) k
IsCovered-append_left [] more k h = absurd h
IsCovered-append_left (write ∷ writes) more k h =
    elim h [ inl here ↦ inl here | inr there ↦ inr (IsCovered-append_left writes more k there) ]

pub IsCovered-push : (writes : List Write) (write : Write) (k : ℕ) → Covers write k → IsCovered (writes ++ write ∷ []) k
IsCovered-push [] write k covers = inl covers
IsCovered-push (first ∷ writes) write k covers = inr (IsCovered-push writes write k covers)

pub IsWrittenBy-append_left : (writes more : List Write) (k : ℕ) (bytes : List ℕ) → IsWrittenBy writes k bytes → IsWrittenBy (writes ++ more) k bytes
IsWrittenBy-append_left [] more k bytes h = absurd h
IsWrittenBy-append_left (write ∷ writes) more k bytes h =
    elim h [ inl here ↦ inl here | inr there ↦ inr (IsWrittenBy-append_left writes more k bytes there) ]

pub IsWrittenBy-push : (writes : List Write) (write : Write) (k : ℕ) → Covers write k → IsWrittenBy (writes ++ write ∷ []) k (written_sector write k)
IsWrittenBy-push [] write k covers = inl (covers, refl)
IsWrittenBy-push (first ∷ writes) write k covers = inr (IsWrittenBy-push writes write k covers)

-- with one more write the images stay images
IsImage-written : (disk : Disk) (write : Write) (image : List ℕ) → IsImage disk image → IsImage (written disk write) image
IsImage-written disk write image is_image = record {
  same_length = is_image.same_length;
  each = λ k inside. elim (is_image.each k inside) [
    | inl base ↦ inl base
    | inr new ↦ inr (IsCovered-append_left disk.writes (write ∷ []) k new)
  ];
}

-- what reads give after a write is an image, if it was one before
pub written_reads : (disk : Disk) (write : Write) → IsImage disk disk.reads → IsSectorWrite (length disk.base) write → IsImage (written disk write) (written disk write).reads
written_reads disk write is_image sectors =
    IsImage-after_write (written disk write) disk.reads write sectors (IsCovered-push disk.writes write) (IsImage-written disk write disk.reads is_image)

get_or-sector : (k i : ℕ) (xs : List ℕ) (d : ℕ) → i < BLOCK_SIZE → get_or (sector k xs) i d ≡ get_or xs (BLOCK_SIZE * k + i) d
get_or-sector k i xs d inside =
    get_or-take BLOCK_SIZE (drop (BLOCK_SIZE * k) xs) i d inside ∙ get_or-drop (BLOCK_SIZE * k) xs i d

-- rows of bytes whose sectors are the same are the same
same_from_sectors : (xs ys : List ℕ) → length xs ≡ length ys → ((k : ℕ) → BLOCK_SIZE * k < length ys → sector k xs ≡ sector k ys) → xs ≡ ys
same_from_sectors xs ys same each =
    same_lists xs ys same (λ i d inside.
    let k = i / BLOCK_SIZE in
    let r = i % BLOCK_SIZE in
    let split : BLOCK_SIZE * k + r ≡ i = omega arith in
    let below : r < BLOCK_SIZE = omega arith in
    let at_place : get_or xs (BLOCK_SIZE * k + r) d ≡ get_or ys (BLOCK_SIZE * k + r) d =
    sym (get_or-sector k r xs d below) ∙ ap (λ s. get_or s r d) (each k (omega arith)) ∙ get_or-sector k r ys d below in
    subst (λ n. get_or xs n d ≡ get_or ys n d) split at_place)

-- a settled device has the one image that it holds
pub settled_images : (bytes : List ℕ) → IsImage (settled bytes) bytes × HasOneImage (settled bytes) bytes
settled_images bytes = (
  record { same_length = refl; each = λ k inside. inl refl },
  λ image is_image. same_from_sectors image bytes is_image.same_length (λ k inside.
      elim (is_image.each k inside) [ inl base ↦ base | inr none ↦ absurd none ]),
)
