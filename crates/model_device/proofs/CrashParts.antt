-- The sector writes of a device's writes, and what a crash leaves of them.
use Rattle.std.proofs.Common.{◌≡◌, ℕ, zero, suc, ◌+◌, ◌*◌, ◌/◌, ◌%◌, ◌≤◌, ◌⊎◌, inl, inr, true, false, cond, List, [], ◌∷◌, length, take, drop, refl, sym, ◌∙◌, subst, length-take, arith}
use Rattle.std.specs.List.{All, flat_map}
use Rattle.std.proofs.lemmas.Bool.{cases_lt}
use Rattle.std.proofs.lemmas.List.Elements.{All-nil, All-cons, All-head, All-tail, All-append, All-weaker}
use Rattle.model_base.specs.declared.limits.TheConstants.{BLOCK_SIZE}
use Rattle.model_device.specs.declared.write.Write.{Write}
use Rattle.model_device.specs.Disks.{Disk, IsCovered, IsImage, after_write, after_writes, sector, IsSectorWrite, AreSectorWrites}
use Rattle.model_device.specs.Crash.{sectors_from, sector_writes, survives, cut_to, left_of, crash_image}
use Rattle.model_device.proofs.Overwritten.{length-overwritten, part-overwritten_before, part-overwritten_behind}

-- the part lies at the beginning of one sector, which one of the writes covers
record IsInOne (size : ℕ) (writes : List Write) (part : Write) : Type 0 where
  k : ℕ
  at : part.at ≡ BLOCK_SIZE * k
  short : length part.bytes ≤ BLOCK_SIZE
  within : BLOCK_SIZE * k + BLOCK_SIZE ≤ size
  covered : IsCovered writes k

-- one sector of a write is such a part
IsInOne-sector : (size : ℕ) (write : Write) (writes : List Write) (from at : ℕ) (bytes : List ℕ) → IsSectorWrite size write → at ≡ write.at + from → from % BLOCK_SIZE ≡ 0 → from + BLOCK_SIZE ≤ length write.bytes → IsInOne size (write ∷ writes) (record { at = at; bytes = take BLOCK_SIZE bytes })
IsInOne-sector size write writes from at bytes sectors at_is aligned inside = record {
  k = at / BLOCK_SIZE;
  at = omega (arith, sectors.aligned);
  short = omega (arith, length-take BLOCK_SIZE bytes);
  within = omega (arith, sectors.aligned, sectors.within);
  covered = inl (record { from = omega (arith, sectors.aligned); up_to = omega (arith, sectors.aligned) });
}

-- so many sectors of a write from an offset in it on are such parts
IsInOne-sectors_from : (size : ℕ) (write : Write) (writes : List Write) → IsSectorWrite size write → (n from at : ℕ) (bytes : List ℕ) → at ≡ write.at + from → from % BLOCK_SIZE ≡ 0 → from + BLOCK_SIZE * n ≤ length write.bytes → All (IsInOne size (write ∷ writes)) (sectors_from n at bytes)
IsInOne-sectors_from size write writes sectors zero from at bytes at_is aligned inside = All-nil (IsInOne size (write ∷ writes))
IsInOne-sectors_from size write writes sectors (suc n) from at bytes at_is aligned inside =
    All-cons (IsInOne size (write ∷ writes)) _ _
    (IsInOne-sector size write writes from at bytes sectors at_is aligned (omega arith))
    (IsInOne-sectors_from size write writes sectors n (from + BLOCK_SIZE) (at + BLOCK_SIZE) (drop BLOCK_SIZE bytes) (omega arith) (omega arith) (omega arith))

IsInOne-more : (size : ℕ) (write : Write) (writes : List Write) (part : Write) → IsInOne size writes part → IsInOne size (write ∷ writes) part
IsInOne-more size write writes part is_part = record {
  k = is_part.k;
  at = is_part.at;
  short = is_part.short;
  within = is_part.within;
  covered = inr is_part.covered;
}

-- so are the sector writes of several writes
IsInOne-flat_map : (size : ℕ) (writes : List Write) → AreSectorWrites size writes → All (IsInOne size writes) (flat_map sector_writes writes)
IsInOne-flat_map size [] sectors = All-nil (IsInOne size [])
IsInOne-flat_map size (write ∷ writes) sectors =
    All-append (IsInOne size (write ∷ writes)) (sector_writes write) (flat_map sector_writes writes)
    (IsInOne-sectors_from size write writes (All-head (IsSectorWrite size) write writes sectors) (length write.bytes / BLOCK_SIZE) 0 write.at write.bytes (omega arith) refl (omega arith))
    (All-weaker (IsInOne size writes) (IsInOne size (write ∷ writes)) (IsInOne-more size write writes) _
    (IsInOne-flat_map size writes (All-tail (IsSectorWrite size) write writes sectors)))

-- and what is left of one that is torn
IsInOne-cut : (size : ℕ) (writes : List Write) (cut : ℕ) (part : Write) → IsInOne size writes part → IsInOne size writes (cut_to cut part)
IsInOne-cut size writes cut part is_part = record {
  k = is_part.k;
  at = is_part.at;
  short = omega (arith, is_part.short, length-take cut part.bytes);
  within = is_part.within;
  covered = is_part.covered;
}

-- what holds of each write and of its beginning holds of what a crash leaves of them
pub All-left_of : (P : Write → Type 0) (cut pick i : ℕ) (writes : List Write) → ((write : Write) → P write → P (cut_to cut write)) → All P writes → All P (left_of cut pick i writes)
All-left_of P cut pick i [] cuts each = All-nil P
All-left_of P cut pick i (write ∷ writes) cuts each =
    let rest : All P (left_of cut pick (i + 1) writes) = All-left_of P cut pick (i + 1) writes cuts (All-tail P write writes each) in
    let first : P write = All-head P write writes each in
    elim (survives pick i) as (λ b. All P ((cond b write (cut_to cut write)) ∷ left_of cut pick (i + 1) writes)) [
      | true ↦ All-cons P _ _ first rest
      | false ↦ All-cons P _ _ (cuts write first) rest
    ]

-- a part of one covered sector makes an image of an image
IsImage-after_part : (disk : Disk) (part : Write) (image : List ℕ) → IsInOne (length disk.base) disk.writes part → IsImage disk image → IsImage disk (after_write image part)
IsImage-after_part disk part image in_one is_image =
    let fits : part.at + length part.bytes ≤ length image = omega (arith, in_one.at, in_one.short, in_one.within, is_image.same_length) in
    let Holds : ℕ → List ℕ → Type 0 = λ j bytes. (bytes ≡ sector j disk.base) ⊎ IsCovered disk.writes j in
    record {
      same_length = length-overwritten part.at part.bytes image fits ∙ is_image.same_length;
      each = λ j inside. elim (cases_lt j in_one.k) [
        | inl before ↦ subst (Holds j) (sym (part-overwritten_before BLOCK_SIZE (BLOCK_SIZE * j) part.at part.bytes image (omega (arith, in_one.at)) fits)) (is_image.each j inside)
        | inr from ↦ elim (cases_lt in_one.k j) [
          | inl past ↦ subst (Holds j) (sym (part-overwritten_behind BLOCK_SIZE (BLOCK_SIZE * j) part.at part.bytes image (omega (arith, in_one.at, in_one.short)) fits)) (is_image.each j inside)
          | inr up_to ↦
              let here : in_one.k ≡ j = omega arith in
              inr (subst (λ (n : ℕ). IsCovered disk.writes n) here in_one.covered)
        ]
      ];
    }

-- so do several
IsImage-after_writes : (disk : Disk) (parts : List Write) (image : List ℕ) → All (IsInOne (length disk.base) disk.writes) parts → IsImage disk image → IsImage disk (after_writes image parts)
IsImage-after_writes disk [] image each is_image = is_image
IsImage-after_writes disk (part ∷ parts) image each is_image =
    let Part : Write → Type 0 = IsInOne (length disk.base) disk.writes in
    IsImage-after_writes disk parts (after_write image part) (All-tail Part part parts each)
    (IsImage-after_part disk part image (All-head Part part parts each) is_image)

-- whatever a crash lets survive, and wherever it tears the rest, it leaves an image
pub IsImage-crash_image : (disk : Disk) (cut pick : ℕ) → AreSectorWrites (length disk.base) disk.writes → IsImage disk (crash_image cut pick disk)
IsImage-crash_image disk cut pick sectors =
    let Part : Write → Type 0 = IsInOne (length disk.base) disk.writes in
    IsImage-after_writes disk _ disk.base
    (All-left_of Part cut pick 0 _ (IsInOne-cut (length disk.base) disk.writes cut) (IsInOne-flat_map (length disk.base) disk.writes sectors))
    (record { same_length = refl; each = λ k inside. inl refl })
