-- A row of bytes after writes that lie within it.
use Rattle.std.proofs.Common.{◌≡◌, ◌+◌, ◌<◌, ℕ, List, [], ◌∷◌, length, get_or, take, refl, sym, ap, subst, ◌∙◌}
use Rattle.std.proofs.lemmas.List.Elements.{All-head, All-tail, All-take, All-get_or, All-weaker}
use Rattle.std.proofs.lemmas.List.Sums.{fold_more}
use Rattle.model_device.specs.{after_write, after_writes, AreSectorWrites, AreWithin, IsSectorWrite, IsWithin}
use Rattle.model_device.specs.declared.write.Write.{Write}
use Rattle.redo_disk.specs.{HasSize}
use Rattle.model_device.proofs.Overwritten.{length-overwritten}

pub length-after_writes : (row : List ℕ) (writes : List Write) → AreWithin (length row) writes → length (after_writes row writes) ≡ length row
length-after_writes row [] within = refl
length-after_writes row (write ∷ writes) within =
    let one = length-overwritten write.at write.bytes row (All-head (IsWithin (length row)) write writes within) in
    length-after_writes (after_write row write) writes
    (subst (λ size. AreWithin size writes) (sym one) (All-tail (IsWithin (length row)) write writes within)) ∙ one

-- the row after some of the writes
pub length-after_first_writes : (row : List ℕ) (writes : List Write) (i : ℕ) → AreWithin (length row) writes
    → length (after_writes row (take i writes)) ≡ length row
length-after_first_writes row writes i within = length-after_writes row (take i writes) (All-take (IsWithin (length row)) i writes within)

-- one more of the writes
pub after_writes_more : (row : List ℕ) (writes : List Write) (i : ℕ) (write : Write) → i < length writes → write ≡ get_or writes i write
    → after_writes row (take (i + 1) writes) ≡ after_write (after_writes row (take i writes)) write
after_writes_more row writes i write below is =
    fold_more after_write row writes i write below ∙ ap (λ w. after_write (after_writes row (take i writes)) w) (sym is)

-- that one lies within the row, too
pub IsWithin-item : (row : List ℕ) (writes : List Write) (i : ℕ) (write : Write) → i < length writes → write ≡ get_or writes i write
    → AreWithin (length row) writes → IsWithin (length (after_writes row (take i writes))) write
IsWithin-item row writes i write below is within =
    let here : IsWithin (length row) write = subst (λ (w : Write). IsWithin (length row) w) (sym is) (All-get_or (IsWithin (length row)) writes i write below within) in
    subst (λ size. IsWithin size write) (sym (length-after_first_writes row writes i within)) here

AreWithin-sectors : (size : ℕ) (writes : List Write) → AreSectorWrites size writes → AreWithin size writes
AreWithin-sectors size writes sectors = All-weaker (IsSectorWrite size) (IsWithin size) (λ write sector_write. sector_write.within) writes sectors

-- what a device in memory means is as long as its bytes
pub HasSize-sectors : (base : List ℕ) (writes : List Write) → AreSectorWrites (length base) writes
    → HasSize (length base) (record { base = base; writes = writes; reads = after_writes base writes })
HasSize-sectors base writes sectors = record {
  base = refl;
  reads = length-after_writes base writes (AreWithin-sectors (length base) writes sectors);
}
