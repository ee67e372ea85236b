-- Putting one block of a log device that is at rest.
use Rattle.std.proofs.Common.{◌≡◌, ◌≤◌, ◌-◌, ◌*◌, ◌⊎◌, ℕ, inl, inr, List, length, take, drop, refl, sym, ap, subst, ◌∙◌, ⊎_elim, arith}
use Rattle.std.proofs.lemmas.List.{take_all}
use Rattle.model_device.specs.{Covers, IsPutOrNot, IsSectorWrite, sector, synced, written, written_sector, Disk}
use Rattle.model_device.specs.declared.write.Write.{Write}
use Rattle.model_device.proofs.Images.{sector-after_write}
use Rattle.model_device.proofs.Overwritten.{length-overwritten, part-overwritten_inside}
use Rattle.model_parts.specs.{IsPutting, IsUnsealed}
use Rattle.model_parts.proofs.Torn.{AddsTorn, put-torn}
use Rattle.redo_open.specs.Put.{block_write, end_of_block, HasPut, IsAtRestTo, PutsBlock}
use Rattle.redo_open.proofs.Rests.{settled-image, written-sector}

-- the write covers that block and no other
covers-block : (k j : ℕ) (bytes : List ℕ) → length bytes ≡ 512 → Covers (block_write k bytes) j → k ≡ j
covers-block k j bytes long covers = omega (arith, covers.from, covers.up_to)

writes-block : (k : ℕ) (bytes : List ℕ) → length bytes ≡ 512 → written_sector (block_write k bytes) k ≡ bytes
writes-block k bytes long =
    let none : 512 * k - 512 * k ≡ 0 = omega arith in
    ap (λ n. take 512 (drop n bytes)) none ∙ take_all 512 bytes (omega arith)

pub block-sectors : (k size : ℕ) (bytes : List ℕ) → length bytes ≡ 512 → end_of_block k ≤ size → IsSectorWrite size (block_write k bytes)
block-sectors k size bytes long within = record { aligned = omega arith; whole = omega arith; within = omega arith }

-- WHAT A CRASH MAY LEAVE, after the write, Ok or not.

either-block : (k j : ℕ) (bytes was now : List ℕ) → length bytes ≡ 512
    → (now ≡ was) ⊎ (Covers (block_write k bytes) j × ((now ≡ written_sector (block_write k bytes) j) ⊎ IsUnsealed now))
    → (now ≡ was) ⊎ ((k ≡ j) × (IsUnsealed now ⊎ (now ≡ bytes)))
either-block k j bytes was now long either =
    ⊎_elim (λ same. inl same)
    (λ here. (let same : k ≡ j = covers-block k j bytes long here.0 in
    inr (same, ⊎_elim (λ whole. inr (whole ∙ ap (written_sector (block_write k bytes)) (sym same) ∙ writes-block k bytes long)) (λ broken. inl broken) here.1)))
    either

putting : (k : ℕ) (bytes : List ℕ) (old new : Disk) → length bytes ≡ 512 → IsAtRestTo (end_of_block k) old → AddsTorn (block_write k bytes) old new
    → PutsBlock k bytes old.reads new
putting k bytes old new long rests adds image fair =
    let room : end_of_block k ≤ length old.base = omega (arith, rests.long, rests.rests.reads.same_length) in
    let each : (j : ℕ) → (sector j image ≡ sector j old.reads) ⊎ ((k ≡ j) × (IsUnsealed (sector j image) ⊎ (sector j image ≡ bytes))) = λ j.
    either-block k j bytes (sector j old.reads) (sector j image) long
    (written-sector (block_write k bytes) old new image j rests.rests (block-sectors k (length old.base) bytes long room) adds fair) in
    record {
      same_length = fair.possible.same_length ∙ adds.same_length ∙ sym rests.rests.reads.same_length;
      at = ⊎_elim (λ same. inl same) (λ here. inr here.1) (each k);
      others = λ j apart. ⊎_elim (λ same. same) (λ here. absurd (apart (sym here.0))) (each j);
    }

pub not-put : (k : ℕ) (bytes : List ℕ) (old new : Disk) → length bytes ≡ 512 → IsAtRestTo (end_of_block k) old → IsPutOrNot (block_write k bytes) old new
    → PutsBlock k bytes old.reads new
not-put k bytes old new long rests calls = putting k bytes old new long rests (put-torn (block_write k bytes) old new calls)

-- WHAT A SYNC AFTER IT LEAVES.

pub has-put : (k : ℕ) (bytes : List ℕ) (old : Disk) → length bytes ≡ 512 → IsAtRestTo (end_of_block k) old
    → HasPut k bytes old.reads (synced (written old (block_write k bytes)))
has-put k bytes old long rests =
    let write : Write = block_write k bytes in
    let sectors : IsSectorWrite (length old.reads) write = block-sectors k (length old.reads) bytes long rests.long in
    record {
      nothing_pending = refl;
      put = record {
        same_length = length-overwritten (512 * k) bytes old.reads sectors.within;
        at = part-overwritten_inside 512 (512 * k) (512 * k) bytes old.reads (omega arith) (omega arith) sectors.within ∙ writes-block k bytes long;
        others = λ j apart. ⊎_elim (λ here. absurd (apart (sym (covers-block k j bytes long here.0)))) (λ same. same) (sector-after_write old.reads write j sectors);
      };
    }

pub put-puts : (k : ℕ) (bytes content : List ℕ) (disk : Disk) → HasPut k bytes content disk → PutsBlock k bytes content disk
put-puts k bytes content disk has image fair =
    subst (IsPutting k bytes content) (sym (settled-image disk image has.nothing_pending fair.possible))
    (record { same_length = has.put.same_length; at = inr (inr has.put.at); others = has.put.others })
